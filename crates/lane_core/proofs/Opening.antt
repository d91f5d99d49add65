-- A result, and a store that was kept twice.
use Rattle.std.proofs.Common.{Result, Ok, Err, ◌∙◌}
use Rattle.std.specs.Prelude.{IfOk, OnErr}
use Rattle.shared_forest.specs.declared.store.Shared.{Shared}
use Rattle.shared_forest.specs.Lists.{TreeLists}
use Rattle.shared_forest.specs.Store.{Keeps}

-- what holds of either answer holds
pub ok_or_err : {T E P : Type 0} (r : Result T E) → IfOk r (λ _. P) → OnErr r P → P
ok_or_err (Ok v) ok err = ok
ok_or_err (Err e) ok err = err

pub kept_on : {S : Type 0} (answered : S → Shared → Type 0) (content : S → Shared → TreeLists) (old mid new : S)
    → Keeps answered content old mid → Keeps answered content mid new → Keeps answered content old new
kept_on answered content old mid new one two = record {
  still_answered = λ s is. two.still_answered s (one.still_answered s is);
  same_content = λ s is. two.same_content s (one.still_answered s is) ∙ one.same_content s is;
}
