-- The list with the lowest first name, over one list more.
use Rattle.std.proofs.Common.{◌≡◌, ◌<◌, ◌≤◌, ◌+◌, ℕ, Bool, true, false, Option, Some, None, List, [], ◌∷◌, length, get_or, refl, sym, ◌∙◌, subst, arith, ⊎_elim}
use Rattle.std.specs.Prelude.{if◌then◌else◌, nat_le}
use Rattle.std.proofs.lemmas.Bool.{cases_lt, leb-true, leb-false}
use Rattle.lane_core.specs.declared.under_way.RecordUnderWay.{RecordUnderWay}
use Rattle.lane_composition.specs.Merge.{list_at}
use Rattle.lane_join.specs.Queues.{first_name, IsLowest, IsBest, lower_of}

none_is_some : (m : ℕ) → None ≡ Some m → ⊥
none_is_some m e = cc

lowest_past : (ls : List (List RecordUnderWay)) (n place name : ℕ) → IsLowest ls n place name → ((m : ℕ) → first_name (list_at ls n) ≡ Some m → name ≤ m) → IsLowest ls (n + 1) place name
lowest_past ls n place name low last = record {
  below = let b = low.below in omega arith;
  own = low.own;
  least = λ l m lt e. ⊎_elim (λ h. low.least l m h e) (λ h. let at : l ≡ n = omega arith in last m (subst (λ k. first_name (list_at ls k) ≡ Some m) at e)) (cases_lt l n);
}

some_is : (a b : ℕ) → Some a ≡ Some b → a ≡ b
some_is a b e = cc

lower_here : (ls : List (List RecordUnderWay)) (n name : ℕ) → first_name (list_at ls n) ≡ Some name → ((l m : ℕ) → l < n → first_name (list_at ls l) ≡ Some m → name ≤ m) → IsLowest ls (n + 1) n name
lower_here ls n name own before = record {
  below = omega arith;
  own = own;
  least = λ l m lt e. ⊎_elim (λ h. before l m h e)
      (λ h. let at : l ≡ n = omega arith in let same = some_is name m (sym own ∙ subst (λ k. first_name (list_at ls k) ≡ Some m) at e) in omega arith) (cases_lt l n);
}

lower_by : (b : ℕ × ℕ) (ls : List (List RecordUnderWay)) (n name : ℕ) (t : Bool) → nat_le b.1 name ≡ t → IsLowest ls n b.0 b.1 → first_name (list_at ls n) ≡ Some name
    → IsBest (if t then Some b else Some (n, name)) ls (n + 1)
lower_by b ls n name true is low own = lowest_past ls n b.0 b.1 low (λ m e. let same = some_is name m (sym own ∙ e) in let le = leb-true b.1 name is in omega arith)
lower_by b ls n name false is low own = lower_here ls n name own (λ l m lt e. let le = low.least l m lt e in let gt = leb-false b.1 name is in omega arith)

pub best_more : (best : Option (ℕ × ℕ)) (ls : List (List RecordUnderWay)) (n name : ℕ) → IsBest best ls n → first_name (list_at ls n) ≡ Some name → IsBest (lower_of best n name) ls (n + 1)
best_more None ls n name is own = lower_here ls n name own (λ l m lt e. absurd (none_is_some m (sym (is l lt) ∙ e)))
best_more (Some b) ls n name is own = lower_by b ls n name (nat_le b.1 name) refl is own

-- the first name of a list that has a record
pub first_known : (rs : List RecordUnderWay) (d : RecordUnderWay) → 0 < length rs → first_name rs ≡ Some (get_or rs 0 d).name
first_known [] d some = absurd (omega arith)
first_known (r ∷ rs) d some = refl
