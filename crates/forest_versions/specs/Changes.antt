-- Not of the headline. What a call may change of what is in force, and what the store holds of it.
use Rattle.std.specs.Prelude.{◌≡◌, Result, OnOk, OnErr}
use Rattle.shared_forest.specs.declared.store.ForestView.{Ghosts as Store}
use Rattle.shared_forest.specs.declared.store.Shared.{Shared}
use Rattle.forest_versions.specs.State.{ControlState, IsTreeFor}

-- all or nothing: it became what was wanted, or an error left it as it was
pub record ChangesTo {T A E : Type 0} (old new wanted : T) (result : Result A E) : Type 0 where
  pub ok : OnOk result (new ≡ wanted)
  pub err : OnErr result (new ≡ old)

-- the store answered the tree of the registrations that are on
pub record HoldsTree {S : Type 0} (store : Store S) (trees : S) (s : ControlState) (shared : Shared) : Type 0 where
  pub answered : store.answered trees shared
  pub forest : IsTreeFor s (store.content trees shared)
