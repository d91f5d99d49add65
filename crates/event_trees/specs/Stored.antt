-- Not of the headline. What a call did to the store of trees that it was lent.
use Rattle.std.specs.Prelude.{◌≡◌, Result, OnErr}
use Rattle.shared_forest.specs.declared.store.ForestView.{Ghosts as Store}
use Rattle.shared_forest.specs.Store.{Keeps, CountsAtMost}

-- what the store answered before it still holds, it took one tree at most, and an error changed nothing
pub record Stores {S A E : Type 0} (store : Store S) (old new : S) (result : Result A E) : Type 0 where
  pub kept : Keeps store.answered store.content old new
  pub counted : CountsAtMost (store.interns old) (store.interns new)
  pub err : OnErr result (new ≡ old)
