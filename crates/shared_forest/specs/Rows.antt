-- Not of the headline. The rows of a store of one owner.
use Rattle.std.specs.Prelude.{◌≡◌, ℕ, ◌<◌, List, [], length, slice_index_or, AllPairs}
use Rattle.std.specs.Coded.{le_prop}
use Rattle.shared_forest.specs.declared.store.Shared.{Shared}
use Rattle.shared_forest.specs.Store.{row_of}
use Rattle.shared_forest.specs.Lists.{TreeLists}

-- the trees by their rows, and how many calls put one in
pub record TableRows : Type 0 where
  pub rows : List TreeLists
  pub interns : ℕ

-- no tree stands twice
abbrev pub AreDifferent : List TreeLists → Type 0
AreDifferent rows = AllPairs (λ a b. ¬ (a ≡ b)) rows

-- a row of the store
abbrev pub HasRow : TableRows → Shared → Type 0
HasRow table s = row_of s < length table.rows

-- there is one way to be a row
pub HasRow-once : (table : TableRows) (s : Shared) → IsProp (HasRow table s)
HasRow-once table s = le_prop

-- the tree of a row
abbrev pub tree_at : TableRows → Shared → TreeLists
tree_at table s = slice_index_or table.rows (row_of s) (record { nodes = []; slots = [] })
