-- Not of the headline. What the calls of a store leave as it was.
use Rattle.std.specs.Prelude.{◌≡◌, ◌≤◌, ℕ, ◌+◌, Option, Some, None, ⊤}
use Rattle.boxcar.specs.Table.{Where}
use Rattle.shared_forest.specs.declared.store.Shared.{Shared}
use Rattle.shared_forest.specs.Lists.{TreeLists}

abbrev pub row_of : Shared → ℕ
row_of s = s.row

-- what shows the tree of a row to every thread, in a store that threads share
abbrev pub token_of : Shared → Option (Where TreeLists)
token_of s = s.token

-- what the store answered before it still holds, with the same tree
pub record Keeps {S : Type 0} (answered : S → Shared → Type 0) (content : S → Shared → TreeLists) (old new : S) : Type 0 where
  pub still_answered : (s : Shared) → answered old s → answered new s
  pub same_content : (s : Shared) → answered old s → content new s ≡ content old s

-- a told number stays told, and rises by at most one
abbrev pub CountsAtMost : Option ℕ → Option ℕ → Type 0
CountsAtMost None None = ⊤
CountsAtMost None (Some n) = ⊥
CountsAtMost (Some m) None = ⊥
CountsAtMost (Some m) (Some n) = (m ≤ n) × (n ≤ m + 1)
