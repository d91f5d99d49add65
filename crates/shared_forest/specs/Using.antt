-- Not of the headline. What a user of a store that threads share sees of it.
use Rattle.std.specs.Prelude.{◌≡◌, ℕ, Option, Some, None, [], IsSomeAnd}
use Rattle.std.specs.Coded.{Coded, coded×, coded_ℕ, code_by, Coded-set, ×_prop}
use Rattle.boxcar.specs.Table.{Shelves, shelves_coded, Where, Shows}
use Rattle.shared_forest.specs.declared.store.Shared.{Shared}
use Rattle.shared_forest.specs.Store.{row_of, token_of}
use Rattle.shared_forest.specs.Lists.{TreeLists}

-- which store it is, and how many calls of this user put a tree in
pub record Using : Type 0 where
  pub rows : Shelves
  pub interns : ℕ

abbrev pub using_coded : Coded Using
using_coded = code_by (Shelves × ℕ) (coded× shelves_coded coded_ℕ) (λ u. (u.rows, u.interns)) (λ p. record { rows = p.0; interns = p.1 }) (λ u i. u)

-- its token is of a row of this store, and its number is that row's
abbrev pub IsShownIn : Shelves → Shared → Type 0
IsShownIn rows s = IsSomeAnd (token_of s) (λ t. Shows rows t × (t.index ≡ row_of s))

abbrev pub tree_in : Option (Where TreeLists) → TreeLists
tree_in None = record { nodes = []; slots = [] }
tree_in (Some t) = t.value

-- the tree of a row. It stands in the Shared alone, so it is one tree for good and in every thread
abbrev pub tree_shown : Shared → TreeLists
tree_shown s = tree_in (token_of s)

-- there is one way to be of a row
pub IsShownIn-once : (rows : Shelves) (s : Shared) → IsProp (IsShownIn rows s)
IsShownIn-once rows s = once (token_of s)
  where
    once : (o : Option (Where TreeLists)) → IsProp (IsSomeAnd o (λ t. Shows rows t × (t.index ≡ row_of s)))
    once None = λ x y. absurd x
    once (Some t) = ×_prop (Coded-set coded_ℕ _ _) (Coded-set coded_ℕ _ _)
