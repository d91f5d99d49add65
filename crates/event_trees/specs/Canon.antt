-- Not of the headline. The listing that the tree of a private list has.
use Rattle.std.specs.Prelude.{◌≡◌, ℕ, if◌then◌else◌, List, [], ◌∷◌, ◌++◌, map}
use Rattle.std.specs.Ordering.{is_lt, is_eq}
use Rattle.app_api.specs.declared.registration.Reg.{Reg}
use Rattle.shared_forest.specs.declared.node.Slot.{Slot}
use Rattle.shared_forest.specs.Lists.{TreeLists}
use Rattle.shared_forest.specs.Listing.{Shown, listing}
use Rattle.event_trees.specs.declared.defs.EventDef.{EventDef}
use Rattle.event_trees.specs.Defs.{path}
use Rattle.event_trees.specs.Private.{path_cmp}

-- a registration with its path
pub record Placed : Type 0 where
  pub path : List ℕ
  pub slot : Slot

-- a registration as a tree keeps it
abbrev pub slot_of : Reg → Slot
slot_of r = record { number = r.number; hook = r.hook }

abbrev pub placed_of : List EventDef → Reg → Placed
placed_of defs r = record { path = path defs r.event; slot = slot_of r }

abbrev pub placed : List EventDef → List Reg → List Placed
placed defs list = map (placed_of defs) list

-- the paths that go on from a front by these events
abbrev pub longer : List ℕ → List ℕ → List (List ℕ)
longer front [] = []
longer front (e ∷ es) = (front ++ e ∷ []) ∷ longer (front ++ e ∷ []) es

-- the prefixes of a path that aren't empty, the shortest first
abbrev pub prefixes : List ℕ → List (List ℕ)
prefixes p = longer [] p

-- paths in order with one more, where it isn't there
abbrev pub put_path : List ℕ → List (List ℕ) → List (List ℕ)
put_path p [] = p ∷ []
put_path p (q ∷ qs) =
    if is_lt (path_cmp p q) then p ∷ q ∷ qs else if is_eq (path_cmp p q) then q ∷ qs else q ∷ put_path p qs

abbrev pub put_paths : List (List ℕ) → List (List ℕ) → List (List ℕ)
put_paths [] paths = paths
put_paths (p ∷ ps) paths = put_paths ps (put_path p paths)

-- these paths with all prefixes of the registrations' paths
abbrev pub paths_with : List (List ℕ) → List Placed → List (List ℕ)
paths_with paths [] = paths
paths_with paths (r ∷ rest) = paths_with (put_paths (prefixes r.path) paths) rest

-- the registrations with exactly this path
abbrev pub slots_at : List Placed → List ℕ → List Slot
slots_at [] p = []
slots_at (r ∷ rest) p = if is_eq (path_cmp r.path p) then r.slot ∷ slots_at rest p else slots_at rest p

abbrev pub shown_at : List Placed → List (List ℕ) → List Shown
shown_at list paths = map (λ p. record { path = p; slots = slots_at list p }) paths

-- one pair for the empty path and one for each prefix of a path, in order
unfoldable pub canon_of : List Placed → List Shown
canon_of list = shown_at list (paths_with ([] ∷ []) list)

-- the tree has these registrations, and the nodes that they need
abbrev pub IsCanonOf : List Placed → TreeLists → Type 0
IsCanonOf list tree = listing tree ≡ canon_of list

abbrev pub canon : List EventDef → List Reg → List Shown
canon defs list = canon_of (placed defs list)
