-- Not of the headline. Private lists as their trees name them. `at` looks registrations up by their numbers.
use Rattle.std.specs.Prelude.{◌≡◌, ℕ, ◌≤◌, ◌+◌, Option, Some, None, List, [], ◌∷◌, ◌++◌, map, ⊤}
use Rattle.std.specs.List.{All}
use Rattle.std.specs.Option.{option_to_list}
use Rattle.app_api.specs.declared.registration.Reg.{Reg}
use Rattle.shared_forest.specs.declared.node.Slot.{Slot}
use Rattle.shared_forest.specs.declared.store.Shared.{Shared}
use Rattle.shared_forest.specs.Lists.{TreeLists}
use Rattle.shared_forest.specs.Listing.{listing}
use Rattle.event_trees.specs.declared.defs.EventDef.{EventDef}
use Rattle.event_trees.specs.Private.{IsPrivate}
use Rattle.event_trees.specs.Canon.{slot_of, canon}
use Rattle.event_trees.specs.Edit.{IsForestOf}
use Rattle.forest_versions.specs.State.{ControlState, active as first_active}
use Rattle.forest_versions.specs.Master.{Versions, defs_of}
use Rattle.connection_core.specs.declared.in_force.InForce.{InForce}
use Rattle.connection_core.specs.InForce.{registered, defs_at}

-- the registrations with the numbers of a tree's slots
abbrev pub regs_named : (ℕ → Option Reg) → List Slot → List Reg
regs_named at [] = []
regs_named at (slot ∷ slots) = option_to_list (at slot.number) ++ regs_named at slots

-- a connection keeps no list beside its tree: its private list is what the tree's registrations name, in the tree's order
unfoldable pub active_in : (ℕ → Option Reg) → TreeLists → List Reg
active_in at tree = regs_named at tree.slots

-- a tree by which the registrations of a private list are called
pub record IsTreeOf (defs : List EventDef) (at : ℕ → Option Reg) (active : List Reg) (tree : TreeLists) : Type 0 where
  pub private : IsPrivate defs active
  pub slots : tree.slots ≡ map slot_of active
  pub known : All (λ r. at r.number ≡ Some r) active
  pub listed : listing tree ≡ canon defs active

-- a tree by which the registrations are called that it names
abbrev pub IsForestIn : List EventDef → (ℕ → Option Reg) → TreeLists → Type 0
IsForestIn defs at tree = IsTreeOf defs at (active_in at tree) tree

-- where a store tells its interns, each of these alterations cost at most one
abbrev pub InternsWithin : Option ℕ → Option ℕ → ℕ → ℕ → Type 0
InternsWithin None None before after = ⊤
InternsWithin None (Some n) before after = ⊥
InternsWithin (Some m) None before after = ⊥
InternsWithin (Some m) (Some n) before after = (m ≤ n) × (n + before ≤ m + after)

-- later look-ups answer the same for each number that a registration may have
abbrev pub AnswersAs : (ℕ → Option Reg) → (ℕ → Option Reg) → Type 0
AnswersAs at now = (number : ℕ) → number ≤ 255 → now number ≡ at number

-- ---- with what is in force

-- the private list that a tree names
abbrev pub list_in_force : InForce → TreeLists → List Reg
list_in_force lent tree = active_in (registered lent) tree

-- a tree by which the registrations are called that it names
abbrev pub IsForestInForce : InForce → TreeLists → Type 0
IsForestInForce lent tree = IsForestIn (defs_at lent) (registered lent) tree

-- the tree of the registrations that are on at a connection's start
abbrev pub IsFirstForest : InForce → ControlState → TreeLists → Type 0
IsFirstForest lent s tree = IsForestOf (defs_at lent) (first_active s) (listing tree)

-- a master's place in a store with these trees has the tree of the registrations that are on now
abbrev pub HasPresentForest : (Shared → TreeLists) → Versions → Type 0
HasPresentForest content m = IsForestOf (defs_of m) (first_active m.now) (listing (content m.forest))
