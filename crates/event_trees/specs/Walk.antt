-- Not of the headline. A walk over a tree, node by node.
use Rattle.std.specs.Prelude.{ℕ, zero, suc, Bool, cond, true, ◌&&◌, ◌==◌, Option, Some, None, List, [], ◌∷◌, ◌++◌, drop, map}
use Rattle.std.specs.List.{filter}
use Rattle.native_filters.specs.declared.facts.Facts.{Facts}
use Rattle.native_filters.specs.declared.facts.Hook.{Hook}
use Rattle.filter_lang.specs.Meaning.{meaning}
use Rattle.shared_forest.specs.declared.node.Node.{Node}
use Rattle.shared_forest.specs.declared.node.Slot.{Slot}
use Rattle.native_filters.specs.Hook.{is_hook}
use Rattle.shared_forest.specs.Listing.{Shown, slots_of}
use Rattle.event_trees.specs.declared.defs.EventDef.{EventDef}
use Rattle.event_trees.specs.Defs.{found}

-- what a raise of a built-in event asks at a node: the filter of a defined event; of a built-in one, whether it is the event
abbrev pub asks : Option EventDef → Facts → ℕ → ℕ → Bool
asks None facts root event = event == root
asks (Some d) facts root event = meaning d.filter facts

abbrev pub keeps : List EventDef → Facts → ℕ → ℕ → Bool
keeps defs facts root event = asks (found defs event) facts root event

-- whether each event of a path passes
abbrev pub passes : (ℕ → Bool) → List ℕ → Bool
passes keep [] = true
passes keep (e ∷ es) = keep e && passes keep es

-- the numbers of the registrations that have the hook
abbrev pub called : Hook → List Slot → List ℕ
called hook slots = map (λ s. s.number) (filter (λ s. is_hook s.hook hook) slots)

-- those of the registrations from a place on
abbrev pub called_from : Hook → List Slot → ℕ → List ℕ
called_from hook slots from = called hook (drop from slots)

-- what fires of a listing: each path asked anew from its beginning
abbrev pub firing : (ℕ → Bool) → Hook → List Shown → List ℕ
firing keep hook [] = []
firing keep hook (s ∷ ss) = cond (passes keep s.path) (called hook s.slots) [] ++ firing keep hook ss

-- what a walk gives that asks each node once and leaves out those under one that doesn't pass
abbrev pub walked : (ℕ → Bool) → Hook → ℕ → List Node → List Slot → List ℕ
walked keep hook skip [] slots = []
walked keep hook (suc skip) (n ∷ ns) slots = walked keep hook skip ns slots
walked keep hook zero (n ∷ ns) slots =
    cond (keep n.event) (called hook (slots_of n slots) ++ walked keep hook 0 ns slots) (walked keep hook n.below ns slots)

-- a walk under way: the rest of a node's registrations, and the nodes after it
pub record Walking : Type 0 where
  pub hook : Hook
  pub root : ℕ
  pub facts : Facts
  pub pending : List Slot
  pub rest : List Node
  pub slots : List Slot

-- the numbers that a walk has still to give
unfoldable pub to_come : List EventDef → Walking → List ℕ
to_come defs w = called w.hook w.pending ++ walked (keeps defs w.facts w.root) w.hook 0 w.rest w.slots
