-- Only for proofs. What is left of a tree at a place of a walk.
use Rattle.std.specs.Prelude.{ℕ, List, ◌++◌, take, drop, Bool}
use denote.Bor.{Bor}
use denote.Param.Members.{Mut}
use Rattle.native_filters.specs.declared.facts.Facts.{Facts}
use Rattle.native_filters.specs.declared.facts.Hook.{Hook}
use Rattle.shared_forest.specs.declared.node.Slot.{Slot}
use Rattle.shared_forest.specs.Lists.{TreeLists}
use Rattle.event_trees.specs.declared.place.Place.{Place}
use Rattle.event_trees.specs.declared.walk.Question.{Question}
use Rattle.event_trees.specs.Walk.{keeps, called, walked}

-- whether the raise passes a node with an event
abbrev pub passed_by : {X : Type 0} {natives : Mut X (Bor Facts × Unit {0}) Bool} → Question X natives → ℕ → Bool
passed_by q = keeps q.defs.now q.facts.now q.root

abbrev pub pending_at : List Slot → Place → List Slot
pending_at slots p = drop p.slot (take p.end slots)

abbrev pub come : (ℕ → Bool) → Hook → TreeLists → Place → List ℕ
come keep hook tree p = called hook (pending_at tree.slots p) ++ walked keep hook 0 (drop p.node tree.nodes) tree.slots
