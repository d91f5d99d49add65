-- The user-defined events, in the order in which they were added.
use Rattle.std.specs.Prelude.{◌≡◌, ℕ, ◌≤◌, Bool, ◌||◌, ◌==◌, if◌then◌else◌, IsTrue, is_some, Option, None, List, [], ◌∷◌, ◌++◌, length, ⊤}
use Rattle.std.specs.List.{find, fold}
use Rattle.app_api.specs.Events.{is_built_in}
use Rattle.event_trees.specs.declared.defs.EventDef.{EventDef}

-- the definition of an event, if there is one
abbrev pub found : List EventDef → ℕ → Option EventDef
found defs event = find (λ d. d.number == event) defs

-- the built-in events are the roots
abbrev pub is_root : ℕ → Bool
is_root event = is_built_in event

-- a built-in event or a defined one
abbrev pub is_event : List EventDef → ℕ → Bool
is_event defs event = is_root event || is_some (found defs event)

-- what the path of each event is once one more is defined: that of its parent, and then itself
abbrev pub defining : (ℕ → List ℕ) → EventDef → ℕ → List ℕ
defining paths d event = if d.number == event then paths d.parent ++ event ∷ [] else paths event

-- the events from the root down to an event. A built-in event is its own root
unfoldable pub path : List EventDef → ℕ → List ℕ
path defs = fold defining (λ event. event ∷ []) defs

-- an event that may be added: a new number, a parent that is there, and a path of at most 8
pub record IsAddable (defs : List EventDef) (d : EventDef) : Type 0 where
  pub low : 1 ≤ d.number
  pub high : d.number ≤ 255
  pub absent : found defs d.number ≡ None
  pub parent : IsTrue (is_event defs d.parent)
  pub depth : length (path defs d.parent) ≤ 7

-- each was addable after those before it
abbrev pub AreAddable : List EventDef → List EventDef → Type 0
AreAddable before [] = ⊤
AreAddable before (d ∷ ds) = IsAddable before d × AreAddable (before ++ d ∷ []) ds

-- what `Defs` keeps of its events
abbrev pub AreDefs : List EventDef → Type 0
AreDefs defs = AreAddable [] defs
