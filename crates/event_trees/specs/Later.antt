-- Not of the headline. Definitions, and those that were there before the last of them were added.
use Rattle.std.specs.Prelude.{◌≡◌, ℕ, IsTrue, List, ◌++◌}
use Rattle.app_api.specs.declared.registration.Reg.{Reg}
use Rattle.event_trees.specs.declared.defs.EventDef.{EventDef}
use Rattle.event_trees.specs.Defs.{is_event}
use Rattle.event_trees.specs.Private.{IsPrivate}

abbrev pub IsEarlier : List EventDef → List EventDef → Type 0
IsEarlier earlier defs = (more : List EventDef) × (earlier ++ more ≡ defs)

-- true of each event that was there before, and of the definitions that were there with it
abbrev pub OfEarlierEvents : List EventDef → (List EventDef → ℕ → Type 0) → Type 0
OfEarlierEvents defs IsSo =
    (earlier : List EventDef) (event : ℕ) → IsEarlier earlier defs → IsTrue (is_event earlier event) → IsSo earlier event

-- true of each private list of before, and of the definitions that were there with it
abbrev pub OfEarlierLists : List EventDef → (List EventDef → List Reg → Type 0) → Type 0
OfEarlierLists defs IsSo =
    (earlier : List EventDef) (list : List Reg) → IsEarlier earlier defs → IsPrivate earlier list → IsSo earlier list
