-- Only for proofs. What the rows of `Defs` hold.
use Rattle.std.specs.Prelude.{◌≡◌, ℕ, suc, ◌<◌, ◌==◌, if◌then◌else◌, Option, Some, None, List, [], ◌∷◌, length, map, slice_index_or}
use Rattle.std.specs.Option.{option_map}
use Rattle.std.specs.List.{AllByRecursion, find}
use Rattle.event_trees.specs.declared.defs.EventDef.{EventDef}
use Rattle.event_trees.specs.declared.defs.Row.{Row}
use Rattle.event_trees.specs.EventPath.{path_of}
use Rattle.event_trees.specs.Defs.{path, AreAddable}

abbrev pub defs_of : List Row → List EventDef
defs_of rows = map (λ r. r.def) rows

-- the row of an event, if there is one
abbrev pub row_of : List Row → ℕ → Option Row
row_of rows event = find (λ r. r.def.number == event) rows

-- each row has the path of its event
abbrev pub HavePaths : List EventDef → List Row → Type 0
HavePaths defs rows = AllByRecursion (λ r. path_of r.path ≡ path defs r.def.number) rows

pub record AreRows (rows : List Row) : Type 0 where
  pub addable : AreAddable [] (defs_of rows)
  pub paths : HavePaths (defs_of rows) rows

-- where the row of an event stands, if there is one
abbrev pub place_of : List Row → ℕ → Option ℕ
place_of [] event = None
place_of (r ∷ rs) event = if r.def.number == event then Some 0 else option_map suc (place_of rs event)

-- for each number below 256, where its row stands
abbrev pub ArePlaces : List Row → List (Option ℕ) → Type 0
ArePlaces rows places = (length places ≡ 256) × ((event : ℕ) → event < 256 → slice_index_or places event None ≡ place_of rows event)
