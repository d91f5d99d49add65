-- The names of the built-in events.
use Rattle.std.specs.Prelude.{◌≡◌, ℕ, ◌-◌, ◌≤◌, if◌then◌else◌, nat_le, List, codes, take, drop, map, slice_get, Option, Some, None}
use Rattle.std.specs.List.{position_from}
use Rattle.std.specs.Str.{bytes_eq}
use Rattle.app_api.specs.Events.{START, built_ins}

-- in order of their numbers
abbrev pub event_names : List (List ℕ)
event_names = map (λ r. r.name) built_ins

-- the name of a built-in event
abbrev pub event_name : ℕ → Option (List ℕ)
event_name event = if nat_le START event then slice_get event_names (event - START) else None

-- the built-in event of a name
abbrev pub event_named : List ℕ → Option ℕ
event_named name = position_from (λ known. bytes_eq name known) START event_names

-- the bytes are the name of a built-in event, which has so many, and sixteen blanks behind it
pub record IsLabel (bytes : List ℕ) (count : ℕ) (event : ℕ) : Type 0 where
  pub name : event_name event ≡ Some (take count bytes)
  pub blanks : drop count bytes ≡ codes "                "
  pub few : count ≤ 10
