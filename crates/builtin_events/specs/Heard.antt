-- Not of the headline. Whether raises are heard.
use Rattle.std.specs.Prelude.{ℕ, Bool, ◌&&◌, List}
use Rattle.std.specs.List.{list_any}
use Rattle.app_api.specs.declared.hearers.Heard.{Heard}
use Rattle.app_api.specs.Hearers.{is_heard_in}
use Rattle.builtin_events.specs.declared.raise.Raise.{Raise}

-- one of these raises is
abbrev pub is_any_heard : Heard → List Raise → Bool
is_any_heard heard raises = list_any (λ r. is_heard_in heard r.event) raises

-- one of these events is that is raised, each beside whether it is
abbrev pub hears : Heard → List (Bool × ℕ) → Bool
hears heard rows = list_any (λ row. row.0 && is_heard_in heard row.1) rows
