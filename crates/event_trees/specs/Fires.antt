-- Which registrations of a private list a raise calls.
use Rattle.std.specs.Prelude.{ℕ, Bool, true, false, ◌&&◌, ◌==◌, Option, Some, None, List, [], ◌∷◌}
use Rattle.std.specs.List.{filter, list_all, list_any}
use Rattle.native_filters.specs.declared.facts.Facts.{Facts}
use Rattle.native_filters.specs.declared.facts.Hook.{Hook}
use Rattle.filter_lang.specs.Meaning.{meaning}
use Rattle.native_filters.specs.Hook.{is_hook}
use Rattle.app_api.specs.declared.registration.Reg.{Reg}
use Rattle.event_trees.specs.declared.defs.EventDef.{EventDef}
use Rattle.event_trees.specs.Defs.{found, path}

-- the filter of a definition; a built-in event has none
abbrev pub filter_means : Option EventDef → Facts → Bool
filter_means None facts = true
filter_means (Some d) facts = meaning d.filter facts

abbrev pub filters_mean : List EventDef → Facts → List ℕ → Bool
filters_mean defs facts events = list_all (λ e. filter_means (found defs e) facts) events

abbrev pub begins_with : ℕ → List ℕ → Bool
begins_with event [] = false
begins_with event (e ∷ es) = e == event

-- whether a registration is called at a raise: its hook, its root, and all filters on its path
abbrev pub is_called : List EventDef → Facts → Hook → ℕ → Reg → Bool
is_called defs facts hook event r =
    is_hook r.hook hook && (begins_with event (path defs r.event) && filters_mean defs facts (path defs r.event))

-- the registrations that a raise calls, in the list's order
abbrev pub fires : List EventDef → Facts → Hook → ℕ → List Reg → List Reg
fires defs facts hook event list = filter (is_called defs facts hook event) list

-- whether a registration of a list has the hook and stands under a root
abbrev pub hears : List EventDef → Hook → ℕ → List Reg → Bool
hears defs hook event list = list_any (λ r. is_hook r.hook hook && begins_with event (path defs r.event)) list
