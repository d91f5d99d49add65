-- Not of the headline. What one phase raises, with its facts kept once.
use Rattle.std.specs.Prelude.{ℕ, Bool, List, [], ◌∷◌, map, if◌then◌else◌}
use Rattle.native_filters.specs.declared.facts.Facts.{Facts}
use Rattle.native_filters.specs.declared.facts.Hook.{Hook}
use Rattle.builtin_events.specs.declared.raise.Raise.{Raise}
use Rattle.builtin_events.specs.declared.raised.Raised.{Raised}

-- an event where a condition holds
abbrev pub event_if : Bool → ℕ → List ℕ
event_if holds event = if holds then event ∷ [] else []

-- the raises of some events: each at this side, with these facts
abbrev pub raises_with : Hook → Facts → List ℕ → List Raise
raises_with hook facts events = map (λ event. record { hook = hook; event = event; facts = facts }) events

-- the raises one by one: each event at that side, with those facts
abbrev pub raises_of : Raised → List Raise
raises_of raised = map (λ event. record { hook = raised.hook; event = event; facts = raised.facts }) raised.events
