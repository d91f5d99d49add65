-- Not of the headline. Who hears a root's event at a hook: of the registrations on paths that begin with the event, those that have the hook.
use Rattle.std.specs.Prelude.{◌≡◌, ℕ, ◌==◌, cond, Bool, false, IsTrue, List, [], ◌∷◌}
use Rattle.native_filters.specs.declared.facts.Hook.{Hook}
use Rattle.app_api.specs.declared.hearers.Hearers.{Hearers}
use Rattle.app_api.specs.declared.hearers.Hearers.TheVariants.{Nobody, One}
use Rattle.app_api.specs.declared.hearers.Heard.{Heard}
use Rattle.app_api.specs.Events.{PKT_IN, is_built_in, is_of_packets}
use Rattle.app_api.specs.Hearers.{joined, deep, is_any, hearers_in}
use Rattle.shared_forest.specs.declared.node.Slot.{Slot}
use Rattle.native_filters.specs.Hook.{is_hook}
use Rattle.shared_forest.specs.Listing.{Shown}

-- those of a list of registrations that have the hook
abbrev pub with_hook : Hook → List Slot → Hearers
with_hook hook [] = Nobody
with_hook hook (s ∷ ss) = joined (cond (is_hook s.hook hook) (One s.number) Nobody) (with_hook hook ss)

-- of those at the end of a path: only where it begins with the event, and under the root where it goes on
abbrev pub on_path : ℕ → List ℕ → Hearers → Hearers
on_path event [] h = Nobody
on_path event (e ∷ []) h = cond (e == event) h Nobody
on_path event (e ∷ f ∷ fs) h = cond (e == event) (deep h) Nobody

-- of a whole listing
abbrev pub hearers_of : Hook → ℕ → List Shown → Hearers
hearers_of hook event [] = Nobody
hearers_of hook event (s ∷ ss) = joined (on_path event s.path (with_hook hook s.slots)) (hearers_of hook event ss)

-- whether an event is heard
abbrev pub is_heard : Hook → ℕ → List Shown → Bool
is_heard hook event shown = is_any (hearers_of hook event shown)

-- for each of the built-in events who hears it at the hook
abbrev pub AreHeard : Hook → Heard → List Shown → Type 0
AreHeard hook heard shown = (event : ℕ) → IsTrue (is_built_in event) → hearers_in heard event ≡ hearers_of hook event shown

-- the registration of a number alone hears packets at the hook: it stands at `pkt_in`, and nothing else that a packet may raise is heard
pub record IsLone (hook : Hook) (number : ℕ) (shown : List Shown) : Type 0 where
  pub one : hearers_of hook PKT_IN shown ≡ One number
  pub others : (event : ℕ) → IsTrue (is_of_packets event) → (PKT_IN == event) ≡ false → is_heard hook event shown ≡ false
