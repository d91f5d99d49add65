-- Only for proofs. Raises that call nothing, or one registration alone.
use Rattle.std.specs.Prelude.{◌≡◌, ℕ, ◌==◌, false, IsTrue, List, [], ◌∷◌}
use Rattle.std.specs.List.{AllByRecursion}
use Rattle.native_filters.specs.declared.facts.Facts.{Facts}
use Rattle.native_filters.specs.declared.facts.Hook.{Hook}
use Rattle.app_api.specs.declared.registration.Reg.{Reg}
use Rattle.app_api.specs.Events.{is_of_packets}
use Rattle.builtin_events.specs.declared.raise.Raise.{Raise}
use Rattle.event_trees.specs.Private.{numbers_of}
use Rattle.event_trees.specs.Fires.{fires}
use Rattle.forest_versions.specs.State.{ControlState}

-- none of these registrations fires
abbrev pub CallsNothing : ControlState → List Reg → Raise → Type 0
CallsNothing s list raise = fires s.defs raise.facts raise.hook raise.event list ≡ []

abbrev pub CallNothing : ControlState → List Reg → List Raise → Type 0
CallNothing s list raises = AllByRecursion (CallsNothing s list) raises

-- of these registrations that of a number fires alone
abbrev pub CallsOne : ControlState → List Reg → Raise → ℕ → Type 0
CallsOne s list raise number = numbers_of (fires s.defs raise.facts raise.hook raise.event list) ≡ number ∷ []

-- of these registrations packets call that of a number alone at the hook, at `pkt_in`
pub record PacketsCallOne (s : ControlState) (list : List Reg) (hook : Hook) (number : ℕ) : Type 0 where
  pub one : (facts : Facts) → CallsOne s list (record { hook = hook; event = 257; facts = facts }) number
  pub others : (facts : Facts) (event : ℕ) → IsTrue (is_of_packets event) → (257 == event) ≡ false
      → CallsNothing s list (record { hook = hook; event = event; facts = facts })
