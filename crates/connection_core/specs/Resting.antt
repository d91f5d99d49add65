-- Only for proofs. Packets of which one thing is called at a hook, and that does nothing.
use Rattle.std.specs.Prelude.{◌≡◌, ℕ, ◌==◌, nat_lt, true, false, IsTrue, List, [], ◌∷◌}
use Rattle.native_filters.specs.declared.facts.Facts.{Facts}
use Rattle.native_filters.specs.declared.facts.Hook.{Hook}
use Rattle.app_api.specs.declared.entry.Entry.{Entry}
use Rattle.app_api.specs.declared.entry.Seen.TheVariants.{Nothing as SawNothing}
use Rattle.app_api.specs.declared.registration.Reg.{Reg}
use Rattle.app_api.specs.declared.registration.PeekSpec.TheVariants.{Nothing}
use Rattle.app_api.specs.App.{Meaning, RestsAt}
use Rattle.app_api.specs.Events.{is_of_packets}
use Rattle.shared_forest.specs.Lists.{TreeLists}
use Rattle.event_trees.specs.Fires.{fires}
use Rattle.forest_versions.specs.State.{ControlState}
use Rattle.connection_core.specs.declared.in_force.InForce.{InForce}
use Rattle.connection_core.specs.InForce.{ForControl}
use Rattle.connection_core.specs.Trees.{list_in_force}

-- a preset of `pkt_in` that looks at nothing
pub record IsPlain (r : Reg) : Type 0 where
  pub preset : nat_lt r.number 16 ≡ true
  pub event : r.event ≡ 257
  pub unseen : r.peek ≡ Nothing

-- of a list packets call this registration alone at the hook, at `pkt_in`, whatever the facts are
pub record CallsAlone (s : ControlState) (list : List Reg) (hook : Hook) (r : Reg) : Type 0 where
  pub plain : IsPlain r
  pub called : (facts : Facts) → fires s.defs facts hook 257 list ≡ r ∷ []
  pub alone : (facts : Facts) (event : ℕ) → IsTrue (is_of_packets event) → (257 == event) ≡ false → fires s.defs facts hook event list ≡ []

-- all that a packet calls at the hook is one preset, that of this number, of an application that does nothing there
abbrev pub Rests : Meaning → InForce → TreeLists → Hook → ℕ → Type 0
Rests app lent tree hook number =
    RestsAt app hook × ForControl lent (λ s. (r : Reg) × ((r.number ≡ number) × CallsAlone s (list_in_force lent tree) hook r))

-- what the report tells of its callback, for the packet at this index
abbrev pub entry_at_rest : ℕ → Hook → ℕ → Entry
entry_at_rest index hook number = record { index = index; hook = hook; event = 257; reg = number; seen = SawNothing }
