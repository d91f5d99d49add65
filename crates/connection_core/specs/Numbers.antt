-- Only for proofs. Callbacks by the numbers of their registrations, as a walk over a tree gives these.
use Rattle.std.specs.Prelude.{ℕ, Option, Some, None, List, [], ◌∷◌}
use Rattle.tcp_emulation.specs.declared.segment.Side.{Side}
use Rattle.app_api.specs.declared.registration.Reg.{Reg}
use Rattle.app_api.specs.App.{Meaning}
use Rattle.app_api.specs.Reg.{reg_of}
use Rattle.builtin_events.specs.declared.raise.Raise.{Raise}
use Rattle.forest_versions.specs.State.{ControlState}
use Rattle.connection_core.specs.PacketUnderWay.{PacketUnderWay, called}

-- the callback of the registration with a number; where there is none, nothing is called
abbrev pub called_by : Meaning → ControlState → ℕ → Side → Raise → PacketUnderWay → Option Reg → PacketUnderWay
called_by app control number from raise c None = c
called_by app control number from raise c (Some r) = called app control number from raise c r

abbrev pub called_numbers : Meaning → ControlState → ℕ → Side → Raise → PacketUnderWay → List ℕ → PacketUnderWay
called_numbers app control number from raise c [] = c
called_numbers app control number from raise c (n ∷ ns) =
    called_numbers app control number from raise (called_by app control number from raise c (reg_of control.regs n)) ns
