-- The end of a connection that was silent for too long.
use Rattle.std.specs.Prelude.{ℕ}
use Rattle.tcp_emulation.specs.declared.segment.Side.TheVariants.{Client}
use Rattle.app_api.specs.App.{Meaning}
use Rattle.builtin_events.specs.declared.raise.Raise.{Raise}
use Rattle.forest_versions.specs.State.{ControlState}
use Rattle.connection_core.specs.PacketUnderWay.{called_at}
use Rattle.connection_core.specs.History.{History, begin, done}

-- The callbacks of one raise, which peek at the client's stream. They belong to no packet that could be dropped, and no other raise
-- comes: so the changes and drops that are asked come to nothing. All else stays as the last packet left it.
unfoldable pub silenced : Meaning → ControlState → ℕ → Raise → History → History
silenced app control number raise h =
    done h.count h.drops (called_at app control number Client raise (begin h.emulation h))
