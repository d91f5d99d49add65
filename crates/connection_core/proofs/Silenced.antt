-- What is noted of a connection that ended by idleness.
use Rattle.std.proofs.Common.{◌≡◌, ℕ, Bool, Option, sym, subst}
use Rattle.tcp_emulation.specs.declared.segment.Side.TheVariants.{Client}
use Rattle.flow_socket.specs.View.{SocketView}
use Rattle.app_api.specs.declared.registration.Reg.{Reg}
use Rattle.app_api.specs.App.{Meaning}
use Rattle.builtin_events.specs.declared.raise.Raise.{Raise}
use Rattle.shared_forest.specs.Lists.{TreeLists}
use Rattle.forest_versions.specs.State.{ControlState}
use Rattle.connection_core.specs.declared.flow.Flow.{Flow}
use Rattle.connection_core.specs.declared.ledger.Notes.{Notes}
use Rattle.connection_core.specs.declared.ledger.Counts.{Counts}
use Rattle.connection_core.specs.declared.ledger.Ledger.{Ledger}
use Rattle.connection_core.specs.PacketUnderWay.{called_at}
use Rattle.connection_core.specs.History.{History, begin}
use Rattle.connection_core.specs.Silence.{silenced}
use Rattle.connection_core.specs.Trees.{active_in}
use Rattle.connection_core.specs.Standing.{IsNoted, IsConnection, IsBegun, Steps}

pub silenced_noted : (app : Meaning) (s : ControlState) (keep : Bool) (others : Counts) (at : ℕ → Option Reg) (tree lent : TreeLists) (number : ℕ) (raise : Raise) (flow : Flow)
    (socket_after : SocketView) (notes notes_after : Notes) (ledger begun ledger_after : Ledger) (h : History)
    → lent ≡ tree → IsConnection keep others at tree flow notes ledger.counts h
    → IsBegun ledger begun
    → Steps keep (active_in at lent) flow.socket notes begun socket_after notes_after ledger_after (called_at app s number Client raise)
    → IsNoted keep others (silenced app s number raise h).tally (silenced app s number raise h).entries notes_after ledger_after.counts
unfolding silenced
silenced_noted app s keep others at tree lent number raise flow socket_after notes notes_after ledger begun ledger_after h same is begins steps =
    let over = subst (λ (t : TreeLists). Steps keep (active_in at t) flow.socket notes begun socket_after notes_after ledger_after (called_at app s number Client raise)) same steps in
    (over.stands others (begin h.emulation h) (record {
      heard = is.kept.socket;
      active = is.kept.active;
      noted = subst (λ n. IsNoted keep others h.tally h.entries notes n) (sym begins.counts) is.noted;
      asked = begins.changes;
      drop = begins.drop;
    })).noted
