-- A segment that doesn't acknowledge the SYN leaves the two rules that give ESTABLISHED unread.
use Rattle.std.proofs.Common.{◌≡◌, ◌≢◌, Bool, true, false, ◌&&◌, not, refl, arith}
use Rattle.std.specs.Prelude.{IsTrue}
use Rattle.tcp_emulation.specs.declared.state.State.{State}
use Rattle.tcp_emulation.specs.declared.state.State.TheVariants.{Established}
use Rattle.tcp_emulation.specs.Ends.{received_state}
use Rattle.tcp_emulation.proofs.laws.established_by_acknowledgement.Goals as goal

established : (syn ack fin rst acks_syn acks_fin in_window fin_reached : Bool) (s : State) → s ≢ Established →
    received_state (record { syn = syn; ack = ack; fin = fin; rst = rst; acks_syn = acks_syn; acks_fin = acks_fin; in_window = in_window; fin_reached = fin_reached }) s ≡ Established →
    IsTrue (ack && acks_syn && not rst)
established syn ack fin true acks_syn acks_fin in_window fin_reached s other is = grind arith
established syn false fin false acks_syn acks_fin in_window fin_reached s other is = grind arith
established syn true fin false false acks_fin in_window fin_reached s other is = grind arith
established syn true fin false true acks_fin in_window fin_reached s other is = refl

pub returns-clause-receiver : goal.returns-clause-receiver
returns-clause-receiver c f = established f.syn f.ack f.fin f.rst f.acks_syn f.acks_fin f.in_window f.fin_reached
