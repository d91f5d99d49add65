use Rattle.std.proofs.Common.{◌≡◌, ◌∙◌, sym, subst}
use Rattle.reassembly.specs.Receiver.{kept}
use Rattle.reassembly.specs.Kept.{runs_from, AreWhole}
use Rattle.flow_socket.specs.Emulation.{direction_of}
use Rattle.flow_socket.specs.Peek.{runs_at, pieces_at}
use Rattle.flow_socket.proofs.Pieces.{pieces_whole}
use Rattle.flow_socket.proofs.socket.FlowSocket.ppeek.Goals as goal

pub returns-clause-pieces : goal.returns-clause-pieces
unfolding runs_at pieces_at
returns-clause-pieces c e h =
    let r = (direction_of c.args.from e).receiver in
    let at = kept r.cells e.rbuf in
    let runs : c.pieces.result ≡ runs_from at c.args.off c.args.len
    = subst (λ n. c.pieces.result ≡ runs_from (kept r.cells n) c.args.off c.args.len) (c.stream.ensures.rbuf e h) (c.pieces.ensures.runs r (c.stream.ensures.stands e h)) in
    let whole : AreWhole at c.pieces.result
    = subst (λ n. AreWhole (kept r.cells n) c.pieces.result) (c.stream.ensures.rbuf e h) (c.pieces.ensures.whole r (c.stream.ensures.stands e h)) in
    pieces_whole at (runs_from at c.args.off c.args.len) (subst (AreWhole at) runs whole) ∙ sym runs
