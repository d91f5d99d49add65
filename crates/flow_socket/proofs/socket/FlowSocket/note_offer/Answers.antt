-- The direction of one sender has the offer, and all else stays.
use Rattle.std.proofs.Common.{sym, subst}
use Rattle.flow_socket.specs.View.{SocketStandsFor}
use Rattle.flow_socket.specs.Direction.{offered_in}
use Rattle.flow_socket.proofs.Sides.{client_stands, server_stands}
use Rattle.flow_socket.proofs.socket.FlowSocket.note_offer.Goals as goal

pub returns-in-Client-clause-stands : goal.returns-in-Client-clause-stands
returns-in-Client-clause-stands c e s =
    let was = subst (λ k. SocketStandsFor k e) (sym c.self.view_is) s in
    client_stands _ c.offer.new.self (offered_in c.args.ack c.args.size) c.args.of e c.in-Client.is was (c.offer.ensures.stands e.rbuf e.client was.client)

pub returns-in-Server-clause-stands : goal.returns-in-Server-clause-stands
returns-in-Server-clause-stands c e s =
    let was = subst (λ k. SocketStandsFor k e) (sym c.self.view_is) s in
    server_stands _ c.offer-in-Server.new.self (offered_in c.args.ack c.args.size) c.args.of e c.in-Server.is was
    (c.offer-in-Server.ensures.stands e.rbuf e.server was.server)
