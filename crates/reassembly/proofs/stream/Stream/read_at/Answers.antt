use Rattle.std.proofs.Common.{◌≡◌, ◌-◌, ◌≤◌, ◌++◌, [], min, arith, ap, subst, ◌∙◌, length, take, drop, length-take}
use Rattle.reassembly.specs.Receiver.{Receiver, kept}
use Rattle.reassembly.specs.Kept.{bytes_from}
use Rattle.reassembly.specs.Buffer.{window_of}
use Rattle.reassembly.specs.View.{StreamView, StandsFor}
use Rattle.reassembly.proofs.KeptBytes.{IsReadable, readable, bytes_read}
use Rattle.reassembly.proofs.stream.Stream.read_at.Goals as goal

nothing : (c : goal.Then-len-eq0) (r : Receiver) → StandsFor c.args.self.now r → [] ≡ bytes_from (kept r.cells c.args.self.now.rbuf) c.args.position (length c.args.buf.now)
nothing c r h = let s = c.self.inside in
    subst (λ (k : StreamView). StandsFor k r → [] ≡ bytes_from (kept r.cells k.rbuf) c.args.position (length c.args.buf.now)) c.self.view_is
    (bytes_read (window_of s.buffer) s.fin s.rbuf c.args.position c.run_end-end.result (length c.args.buf.now) []
    c.self.invariant.0.laid c.run_end-end.ensures (omega arith) (λ i l. absurd (omega arith)) r) h

pub returns-then-len-eq0-clause-len : goal.returns-then-len-eq0-clause-len
returns-then-len-eq0-clause-len c r h = ap length (nothing c r h)

pub returns-then-len-eq0-clause-bytes : goal.returns-then-len-eq0-clause-bytes
returns-then-len-eq0-clause-bytes c r h = ap (λ xs. xs ++ c.args.buf.now) (nothing c r h)

pub copy-requires : goal.copy-requires
copy-requires c =
    let s = c.self.inside in
    let can : IsReadable (window_of s.buffer) s.rbuf c.args.position c.min-len.result = readable (window_of s.buffer) s.rbuf c.args.position c.run_end-end.result
    c.min-len.result c.run_end-end.ensures (omega arith) (omega arith) in
    let base : (window_of s.buffer).bytes.base ≤ (window_of s.buffer).next - s.rbuf = c.self.invariant.0.sized.kept in
    let from : (window_of s.buffer).next - s.rbuf ≤ c.args.position = can.from in
    let len : length (take c.min-len.result c.args.buf.now) ≡ min c.min-len.result (length c.args.buf.now) = length-take c.min-len.result c.args.buf.now in
    record { laid = c.self.invariant.0.laid; from = omega arith; some = omega arith; accepted = λ p low below. can.accepted p low (omega arith); reach = omega arith }

read : (c : goal.After-slice_known-2-1) (r : Receiver) → StandsFor c.args.self.now r → c.copy.new.buf ≡ bytes_from (kept r.cells c.args.self.now.rbuf) c.args.position (length c.args.buf.now)
read c r h =
    let s = c.self.inside in
    let len : length (take c.min-len.result c.args.buf.now) ≡ min c.min-len.result (length c.args.buf.now) = length-take c.min-len.result c.args.buf.now in
    subst (λ (k : StreamView). StandsFor k r → c.copy.new.buf ≡ bytes_from (kept r.cells k.rbuf) c.args.position (length c.args.buf.now)) c.self.view_is
    (bytes_read (window_of s.buffer) s.fin s.rbuf c.args.position c.run_end-end.result (length c.args.buf.now) c.copy.new.buf c.self.invariant.0.laid
    c.run_end-end.ensures (omega arith) (λ i l. c.copy.ensures i (omega arith)) r) h

pub returns-clause-len : goal.returns-clause-len
returns-clause-len c r h =
    let len : length (take c.min-len.result c.args.buf.now) ≡ min c.min-len.result (length c.args.buf.now) = length-take c.min-len.result c.args.buf.now in
    let same : c.min-len.result ≡ length c.copy.new.buf = omega arith in
    same ∙ ap length (read c r h)

pub returns-clause-bytes : goal.returns-clause-bytes
returns-clause-bytes c r h = ap (λ xs. xs ++ drop c.min-len.result c.args.buf.now) (read c r h)
