use Rattle.std.proofs.Common.{[], length, take, drop, ap, ◌∙◌}
use Rattle.std.specs.Prelude.{if◌then◌else◌}
use Rattle.flow_socket.specs.declared.answers.Peeked.{Peeked}
use Rattle.flow_socket.specs.Peek.{peeked}
use Rattle.app_api.specs.declared.entry.Seen.TheVariants.{Next}
use Rattle.connection_core.proofs.Looking.{got_next, bytes_next}
use Rattle.connection_core.proofs.look.look_into.Goals as goal

pub returns-clause-got : goal.returns-clause-got
returns-clause-got c = λ e stands.
    got_next c.args.from (length c.args.buf.now) e c.peek-peeked.result (c.peek-peeked.ensures.answer e stands)

pub returns-clause-seen : goal.returns-clause-seen
returns-clause-seen c = λ keep e stands.
    let n = length c.args.buf.now in
    let answer = c.peek-peeked.ensures.answer e stands in
    let got = got_next c.args.from n e c.peek-peeked.result answer in
    ap (λ (p : Peeked). Next p.at p.missed c.in_ok-bytes.bytes) answer
    ∙ ap (λ b. Next (peeked c.args.from n e).at (peeked c.args.from n e).missed b)
    (c.in_ok-bytes.ensures ∙ ap (λ k. if k then take c.peek-peeked.result.len c.peek-peeked.new.buf else []) keep
    ∙ bytes_next c.args.from n e c.peek-peeked.new.buf (drop c.peek-peeked.result.len c.args.buf.now) c.peek-peeked.result.len got (c.peek-peeked.ensures.bytes e stands))
