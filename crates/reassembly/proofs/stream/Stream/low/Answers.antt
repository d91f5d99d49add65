use Rattle.std.proofs.Common.{◌≡◌, ◌∙◌, ◌-◌, ap₂, subst}
use Rattle.reassembly.specs.Receiver.{low_of}
use Rattle.reassembly.specs.Buffer.{window_of}
use Rattle.reassembly.specs.View.{StandsFor, StreamView}
use Rattle.reassembly.proofs.Streams.{low_is}
use Rattle.reassembly.proofs.stream.Stream.low.Goals as goal

pub returns : goal.returns
returns c r h =
    let s = c.self.inside in
    let value : c.saturating_sub.result ≡ (window_of s.buffer).next - s.rbuf = c.saturating_sub.ensures ∙ ap₂ (λ x y. x - y) c.self.invariant.1 c.from.ensures in
    subst (λ (k : StreamView). StandsFor k r → c.saturating_sub.result ≡ low_of r.cells k.rbuf) c.self.view_is
    (λ stood. value ∙ low_is (window_of s.buffer) s.fin s.rbuf c.self.invariant.0.least r stood) h
