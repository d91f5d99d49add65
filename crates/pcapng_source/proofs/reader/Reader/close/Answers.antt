-- Behind the second total length.
use Rattle.std.proofs.Common.{◌≡◌}
use Rattle.std.proofs.lemmas.Bool.{eq-eqb, ne_eqb}
use Rattle.pcap_source.specs.Order.{number_in}
use Rattle.pcapng_source.proofs.Bodies.{closes, closes-badly}
use Rattle.pcapng_source.proofs.reader.Reader.close.Goals as goal

pub returns-then-u32_in-self : goal.returns-then-u32_in-self
returns-then-u32_in-self c =
    let r = c.args.self.now in
    let same : number_in r.section.order 4 r.word ≡ r.block.total = cc in
    rw c.clear.ensures (closes r c.requires.stage c.requires.word (eq-eqb _ _ same))

pub returns-else-u32_in-self : goal.returns-else-u32_in-self
returns-else-u32_in-self c =
    let r = c.args.self.now in
    let read : c.u32_in.result ≡ number_in r.section.order 4 r.word = cc in
    closes-badly r c.requires.stage c.requires.word c.requires.fits (ne_eqb _ _ (λ same. c.if-u32_in-self.false (cc (read, same))))
