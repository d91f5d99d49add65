-- Over the second total length.
use Rattle.std.proofs.Common.{◌≡◌, ◌+◌, ◌≤◌, length, drop, subst, sym, ◌∙◌, arith, length-drop}
use Rattle.std.specs.List.{between}
use Rattle.std.proofs.lemmas.Slice.{between_to_end}
use Rattle.pcap_source.specs.Order.{number_in}
use Rattle.pcapng_source.specs.Reading.{stop_of}
use Rattle.pcapng_source.proofs.Borders.{crosses, crosses-badly}
use Rattle.pcapng_source.proofs.reader.Reader.cross.Goals as goal

pub returns-then-u32_at-self-clause-rest : goal.returns-then-u32_at-self-clause-rest
returns-then-u32_at-self-clause-rest c = λ ends left.
    let r = c.args.self.now in
    let bytes = c.args.bytes.now in
    let start = r.skip + 4 in
    let same : number_in r.section.order 4 (drop r.skip bytes) ≡ r.block.total = cc in
    let head = between start (length bytes) bytes in
    let all : head ≡ drop start bytes = between_to_end bytes start (length bytes) (omega arith) in
    let few : length head ≤ stop_of r.section.order head =
    subst (λ l. length l ≤ stop_of r.section.order l) (sym all) (omega (arith, length-drop start bytes)) in
    c.begin_head.ensures.rest few left ∙ crosses r bytes head left c.requires.border.behind c.requires.border.bare.fits (omega arith) same all

pub returns-else-u32_at-self-clause-rest : goal.returns-else-u32_at-self-clause-rest
returns-else-u32_at-self-clause-rest c = λ ends left.
    let r = c.args.self.now in
    let bytes = c.args.bytes.now in
    let told : c.u32_at.result ≡ number_in r.section.order 4 (drop r.skip bytes) = cc in
    crosses-badly r bytes left c.requires.border.behind c.requires.border.bare.fits (omega arith) (λ same. c.if-u32_at-self.false (cc (told, same)))
