-- By the judgment of a block of its kind.
use Rattle.std.proofs.Common.{◌≡◌, Some, ◌∙◌, arith}
use Rattle.pcapng_source.specs.Refusals.{block_by}
use Rattle.pcapng_source.specs.declared.kind.Kind.TheVariants.{EnhancedPacket}
use Rattle.pcapng_source.proofs.Accepted.{plain_section, refusal-plain}
use Rattle.pcapng_source.proofs.Steps.{refuses-head}
use Rattle.pcapng_source.proofs.reader.Reader.take_packet.Goals as goal

pub returns-in-Some : goal.returns-in-Some
returns-in-Some c =
    let r = c.args.self.now in
    let told : block_by EnhancedPacket r.section r.place.offset r.head ≡ Some c.in-Some.fault = cc in
    refuses-head r c.in-Some.fault c.requires.head.stage c.requires.head.fits (omega arith) c.requires.allowed
    (refusal-plain r.section r.place.offset r.head EnhancedPacket (plain_section r.section.order r.head EnhancedPacket c.requires.kind tt) (omega arith) c.requires.kind ∙ told)
