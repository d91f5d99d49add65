-- Into the data of a simple packet.
use Rattle.std.proofs.Common.{◌≡◌, Some}
use Rattle.std.specs.List.{slice_get}
use Rattle.pcapng_source.specs.Fields.{total_of}
use Rattle.pcapng_source.specs.Packets.{captured_of, record_by}
use Rattle.pcapng_source.specs.declared.kind.Kind.TheVariants.{SimplePacket}
use Rattle.pcapng_source.proofs.Opens.{opens-simple}
use Rattle.pcapng_source.proofs.reader.Reader.open_simple.Goals as goal

pub returns : goal.returns
returns c =
    let r = c.args.self.now in
    let interface = c.in-Some.interface in
    let found : slice_get r.section.interfaces 0 ≡ Some interface = cc in
    let sized : total_of r.section.order r.head ≡ c.u32_at-total.result = cc in
    let told : captured_of SimplePacket r.section.order interface r.head ≡ c.captured-captured.result = cc in
    let made : c.of-self.result ≡ record_by SimplePacket r.section.order interface r.head = cc in
    rw (c.enter.ensures, made) (opens-simple r interface c.u32_at-total.result c.captured-captured.result c.from.result c.requires found sized told c.from.ensures)
