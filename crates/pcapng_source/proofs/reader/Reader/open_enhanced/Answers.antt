-- Into the data of an enhanced packet.
use Rattle.std.proofs.Common.{◌≡◌, Some}
use Rattle.pcapng_source.specs.Fields.{total_of}
use Rattle.pcapng_source.specs.Packets.{captured_of, interface_of, record_by}
use Rattle.pcapng_source.specs.declared.kind.Kind.TheVariants.{EnhancedPacket}
use Rattle.pcapng_source.proofs.Opens.{opens-enhanced}
use Rattle.pcapng_source.proofs.reader.Reader.open_enhanced.Goals as goal

pub returns : goal.returns
returns c =
    let r = c.args.self.now in
    let interface = c.in-Some.interface in
    let found : interface_of EnhancedPacket r.section r.head ≡ Some interface = cc in
    let sized : total_of r.section.order r.head ≡ c.u32_at-total.result = cc in
    let told : captured_of EnhancedPacket r.section.order interface r.head ≡ c.u32_at-captured.result = cc in
    let made : c.of-self.result ≡ record_by EnhancedPacket r.section.order interface r.head = cc in
    rw (c.enter.ensures, made) (opens-enhanced r interface c.u32_at-total.result c.u32_at-captured.result c.from.result c.requires found sized told c.from.ensures)
