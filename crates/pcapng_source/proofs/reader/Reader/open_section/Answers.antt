-- Into the body of a section header.
use Rattle.std.proofs.Common.{◌≡◌, unwrap_or}
use Rattle.pcapng_source.specs.Fields.{order_told, total_of}
use Rattle.pcap_source.specs.declared.order.Order.TheVariants.{Big}
use Rattle.pcapng_source.proofs.Opens.{opens-section}
use Rattle.pcapng_source.proofs.reader.Reader.open_section.Goals as goal

pub returns : goal.returns
returns c =
    let r = c.args.self.now in
    let order = c.unwrap_or-order.result in
    let told : unwrap_or (order_told r.head) Big ≡ order = cc in
    let sized : total_of order r.head ≡ c.u32_at-total.result = cc in
    rw (c.enter.ensures, c.new-self.ensures) (opens-section r order c.u32_at-total.result c.from.result c.requires told sized c.from.ensures)
