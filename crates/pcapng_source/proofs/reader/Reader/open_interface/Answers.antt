-- Into the body of an interface.
use Rattle.std.proofs.Common.{◌≡◌, ◌∙◌, ap, drop, refl}
use Rattle.pcap_source.specs.Order.{number_in}
use Rattle.pcapng_source.specs.Fields.{snap_told, total_of}
use Rattle.pcapng_source.proofs.Opens.{opens-interface}
use Rattle.pcapng_source.proofs.reader.Reader.open_interface.Goals as goal

pub returns : goal.returns
returns c =
    let r = c.args.self.now in
    let sized : total_of r.section.order r.head ≡ c.u32_at-total.result = cc in
    let link : c.u16_at.result ≡ number_in r.section.order 2 (drop 8 r.head) = cc in
    let length : c.u32_at.result ≡ number_in r.section.order 4 (drop 12 r.head) = cc in
    let snap : c.snap_told.result ≡ snap_told (number_in r.section.order 4 (drop 12 r.head)) = c.snap_told.ensures ∙ ap snap_told length in
    let resolution = c.told.ensures in
    rw (c.enter.ensures, c.add.ensures, link, snap, resolution) (opens-interface r c.u32_at-total.result _ c.requires sized refl)
