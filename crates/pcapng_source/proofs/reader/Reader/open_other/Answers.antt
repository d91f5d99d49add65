-- Into the body of another block.
use Rattle.std.proofs.Common.{◌≡◌}
use Rattle.pcapng_source.specs.Fields.{total_of}
use Rattle.pcapng_source.proofs.Opens.{opens-other}
use Rattle.pcapng_source.proofs.reader.Reader.open_other.Goals as goal

pub returns : goal.returns
returns c =
    let r = c.args.self.now in
    let sized : total_of r.section.order r.head ≡ c.u32_at-total.result = cc in
    rw c.enter.ensures (opens-other r c.u32_at-total.result c.from.result c.requires sized c.from.ensures)
