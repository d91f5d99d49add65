-- No more is held than is judged next.
use Rattle.std.proofs.Common.{◌≡◌, length, min, take, refl}
use Rattle.pcapng_source.specs.Reading.{stop_of}
use Rattle.pcapng_source.proofs.Borders.{held-fits}
use Rattle.pcapng_source.proofs.reader.Reader.begin_head.Goals as goal

pub returns-else-is_packet-clause-unmet : goal.returns-else-is_packet-clause-unmet
returns-else-is_packet-clause-unmet c =
    let order = c.args.self.now.section.order in
    let head = c.args.head.now in
    let held : c.put-else-is_packet.new.self ≡ take (min (stop_of order head) (length head)) head = cc in
    record { fits = rw held (held-fits order head); met = refl }
