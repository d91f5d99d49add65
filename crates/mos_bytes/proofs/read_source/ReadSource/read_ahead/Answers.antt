-- What was copied is the front of what was read ahead.
use Rattle.std.proofs.Common.{◌≤◌, ◌-◌, length, drop, slice_range, arith, length-take}
use Rattle.mos_bytes.proofs.Ahead.{ahead_read}
use Rattle.mos_bytes.proofs.read_source.ReadSource.read_ahead.Goals as goal

pub returns-clause-bytes : goal.returns-clause-bytes
returns-clause-bytes g c =
    let s = c.args.self.now in
    let fits : c.copy_front-count.result ≤ length (slice_range s.buffer s.start s.end) = omega (arith, c.copy_front-count.ensures.count) in
    let within : c.copy_front-count.result ≤ s.end - s.start = omega (arith, fits, length-take (s.end - s.start) (drop s.start s.buffer)) in
    ahead_read _ _ _ _ _ _ _ s.ordered fits within c.copy_front-count.ensures.copied
