use Rattle.std.proofs.Common.{◌≤◌, ◌-◌, length, drop, slice_range, arith, length-take, length-drop}
use Rattle.mos_bytes.proofs.Ahead.{ahead_passed_over}
use Rattle.mos_bytes.proofs.read_source.ReadSourceSource.pass.Goals as goal

pub returns-clause-bytes : goal.returns-clause-bytes
returns-clause-bytes g c =
    let s = c.args.self.now in
    let within : c.args.count ≤ s.end - s.start = omega arith in
    let fits : c.args.count ≤ length (slice_range s.buffer s.start s.end) =
    omega (arith, length-take (s.end - s.start) (drop s.start s.buffer), length-drop s.start s.buffer) in
    ahead_passed_over _ c.args.count s.start s.end s.buffer within fits
