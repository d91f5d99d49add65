use Rattle.std.proofs.Common.{arith}
use Rattle.capture_replay.proofs.Following.{ceil_within}
use Rattle.capture_replay.proofs.advance.ceiling_of.Goals as goal

pub returns-then-given-len : goal.returns-then-given-len
returns-then-given-len g c =
    let whole = c.if-given-len.true in
    let given = c.version-given.ensures in
    let before = c.requires.before in
    let within = ceil_within c.args.script.now c.args.number in
    let len = c.len.ensures.len in
    let most = c.len.ensures.most in
    record {
      ceil = omega (arith, whole, given, before, within, len);
      within = omega (arith, given, before, within);
      most = omega (arith, given, before, within, len, most);
    }
