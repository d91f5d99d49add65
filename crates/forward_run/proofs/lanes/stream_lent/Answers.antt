use Rattle.std.proofs.Common.{◌≡◌, sym}
use Rattle.forward_run.proofs.lanes.stream_lent.Goals as goal

pub returns-clause-served : goal.returns-clause-served
returns-clause-served g c =
    let s = c.in_ok-read.ensures.served in
    let dealing : c.dealing-1.given.0 ≡ c.run_team.new.feed.dealing.now = c.dealing-1.given.1 (sym s.done.2) in
    let source : c.source-1.given.0 ≡ c.run_team.new.feed.source.now = c.source-1.given.1 (sym s.done.3) in
    let out : c.out-1.given.0 ≡ c.run_team.new.feed.out.now = c.out-1.given.1 (sym s.done.4) in
    record {
      frames = s.frames;
      few = s.few;
      served = s.served;
      done = rw (dealing, source, out) s.done.0;
    }
