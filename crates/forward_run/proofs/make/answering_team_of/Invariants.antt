use Rattle.std.proofs.Common.{◌≡◌, Bool, length, IfOk}
use Rattle.app_api.specs.App.{Meaning}
use Rattle.worker_pool.specs.Making.{IsFresh, AreBegun}
use Rattle.forward_dispatch.specs.Streamed.{AreUnused}
use Rattle.forward_run.proofs.make.answering_team_of.Given as goal

-- the workers so far have begun nothing, where each lane that is made is fresh
abbrev pub invariant-loop : goal.invariant-loop
invariant-loop g l = record {
  callable : goal.F-IsAlwaysCallable g l.make;
  begun : (app : Meaning) (keep : Bool) → ((made : _) → goal.F-post g l.make made → IfOk made (λ lane. IsFresh g.L.Recorder app keep lane))
      → AreBegun g.L.Recorder app keep l.team.workers.items l.team.packets.items;
  all_answers : AreUnused l.team.workers.items l.all_answers.items;
  count : length l.team.workers.items ≡ l.counter;
  used : length l.used.items ≡ l.counter;
}
