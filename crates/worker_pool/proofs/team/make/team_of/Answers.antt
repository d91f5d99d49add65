use Rattle.std.proofs.Common.{◌+◌, ◌∙◌, ap}
use Rattle.std.proofs.lemmas.Result.{IfOk-at_ok}
use Rattle.worker_pool.specs.Making.{IsFresh}
use Rattle.worker_pool.proofs.team.make.team_of.Goals as goal

pub loop-preserved : goal.loop-preserved
loop-preserved g c = record {
  callable = c.loop.invariant.callable;
  begun = λ app keep fresh.
      c.in_ok-enlist_giving_back.ensures.begun app keep
      (IfOk-at_ok (λ lane. IsFresh g.L.Recorder app keep lane) c.in_ok-make.was (fresh c.make.result c.make.ensures))
      (c.loop.invariant.begun app keep fresh);
  count = c.in_ok-enlist_giving_back.ensures.count ∙ ap (λ n. n + 1) c.loop.invariant.count;
}
