use Rattle.std.proofs.Common.{◌+◌, ◌∙◌, ap, length}
use Rattle.std.proofs.lemmas.List.{length_push}
use Rattle.std.proofs.lemmas.Result.{IfOk-at_ok}
use Rattle.worker_pool.specs.Making.{IsFresh}
use Rattle.worker_pool.proofs.Making.{none_begun}
use Rattle.forward_run.proofs.Forwarding.{none_unused, more_unused}
use Rattle.forward_run.proofs.make.answering_team_of.Goals as goal

pub loop-preserved : goal.loop-preserved
loop-preserved g c =
    let added = c.in_ok-enlist.ensures.added in
    let ring = c.in_ok-answers_tx.ensures in
    let lane_answers = c.new-in-loop in
    record {
      callable = c.loop.invariant.callable;
      begun = λ app keep fresh.
          c.in_ok-enlist.ensures.begun app keep
          (IfOk-at_ok (λ lane. IsFresh g.L.Recorder app keep lane) c.in_ok-lane.was (fresh c.make.result c.make.ensures))
          (c.loop.invariant.begun app keep fresh);
      all_answers = rw (added.behind, c.in_ok-push.ensures.items) (more_unused c.loop.team.workers.items c.loop.all_answers.items added.worker lane_answers.result c.loop.invariant.all_answers
          (record { ring = c.in_ok-answers_tx.answers_tx; answers = added.answering; unsent = ring.sent.0; ends = rw lane_answers.ensures.ring ring.ends })
          lane_answers.ensures.given);
      count = c.in_ok-enlist.ensures.count ∙ ap (λ n. n + 1) c.loop.invariant.count;
      used = rw (c.in_ok-push-2.ensures.items, length_push, c.loop.invariant.used);
    }

pub loop-init : goal.loop-init
loop-init g c = record {
  callable = c.requires.callable;
  begun = λ app keep fresh. rw (c.new.ensures.items, c.new-2.ensures.items) (none_begun g.L.Recorder app keep);
  all_answers = rw (c.new.ensures.items, c.new-all_answers.ensures.items) none_unused;
  count = ap length c.new.ensures.items;
  used = ap length c.new-used.ensures.items;
}
