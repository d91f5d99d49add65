use Rattle.std.proofs.Common.{◌≡◌, ◌+◌, ◌++◌, ◌∷◌, [], List, length, refl, sym, ap, subst, ◌∙◌, arith}
use Rattle.std.proofs.lemmas.List.{length_push}
use Rattle.std.proofs.lemmas.Result.{err_from_is_err_and}
use Rattle.ip6_views.specs.Sight.{sight_of, lane_of_sight}
use Rattle.forward_dispatch.specs.declared.lane_answers.LaneAnswers.{LaneAnswers}
use Rattle.forward_dispatch.specs.OnTheirWay.{Leaves}
use Rattle.forward_dispatch.specs.Streamed.{AreLaneAnswers, lanes_of}
use Rattle.forward_dispatch.proofs.Leaving.{joined}
use Rattle.forward_dispatch.proofs.Turning.{lanes_more, kept_went}
use Rattle.forward_dispatch.proofs.dispatch.Dealing.send_next.Goals as goal

pub deal_frame-requires-clause-dealt : goal.deal_frame-requires-clause-dealt
deal_frame-requires-clause-dealt g c =
    let given = c.requires.under_way in
    record { begins = given.begins; frames = given.frames; count = given.sent.count ∙ sym c.sent-index.ensures; inputs_are = given.sent.inputs_are }

pub join-requires-clause-within : goal.join-requires-clause-within
join-requires-clause-within g c =
    let s = c.requires.under_way.sent in
    omega (arith, c.in_ok-lane.ensures.within, s.inputs_are.count, s.all_answers_are.count)

pub returns-in_err-lane-clause-kept : goal.returns-in_err-lane-clause-kept
returns-in_err-lane-clause-kept g c =
    let p = err_from_is_err_and c.from_residual.result c.from_residual.ensures.1 in
    rw (p.1) (λ now.
    kept_went g.L.Recorder c.args.context.now.script.now c.args.self.now _ now c.in_err-lane.ensures.kept refl refl)

pub returns-clause-went : goal.returns-clause-went
returns-clause-went g c = λ now.
    let old = c.args.self.now in
    let frame = old.frame in
    let lane = c.in_ok-lane.lane in
    record {
      sent = λ begins frames s. record {
        count = length_push frames frame ∙ ap (λ n. n + 1) s.count
            ∙ (let next = c.join.ensures.next in let long = ap length c.join.ensures.lanes ∙ length_push old.way.lanes.items lane in omega (arith, next, long));
        newest = c.greatest_with-self.ensures.greatest frames frame c.moment_of.ensures s.newest;
        inputs_are = c.in_ok-lane.ensures.dealt begins frames (s.count ∙ sym c.sent-index.ensures) s.inputs_are;
        all_answers_are = subst (λ (xs : List LaneAnswers). AreLaneAnswers begins xs) (sym c.join.ensures.answers) s.all_answers_are;
      };
      leaves = λ begins frames before s l.
          let all = old.way.all_answers.items in
          let lanes : length old.inputs.items ≡ length all = omega (arith, s.inputs_are.count, s.all_answers_are.count) in
          let own : lane ≡ lane_of_sight (sight_of frame.bytes) (length all) = c.in_ok-lane.ensures.lane ∙ ap (lane_of_sight (sight_of frame.bytes)) lanes in
          subst (λ n. Leaves (lanes_of n (frames ++ frame ∷ [])) c.join.new.self before now) (sym (ap length c.join.ensures.answers))
          (subst (λ order. Leaves order c.join.new.self before now) (sym (lanes_more (length all) frames frame lane own))
          (joined c.later_lanes_change_nothing.ensures.left (lanes_of (length all) frames) old.way c.join.new.self lane before now c.join.ensures.next c.join.ensures.lanes c.join.ensures.answers l));
    }
