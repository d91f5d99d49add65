use Rattle.std.proofs.Common.{◌++◌, ◌∷◌, [], ap, ◌∙◌, append-nil}
use Rattle.std.proofs.lemmas.Result.{err_from_is_err_and}
use Rattle.lane_rings.specs.Answers.{answers_in}
use Rattle.lane_rings.specs.Judging.{lent_answer}
use Rattle.lane_rings.specs.Ring.{taken}
use Rattle.forward_dispatch.specs.Given.{given_by}
use Rattle.forward_dispatch.proofs.Batches.{one_given, still_whole}
use Rattle.forward_dispatch.proofs.lane_answers.LaneAnswers.write_next.Goals as goal

-- src/lane_answers.rt:87:9
pub invariant_of-self : goal.invariant_of-self
invariant_of-self g c =
    let now = c.is_at_hand.new.self in
    record { whole = still_whole (answers_in (taken now.ring)) now.batch now.at (lent_answer c.answer.result) now.whole c.answer.ensures }

-- src/lane_answers.rt:88:9
pub returns-in_err-written-clause-leaves : goal.returns-in_err-written-clause-leaves
returns-in_err-written-clause-leaves g c =
    let now = c.is_at_hand.new.self in
    let same = c.is_at_hand.ensures.same in
    let p = err_from_is_err_and c.from_residual.result c.from_residual.ensures.1 in
    rw (p.1) (
      lent_answer c.answer.result,
      record {
        ring = same.ring;
        given = one_given (answers_in (taken now.ring)) now.batch now.at (lent_answer c.answer.result) now.whole c.answer.ensures
            ∙ ap (λ l. l ++ lent_answer c.answer.result ∷ []) (same.given ∙ append-nil (given_by c.args.self.now));
      },
      c.in_err-written.ensures.bytes,
    )

-- src/lane_answers.rt:79:5
pub returns-clause-leaves : goal.returns-clause-leaves
returns-clause-leaves g c =
    let now = c.is_at_hand.new.self in
    let same = c.is_at_hand.ensures.same in (
      lent_answer c.answer.result,
      record {
        ring = same.ring;
        given = one_given (answers_in (taken now.ring)) now.batch now.at (lent_answer c.answer.result) now.whole c.answer.ensures
            ∙ ap (λ l. l ++ lent_answer c.answer.result ∷ []) (same.given ∙ append-nil (given_by c.args.self.now));
      },
      c.in_ok-written.ensures.bytes,
    )
