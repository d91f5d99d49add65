use Rattle.std.proofs.Common.{◌≡◌, ℕ, [], List, length, sym, ap, subst, ◌∙◌, arith}
use Rattle.std.proofs.lemmas.List.{drop_all}
use Rattle.lane_composition.specs.Forward.{HaveLeft}
use Rattle.forward_dispatch.specs.declared.lane_answers.LaneAnswers.{LaneAnswers}
use Rattle.forward_dispatch.specs.Given.{given_from}
use Rattle.forward_dispatch.specs.OnTheirWay.{lane_by}
use Rattle.forward_dispatch.proofs.Given.{none_from}
use Rattle.forward_dispatch.proofs.dispatch.Dealing.new.Goals as goal

pub returns-clause-leaves : goal.returns-clause-leaves
returns-clause-leaves g c = λ out.
    let way = c.in_ok-new.field-0 in
    let e = c.in_ok-new.ensures in
    let none = subst (λ (xs : List LaneAnswers). (l : ℕ) → given_from xs l ≡ []) (sym e.answers) (none_from c.args.all_answers.items c.requires.ungiven) in
    record {
      sent = let next = e.next in let long = ap length e.lanes in omega (arith, next, long);
      lanes = e.lanes ∙ sym (drop_all way.next [] (omega arith));
      left = subst (λ n. HaveLeft (lane_by []) n (given_from way.all_answers.items) out out) (sym e.next)
          (c.nothing_has_left.ensures.none (lane_by []) (given_from way.all_answers.items) out none);
    }
