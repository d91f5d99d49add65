use Rattle.std.proofs.Common.{◌++◌, ap, subst, sym, ◌∙◌}
use mathlib.Core.List.{IsPrefix}
use Rattle.lane_rings.specs.Ring.{taken, known}
use Rattle.forward_dispatch.specs.Compared.{sent_in}
use Rattle.forward_dispatch.specs.Given.{given_by}
use Rattle.forward_dispatch.specs.Rest.{rest_of}
use Rattle.forward_dispatch.proofs.Comparing.{given_front}
use Rattle.forward_dispatch.proofs.answer_ends.compare_one.Goals as goal

pub returns-in-Some-clause-front : goal.returns-in-Some-clause-front
returns-in-Some-clause-front c =
    let r = c.args.lane_answers.now in
    subst (λ o. IsPrefix (given_by r) (sent_in o)) (sym c.in-Some.is)
    (given_front (given_by r) (rest_of r.batch r.at) (taken r.ring) (known c.beside.new.self) _ r.whole
    (ap (λ xs. xs ++ known c.beside.new.self) (sym c.beside.ensures.taken) ∙ c.beside.ensures.all ∙ c.beside.ensures.tx.1))
