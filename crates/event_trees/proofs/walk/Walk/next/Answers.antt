use Rattle.std.proofs.Common.{◌∙◌, ap, sym}
use Rattle.event_trees.specs.Walk.{to_come}
use Rattle.event_trees.proofs.walk.Walk.next.Goals as goal

pub returns-in_err-number-clause-end : goal.returns-in_err-number-clause-end
unfolding to_come
returns-in_err-number-clause-end g c = rw c.from_residual.ensures (sym (ap (to_come c.args.defs.now) c.self.view_is) ∙ c.in_err-number.ensures.none)

pub returns-clause-given : goal.returns-clause-given
unfolding to_come
returns-clause-given g c = sym (ap (to_come c.args.defs.now) c.self.view_is) ∙ c.in_ok-number.ensures.some
