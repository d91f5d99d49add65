use Rattle.std.proofs.Common.{None, ap, ◌∙◌}
use Rattle.control_script.specs.Rows.{last_latest}
use Rattle.control_script.proofs.Marks.{may-follow, live-follows}
use Rattle.control_script.proofs.script.Script.may_follow.Goals as goal

pub returns-in-At : goal.returns-in-At
returns-in-At c =
    c.lets_pass.ensures ∙ may-follow c.self.inside.rows.items c.args.self.now c.args.stamp c.in-At.k c.last.result.0 c.self.invariant.marked c.self.view_is c.in-At.is
    (c.last.ensures.latest ∙ ap (last_latest None) c.deref.ensures.value)

pub returns-in-Live : goal.returns-in-Live
returns-in-Live c = live-follows c.args.self.now c.args.stamp c.in-Live.is
