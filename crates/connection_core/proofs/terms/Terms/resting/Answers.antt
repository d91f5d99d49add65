use Rattle.std.proofs.Common.{◌≡◌, Some, sym}
use Rattle.connection_core.specs.InForce.{registered}
use Rattle.connection_core.specs.Trees.{active_in}
use Rattle.connection_core.proofs.Resting.{calls_alone}
use Rattle.connection_core.proofs.terms.Terms.resting.Goals as goal

pub returns-in-Some-reg_at : goal.returns-in-Some-reg_at
returns-in-Some-reg_at g c =
    let lent = c.args.self.now.in_force in
    let here : registered lent c.in-Some.number ≡ Some c.in-Some-reg_at.reg.now = sym c.in-Some-reg_at.ensures.reg in (
      c.rests_at.ensures.rests c.if-not-rests_at.false,
      λ s force. (
        c.in-Some-reg_at.reg.now,
        (
          c.in-Some-reg_at.ensures.number,
          calls_alone s (registered lent) (active_in (registered lent) c.args.tree.now) c.args.hook c.in-Some.number c.in-Some-reg_at.reg.now
              c.requires.forest.known (c.in-Some.ensures s force) here (c.is_plain.ensures c.if-is_plain.true),
        ),
      ),
    )
