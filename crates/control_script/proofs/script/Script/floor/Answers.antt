use Rattle.std.proofs.Common.{◌∙◌, arith}
use Rattle.control_script.proofs.Marks.{none-forced, last-forced, ordered, floor-ceil, floor-is-ceil}
use Rattle.control_script.proofs.script.Script.floor.Goals as goal

pub returns-then-count-eq0-clause-floor : goal.returns-then-count-eq0-clause-floor
returns-then-count-eq0-clause-floor c =
    none-forced c.self.inside.rows.items c.args.self.now c.args.n c.seen-count.result c.self.invariant c.self.view_is c.seen-count.ensures.ceil c.if-count-eq0.true

pub returns-else-count-eq0-clause-floor : goal.returns-else-count-eq0-clause-floor
returns-else-count-eq0-clause-floor c =
    last-forced c.self.inside.rows.items c.args.self.now c.args.n c.seen-count.result c.index.result.now c.self.invariant c.self.view_is
    c.seen-count.ensures.ceil c.if-count-eq0.false c.seen-count.ensures.within c.index.ensures

pub returns-else-count-eq0-clause-within : goal.returns-else-count-eq0-clause-within
returns-else-count-eq0-clause-within c =
    omega (
      arith,
      last-forced c.self.inside.rows.items c.args.self.now c.args.n c.seen-count.result c.index.result.now c.self.invariant c.self.view_is
          c.seen-count.ensures.ceil c.if-count-eq0.false c.seen-count.ensures.within c.index.ensures,
      floor-ceil c.args.n c.args.self.now
          (ordered c.self.inside.rows.items c.args.self.now c.self.invariant c.self.view_is),
    )

pub returns-else-count-eq0-clause-same : goal.returns-else-count-eq0-clause-same
returns-else-count-eq0-clause-same c stamped =
    last-forced c.self.inside.rows.items c.args.self.now c.args.n c.seen-count.result c.index.result.now c.self.invariant c.self.view_is
    c.seen-count.ensures.ceil c.if-count-eq0.false c.seen-count.ensures.within c.index.ensures
    ∙ floor-is-ceil c.args.n c.args.self.now (ordered c.self.inside.rows.items c.args.self.now c.self.invariant c.self.view_is) stamped
