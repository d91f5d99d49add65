use Rattle.std.proofs.Common.{◌∙◌, sym, arith}
use Rattle.event_trees.specs.Walk.{keeps}
use Rattle.event_trees.proofs.Walks.{walked-left_out}
use Rattle.event_trees.proofs.walk.Question.next_kept.Goals as goal

pub loop-i-preserved : goal.loop-i-preserved
loop-i-preserved g c = (
  omega (arith, c.loop-i.invariant.0),
  λ hook slots. walked-left_out (keeps c.args.self.now.defs.now c.args.self.now.facts.now c.args.self.now.root) hook
      c.args.nodes.now c.loop-i.i _ _ slots c.loop-i-test.true (sym c.keeps.ensures ∙ c.if-keeps.false) (omega arith) ∙ c.loop-i.invariant.1 hook slots,
)
