use Rattle.std.proofs.Common.{◌∙◌, ◌≡◌, false, sym, ap, arith, refl}
use Rattle.std.specs.Ordering.{is_lt}
use Rattle.event_trees.specs.Private.{reg_cmp}
use Rattle.event_trees.specs.Canon.{Placed, placed_of}
use Rattle.event_trees.specs.Edit.{placed_cmp}
use Rattle.event_trees.proofs.Privates.{falls, rises-all}
use Rattle.event_trees.proofs.private.rise.Goals as goal

pub returns-then-not-comes_before : goal.returns-then-not-comes_before
returns-then-not-comes_before c =
    let no_less : is_lt (reg_cmp c.args.defs.now c.index-list-i.result c.index-list-i-in-loop-i.result) ≡ false = ap
    (λ (p : Placed). is_lt (placed_cmp p (placed_of c.args.defs.now c.index-list-i-in-loop-i.result))) (sym c.place.ensures.placed)
    ∙ (sym c.comes_before.ensures ∙ c.if-not-comes_before.true) in (
      λ e. cc,
      λ h. absurd (falls c.args.defs.now c.args.list.now c.loop-i.i c.index-list-i.result c.index-list-i-in-loop-i.result c.loop-i.invariant.0
          c.loop-i-test.true c.index-list-i.is c.index-list-i-in-loop-i.is no_less h),
    )

pub returns : goal.returns
returns c = (λ e. rises-all c.args.defs.now c.args.list.now c.loop-i.i (omega arith) c.loop-i.invariant.1, λ h. refl)
