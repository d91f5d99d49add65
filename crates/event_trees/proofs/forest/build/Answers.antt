use Rattle.std.proofs.Common.{◌≡◌, ◌∙◌, ap, sym, subst, length, arith}
use Rattle.std.proofs.lemmas.List.{length-map}
use Rattle.event_trees.specs.Canon.{placed, placed_of}
use Rattle.event_trees.specs.Build.{seen, all_seen}
use Rattle.std.specs.List.Sorted.{IsStrictlySortedBy}
use Rattle.event_trees.specs.Edit.{placed_cmp}
use Rattle.event_trees.proofs.InOrder.{strict-placed}
use Rattle.event_trees.proofs.Sorted.{few}
use Rattle.event_trees.proofs.forest.build.Goals as goal

pub tree_of-requires-clause-order : goal.tree_of-requires-clause-order
tree_of-requires-clause-order g c =
    let same : all_seen c.deref.result.now ≡ placed c.args.defs.now c.args.active.now = ap all_seen c.deref.ensures.value ∙ (c.in_ok-regs.ensures ∙ ap (placed c.args.defs.now) c.as_slice.ensures) in
    subst (IsStrictlySortedBy placed_cmp) (sym same) (strict-placed c.args.defs.now c.args.active.now c.requires.sorted)

pub tree_of-requires-clause-few : goal.tree_of-requires-clause-few
tree_of-requires-clause-few g c =
    let same : all_seen c.deref.result.now ≡ placed c.args.defs.now c.args.active.now = ap all_seen c.deref.ensures.value ∙ (c.in_ok-regs.ensures ∙ ap (placed c.args.defs.now) c.as_slice.ensures) in
    omega (arith, ap length same, length-map c.deref.result.now seen, length-map c.args.active.now (placed_of c.args.defs.now), few c.args.active.now c.requires.numbers c.requires.distinct)
