use Rattle.std.proofs.Common.{◌≡◌, ℕ, ◌+◌, ◌==◌, cond, [], length, drop, get_or, sym, ap, ◌∙◌, arith}
use Rattle.app_api.specs.declared.hearers.Hearers.{Hearers}
use Rattle.app_api.specs.declared.hearers.Hearers.TheVariants.{Nobody}
use Rattle.app_api.specs.Hearers.{joined, hearers_in}
use Rattle.shared_forest.specs.Listing.{listing_after}
use Rattle.shared_forest.specs.Heard.{hearers_of}
use Rattle.shared_forest.proofs.FromRootToRoot.{start-laid, packed-rest, no_node, next}
use Rattle.shared_forest.proofs.Hearing.{next-hearers, noted_more, heard_at_root}
use Rattle.shared_forest.proofs.heard.heard_at.Goals as goal

pub loop-at-init : goal.loop-at-init
loop-at-init c =
    let packed = packed-rest 0 c.args.nodes.now (length c.args.slots.now) 1 c.requires.packed in (
      omega arith,
      start-laid c.args.nodes.now c.requires.topped,
      packed,
      λ event known. ap (λ (h : Hearers). joined h (hearers_of c.args.hook event (listing_after [] (drop 1 c.args.nodes.now) c.args.slots.now))) (c.nobody-heard.ensures event known),
    )

pub of_root-more-requires-clause-own : goal.of_root-more-requires-clause-own
of_root-more-requires-clause-own c =
    let there = c.loop-at.invariant.2 in
    let on = next c.args.nodes.now c.args.slots.now c.loop-at.at there.0 c.loop-at-test.true c.loop-at.invariant.1 there.1 in
    let after = next-hearers c.args.nodes.now c.args.slots.now c.loop-at.at there.0 on.0 c.loop-at-test.true c.loop-at.invariant.1 there.1 on.1.packed in
    omega (arith, c.first_slot-end.ensures on.0 on.1.packed, after.0)

pub of_root-more-requires-clause-end : goal.of_root-more-requires-clause-end
of_root-more-requires-clause-end c =
    let there = c.loop-at.invariant.2 in
    let on = next c.args.nodes.now c.args.slots.now c.loop-at.at there.0 c.loop-at-test.true c.loop-at.invariant.1 there.1 in
    omega (arith, c.first_slot-end.ensures on.0 on.1.packed, on.1.high)

pub loop-at-preserved : goal.loop-at-preserved
loop-at-preserved c =
    let there = c.loop-at.invariant.2 in
    let on = next c.args.nodes.now c.args.slots.now c.loop-at.at there.0 c.loop-at-test.true c.loop-at.invariant.1 there.1 in
    let after = next-hearers c.args.nodes.now c.args.slots.now c.loop-at.at there.0 on.0 c.loop-at-test.true c.loop-at.invariant.1 there.1 on.1.packed in
    let end = c.first_slot-end.ensures on.0 on.1.packed in
    let is : heard_at_root c.args.hook (get_or c.args.nodes.now c.loop-at.at no_node) on.0 c.args.slots.now ≡ c.of_root-more.result =
    ap (λ (k : ℕ). heard_at_root c.args.hook (get_or c.args.nodes.now c.loop-at.at no_node) k c.args.slots.now) (sym end) ∙ sym c.of_root-more.ensures in (
      omega arith,
      on.1.laid,
      (on.0, on.1.packed),
      λ event known.
          noted_more (hearers_in c.loop-at.heard event) (hearers_in c.add.new.self event) _ _ _ _
          (c.add.ensures event known) (after.1 c.args.hook event
          ∙ ap (λ (h : Hearers). joined (cond ((get_or c.args.nodes.now c.loop-at.at no_node).event == event) h Nobody)
          (hearers_of c.args.hook event (listing_after [] (drop (c.loop-at.at + 1 + (get_or c.args.nodes.now c.loop-at.at no_node).below) c.args.nodes.now) c.args.slots.now)))
          is) (c.loop-at.invariant.3 event known),
    )
