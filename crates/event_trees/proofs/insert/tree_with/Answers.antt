use Rattle.std.proofs.Common.{◌∙◌, ◌-◌, List, ap, refl, length, arith}
use Rattle.shared_forest.specs.declared.node.Node.{Node}
use Rattle.shared_forest.specs.declared.node.Slot.{Slot}
use Rattle.shared_forest.specs.Layout.{IsTree}
use Rattle.shared_forest.specs.Listing.{listing_of}
use Rattle.event_trees.specs.Build.{seen}
use Rattle.event_trees.specs.ReadOff.{read_off}
use Rattle.event_trees.specs.Edit.{put_placed}
use Rattle.event_trees.specs.Insert.{last_path}
use Rattle.std.proofs.Common.{take}
use Rattle.event_trees.proofs.Reach.{common-right}
use Rattle.event_trees.proofs.InsertLaw.{IsTreeOf}
use Rattle.event_trees.proofs.InsertTree.{tree-made, same-tree, all-raise, all-room, all-firsts}
use Rattle.event_trees.proofs.Walks.{node-at_within}
use Rattle.event_trees.proofs.Sparse.{size-nodes, size-slots}
use Rattle.event_trees.proofs.insert.tree_with.Goals as goal

pub slot_place-place-requires : goal.slot_place-place-requires
slot_place-place-requires c =
    node-at_within c.nodes-nodes.result.now c.slots-slots.result.now _ _
    (same-tree c.args.tree.now.nodes c.nodes-nodes.result.now c.args.tree.now.slots c.slots-slots.result.now c.nodes-nodes.ensures.nodes
    c.slots-slots.ensures.slots c.nodes-nodes.ensures.tree) refl

pub nodes_with-requires-clause-depth : goal.nodes_with-requires-clause-depth
nodes_with-requires-clause-depth c = omega (arith, c.reach_of-reach.ensures.shared, common-right (last_path (take c.reach_of-reach.result.node c.args.tree.now.nodes)) c.events-path.result.now)

pub nodes_with-requires-clause-raise : goal.nodes_with-requires-clause-raise
nodes_with-requires-clause-raise c =
    all-raise c.nodes-nodes.result.now c.slots-slots.result.now (same-tree c.args.tree.now.nodes c.nodes-nodes.result.now c.args.tree.now.slots
    c.slots-slots.result.now c.nodes-nodes.ensures.nodes c.slots-slots.ensures.slots c.nodes-nodes.ensures.tree)
    (omega (arith, c.requires.few, ap length c.nodes-nodes.ensures.nodes, size-nodes c.args.tree.now.nodes c.args.tree.now.slots c.requires.listed.canon c.requires.listed.short))

pub nodes_with-requires-clause-room : goal.nodes_with-requires-clause-room
nodes_with-requires-clause-room c =
    all-room c.nodes-nodes.result.now c.slots-slots.result.now (same-tree c.args.tree.now.nodes c.nodes-nodes.result.now c.args.tree.now.slots
    c.slots-slots.result.now c.nodes-nodes.ensures.nodes c.slots-slots.ensures.slots c.nodes-nodes.ensures.tree)
    (omega (arith, c.requires.few, ap length c.slots-slots.ensures.slots, size-slots c.args.tree.now.nodes c.args.tree.now.slots c.slots-slots.ensures.tree))

pub nodes_with-requires-clause-firsts : goal.nodes_with-requires-clause-firsts
nodes_with-requires-clause-firsts c =
    all-firsts c.nodes-nodes.result.now c.slots-slots.result.now (same-tree c.args.tree.now.nodes c.nodes-nodes.result.now c.args.tree.now.slots
    c.slots-slots.result.now c.nodes-nodes.ensures.nodes c.slots-slots.ensures.slots c.nodes-nodes.ensures.tree)
    (omega (arith, c.requires.few, ap length c.slots-slots.ensures.slots, size-slots c.args.tree.now.nodes c.args.tree.now.slots c.slots-slots.ensures.tree))

pub overflow_add-first : goal.overflow_add-first
overflow_add-first c =
    let tree : IsTree c.nodes-nodes.result.now c.slots-slots.result.now = same-tree c.args.tree.now.nodes c.nodes-nodes.result.now
    c.args.tree.now.slots c.slots-slots.result.now c.nodes-nodes.ensures.nodes c.slots-slots.ensures.slots c.nodes-nodes.ensures.tree in
    omega (
      arith,
      node-at_within c.nodes-nodes.result.now c.slots-slots.result.now (c.reach_of-reach.result.node - 1)
          (record { event = 0; depth = 0; below = 0; first = 0; count = 0 }) tree refl,
      c.requires.few,
      ap length c.slots-slots.ensures.slots,
      size-slots c.args.tree.now.nodes c.args.tree.now.slots c.slots-slots.ensures.tree,
    )

pub slots_with-requires : goal.slots_with-requires
slots_with-requires c =
    let tree : IsTree c.nodes-nodes.result.now c.slots-slots.result.now = same-tree c.args.tree.now.nodes c.nodes-nodes.result.now
    c.args.tree.now.slots c.slots-slots.result.now c.nodes-nodes.ensures.nodes c.slots-slots.ensures.slots c.nodes-nodes.ensures.tree in
    omega (
      arith,
      node-at_within c.nodes-nodes.result.now c.slots-slots.result.now (c.reach_of-reach.result.node - 1)
          (record { event = 0; depth = 0; below = 0; first = 0; count = 0 }) tree refl,
      c.slot_place-place.ensures.high,
    )

pub new-requires : goal.new-requires
new-requires c =
    (tree-made c.args.tree.now.nodes c.nodes-nodes.result.now c.args.tree.now.slots c.slots-slots.result.now (seen c.args.reg.now)
    c.events-path.result.now c.reach_of-reach.result.node c.reach_of-reach.result.depth _ c.slot_place-place.result
    (record { event = 0; depth = 0; below = 0; first = 0; count = 0 }) c.in_ok-more.more.items c.in_ok-all.all.items c.nodes-nodes.ensures.nodes
    c.slots-slots.ensures.slots c.events-path.ensures.events c.nodes-nodes.ensures.tree c.requires.listed.canon c.requires.order c.reach_of-reach.ensures
    c.slot_place-place.ensures refl c.in_ok-more.ensures c.in_ok-all.ensures).tree

pub returns : goal.returns
returns c =
    let made : IsTreeOf c.in_ok-more.more.items c.in_ok-all.all.items (put_placed (seen c.args.reg.now) (read_off (listing_of c.args.tree.now.nodes c.args.tree.now.slots))) =
    tree-made c.args.tree.now.nodes c.nodes-nodes.result.now c.args.tree.now.slots c.slots-slots.result.now (seen c.args.reg.now)
    c.events-path.result.now c.reach_of-reach.result.node c.reach_of-reach.result.depth _ c.slot_place-place.result
    (record { event = 0; depth = 0; below = 0; first = 0; count = 0 }) c.in_ok-more.more.items c.in_ok-all.all.items c.nodes-nodes.ensures.nodes
    c.slots-slots.ensures.slots c.events-path.ensures.events c.nodes-nodes.ensures.tree c.requires.listed.canon c.requires.order c.reach_of-reach.ensures
    c.slot_place-place.ensures refl c.in_ok-more.ensures c.in_ok-all.ensures in
    ap (λ (l : List Node). listing_of l c.new.result.slots) c.new.ensures.nodes ∙ (ap (λ (l : List Slot). listing_of c.in_ok-more.more.items l) c.new.ensures.slots ∙ made.listed)
