use Rattle.std.proofs.Common.{◌∙◌, List, ap, subst, length, arith}
use Rattle.shared_forest.specs.declared.node.Node.{Node}
use Rattle.shared_forest.specs.declared.node.Slot.{Slot}
use Rattle.shared_forest.specs.Listing.{listing_of}
use Rattle.event_trees.specs.ReadOff.{read_off}
use Rattle.event_trees.specs.Remove.{IsPlaceOf}
use Rattle.event_trees.proofs.SlotsInOrder.{slots-tree}
use Rattle.event_trees.proofs.Sparse.{size-nodes}
use Rattle.event_trees.proofs.RemoveTree.{Removed, removed-made, place-there}
use Rattle.event_trees.proofs.remove.tree_without.Goals as goal

pub owner_of-end-requires : goal.owner_of-end-requires
owner_of-end-requires c =
    place-there c.args.number c.args.tree.now.slots (read_off (listing_of c.args.tree.now.nodes c.args.tree.now.slots)) c.place_of-place.result
    (slots-tree c.args.tree.now.nodes c.args.tree.now.slots c.slots-slots.ensures.tree)
    (subst (λ (l : List Slot). IsPlaceOf c.args.number l c.place_of-place.result) c.slots-slots.ensures.slots c.place_of-place.ensures) c.requires.there

pub slots_without-requires : goal.slots_without-requires
slots_without-requires c = omega (
  arith,
  place-there c.args.number c.args.tree.now.slots
      (read_off (listing_of c.args.tree.now.nodes c.args.tree.now.slots)) c.place_of-place.result
      (slots-tree c.args.tree.now.nodes c.args.tree.now.slots c.slots-slots.ensures.tree)
      (subst (λ (l : List Slot). IsPlaceOf c.args.number l c.place_of-place.result) c.slots-slots.ensures.slots c.place_of-place.ensures)
      c.requires.there,
  ap length c.slots-slots.ensures.slots,
)

pub nodes_without-requires-clause-few : goal.nodes_without-requires-clause-few
nodes_without-requires-clause-few c = omega (arith, c.requires.listed.few, ap length c.nodes-nodes.ensures.nodes, size-nodes c.args.tree.now.nodes c.args.tree.now.slots c.requires.listed.canon c.requires.listed.short)

pub new-requires : goal.new-requires
new-requires c =
    (removed-made c.args.tree.now.nodes c.nodes-nodes.result.now c.args.tree.now.slots c.slots-slots.result.now c.place_of-place.result
    c.owner_of-end.result c.kept_before-keep.result c.args.number c.in_ok-fewer.fewer.items c.in_ok-rest.rest.items c.nodes-nodes.ensures.nodes
    c.slots-slots.ensures.slots c.nodes-nodes.ensures.tree c.requires.listed.canon c.requires.listed.order c.requires.listed.distinct c.requires.there
    c.place_of-place.ensures (place-there c.args.number c.args.tree.now.slots (read_off (listing_of c.args.tree.now.nodes c.args.tree.now.slots))
    c.place_of-place.result (slots-tree c.args.tree.now.nodes c.args.tree.now.slots c.slots-slots.ensures.tree)
    (subst (λ (l : List Slot). IsPlaceOf c.args.number l c.place_of-place.result) c.slots-slots.ensures.slots c.place_of-place.ensures)
    c.requires.there) c.owner_of-end.ensures c.kept_before-keep.ensures c.in_ok-fewer.ensures c.in_ok-rest.ensures).tree

pub returns : goal.returns
returns c =
    let made : Removed c.in_ok-fewer.fewer.items c.in_ok-rest.rest.items c.args.number (read_off (listing_of c.args.tree.now.nodes c.args.tree.now.slots)) =
    removed-made c.args.tree.now.nodes c.nodes-nodes.result.now c.args.tree.now.slots c.slots-slots.result.now c.place_of-place.result
    c.owner_of-end.result c.kept_before-keep.result c.args.number c.in_ok-fewer.fewer.items c.in_ok-rest.rest.items c.nodes-nodes.ensures.nodes
    c.slots-slots.ensures.slots c.nodes-nodes.ensures.tree c.requires.listed.canon c.requires.listed.order c.requires.listed.distinct c.requires.there
    c.place_of-place.ensures (place-there c.args.number c.args.tree.now.slots (read_off (listing_of c.args.tree.now.nodes c.args.tree.now.slots))
    c.place_of-place.result (slots-tree c.args.tree.now.nodes c.args.tree.now.slots c.slots-slots.ensures.tree)
    (subst (λ (l : List Slot). IsPlaceOf c.args.number l c.place_of-place.result) c.slots-slots.ensures.slots c.place_of-place.ensures)
    c.requires.there) c.owner_of-end.ensures c.kept_before-keep.ensures c.in_ok-fewer.ensures c.in_ok-rest.ensures in
    ap (λ (l : List Node). listing_of l c.new.result.slots) c.new.ensures.nodes ∙ (ap (λ (l : List Slot). listing_of c.in_ok-fewer.fewer.items l) c.new.ensures.slots ∙ made.listed)
