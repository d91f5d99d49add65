use Rattle.std.proofs.Common.{◌≡◌, ◌≤◌, ◌+◌, ◌∙◌, ◌++◌, [], List, ℕ, Bool, subst, sym, ap, arith, take, drop, length}
use Rattle.std.specs.List.{Contains}
use Rattle.shared_forest.specs.declared.node.Slot.{Slot}
use Rattle.shared_forest.specs.declared.node.Node.{Node}
use Rattle.shared_forest.specs.Listing.{slots_of}
use Rattle.event_trees.specs.Walk.{keeps, called, walked}
use Rattle.event_trees.specs.Place.{pending_at}
use Rattle.event_trees.proofs.Walks.{come-step, node-within}
use Rattle.event_trees.proofs.walk.next_called_in.Goals as goal

pub loop-number-preserved : goal.loop-number-preserved
loop-number-preserved g c =
    let keep : ℕ → Bool = keeps c.args.question.now.defs.now c.args.question.now.facts.now c.args.question.now.root in
    let tree = c.args.tree.now in
    let p = c.loop-number.place in
    let q = c.of-place.result in
    let n = c.in_ok-node.node in
    let slots_are : c.slots-slots.result.now ≡ tree.slots = c.slots-slots.ensures.slots in
    let nodes_are : c.nodes-nodes.result.now ≡ tree.nodes = c.nodes-nodes.ensures.nodes in
    let none : called c.args.hook (pending_at tree.slots p) ≡ [] = subst (λ (s : List Slot). called c.args.hook (drop p.slot (take p.end s)) ≡ []) slots_are c.in_default.ensures.none in
    let here : walked keep c.args.hook 0 (drop p.node tree.nodes) tree.slots ≡ called c.args.hook (slots_of n tree.slots) ++ walked keep c.args.hook 0 (drop c.in_ok-node.after tree.nodes) tree.slots =
    subst (λ (l : List Node). walked keep c.args.hook 0 (drop p.node l) tree.slots ≡ called c.args.hook (slots_of n tree.slots) ++ walked keep
    c.args.hook 0 (drop c.in_ok-node.after l) tree.slots) nodes_are (c.in_ok-node.ensures.some c.args.hook tree.slots) in
    let next : walked keep c.args.hook 0 (drop p.node tree.nodes) tree.slots ≡ called c.args.hook (slots_of n tree.slots) ++ walked keep c.args.hook 0 (drop q.node tree.nodes) tree.slots =
    subst (λ (k : ℕ). walked keep c.args.hook 0 (drop p.node tree.nodes) tree.slots ≡ called c.args.hook (slots_of n tree.slots) ++ walked keep
    c.args.hook 0 (drop k tree.nodes) tree.slots) (sym c.of-place.ensures.node) here in
    let held : Contains tree.nodes n = subst (λ (l : List Node). Contains l n) nodes_are c.in_ok-node.ensures.node in
    let within : n.first + n.count ≤ length tree.slots = node-within tree.nodes tree.slots n c.slots-slots.ensures.tree held in (
      omega (arith, within, ap length slots_are, c.of-place.ensures.end),
      come-step keep c.args.hook tree p q n none next c.of-place.ensures.slot c.of-place.ensures.end ∙ c.loop-number.invariant.1,
    )
