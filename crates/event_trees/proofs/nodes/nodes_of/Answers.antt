use Rattle.std.proofs.Common.{◌≡◌, ◌+◌, ◌∙◌, ◌++◌, [], ◌∷◌, List, ℕ, sym, ap, subst, take, drop, get_or, length, arith}
use Rattle.std.proofs.lemmas.List.{length-map}
use Rattle.shared_forest.specs.declared.node.Node.{Node}
use Rattle.shared_forest.specs.declared.node.Slot.{Slot}
use Rattle.shared_forest.specs.Layout.{IsTree}
use Rattle.shared_forest.specs.Listing.{listing_of}
use Rattle.event_trees.specs.declared.placed.PlacedReg.{PlacedReg}
use Rattle.event_trees.specs.EventPath.{path_of}
use Rattle.event_trees.proofs.Rises.{Rises}
use Rattle.event_trees.specs.Canon.{Placed, canon_of}
use Rattle.std.specs.List.Sorted.{IsStrictlySortedBy}
use Rattle.event_trees.specs.Edit.{placed_cmp}
use Rattle.event_trees.specs.Build.{seen, all_seen, seen_slots, fresh_nodes, bumped, counted}
use Rattle.event_trees.proofs.Built.{Built, built-none, built-room_turn, built-turn, built-all, built-tree, built-listing, lent_back, counted-length, bumped-length, top_node}
use Rattle.event_trees.proofs.InOrder.{strict-rises, canon-order}
use Rattle.event_trees.proofs.nodes.nodes_of.Goals as goal

pub loop-i-init : goal.loop-i-init
loop-i-init c =
    let slots : List Slot = seen_slots c.args.regs.now in
    let empty : path_of c.empty-last.result ≡ [] = c.empty-last.ensures in
    let items : c.push.new.self.items ≡ top_node ∷ [] = c.in_ok-push.ensures.items ∙ ap (λ (l : List Node). l ++ top_node ∷ []) c.new-nodes.ensures.items in (
      subst (λ (q : List ℕ). Built slots [] q c.push.new.self.items) (sym empty) (subst (λ (l : List Node). Built slots [] [] l) (sym items) (built-none slots)),
      subst (λ (q : List ℕ). Rises q (all_seen c.args.regs.now)) (sym empty) (strict-rises (all_seen c.args.regs.now) c.requires.order),
    )

pub count_last-requires-clause-room : goal.count_last-requires-clause-room
count_last-requires-clause-room c =
    let pushed : c.deref_mut.result.now ≡ c.loop-i.nodes.items ++ fresh_nodes c.loop-i.i c.events.result.now c.events-in-loop-i.result.now = c.deref_mut.ensures.value ∙ c.in_ok-push_nodes.ensures in
    omega (
      arith,
      built-room_turn c.args.regs.now c.loop-i.i (path_of c.loop-i.last) c.events.result.now c.events-in-loop-i.result.now
          c.loop-i.nodes.items c.deref_mut.result.now (record { event = 0; depth = 0; below = 0; first = 0; count = 0 }) (omega arith)
          c.events.ensures.events pushed c.loop-i.invariant.0,
    )

pub loop-i-preserved : goal.loop-i-preserved
loop-i-preserved c =
    let after : List Node = c.count_last.new.nodes in
    let bump : after ≡ bumped c.push_nodes.new.nodes.items = c.count_last.ensures ∙ ap bumped c.deref_mut.ensures.value in
    let long : length after ≡ c.push_nodes.new.nodes.len = omega (arith, ap length bump, bumped-length c.push_nodes.new.nodes.items, c.push_nodes.new.nodes.ok.0) in
    let back : take c.push_nodes.new.nodes.len (after ++ drop (length after) c.push_nodes.new.nodes.items) ≡ after = lent_back c.push_nodes.new.nodes.len after c.push_nodes.new.nodes.items long in
    let turn = built-turn c.args.regs.now c.loop-i.i c.index-regs-i.result (path_of c.loop-i.last) c.events.result.now c.events-in-loop-i.result.now
    c.loop-i.nodes.items c.push_nodes.new.nodes.items after (omega arith) c.events.ensures.events c.events-in-loop-i.ensures.events
    c.events-in-loop-i.ensures.within c.in_ok-push_nodes.ensures bump c.loop-i.invariant.0 c.loop-i.invariant.1 in (
      subst (λ (l : List Node). Built (seen_slots c.args.regs.now) (take (c.loop-i.i + 1) (all_seen c.args.regs.now))
          (path_of (get_or c.args.regs.now c.loop-i.i c.index-regs-i.result).path) l) (sym back) turn.0,
      turn.1,
    )

built-end : (regs : List PlacedReg) (i : ℕ) (q : List ℕ) (nodes after : List Node) → i ≡ length regs → after ≡ counted nodes
    → IsStrictlySortedBy placed_cmp (all_seen regs) → Built (seen_slots regs) (take i (all_seen regs)) q nodes → IsTree after (seen_slots regs)
    × (listing_of after (seen_slots regs) ≡ canon_of (all_seen regs))
built-end regs i q nodes after is count order b =
    let all : List Placed = all_seen regs in
    let long : length all ≡ length regs = length-map regs seen in
    let whole : Built (seen_slots regs) all q nodes = built-all (seen_slots regs) all q nodes (subst (λ (k : ℕ). Built (seen_slots regs) (take k all) q nodes) (is ∙ sym long) b) in
    let slots : length all ≡ length (seen_slots regs) = long ∙ sym (length-map regs (λ (r : PlacedReg). r.slot)) in (
      subst (λ (l : List Node). IsTree l (seen_slots regs)) (sym count) (built-tree (seen_slots regs) all q nodes whole slots (canon-order all order)),
      ap (λ (l : List Node). listing_of l (seen_slots regs)) count ∙ built-listing (seen_slots regs) all q nodes whole,
    )

returned : (n : ℕ) (new items lent : List Node) → n ≡ length items → new ≡ counted lent → lent ≡ items → take n (new ++ drop (length new) items) ≡ counted items
returned n new items lent len is same =
    let count : new ≡ counted items = is ∙ ap counted same in
    lent_back n new items (omega (arith, ap length count, counted-length items)) ∙ count

pub returns-clause-tree : goal.returns-clause-tree
returns-clause-tree c =
    let at_end : c.loop-i.i ≡ length c.args.regs.now = omega arith in
    let back = returned c.loop-i.nodes.len c.count_below.new.nodes c.loop-i.nodes.items c.deref_mut-2.result.now c.loop-i.nodes.ok.0 c.count_below.ensures c.deref_mut-2.ensures.value in
    (built-end c.args.regs.now c.loop-i.i (path_of c.loop-i.last) c.loop-i.nodes.items
    (take c.loop-i.nodes.len (c.count_below.new.nodes ++ drop (length c.count_below.new.nodes) c.loop-i.nodes.items)) at_end back c.requires.order c.loop-i.invariant.0).0

pub returns-clause-listing : goal.returns-clause-listing
returns-clause-listing c =
    let at_end : c.loop-i.i ≡ length c.args.regs.now = omega arith in
    let back = returned c.loop-i.nodes.len c.count_below.new.nodes c.loop-i.nodes.items c.deref_mut-2.result.now c.loop-i.nodes.ok.0 c.count_below.ensures c.deref_mut-2.ensures.value in
    (built-end c.args.regs.now c.loop-i.i (path_of c.loop-i.last) c.loop-i.nodes.items
    (take c.loop-i.nodes.len (c.count_below.new.nodes ++ drop (length c.count_below.new.nodes) c.loop-i.nodes.items)) at_end back c.requires.order c.loop-i.invariant.0).1
