-- Not of the headline. The laws of trees as keys: the test is an equivalence, and what it finds equal has one hash.
use Rattle.std.proofs.Common.{◌≡◌, ◌==◌, ◌&&◌, Bool, true≢false, refl, sym, ap, ◌∙◌}
use Rattle.std.specs.Bool.{Decides, IsTrue}
use Rattle.std.specs.Cmp.{IsEquivalence, both_ways, unsigned_Decides}
use Rattle.std.specs.Cmp.Lexicographic.{pointwise_decides}
use Rattle.std.proofs.lemmas.Bool.Decides.{Decides-and, Decides-like}
use Rattle.native_filters.specs.declared.facts.Hook.{Hook}
use Rattle.native_filters.specs.declared.facts.Hook.TheVariants.{Snd, Rcv}
use Rattle.native_filters.specs.contracts.facts.HookPartialEq.TheImpl.{ghosts as hook_test}
use Rattle.shared_forest.specs.declared.node.Node.{Node}
use Rattle.shared_forest.specs.declared.node.Slot.{Slot}
use Rattle.shared_forest.specs.contracts.node.NodePartialEq.TheImpl.{ghosts as node_test}
use Rattle.shared_forest.specs.contracts.node.SlotPartialEq.TheImpl.{ghosts as slot_test}
use Rattle.shared_forest.specs.Lists.{TreeLists}
use Rattle.native_filters.specs.Hook.{is_hook}
use Rattle.shared_forest.specs.Key.{same_node, same_slot, same_tree, node_fed, slot_fed, tree_fed}

-- each test decides whether two are the same
is_hook-Decides : (a b : Hook) → Decides (is_hook a b) (a ≡ b)
is_hook-Decides Snd Snd = (λ _. refl, λ _. refl)
is_hook-Decides Rcv Rcv = (λ _. refl, λ _. refl)
is_hook-Decides Snd Rcv = (λ e. absurd (true≢false (sym e)), λ e. ap (is_hook Snd) (sym e))
is_hook-Decides Rcv Snd = (λ e. absurd (true≢false (sym e)), λ e. ap (is_hook Rcv) (sym e))

same_node-Decides : (a b : Node) → Decides (same_node a b) (a ≡ b)
same_node-Decides a b =
    Decides-like (same_node a b)
    (λ e i. record { event = e.0 i; depth = e.1.0 i; below = e.1.1.0 i; first = e.1.1.1.0 i; count = e.1.1.1.1 i })
    (λ e. (ap (λ n. n.event) e, (ap (λ n. n.depth) e, (ap (λ n. n.below) e, (ap (λ n. n.first) e, ap (λ n. n.count) e)))))
    (Decides-and _ _ (unsigned_Decides a.event b.event) (Decides-and _ _ (unsigned_Decides a.depth b.depth)
    (Decides-and _ _ (unsigned_Decides a.below b.below) (Decides-and _ _ (unsigned_Decides a.first b.first) (unsigned_Decides a.count b.count)))))

same_slot-Decides : (a b : Slot) → Decides (same_slot a b) (a ≡ b)
same_slot-Decides a b =
    Decides-like (same_slot a b) (λ e i. record { number = e.0 i; hook = e.1 i }) (λ e. (ap (λ s. s.number) e, ap (λ s. s.hook) e))
    (Decides-and _ _ (unsigned_Decides a.number b.number) (is_hook-Decides a.hook b.hook))

pub same_tree-Decides : (a b : TreeLists) → Decides (same_tree a b) (a ≡ b)
same_tree-Decides a b =
    Decides-like (same_tree a b) (λ e i. record { nodes = e.0 i; slots = e.1 i }) (λ e. (ap (λ t. t.nodes) e, ap (λ t. t.slots) e))
    (Decides-and _ _ (pointwise_decides same_node-Decides a.nodes b.nodes) (pointwise_decides same_slot-Decides a.slots b.slots))

-- a test that decides is an equivalence
deciding_equiv : {K : Type 0} {E : K → K → Bool} → ((a b : K) → Decides (E a b) (a ≡ b)) → IsEquivalence E
deciding_equiv {K} {E} same = record {
  refl = λ x. (same x x).1 refl;
  symm = λ x y. both_ways (E x y) (E y x) (λ e. (same y x).1 (sym ((same x y).0 e))) (λ e. (same x y).1 (sym ((same y x).0 e)));
  congr = λ x y z e. ap (λ k. E k z) ((same x y).0 e);
}

pub same_tree-equiv : IsEquivalence same_tree
same_tree-equiv = deciding_equiv same_tree-Decides

-- what `==` of two sides computes
hook_test-is_hook : (a b : Hook) → hook_test.eq a b ≡ is_hook a b
hook_test-is_hook Snd Snd = refl
hook_test-is_hook Rcv Rcv = refl
hook_test-is_hook Snd Rcv = refl
hook_test-is_hook Rcv Snd = refl

pub node_alike : (a b : Node) → IsTrue (node_test.eq a b) → node_fed a ≡ node_fed b
node_alike a b e = ap node_fed ((same_node-Decides a b).0 e)

pub slot_alike : (a b : Slot) → IsTrue (slot_test.eq a b) → slot_fed a ≡ slot_fed b
slot_alike a b e = ap slot_fed ((same_slot-Decides a b).0 (ap (λ h. a.number == b.number && h) (sym (hook_test-is_hook a.hook b.hook)) ∙ e))

pub tree_alike : (a b : TreeLists) → IsTrue (same_tree a b) → tree_fed a ≡ tree_fed b
tree_alike a b e = ap tree_fed ((same_tree-Decides a b).0 e)
