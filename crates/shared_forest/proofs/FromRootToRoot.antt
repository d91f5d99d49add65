-- A tree from one root to the next.
use Rattle.std.proofs.Common.{◌≡◌, ℕ, zero, suc, ◌+◌, ◌-◌, ◌<◌, ◌≤◌, true, false, cond, List, [], ◌∷◌, ◌++◌, length, get_or, take, drop, refl, sym, ap, subst, ◌∙◌, arith}
use Rattle.std.specs.Prelude.{nat_lt}
use Rattle.std.proofs.lemmas.Bool.Decides.{nat_tests}
use Rattle.std.proofs.lemmas.List.{drop_more, drop-drop}
use Rattle.shared_forest.specs.declared.node.Node.{Node}
use Rattle.shared_forest.specs.declared.node.Slot.{Slot}
use Rattle.shared_forest.specs.Layout.{under, AreLaidOut, ArePacked, AreTopped}
use Rattle.shared_forest.specs.Listing.{path_after}
use Rattle.shared_forest.proofs.OneListing.{packed-le}

-- the nodes under a root are left out, and a root comes next
pub laid-rest : (depth : ℕ) (ns : List Node) → AreLaidOut depth ns → AreLaidOut 0 (drop (under 1 ns) ns)
laid-rest depth [] laid = tt
laid-rest depth (n ∷ ns) laid =
    elim (nat_lt 1 n.depth) as (λ b. nat_lt 1 n.depth ≡ b → AreLaidOut 0 (drop (cond b (under 1 ns + 1) 0) (n ∷ ns))) [
      | true ↦ λ is. let count : suc (under 1 ns) ≡ under 1 ns + 1 = omega arith in subst (λ (k : ℕ). AreLaidOut 0 (drop k (n ∷ ns))) count (laid-rest n.depth ns laid.3)
      | false ↦ λ is. let low : n.depth ≤ 0 + 1 = grind (arith, nat_tests) in (laid.0, low, laid.2, laid.3)
    ] refl

pub packed-rest : (place : ℕ) (ns : List Node) (end count : ℕ) → ArePacked place ns end → (p : ℕ) × ArePacked p (drop count ns) end
packed-rest place ns end zero packed = (place, packed)
packed-rest place [] end (suc count) packed = (place, packed)
packed-rest place (n ∷ ns) end (suc count) packed = packed-rest (place + n.count) ns end count packed.1

pub packed-up : (place p : ℕ) (ns : List Node) (end count : ℕ) → ArePacked place ns end → ArePacked p (drop count ns) end → place ≤ p
packed-up place p [] end zero packed rest = omega (arith, packed, rest)
packed-up place p (n ∷ ns) end zero packed rest = omega (arith, packed.0, rest.0)
packed-up place p [] end (suc count) packed rest = omega (arith, packed, rest)
packed-up place p (n ∷ ns) end (suc count) packed rest = omega (arith, packed-up (place + n.count) p ns end count packed.1 rest)

-- the path of a node that stands under a root's: what follows the root's event
abbrev pub deeper : List ℕ → Node → List ℕ
deeper p n = take (n.depth - 2) p ++ n.event ∷ []

pub under-root : (e : ℕ) (p : List ℕ) (n : Node) → nat_lt 1 n.depth ≡ true → path_after (e ∷ p) n ≡ e ∷ deeper p n
under-root e p n is =
    let deep : n.depth - 1 ≡ suc (n.depth - 2) = grind (arith, nat_tests) in
    ap (λ (k : ℕ). take k (e ∷ p) ++ n.event ∷ []) deep

-- ---- the loop over the roots

abbrev pub no_node : Node
no_node = record { event = 0; depth = 0; below = 0; first = 0; count = 0 }

pub start-laid : (nodes : List Node) → AreTopped nodes → AreLaidOut 0 (drop 1 nodes)
start-laid [] topped = absurd topped
start-laid (top ∷ ns) topped = topped.3

pub next-is : (nodes : List Node) (at : ℕ) → at < length nodes
    → drop (at + 1 + (get_or nodes at no_node).below) nodes ≡ drop (get_or nodes at no_node).below (drop (at + 1) nodes)
next-is nodes at within = sym (drop-drop (get_or nodes at no_node).below (at + 1) nodes)

-- a root is next, whose registrations begin where those of the nodes before it end
pub record Boundary (nodes : List Node) (slots : List Slot) (at to : ℕ) : Type 0 where
  pub laid : AreLaidOut 0 (drop (at + 1 + (get_or nodes at no_node).below) nodes)
  pub packed : ArePacked to (drop (at + 1 + (get_or nodes at no_node).below) nodes) (length slots)
  pub low : (get_or nodes at no_node).first ≤ to
  pub high : to ≤ length slots

pub next : (nodes : List Node) (slots : List Slot) (at place : ℕ) → at < length nodes → AreLaidOut 0 (drop at nodes) → ArePacked place (drop at nodes) (length slots)
    → (to : ℕ) × Boundary nodes slots at to
next nodes slots at place within laid packed =
    let n : Node = get_or nodes at no_node in
    let ns : List Node = drop (at + 1) nodes in
    let here : drop at nodes ≡ n ∷ ns = drop_more nodes at no_node within in
    let there : drop n.below ns ≡ drop (at + 1 + n.below) nodes = sym (next-is nodes at within) in
    let laid_here : AreLaidOut 0 (n ∷ ns) = subst (AreLaidOut 0) here laid in
    let packed_here : ArePacked place (n ∷ ns) (length slots) = subst (λ (l : List Node). ArePacked place l (length slots)) here packed in
    let one : n.depth ≡ 1 = omega (arith, laid_here.0, laid_here.1) in
    let under_it : under 1 ns ≡ n.below = sym (laid_here.2 ∙ ap (λ (d : ℕ). under d ns) one) in
    let left : AreLaidOut 0 (drop n.below ns) = subst (λ (k : ℕ). AreLaidOut 0 (drop k ns)) under_it (laid-rest n.depth ns laid_here.3) in
    let right = packed-rest (place + n.count) ns (length slots) n.below packed_here.1 in
    let up : place + n.count ≤ right.0 = packed-up (place + n.count) right.0 ns (length slots) n.below packed_here.1 right.1 in (
      right.0,
      record {
        laid = subst (AreLaidOut 0) there left;
        packed = subst (λ (l : List Node). ArePacked right.0 l (length slots)) there right.1;
        low = omega (arith, up, packed_here.0);
        high = packed-le right.0 (drop n.below ns) (length slots) right.1;
      },
    )
