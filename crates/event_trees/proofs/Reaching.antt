-- How far a path leads in a tree, node by node.
use Rattle.std.proofs.Common.{◌≡◌, ℕ, zero, suc, ◌+◌, ◌-◌, ◌<◌, ◌≤◌, List, [], ◌∷◌, ◌++◌, length, take, drop, get_or, sym, ap, subst, ◌∙◌, arith}
use Rattle.std.specs.declared.cmp.Ordering.TheVariants.{Less}
use Rattle.std.proofs.lemmas.List.{drop_more, take_more}
use Rattle.shared_forest.specs.declared.node.Node.{Node}
use Rattle.shared_forest.specs.Layout.{AreLaidOut}
use Rattle.shared_forest.specs.Listing.{path_after}
use Rattle.event_trees.specs.Private.{path_cmp}
use Rattle.event_trees.specs.Build.{common}
use Rattle.event_trees.specs.Insert.{IsUpTo, last_path, IsReach}
use Rattle.event_trees.proofs.Reach.{common-right, later-under, later-greater, on-path, off-path, past-path, Next}
use Rattle.event_trees.proofs.Built.{length-path_after}
use Rattle.event_trees.proofs.InsertPaths.{end_path-append}

-- ---- one node
-- a node that stands deeper than what the paths have in common
pub depth-past : (n : Node) (path : List ℕ) (depth : ℕ) → depth < n.depth - 1 → (before : List ℕ) → IsUpTo before path → depth ≡ common before path
    → n.depth ≤ length before + 1 → IsUpTo (path_after before n) path × (depth ≡ common (path_after before n) path)
depth-past n path depth past before le is near =
    let next : Next (take (n.depth - 1) before ++ n.event ∷ []) path (common before path) = past-path (n.depth - 1) n.event before path le (omega (arith, past, is)) (omega (arith, near)) in
    (next.up_to, is ∙ next.shared)

pub depth-on : (n : Node) (path : List ℕ) (depth : ℕ) → n.depth - 1 ≤ depth → n.depth - 1 < length path → get_or path (n.depth - 1) 0 ≡ n.event
    → (before : List ℕ) → IsUpTo before path → depth ≡ common before path → n.depth ≤ length before + 1 → IsUpTo (path_after before n) path
    × ((n.depth - 1) + 1 ≡ common (path_after before n) path)
depth-on n path depth near within same before le is _ =
    let next : Next (take (n.depth - 1) before ++ n.event ∷ []) path ((n.depth - 1) + 1) = on-path (n.depth - 1) n.event before path (omega (arith, near, is)) within (sym same) in
    (next.up_to, next.shared)

pub depth-off : (n : Node) (path : List ℕ) (depth : ℕ) → n.depth - 1 ≤ depth → n.depth - 1 < length path → n.event < get_or path (n.depth - 1) 0
    → (before : List ℕ) → IsUpTo before path → depth ≡ common before path → n.depth ≤ length before + 1 → IsUpTo (path_after before n) path
    × (n.depth - 1 ≡ common (path_after before n) path)
depth-off n path depth near within less before le is _ =
    let next : Next (take (n.depth - 1) before ++ n.event ∷ []) path (n.depth - 1) = off-path (n.depth - 1) n.event before path (omega (arith, near, is)) within less in
    (next.up_to, next.shared)

pub later-whole : (n : Node) (path : List ℕ) (depth : ℕ) → n.depth - 1 ≤ depth → n.depth - 1 ≡ length path → (before : List ℕ) → IsUpTo before path
    → depth ≡ common before path → path_cmp path (path_after before n) ≡ Less
later-whole n path depth near all before le is = later-under (n.depth - 1) n.event before path (omega (arith, near, is)) all

pub later-event : (n : Node) (path : List ℕ) (depth : ℕ) → n.depth - 1 ≤ depth → n.depth - 1 < length path → get_or path (n.depth - 1) 0 < n.event
    → (before : List ℕ) → IsUpTo before path → depth ≡ common before path → path_cmp path (path_after before n) ≡ Less
later-event n path depth near within greater before le is = later-greater (n.depth - 1) n.event before path (omega (arith, near, is)) within greater

-- ---- the nodes so far
pub record Reaching (nodes : List Node) (path : List ℕ) (i depth : ℕ) : Type 0 where
  pub up_to : IsUpTo (last_path (take i nodes)) path
  pub shared : depth ≡ common (last_path (take i nodes)) path
  pub laid : AreLaidOut (length (last_path (take i nodes))) (drop i nodes)

pub last-more : (nodes : List Node) (i : ℕ) (d : Node) → 1 ≤ i → i < length nodes → last_path (take (i + 1) nodes) ≡ path_after (last_path (take i nodes)) (get_or nodes i d)
last-more [] i d low within = absurd (omega (arith, within))
last-more (top ∷ ns) zero d low within = absurd (omega (arith, low))
last-more (top ∷ ns) (suc i) d low within =
    ap last_path (take_more (top ∷ ns) (suc i) d within) ∙ end_path-append [] (take i ns) (get_or ns i d ∷ [])

at_node : (nodes : List Node) (path : List ℕ) (i depth : ℕ) (d : Node) → i < length nodes → Reaching nodes path i depth
    → AreLaidOut (length (last_path (take i nodes))) (get_or nodes i d ∷ drop (i + 1) nodes)
at_node nodes path i depth d within r = subst (AreLaidOut (length (last_path (take i nodes)))) (drop_more nodes i d within) r.laid

pub reaching-near : (nodes : List Node) (path : List ℕ) (i depth : ℕ) (d : Node) → i < length nodes → Reaching nodes path i depth → (get_or nodes i d).depth ≤ length (last_path (take i nodes)) + 1
reaching-near nodes path i depth d within r = (at_node nodes path i depth d within r).1

pub reaching-within : (nodes : List Node) (path : List ℕ) (i depth : ℕ) → Reaching nodes path i depth → depth ≤ length path
reaching-within nodes path i depth r = omega (arith, r.shared, common-right (last_path (take i nodes)) path)

pub reaching-next : (nodes : List Node) (path : List ℕ) (i depth next : ℕ) (d : Node) → 1 ≤ i → i < length nodes → Reaching nodes path i depth
    → IsUpTo (path_after (last_path (take i nodes)) (get_or nodes i d)) path
    × (next ≡ common (path_after (last_path (take i nodes)) (get_or nodes i d)) path) → Reaching nodes path (i + 1) next
reaching-next nodes path i depth next d low within r on =
    let n : Node = get_or nodes i d in
    let q : List ℕ = last_path (take i nodes) in
    let at = at_node nodes path i depth d within r in
    let is : path_after q n ≡ last_path (take (i + 1) nodes) = sym (last-more nodes i d low within) in
    record {
      up_to = subst (λ (p : List ℕ). IsUpTo p path) is on.0;
      shared = on.1 ∙ ap (λ (p : List ℕ). common p path) is;
      laid = subst (λ (k : ℕ). AreLaidOut k (drop (i + 1) nodes)) (sym (length-path_after q n at.0 at.1) ∙ ap length is) at.3;
    }

pub reach-here : (nodes : List Node) (path : List ℕ) (i depth : ℕ) (d : Node) → 1 ≤ i → i < length nodes → Reaching nodes path i depth
    → path_cmp path (path_after (last_path (take i nodes)) (get_or nodes i d)) ≡ Less → IsReach nodes path i depth
reach-here nodes path i depth d low within r later = record {
  low = low;
  within = omega (arith, within);
  up_to = r.up_to;
  shared = r.shared;
  later = λ _. ap (path_cmp path) (last-more nodes i d low within) ∙ later;
}
