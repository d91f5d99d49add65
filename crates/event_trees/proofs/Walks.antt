-- Steps of a walk.
use Rattle.std.proofs.Common.{◌≡◌, ℕ, zero, suc, ◌+◌, ◌<◌, ◌≤◌, Bool, false, cond, List, [], ◌∷◌, ◌++◌, length, take, drop, get_or, refl, sym, ap, ◌∙◌, arith, ⊎_elim}
use Rattle.std.proofs.lemmas.List.{drop_more, drop-drop, drop-take, get_or_past}
use Rattle.std.specs.List.{AllByRecursion, Contains}
use Rattle.std.proofs.lemmas.List.Elements.{All-contains, All-from_recursion, Contains-get_or}
use Rattle.std.proofs.lemmas.Bool.{cases_lt}
use Rattle.shared_forest.specs.Layout.{ArePacked, IsTree}
use Rattle.native_filters.specs.declared.facts.Hook.{Hook}
use Rattle.shared_forest.specs.declared.node.Node.{Node}
use Rattle.shared_forest.specs.declared.node.Slot.{Slot}
use Rattle.shared_forest.specs.Listing.{slots_of}
use Rattle.shared_forest.specs.Lists.{TreeLists}
use Rattle.event_trees.specs.Walk.{called, walked}
use Rattle.event_trees.specs.declared.place.Place.{Place}
use Rattle.event_trees.specs.Place.{pending_at, come}

pub walked-skip : (keep : ℕ → Bool) (hook : Hook) (skip : ℕ) (ns : List Node) (slots : List Slot) → walked keep hook skip ns slots ≡ walked keep hook 0 (drop skip ns) slots
walked-skip keep hook zero ns slots = refl
walked-skip keep hook (suc skip) [] slots = refl
walked-skip keep hook (suc skip) (n ∷ ns) slots = walked-skip keep hook skip ns slots

-- a node that doesn't pass is left out with those under it
pub walked-left_out : (keep : ℕ → Bool) (hook : Hook) (ns : List Node) (i next : ℕ) (d : Node) (slots : List Slot) → i < length ns
    → keep (get_or ns i d).event ≡ false → next ≡ i + 1 + (get_or ns i d).below → walked keep hook 0 (drop next ns) slots ≡ walked keep hook 0 (drop i ns) slots
walked-left_out keep hook ns i next d slots within fails is =
    let n : Node = get_or ns i d in
    let rest : List Node = drop (i + 1) ns in
    let at : drop i ns ≡ n ∷ rest = drop_more ns i d within in
    let on : drop n.below rest ≡ drop next ns = drop-drop n.below (i + 1) ns ∙ ap (λ (k : ℕ). drop k ns) (sym is) in
    let left : walked keep hook 0 (n ∷ rest) slots ≡ walked keep hook n.below rest slots = ap
    (λ (b : Bool). cond b (called hook (slots_of n slots) ++ walked keep hook 0 rest slots) (walked keep hook n.below rest slots)) fails in
    sym (ap (λ (l : List Node). walked keep hook 0 l slots) at ∙ (left ∙ (walked-skip keep hook n.below rest slots ∙ ap (λ (l : List Node). walked keep hook 0 l slots) on)))

pub packed-le : (place : ℕ) (ns : List Node) (end : ℕ) → ArePacked place ns end → place ≤ end
packed-le place [] end h = omega arith
packed-le place (n ∷ ns) end h = omega (arith, packed-le (place + n.count) ns end h.1)

pub packed-within : (place : ℕ) (ns : List Node) (end : ℕ) → ArePacked place ns end → AllByRecursion (λ n. n.first + n.count ≤ end) ns
packed-within place [] end h = tt
packed-within place (n ∷ ns) end h = (omega (arith, h.0, packed-le (place + n.count) ns end h.1), packed-within (place + n.count) ns end h.1)

-- the registrations of a tree's node are there
pub node-within : (nodes : List Node) (slots : List Slot) (n : Node) → IsTree nodes slots → Contains nodes n → n.first + n.count ≤ length slots
node-within nodes slots n tree held = All-contains (λ m. m.first + m.count ≤ length slots) nodes n
    (All-from_recursion (λ m. m.first + m.count ≤ length slots) nodes (packed-within 0 nodes (length slots) tree.packed)) held

-- the place at a node's registrations
pub pending-node : (slots : List Slot) (n : Node) (end : ℕ) → end ≡ n.first + n.count → drop n.first (take end slots) ≡ slots_of n slots
pending-node slots n end is = ap (λ (k : ℕ). drop n.first (take k slots)) is ∙ drop-take n.first n.count slots

-- a node's registrations are given, and the next node passes
pub come-step : (keep : ℕ → Bool) (hook : Hook) (tree : TreeLists) (p q : Place) (n : Node) → called hook (pending_at tree.slots p) ≡ []
    → walked keep hook 0 (drop p.node tree.nodes) tree.slots ≡ called hook (slots_of n tree.slots) ++ walked keep hook 0 (drop q.node tree.nodes)
    tree.slots → q.slot ≡ n.first → q.end ≡ n.first + n.count → come keep hook tree q ≡ come keep hook tree p
come-step keep hook tree p q n none next at end =
    let pending : pending_at tree.slots q ≡ slots_of n tree.slots = ap (λ (k : ℕ). drop k (take q.end tree.slots)) at ∙ pending-node tree.slots n q.end end in
    ap (λ (l : List Slot). called hook l ++ walked keep hook 0 (drop q.node tree.nodes) tree.slots) pending
    ∙ (sym next ∙ sym (ap (λ (l : List ℕ). l ++ walked keep hook 0 (drop p.node tree.nodes) tree.slots) none))

-- the same at a place; past the end there is a node without registrations
pub node-at_within : (nodes : List Node) (slots : List Slot) (i : ℕ) (d : Node) → IsTree nodes slots → d.first + d.count ≡ 0 → (get_or nodes i d).first + (get_or nodes i d).count ≤ length slots
node-at_within nodes slots i d tree none =
    ⊎_elim (λ l. node-within nodes slots (get_or nodes i d) tree (Contains-get_or nodes i d l))
    (λ g. let past : get_or nodes i d ≡ d = get_or_past nodes i d g in omega (arith, ap (λ (n : Node). n.first + n.count) past)) (cases_lt i (length nodes))
