-- Trees of one listing are equal.
use Rattle.std.proofs.Common.{◌≡◌, ℕ, ◌+◌, ◌-◌, ◌≤◌, List, [], ◌∷◌, ◌++◌, length, take, drop, refl, sym, ap, ◌∙◌, arith, rules, subst, zero-add}
use Rattle.std.proofs.lemmas.List.{length-take, length-drop, take-append-drop, drop-drop, drop_all, same_from_push, length_push}
use Rattle.shared_forest.specs.declared.node.Node.{Node}
use Rattle.shared_forest.specs.declared.node.Slot.{Slot}
use Rattle.shared_forest.specs.Lists.{TreeLists}
use Rattle.shared_forest.specs.Layout.{under, AreLaidOut, ArePacked, IsTree}
use Rattle.shared_forest.specs.Listing.{Shown, slots_of, path_after, listing_after, listing_of, listing}

-- the registrations of a listing, one node after the other
abbrev pub all_slots : List Shown → List Slot
all_slots [] = []
all_slots (s ∷ ss) = s.slots ++ all_slots ss

pub packed-le : (place : ℕ) (ns : List Node) (end : ℕ) → ArePacked place ns end → place ≤ end
packed-le place [] end h = omega arith
packed-le place (n ∷ ns) end h = omega (arith, packed-le (place + n.count) ns end h.1)

pub drop-packed : (before : List ℕ) (place : ℕ) (ns : List Node) (slots : List Slot) → ArePacked place ns (length slots) → drop place slots ≡ all_slots (listing_after before ns slots)
drop-packed before place [] slots h = drop_all place slots (omega arith)
drop-packed before place (n ∷ ns) slots h =
    let rest : drop (place + n.count) slots ≡ all_slots (listing_after (path_after before n) ns slots) = drop-packed (path_after before n) (place + n.count) ns slots h.1 in
    let cut : take n.count (drop place slots) ++ drop n.count (drop place slots) ≡ drop place slots = take-append-drop n.count (drop place slots) in
    let on : drop n.count (drop place slots) ≡ drop (place + n.count) slots = drop-drop n.count place slots in
    let at : slots_of n slots ≡ take n.count (drop place slots) = ap (λ (k : ℕ). take n.count (drop k slots)) h.0 in
    sym cut ∙ (ap (λ (l : List Slot). take n.count (drop place slots) ++ l) (on ∙ rest) ∙ ap (λ (l : List Slot). l ++ all_slots (listing_after (path_after before n) ns slots)) (sym at))

pub length-path_after : (before : List ℕ) (n : Node) → 1 ≤ n.depth → n.depth ≤ length before + 1 → length (path_after before n) ≡ n.depth
length-path_after before n low high =
    omega (arith, length_push (take (n.depth - 1) before) n.event, length-take (n.depth - 1) before)

pub length-slots_of : (place : ℕ) (n : Node) (ns : List Node) (slots : List Slot) → ArePacked place (n ∷ ns) (length slots) → length (slots_of n slots) ≡ n.count
length-slots_of place n ns slots h =
    omega (arith, h.0, packed-le (place + n.count) ns (length slots) h.1, length-take n.count (drop n.first slots), length-drop n.first slots)

same_node : (a b : Node) → a.event ≡ b.event → a.depth ≡ b.depth → a.below ≡ b.below → a.first ≡ b.first → a.count ≡ b.count → a ≡ b
same_node a b e d w f c = search (rules, e, d, w, f, c)

tail_path : {A : Type 0} (x y : A) (xs ys : List A) → x ∷ xs ≡ y ∷ ys → xs ≡ ys
tail_path x y xs ys e = cc

head_path : {A : Type 0} (x y : A) (xs ys : List A) → x ∷ xs ≡ y ∷ ys → x ≡ y
head_path x y xs ys e = cc

pub same_nodes : (before : List ℕ) (place : ℕ) (ns ms : List Node) (slots : List Slot) → AreLaidOut (length before) ns → AreLaidOut (length before) ms
    → ArePacked place ns (length slots) → ArePacked place ms (length slots) → listing_after before ns slots ≡ listing_after before ms slots → ns ≡ ms
same_nodes before place [] [] slots ln lm pn pm e = refl
same_nodes before place [] (m ∷ ms) slots ln lm pn pm e = cc
same_nodes before place (n ∷ ns) [] slots ln lm pn pm e = cc
same_nodes before place (n ∷ ns) (m ∷ ms) slots ln lm pn pm e =
    let sn : Shown = record { path = path_after before n; slots = slots_of n slots } in
    let sm : Shown = record { path = path_after before m; slots = slots_of m slots } in
    let ln_rest : List Shown = listing_after (path_after before n) ns slots in
    let lm_rest : List Shown = listing_after (path_after before m) ms slots in
    let head : sn ≡ sm = head_path sn sm ln_rest lm_rest e in
    let tail : ln_rest ≡ lm_rest = tail_path sn sm ln_rest lm_rest e in
    let paths : path_after before n ≡ path_after before m = ap (λ (s : Shown). s.path) head in
    let held : slots_of n slots ≡ slots_of m slots = ap (λ (s : Shown). s.slots) head in
    let dn : length (path_after before n) ≡ n.depth = length-path_after before n ln.0 ln.1 in
    let dm : length (path_after before m) ≡ m.depth = length-path_after before m lm.0 lm.1 in
    let depths : n.depth ≡ m.depth = sym dn ∙ (ap length paths ∙ dm) in
    let events : n.event ≡ m.event = (same_from_push (take (n.depth - 1) before) (take (m.depth - 1) before) n.event m.event paths).1 in
    let firsts : n.first ≡ m.first = pn.0 ∙ sym pm.0 in
    let counts : n.count ≡ m.count = sym (length-slots_of place n ns slots pn) ∙ (ap length held ∙ length-slots_of place m ms slots pm) in
    let rest : ns ≡ ms = same_nodes (path_after before n) (place + n.count) ns ms slots (subst (λ (d : ℕ). AreLaidOut d ns) (sym dn) ln.3)
    (subst (λ (d : ℕ). AreLaidOut d ms) (sym dm ∙ ap length (sym paths)) lm.3) pn.1
    (subst (λ (c : ℕ). ArePacked (place + c) ms (length slots)) (sym counts) pm.1) (tail ∙ ap (λ (p : List ℕ). listing_after p ms slots) (sym paths)) in
    let belows : n.below ≡ m.below = ln.2 ∙ (ap (λ (d : ℕ). under d ns) depths ∙ (ap (λ (l : List Node). under m.depth l) rest ∙ sym lm.2)) in
    let heads : n ≡ m = same_node n m events depths belows firsts counts in
    cc

topped_slots : (n : Node) (ns : List Node) (slots : List Slot) → ArePacked 0 (n ∷ ns) (length slots) → slots ≡ all_slots (listing_of (n ∷ ns) slots)
topped_slots n ns slots h =
    let rest : drop (0 + n.count) slots ≡ all_slots (listing_after [] ns slots) = drop-packed [] (0 + n.count) ns slots h.1 in
    let at : slots_of n slots ≡ take n.count slots = ap (λ (k : ℕ). take n.count (drop k slots)) h.0 in
    let from : drop (0 + n.count) slots ≡ drop n.count slots = ap (λ (k : ℕ). drop k slots) (zero-add n.count) in
    let cut : take n.count slots ++ drop n.count slots ≡ slots = take-append-drop n.count slots in
    sym cut ∙ (ap (λ (l : List Slot). take n.count slots ++ l) (sym from ∙ rest) ∙ ap (λ (l : List Slot). l ++ all_slots (listing_after [] ns slots)) (sym at))

same_lists : (a b : TreeLists) → a.nodes ≡ b.nodes → a.slots ≡ b.slots → a ≡ b
same_lists a b n s = search (rules, n, s)

-- the top nodes are alike but for what they hold, so the registrations are the same, and then the rest
same_slots : (ns ms : List Node) (ss ts : List Slot) → IsTree ns ss → IsTree ms ts → listing_of ns ss ≡ listing_of ms ts → ss ≡ ts
same_slots [] ms ss ts ta tb e = absurd ta.topped
same_slots (n ∷ ns) [] ss ts ta tb e = absurd tb.topped
same_slots (n ∷ ns) (m ∷ ms) ss ts ta tb e =
    let all : all_slots (listing_of (n ∷ ns) ss) ≡ all_slots (listing_of (m ∷ ms) ts) = ap all_slots e in
    topped_slots n ns ss ta.packed ∙ (all ∙ sym (topped_slots m ms ts tb.packed))

same_topped : (ns ms : List Node) (slots : List Slot) → IsTree ns slots → IsTree ms slots → listing_of ns slots ≡ listing_of ms slots → ns ≡ ms
same_topped [] ms slots ta tb e = absurd ta.topped
same_topped (n ∷ ns) [] slots ta tb e = absurd tb.topped
same_topped (n ∷ ns) (m ∷ ms) slots ta tb e =
    let sn : Shown = record { path = []; slots = slots_of n slots } in
    let sm : Shown = record { path = []; slots = slots_of m slots } in
    let head : sn ≡ sm = head_path sn sm (listing_after [] ns slots) (listing_after [] ms slots) e in
    let tail : listing_after [] ns slots ≡ listing_after [] ms slots = tail_path sn sm (listing_after [] ns slots) (listing_after [] ms slots) e in
    let held : slots_of n slots ≡ slots_of m slots = ap (λ (s : Shown). s.slots) head in
    let counts : n.count ≡ m.count = sym (length-slots_of 0 n ns slots ta.packed) ∙ (ap length held ∙ length-slots_of 0 m ms slots tb.packed) in
    let rest : ns ≡ ms = same_nodes [] (0 + n.count) ns ms slots ta.topped.3 tb.topped.3 ta.packed.1 (subst (λ (c : ℕ). ArePacked (0 + c) ms (length slots)) (sym counts) tb.packed.1) tail in
    let heads : n ≡ m = same_node n m (ta.topped.0 ∙ sym tb.topped.0) (ta.topped.1 ∙ sym tb.topped.1) (ta.topped.2 ∙ (ap length rest ∙ sym tb.topped.2)) (ta.packed.0 ∙ sym tb.packed.0) counts in
    cc

pub one_listing : (a b : TreeLists) → IsTree a.nodes a.slots → IsTree b.nodes b.slots → listing a ≡ listing b → a ≡ b
one_listing a b ta tb e =
    let slots : a.slots ≡ b.slots = same_slots a.nodes b.nodes a.slots b.slots ta tb e in
    let nodes : a.nodes ≡ b.nodes = same_topped a.nodes b.nodes a.slots ta (subst (λ (s : List Slot). IsTree b.nodes s) (sym slots) tb) (e
    ∙ ap (λ (s : List Slot). listing_of b.nodes s) (sym slots)) in
    same_lists a b nodes slots
