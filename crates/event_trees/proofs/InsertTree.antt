-- A tree with one registration more, by the place at which the code puts it in.
use Rattle.std.proofs.Common.{◌≡◌, ℕ, zero, suc, ◌+◌, ◌-◌, ◌<◌, ◌≤◌, true, false, cond, List, [], ◌∷◌, ◌++◌, length, take, drop, get_or, refl, sym, ap, subst, ◌∙◌, arith, ⊎_elim}
use Rattle.std.specs.Prelude.{nat_lt}
use Rattle.std.specs.declared.cmp.Ordering.TheVariants.{Less}
use Rattle.std.specs.List.{AllByRecursion, All}
use Rattle.std.specs.List.Sorted.{IsStrictlySortedBy}
use Rattle.std.proofs.lemmas.List.{drop_more, drop_all, length-drop, take-append-drop, take_at}
use Rattle.std.proofs.lemmas.List.Elements.{All-from_recursion, recursion_from_All}
use Rattle.std.proofs.lemmas.Bool.{cases_lt}
use Rattle.std.proofs.lemmas.Bool.Decides.{nat_tests}
use Rattle.shared_forest.specs.declared.node.Node.{Node}
use Rattle.shared_forest.specs.declared.node.Slot.{Slot}
use Rattle.shared_forest.specs.Layout.{under, AreLaidOut, IsTree}
use Rattle.shared_forest.specs.Listing.{path_after, listing_of}
use Rattle.event_trees.specs.Private.{path_cmp}
use Rattle.event_trees.specs.Canon.{Placed, canon_of}
use Rattle.event_trees.specs.Build.{bumped}
use Rattle.event_trees.specs.ReadOff.{read_off}
use Rattle.event_trees.specs.Edit.{placed_cmp, put_placed}
use Rattle.event_trees.specs.Insert.{end_path, last_path, IsReach, IsSpot, chain, raised, moved, with_path}
use Rattle.event_trees.proofs.Built.{bumped-length}
use Rattle.event_trees.proofs.Walks.{packed-le, packed-within}
use Rattle.event_trees.proofs.Reaching.{last-more}
use Rattle.event_trees.proofs.InsertPacked.{packed-front}
use Rattle.event_trees.proofs.InsertListing.{put_at, final}
use Rattle.event_trees.proofs.InsertLaw.{IsLater, IsPlaced, IsTreeOf, inserted, final-end}

pub final-get : (k : ℕ) (n : Node) (ns : List Node) (d : Node) → k ≤ length ns → get_or (n ∷ ns) k d ≡ final n (take k ns)
final-get zero n ns d h = refl
final-get (suc k) n [] d h = absurd (omega (arith, h))
final-get (suc k) n (m ∷ ns) d h = final-get k m ns d (omega (arith, h))

later-drop : (top : Node) (ns : List Node) (k : ℕ) (p : List ℕ) → (suc k < length (top ∷ ns)
    → path_cmp p (last_path (take (suc k + 1) (top ∷ ns))) ≡ Less) → IsLater (end_path [] (take k ns)) p (drop k ns)
later-drop top ns k p later =
    ⊎_elim (λ l.
    let within : suc k < length (top ∷ ns) = omega (arith, l) in
    let next : last_path (take (suc k + 1) (top ∷ ns)) ≡ path_after (end_path [] (take k ns)) (get_or ns k top) = last-more (top ∷ ns) (suc k) top (omega arith) within in
    subst (IsLater (end_path [] (take k ns)) p) (sym (drop_more ns k top l)) (ap (path_cmp p) (sym next) ∙ later within))
    (λ g. subst (IsLater (end_path [] (take k ns)) p) (sym (drop_all k ns g)) tt) (cases_lt k (length ns))

placed-spot : (r : Placed) (c : ℕ) (n : Node) (slots : List Slot) (i : ℕ) → IsSpot r.slot.number (nat_lt c (length r.path)) n slots i → IsPlaced r c n slots i
placed-spot r c n slots i s = record {
  low = s.low;
  high = s.high;
  new = λ h. s.new (let test : nat_lt c (length r.path) ≡ true = grind (arith, nat_tests) in test);
  old = λ h. s.old (let test : nat_lt c (length r.path) ≡ false = grind (arith, nat_tests) in test);
}

pub tree-inserted : (nodes : List Node) (slots : List Slot) (r : Placed) (node depth first place : ℕ) (d : Node) → IsTree nodes slots
    → listing_of nodes slots ≡ canon_of (read_off (listing_of nodes slots))
    → IsStrictlySortedBy placed_cmp (put_placed r (read_off (listing_of nodes slots))) → IsReach nodes r.path node depth
    → IsSpot r.slot.number (nat_lt depth (length r.path)) (get_or nodes (node - 1) d) slots place
    → first ≡ (get_or nodes (node - 1) d).first + (get_or nodes (node - 1) d).count
    → IsTreeOf (with_path node depth first r.path nodes) (put_at place r.slot slots) (put_placed r (read_off (listing_of nodes slots)))
tree-inserted [] slots r node depth first place d tree canon order reach spot is = absurd tree.topped
tree-inserted (top ∷ ns) slots r zero depth first place d tree canon order reach spot is = absurd (omega (arith, reach.low))
tree-inserted (top ∷ ns) slots r (suc k) depth first place d tree canon order reach spot is =
    let fs : List Node = take k ns in
    let bs : List Node = drop k ns in
    let split : fs ++ bs ≡ ns = take-append-drop k ns in
    let at : suc k - 1 ≡ k = omega arith in
    let last : get_or (top ∷ ns) (suc k - 1) d ≡ final top fs = ap (λ (j : ℕ). get_or (top ∷ ns) j d) at ∙ final-get k top ns d (omega (arith, reach.within)) in
    let tree_split : IsTree (top ∷ (fs ++ bs)) slots = subst (λ (l : List Node). IsTree (top ∷ l) slots) (sym split) tree in
    let parts = packed-front 0 (top ∷ fs) bs (length slots) tree_split.packed in
    let mid : ℕ = parts.0 in
    let ends : (final top fs).first + (final top fs).count ≡ mid = final-end 0 top fs mid parts.1.0 in
    let first_is : mid ≡ first = sym ends ∙ (ap (λ (n : Node). n.first + n.count) (sym last) ∙ sym is) in
    let more : length (drop depth r.path) ≡ length r.path - depth = length-drop depth r.path in
    let spot_at : IsSpot r.slot.number (nat_lt depth (length r.path)) (final top fs) slots place = subst (λ (n : Node). IsSpot r.slot.number (nat_lt depth (length r.path)) n slots place) last spot in
    let law : IsTreeOf (bumped (raised depth (length (drop depth r.path)) (top ∷ fs) ++ chain mid depth (drop depth r.path)) ++ moved bs)
    (put_at place r.slot slots) (put_placed r (read_off (listing_of (top ∷ (fs ++ bs)) slots))) =
    inserted top fs bs slots r depth mid place tree_split (subst (λ (l : List Node). listing_of (top ∷ l) slots ≡ canon_of
    (read_off (listing_of (top ∷ l) slots))) (sym split) canon) (subst
    (λ (l : List Node). IsStrictlySortedBy placed_cmp (put_placed r (read_off (listing_of (top ∷ l) slots)))) (sym split) order) reach.up_to
    reach.shared (later-drop top ns k r.path reach.later) parts.1.0 parts.1.1 (placed-spot r depth (final top fs) slots place spot_at)
    (packed-le mid bs (length slots) parts.1.1) in
    subst (λ (l : List Node). IsTreeOf (bumped (raised depth (length r.path - depth) (top ∷ fs) ++ chain first depth (drop depth r.path)) ++ moved bs)
    (put_at place r.slot slots) (put_placed r (read_off (listing_of (top ∷ l) slots)))) split
    (subst (λ (m : ℕ). IsTreeOf (bumped (raised depth (length r.path - depth) (top ∷ fs) ++ chain m depth (drop depth r.path)) ++ moved bs)
    (put_at place r.slot slots) (put_placed r (read_off (listing_of (top ∷ (fs ++ bs)) slots)))) first_is
    (subst (λ (m : ℕ). IsTreeOf (bumped (raised depth m (top ∷ fs) ++ chain mid depth (drop depth r.path)) ++ moved bs) (put_at place r.slot slots)
    (put_placed r (read_off (listing_of (top ∷ (fs ++ bs)) slots)))) more law))

-- the same for lists that equal the tree's
pub tree-made : (nodes ns : List Node) (slots ss : List Slot) (r : Placed) (p : List ℕ) (node depth first place : ℕ) (d : Node) (more : List Node)
    (all : List Slot) → ns ≡ nodes → ss ≡ slots → p ≡ r.path → IsTree nodes slots
    → listing_of nodes slots ≡ canon_of (read_off (listing_of nodes slots))
    → IsStrictlySortedBy placed_cmp (put_placed r (read_off (listing_of nodes slots))) → IsReach nodes p node depth
    → IsSpot r.slot.number (nat_lt depth (length p)) (get_or ns (node - 1) d) ss place
    → first ≡ (get_or ns (node - 1) d).first + (get_or ns (node - 1) d).count → more ≡ with_path node depth first p ns → all ≡ put_at place r.slot ss
    → IsTreeOf more all (put_placed r (read_off (listing_of nodes slots)))
tree-made nodes ns slots ss r p node depth first place d more all nodes_is slots_is path_is tree canon order reach spot first_is more_is all_is =
    let list : List Placed = put_placed r (read_off (listing_of nodes slots)) in
    let spot_at : IsSpot r.slot.number (nat_lt depth (length r.path)) (get_or nodes (node - 1) d) slots place =
    subst (λ (l : List ℕ). IsSpot r.slot.number (nat_lt depth (length l)) (get_or nodes (node - 1) d) slots place) path_is
    (subst (λ (l : List Slot). IsSpot r.slot.number (nat_lt depth (length p)) (get_or nodes (node - 1) d) l place) slots_is
    (subst (λ (l : List Node). IsSpot r.slot.number (nat_lt depth (length p)) (get_or l (node - 1) d) ss place) nodes_is spot)) in
    let law : IsTreeOf (with_path node depth first r.path nodes) (put_at place r.slot slots) list =
    tree-inserted nodes slots r node depth first place d tree canon order (subst (λ (l : List ℕ). IsReach nodes l node depth) path_is reach) spot_at
    (first_is ∙ ap (λ (l : List Node). (get_or l (node - 1) d).first + (get_or l (node - 1) d).count) nodes_is) in
    let nodes_made : with_path node depth first r.path nodes ≡ more = sym (more_is
    ∙ (ap (λ (l : List ℕ). with_path node depth first l ns) path_is ∙ ap (with_path node depth first r.path) nodes_is)) in
    let slots_made : put_at place r.slot slots ≡ all = sym (all_is ∙ ap (put_at place r.slot) slots_is) in
    subst (λ (l : List Node). IsTreeOf l all list) nodes_made (subst (λ (l : List Slot). IsTreeOf (with_path node depth first r.path nodes) l list) slots_made law)

pub same-tree : (nodes ns : List Node) (slots ss : List Slot) → ns ≡ nodes → ss ≡ slots → IsTree nodes slots → IsTree ns ss
same-tree nodes ns slots ss nodes_is slots_is tree = subst (λ (l : List Node). IsTree l ss) (sym nodes_is) (subst (IsTree nodes) (sym slots_is) tree)

-- ---- bounds
under-few : (d : ℕ) (ns : List Node) → under d ns ≤ length ns
under-few d [] = omega arith
under-few d (n ∷ ns) = elim (nat_lt d n.depth) as (λ b. cond b (under d ns + 1) 0 ≤ suc (length ns)) [ true ↦ omega (arith, under-few d ns) | false ↦ omega arith ]

below-few : (d : ℕ) (ns : List Node) (m : ℕ) → AreLaidOut d ns → length ns ≤ m → AllByRecursion (λ n. n.below ≤ m) ns
below-few d [] m laid h = tt
below-few d (n ∷ ns) m laid h = (omega (arith, h, laid.2, under-few n.depth ns), below-few n.depth ns m laid.3 (omega (arith, h)))

all-weaker : (P Q : Node → Type 0) (ns : List Node) → ((n : Node) → P n → Q n) → AllByRecursion P ns → AllByRecursion Q ns
all-weaker P Q [] k h = tt
all-weaker P Q (n ∷ ns) k h = (k n h.0, all-weaker P Q ns k h.1)

below-all : (nodes : List Node) (slots : List Slot) → IsTree nodes slots → AllByRecursion (λ n. n.below ≤ length nodes) nodes
below-all [] slots tree = tt
below-all (top ∷ ns) slots tree = (omega (arith, tree.topped.2), below-few 0 ns (length (top ∷ ns)) tree.topped.3 (omega arith))

pub all-raise : (nodes : List Node) (slots : List Slot) → IsTree nodes slots → length nodes < 65536 → All (λ n. n.below + 8 < 4294967296) nodes
all-raise nodes slots tree h =
    All-from_recursion (λ (n : Node). n.below + 8 < 4294967296) nodes (all-weaker (λ n. n.below ≤ length nodes) (λ n. n.below + 8 < 4294967296) nodes
    (λ n k. omega (arith, k, h)) (below-all nodes slots tree))

pub all-room : (nodes : List Node) (slots : List Slot) → IsTree nodes slots → length slots < 255 → All (λ n. n.count < 255) nodes
all-room nodes slots tree h =
    All-from_recursion (λ (n : Node). n.count < 255) nodes (all-weaker (λ n. n.first + n.count ≤ length slots) (λ n. n.count < 255) nodes
    (λ n k. omega (arith, k, h)) (packed-within 0 nodes (length slots) tree.packed))

pub all-firsts : (nodes : List Node) (slots : List Slot) → IsTree nodes slots → length slots < 255 → All (λ n. n.first + 1 < 4294967296) nodes
all-firsts nodes slots tree h =
    All-from_recursion (λ (n : Node). n.first + 1 < 4294967296) nodes (all-weaker (λ n. n.first + n.count ≤ length slots)
    (λ n. n.first + 1 < 4294967296) nodes (λ n k. omega (arith, k, h)) (packed-within 0 nodes (length slots) tree.packed))

-- an element, or the default
get-all : (P : Node → Type 0) (ns : List Node) (k : ℕ) (d : Node) → AllByRecursion P ns → P d → P (get_or ns k d)
get-all P [] k d all h = h
get-all P (n ∷ ns) zero d all h = all.0
get-all P (n ∷ ns) (suc k) d all h = get-all P ns k d all.1 h

room-raised : (c more : ℕ) (ns : List Node) → AllByRecursion (λ n. n.count < 255) ns → AllByRecursion (λ n. n.count < 255) (raised c more ns)
room-raised c more [] h = tt
room-raised c more (n ∷ ns) h = (h.0, room-raised c more ns h.1)

room-chain : (first c : ℕ) (es : List ℕ) → AllByRecursion (λ n. n.count < 255) (chain first c es)
room-chain first c [] = tt
room-chain first c (e ∷ es) = (omega arith, room-chain first (c + 1) es)

room-both : (ns ms : List Node) → AllByRecursion (λ n. n.count < 255) ns → AllByRecursion (λ n. n.count < 255) ms → AllByRecursion (λ n. n.count < 255) (ns ++ ms)
room-both [] ms h k = k
room-both (n ∷ ns) ms h k = (h.0, room-both ns ms h.1 k)

room-take : (k : ℕ) (ns : List Node) → AllByRecursion (λ n. n.count < 255) ns → AllByRecursion (λ n. n.count < 255) (take k ns)
room-take zero ns h = tt
room-take (suc k) [] h = tt
room-take (suc k) (n ∷ ns) h = (h.0, room-take k ns h.1)

-- the last of the nodes so far has room for one registration more
pub last-room : (nodes out : List Node) (node depth more first k : ℕ) (es : List ℕ) (d : Node) → All (λ n. n.count < 255) nodes
    → out ≡ raised depth more (take node nodes) ++ chain first depth es → d.count ≡ 0 → (get_or out k d).count < 255
last-room nodes out node depth more first k es d all is none =
    get-all (λ n. n.count < 255) out k d (subst (AllByRecursion (λ (n : Node). n.count < 255)) (sym is)
    (room-both (raised depth more (take node nodes)) (chain first depth es)
    (room-raised depth more (take node nodes) (room-take node nodes (recursion_from_All (λ (n : Node). n.count < 255) nodes all)))
    (room-chain first depth es))) (omega (arith, none))

-- a lent list comes back with one registration more at its end
pub back-bumped : (n : ℕ) (new lent items : List Node) → n ≡ length items → lent ≡ items → new ≡ bumped lent → take n (new ++ drop (length new) items) ≡ bumped items
back-bumped n new lent items len same is =
    let count : new ≡ bumped items = is ∙ ap bumped same in
    take_at new (drop (length new) items) n (omega (arith, ap length count, bumped-length items, len)) ∙ count
