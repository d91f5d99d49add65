-- The registrations of a tree with one less, read off node by node, and nodes without registrations that go.
use Rattle.std.proofs.Common.{◌≡◌, ℕ, ◌+◌, ◌-◌, ◌≤◌, Bool, true, false, cond, eqb, List, [], ◌∷◌, ◌++◌, length, take, drop, refl, sym, ap, subst, ◌∙◌, arith, append_assoc, ⊎_elim}
use Rattle.std.specs.Prelude.{⊤, not, map, nat_lt}
use Rattle.std.specs.declared.cmp.Ordering.TheVariants.{Less}
use Rattle.std.specs.List.{AllByRecursion, IsDistinct}
use Rattle.std.specs.List.Sorted.{IsStrictlySortedBy}
use Rattle.std.specs.declared.cmp.Ordering.{Ordering}
use Rattle.std.proofs.lemmas.List.{length-take-le, take-append-le, take-take, take-append-drop, map-append}
use Rattle.std.proofs.lemmas.Bool.{cases_lt, eq-eqb, ne_eqb, eqb-false}
use Rattle.std.proofs.lemmas.Bool.Decides.{nat_tests}
use Rattle.shared_forest.specs.declared.node.Node.{Node}
use Rattle.shared_forest.specs.declared.node.Slot.{Slot}
use Rattle.shared_forest.specs.Layout.{under, AreLaidOut, ArePacked}
use Rattle.shared_forest.specs.Listing.{Shown, slots_of, path_after, listing_after}
use Rattle.event_trees.specs.Private.{path_cmp}
use Rattle.event_trees.specs.Canon.{Placed}
use Rattle.event_trees.specs.Build.{bumped}
use Rattle.event_trees.specs.ReadOff.{all_at, read_off}
use Rattle.event_trees.specs.Edit.{without_placed}
use Rattle.event_trees.specs.Insert.{end_path, moved}
use Rattle.event_trees.specs.Remove.{lowered}
use Rattle.event_trees.proofs.Whole.{read_off-append}
use Rattle.event_trees.proofs.Built.{listing_after-append, length-path_after}
use Rattle.event_trees.proofs.InsertPaths.{node_paths, node_paths-append}
use Rattle.event_trees.proofs.InsertListing.{put_at, final, shown_from, shown_all, slots-before, slots-at, moved-after, bumped-on, first-le}
use Rattle.event_trees.proofs.RemoveLaid.{AllDeeper, run-deeper}

-- ---- one registration out
pub record Cut (less all : List Placed) (r : Placed) : Type 0 where
  pub front : List Placed
  pub rest : List Placed
  pub is : less ≡ front ++ rest
  pub was : all ≡ front ++ r ∷ rest

cut-more : (less all : List Placed) (r : Placed) (xs : List Placed) → Cut less all r → Cut (xs ++ less) (xs ++ all) r
cut-more less all r xs c = record {
  front = xs ++ c.front;
  rest = c.rest;
  is = ap (λ (l : List Placed). xs ++ l) c.is ∙ sym (append_assoc xs c.front c.rest);
  was = ap (λ (l : List Placed). xs ++ l) c.was ∙ sym (append_assoc xs c.front (r ∷ c.rest));
}

cut-here : (path : List ℕ) (n : Node) (back : List Node) (slots : List Slot) (s : Slot) (i mid : ℕ) → n.first + n.count ≡ mid → n.first ≤ i → i ≤ mid
    → ArePacked mid back (length slots) → mid ≤ length slots → Cut (read_off (shown_from path n back slots))
    (read_off (shown_from path (record n { count = n.count + 1 }) (moved back) (put_at i s slots))) (record { path = path; slot = s })
cut-here path n back slots s i mid ends low high packed within =
    let j : ℕ = i - n.first in
    let held : List Slot = slots_of n slots in
    let rest : List Placed = read_off (listing_after path back slots) in
    let here : slots_of (record n { count = n.count + 1 }) (put_at i s slots) ≡ put_at j s held = slots-at n slots s i low (omega (arith, high, ends)) (omega (arith, within, ends)) in
    let behind : listing_after path (moved back) (put_at i s slots) ≡ listing_after path back slots = moved-after path mid (length slots) back slots s i packed high (omega (arith, high, within)) in
    record {
      front = all_at path (take j held);
      rest = all_at path (drop j held) ++ rest;
      is = ap (λ (l : List Slot). all_at path l ++ rest) (sym (take-append-drop j held))
          ∙ (ap (λ (l : List Placed). l ++ rest) (map-append (λ (x : Slot). record { path = path; slot = x }) (take j held) (drop j held))
          ∙ append_assoc (all_at path (take j held)) (all_at path (drop j held)) rest);
      was = ap (λ (l : List Slot). all_at path l ++ read_off (listing_after path (moved back) (put_at i s slots))) here ∙ (ap (λ (l : List Shown). all_at path (put_at j s held) ++ read_off l) behind ∙
          (ap (λ (l : List Placed). l ++ rest) (map-append (λ (x : Slot). record { path = path; slot = x }) (take j held) (s ∷ drop j held))
          ∙ append_assoc (all_at path (take j held)) (record { path = path; slot = s } ∷ all_at path (drop j held)) rest));
    }

pub cut-listing : (path : List ℕ) (n : Node) (ns back : List Node) (slots : List Slot) (s : Slot) (i place mid : ℕ) → ArePacked place (n ∷ ns) mid
    → ArePacked mid back (length slots) → mid ≤ length slots → (final n ns).first ≤ i → i ≤ mid
    → Cut (read_off (shown_from path n (ns ++ back) slots)) (read_off (shown_all path (bumped (n ∷ ns) ++ moved back) (put_at i s slots)))
    (record { path = end_path path ns; slot = s })
cut-listing path n [] back slots s i place mid packed behind within low high = cut-here path n back slots s i mid (omega (arith, packed.0, packed.1)) low high behind within
cut-listing path n (m ∷ ns) back slots s i place mid packed behind within low high =
    let on : List ℕ = path_after path m in
    let new : List Slot = put_at i s slots in
    let rest = cut-listing on m ns back slots s i (place + n.count) mid packed.1 behind within low high in
    let here : slots_of n new ≡ slots_of n slots = slots-before n slots s i (omega (arith, high, within)) (omega (arith, packed.0, low, first-le (place + n.count) m ns mid packed.1)) in
    let same : read_off (shown_all path (n ∷ (bumped (m ∷ ns) ++ moved back)) new) ≡ all_at path (slots_of n slots) ++ read_off (shown_all on (bumped (m ∷ ns) ++ moved back) new) =
    ap (λ (l : List Slot). all_at path l ++ read_off (listing_after path (bumped (m ∷ ns) ++ moved back) new)) here
    ∙ ap (λ (l : List Shown). all_at path (slots_of n slots) ++ read_off l) (bumped-on path m ns (moved back) new) in
    subst (λ (l : List Placed). Cut (all_at path (slots_of n slots) ++ read_off (shown_from on m (ns ++ back) slots)) l (record { path = end_path on ns; slot = s })) (sym same)
    (cut-more (read_off (shown_from on m (ns ++ back) slots)) (read_off (shown_all on (bumped (m ∷ ns) ++ moved back) new))
    (record { path = end_path on ns; slot = s }) (all_at path (slots_of n slots)) rest)

-- with numbers of their own the others are those with other numbers
eqb-turned : (a b : ℕ) → eqb a b ≡ false → eqb b a ≡ false
eqb-turned a b h = ne_eqb b a (λ e. eqb-false a b h (sym e))

filter-others : (number : ℕ) (ys : List Placed) → AllByRecursion (λ m. eqb number m ≡ false) (map (λ x. x.slot.number) ys) → without_placed number ys ≡ ys
filter-others number [] h = refl
filter-others number (y ∷ ys) h =
    let other : eqb y.slot.number number ≡ false = eqb-turned number y.slot.number h.0 in
    ap (λ (b : Bool). cond (not b) (y ∷ without_placed number ys) (without_placed number ys)) other ∙ ap (λ (l : List Placed). y ∷ l) (filter-others number ys h.1)

at_last : (n : ℕ) (xs : List Placed) (r : Placed) (ys : List Placed) → AllByRecursion (λ m. eqb n m ≡ false) (map (λ x. x.slot.number) (xs ++ r ∷ ys)) → eqb n r.slot.number ≡ false
at_last n [] r ys h = h.0
at_last n (x ∷ xs) r ys h = at_last n xs r ys h.1

pub cut-without : (xs : List Placed) (r : Placed) (ys : List Placed) → IsDistinct eqb (map (λ x. x.slot.number) (xs ++ r ∷ ys)) → without_placed r.slot.number (xs ++ r ∷ ys) ≡ xs ++ ys
unfolding IsDistinct
cut-without [] r ys d = ap (λ (b : Bool). cond (not b) (r ∷ without_placed r.slot.number ys) (without_placed r.slot.number ys))
    (eq-eqb r.slot.number r.slot.number refl) ∙ filter-others r.slot.number ys d.0
cut-without (x ∷ xs) r ys d =
    ap (λ (b : Bool). cond (not b) (x ∷ without_placed r.slot.number (xs ++ r ∷ ys)) (without_placed r.slot.number (xs ++ r ∷ ys)))
    (at_last x.slot.number xs r ys d.0) ∙ ap (λ (l : List Placed). x ∷ l) (cut-without xs r ys d.1)

-- ---- in order without one, or some
above-cut : {X : Type 0} (c : X → X → Ordering) (x : X) (xs ys zs : List X) → AllByRecursion (λ y. c x y ≡ Less) (xs ++ (ys ++ zs)) → AllByRecursion (λ y. c x y ≡ Less) (xs ++ zs)
above-cut {X} c x [] [] zs h = h
above-cut {X} c x [] (y ∷ ys) zs h = above-cut c x [] ys zs h.1
above-cut {X} c x (w ∷ xs) ys zs h = (h.0, above-cut c x xs ys zs h.1)

pub sorted-cut : {X : Type 0} (c : X → X → Ordering) (xs ys zs : List X) → IsStrictlySortedBy c (xs ++ (ys ++ zs)) → IsStrictlySortedBy c (xs ++ zs)
unfolding IsStrictlySortedBy
sorted-cut {X} c [] [] zs s = s
sorted-cut {X} c [] (y ∷ ys) zs s = sorted-cut c [] ys zs s.1
sorted-cut {X} c (x ∷ xs) ys zs s = (above-cut c x xs ys zs s.0, sorted-cut c xs ys zs s.1)

-- ---- bare nodes out
-- the next node goes on from a beginning that the two have in common
abbrev pub GoesOnSame : List ℕ → List ℕ → List Node → Type 0
GoesOnSame q p [] = ⊤
GoesOnSame q p (n ∷ ns) = take (n.depth - 1) q ≡ take (n.depth - 1) p

paths-same : (q p : List ℕ) (back : List Node) → GoesOnSame q p back → node_paths p back ≡ node_paths q back
paths-same q p [] s = refl
paths-same q p (n ∷ ns) s = ap (λ (l : List ℕ). (l ++ n.event ∷ []) ∷ node_paths (l ++ n.event ∷ []) ns) (sym s)

listing-same : (q p : List ℕ) (back : List Node) (slots : List Slot) → GoesOnSame q p back → listing_after p back slots ≡ listing_after q back slots
listing-same q p [] slots s = refl
listing-same q p (n ∷ ns) slots s = ap (λ (l : List ℕ). record { path = l ++ n.event ∷ []; slots = slots_of n slots } ∷ listing_after (l ++ n.event ∷ []) ns slots) (sym s)

-- deeper nodes leave the beginning of the path as it is
deep-take : (e j : ℕ) (before : List ℕ) (xs ys : List Node) → under e (xs ++ ys) ≡ length xs → j ≤ e → e ≤ length before
    → AreLaidOut (length before) (xs ++ ys) → take j (end_path before xs) ≡ take j before
deep-take e j before [] ys h le within laid = refl
deep-take e j before (x ∷ xs) ys h le within laid =
    ⊎_elim (λ deeper.
    let test : nat_lt e x.depth ≡ true = grind (arith, nat_tests) in
    let rest : under e (xs ++ ys) ≡ length xs = omega (arith, h, ap (λ (b : Bool). cond b (under e (xs ++ ys) + 1) 0) test) in
    let long : length (path_after before x) ≡ x.depth = length-path_after before x laid.0 laid.1 in
    let size : length (take (x.depth - 1) before) ≡ x.depth - 1 = length-take-le (x.depth - 1) before (omega (arith, laid.1)) in
    deep-take e j (path_after before x) xs ys rest le (omega (arith, long, deeper)) (subst (λ (k : ℕ). AreLaidOut k (xs ++ ys)) (sym long) laid.3)
    ∙ (take-append-le j (take (x.depth - 1) before) (x.event ∷ []) (omega (arith, size, le, deeper)) ∙ take-take j (x.depth - 1) before (omega (arith, le, deeper))))
    (λ g.
    let test : nat_lt e x.depth ≡ false = grind (arith, nat_tests) in
    absurd (omega (arith, h, ap (λ (b : Bool). cond b (under e (xs ++ ys) + 1) 0) test))) (cases_lt e x.depth)

run-same : (q : List ℕ) (m : Node) (rs back : List Node) → m.below ≡ length rs → AreLaidOut (length q) (m ∷ (rs ++ back)) → GoesOnSame q (end_path q (m ∷ rs)) back
run-same q m rs [] is laid = tt
run-same q m rs (b ∷ bs) is laid =
    let all : AllDeeper m.depth rs (b ∷ bs) = run-deeper (length q) m rs (b ∷ bs) is laid in
    let low : b.depth ≤ m.depth = all.low in
    let long : length (path_after q m) ≡ m.depth = length-path_after q m laid.0 laid.1 in
    let size : length (take (m.depth - 1) q) ≡ m.depth - 1 = length-take-le (m.depth - 1) q (omega (arith, laid.1)) in
    sym (deep-take m.depth (b.depth - 1) (path_after q m) rs (b ∷ bs) (sym laid.2 ∙ is) (omega (arith, low)) (omega (arith, long)) (subst (λ (k : ℕ). AreLaidOut k (rs ++ b ∷ bs)) (sym long) laid.3) ∙
    (take-append-le (b.depth - 1) (take (m.depth - 1) q) (m.event ∷ []) (omega (arith, size, low)) ∙ take-take (b.depth - 1) (m.depth - 1) q (omega (arith, low))))

listing-lowered : (before : List ℕ) (less : ℕ) (ns rest : List Node) (slots : List Slot) → listing_after before (lowered less ns ++ rest) slots ≡ listing_after before (ns ++ rest) slots
listing-lowered before less [] rest slots = refl
listing-lowered before less (n ∷ ns) rest slots = ap (λ (l : List Shown). record { path = path_after before n; slots = slots_of n slots } ∷ l)
    (listing-lowered (path_after before n) less ns rest slots)

paths-lowered : (before : List ℕ) (less : ℕ) (ns rest : List Node) → node_paths before (lowered less ns ++ rest) ≡ node_paths before (ns ++ rest)
paths-lowered before less [] rest = refl
paths-lowered before less (n ∷ ns) rest = ap (λ (l : List (List ℕ)). path_after before n ∷ l) (paths-lowered (path_after before n) less ns rest)

-- none of these nodes has registrations
abbrev pub HaveNone : List Node → Type 0
HaveNone ns = AllByRecursion (λ n. n.count ≡ 0) ns

read-none : (before : List ℕ) (ns : List Node) (slots : List Slot) → HaveNone ns → read_off (listing_after before ns slots) ≡ []
read-none before [] slots h = refl
read-none before (n ∷ ns) slots h =
    ap (λ (k : ℕ). all_at (path_after before n) (take k (drop n.first slots)) ++ read_off (listing_after (path_after before n) ns slots)) h.0 ∙ read-none (path_after before n) ns slots h.1

length-ends : (before : List ℕ) (ns rest : List Node) → AreLaidOut (length before) (ns ++ rest) → AreLaidOut (length (end_path before ns)) rest
length-ends before [] rest laid = laid
length-ends before (n ∷ ns) rest laid = length-ends (path_after before n) ns rest (subst (λ (k : ℕ). AreLaidOut k (ns ++ rest)) (sym (length-path_after before n laid.0 laid.1)) laid.3)

-- the same registrations
pub read-out : (fs : List Node) (m : Node) (rs back : List Node) (slots : List Slot) (less : ℕ) → AreLaidOut 0 (fs ++ ((m ∷ rs) ++ back))
    → m.below ≡ length rs → HaveNone (m ∷ rs) → read_off (listing_after [] (lowered less fs ++ back) slots) ≡ read_off (listing_after [] (fs ++ ((m ∷ rs) ++ back)) slots)
read-out fs m rs back slots less laid is none =
    let q : List ℕ = end_path [] fs in
    let run : List Node = m ∷ rs in
    let front : List Shown = listing_after [] fs slots in
    let same : listing_after (end_path q run) back slots ≡ listing_after q back slots = listing-same q (end_path q run) back slots (run-same q m rs back is (length-ends [] fs (run ++ back) laid)) in
    let split : (rest : List Node) → read_off (listing_after [] (fs ++ rest) slots) ≡ read_off front ++ read_off (listing_after q rest slots) =
    λ rest. ap read_off (listing_after-append [] fs rest slots) ∙ read_off-append front (listing_after q rest slots) in
    let middle : read_off (listing_after q (run ++ back) slots) ≡ read_off (listing_after q back slots) =
    ap read_off (listing_after-append q run back slots) ∙ (read_off-append (listing_after q run slots) (listing_after (end_path q run) back slots) ∙
    (ap (λ (l : List Placed). l ++ read_off (listing_after (end_path q run) back slots)) (read-none q run slots none) ∙ ap read_off same)) in
    ap read_off (listing-lowered [] less fs back slots) ∙ (split back ∙ (ap (λ (l : List Placed). read_off front ++ l) (sym middle) ∙ sym (split (run ++ back))))

-- the paths are still in order
pub sorted-out : (fs : List Node) (m : Node) (rs back : List Node) (less : ℕ) → AreLaidOut 0 (fs ++ ((m ∷ rs) ++ back)) → m.below ≡ length rs
    → IsStrictlySortedBy path_cmp ([] ∷ node_paths [] (fs ++ ((m ∷ rs) ++ back))) → IsStrictlySortedBy path_cmp ([] ∷ node_paths [] (lowered less fs ++ back))
sorted-out fs m rs back less laid is sorted =
    let q : List ℕ = end_path [] fs in
    let run : List Node = m ∷ rs in
    let same : node_paths (end_path q run) back ≡ node_paths q back = paths-same q (end_path q run) back (run-same q m rs back is (length-ends [] fs (run ++ back) laid)) in
    let was : node_paths [] (fs ++ (run ++ back)) ≡ node_paths [] fs ++ (node_paths q run ++ node_paths q back) =
    node_paths-append [] fs (run ++ back) ∙ ap (λ (l : List (List ℕ)). node_paths [] fs ++ l) (node_paths-append q run back ∙ ap (λ (l : List (List ℕ)). node_paths q run ++ l) same) in
    let now : node_paths [] (lowered less fs ++ back) ≡ node_paths [] fs ++ node_paths q back = paths-lowered [] less fs back ∙ node_paths-append [] fs back in
    subst (λ (l : List (List ℕ)). IsStrictlySortedBy path_cmp ([] ∷ l)) (sym now)
    (sorted-cut path_cmp ([] ∷ node_paths [] fs) (node_paths q run) (node_paths q back) (subst (λ (l : List (List ℕ)). IsStrictlySortedBy path_cmp ([] ∷ l)) was sorted))

packed-bare : (place : ℕ) (run back : List Node) (end : ℕ) → HaveNone run → ArePacked place (run ++ back) end → ArePacked place back end
packed-bare place [] back end none h = h
packed-bare place (n ∷ ns) back end none h = subst (λ (k : ℕ). ArePacked k back end) (let k : place + n.count ≡ place = omega (arith, none.0) in k)
    (packed-bare (place + n.count) ns back end none.1 h.1)

pub packed-out : (place less : ℕ) (fs run back : List Node) (end : ℕ) → HaveNone run → ArePacked place (fs ++ (run ++ back)) end → ArePacked place (lowered less fs ++ back) end
packed-out place less [] run back end none h = packed-bare place run back end none h
packed-out place less (n ∷ fs) run back end none h = (h.0, packed-out (place + n.count) less fs run back end none h.1)
