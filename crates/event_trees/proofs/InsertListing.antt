-- The registrations of a tree with one more, read off node by node.
use Rattle.std.proofs.Common.{◌≡◌, ℕ, zero, suc, ◌+◌, ◌-◌, ◌≤◌, Bool, true, false, cond, List, [], ◌∷◌, ◌++◌, length, take, drop, Ordering, refl, sym, ap, subst, ◌∙◌, arith, append_assoc, inl, inr, ⊎_elim}
use Rattle.std.specs.Prelude.{⊤}
use Rattle.std.specs.declared.cmp.Ordering.TheVariants.{Less, Equal, Greater}
use Rattle.std.specs.List.{AllByRecursion}
use Rattle.std.specs.List.Sorted.{IsStrictlySortedBy}
use Rattle.std.specs.Ordering.{nat_cmp, is_lt, ordering_then}
use Rattle.std.specs.Cmp.{nat_cmp_is}
use Rattle.std.proofs.lemmas.List.{length-take-le, length-drop, take-append-le, take-append-drop, drop-append-le, drop-drop, drop-take, drop_at, length-append, map-append}
use Rattle.std.proofs.lemmas.Bool.{cases_order}
use Rattle.shared_forest.specs.declared.node.Node.{Node}
use Rattle.shared_forest.specs.declared.node.Slot.{Slot}
use Rattle.shared_forest.specs.Layout.{ArePacked}
use Rattle.shared_forest.specs.Listing.{Shown, slots_of, path_after, listing_after}
use Rattle.event_trees.specs.Private.{path_cmp}
use Rattle.event_trees.specs.Canon.{Placed}
use Rattle.event_trees.specs.Build.{bumped}
use Rattle.event_trees.specs.ReadOff.{all_at, read_off}
use Rattle.event_trees.specs.Edit.{placed_cmp, put_placed}
use Rattle.event_trees.specs.Insert.{end_path, moved, StartsAbove, IsBetween}
use Rattle.event_trees.proofs.Order.{Has, AllAbove, itself, flip_less, has_above}
use Rattle.event_trees.proofs.InsertPaths.{node_paths}

-- the list with one more at a place
abbrev pub put_at : ℕ → Slot → List Slot → List Slot
put_at i s slots = take i slots ++ s ∷ drop i slots

-- ---- the registrations of a node before the place, at it and behind it
pub slots-before : (n : Node) (slots : List Slot) (s : Slot) (i : ℕ) → i ≤ length slots → n.first + n.count ≤ i → slots_of n (put_at i s slots) ≡ slots_of n slots
slots-before n slots s i within before =
    let front : List Slot = take i slots in
    let long : length front ≡ i = length-take-le i slots within in
    let left : drop n.first (put_at i s slots) ≡ drop n.first front ++ s ∷ drop i slots = drop-append-le n.first front (s ∷ drop i slots) (omega (arith, long, before)) in
    let right : drop n.first slots ≡ drop n.first front ++ drop i slots = ap (drop n.first) (sym (take-append-drop i slots))
    ∙ drop-append-le n.first front (drop i slots) (omega (arith, long, before)) in
    let room : n.count ≤ length (drop n.first front) = omega (arith, long, before, length-drop n.first front) in
    ap (take n.count) left ∙ (take-append-le n.count (drop n.first front) (s ∷ drop i slots) room ∙ sym (ap (take n.count) right ∙ take-append-le n.count (drop n.first front) (drop i slots) room))

slots-behind : (n : Node) (slots : List Slot) (s : Slot) (i : ℕ) → i ≤ length slots → i ≤ n.first → slots_of (record n { first = n.first + 1 }) (put_at i s slots) ≡ slots_of n slots
slots-behind n slots s i within behind =
    let front : List Slot = take i slots in
    let rest : List Slot = drop i slots in
    let long : length (front ++ s ∷ []) ≡ i + 1 = omega (arith, length-append front (s ∷ []), length-take-le i slots within) in
    let one : put_at i s slots ≡ (front ++ s ∷ []) ++ rest = sym (append_assoc front (s ∷ []) rest) in
    let left : drop (i + 1) (put_at i s slots) ≡ rest = ap (drop (i + 1)) one ∙ drop_at (front ++ s ∷ []) rest (i + 1) long in
    let far : drop (n.first + 1) (put_at i s slots) ≡ drop (n.first - i) rest =
    ap (λ (k : ℕ). drop k (put_at i s slots)) (let k : n.first + 1 ≡ (i + 1) + (n.first - i) = omega (arith, behind) in k)
    ∙ (sym (drop-drop (n.first - i) (i + 1) (put_at i s slots)) ∙ ap (drop (n.first - i)) left) in
    let near : drop n.first slots ≡ drop (n.first - i) rest = ap (λ (k : ℕ). drop k slots) (let k : n.first ≡ i + (n.first - i) = omega (arith, behind) in k) ∙ sym (drop-drop (n.first - i) i slots) in
    ap (take n.count) (far ∙ sym near)

take-put : (j count : ℕ) (s : Slot) (rest : List Slot) → j ≤ count → count ≤ length rest → take (count + 1) (put_at j s rest) ≡ put_at j s (take count rest)
take-put zero zero s [] h k = refl
take-put zero zero s (x ∷ xs) h k = refl
take-put zero (suc count) s rest h k = ap (λ (m : ℕ). take m (s ∷ rest)) (let m : suc count + 1 ≡ suc (suc count) = omega arith in m)
take-put (suc j) zero s rest h k = absurd (omega (arith, h))
take-put (suc j) (suc count) s [] h k = absurd (omega (arith, k))
take-put (suc j) (suc count) s (x ∷ xs) h k =
    ap (λ (m : ℕ). take m (x ∷ put_at j s xs)) (let m : suc count + 1 ≡ suc (count + 1) = omega arith in m)
    ∙ ap (λ (l : List Slot). x ∷ l) (take-put j count s xs (omega (arith, h)) (omega (arith, k)))

pub slots-at : (n : Node) (slots : List Slot) (s : Slot) (i : ℕ) → n.first ≤ i → i ≤ n.first + n.count → n.first + n.count ≤ length slots
    → slots_of (record n { count = n.count + 1 }) (put_at i s slots) ≡ put_at (i - n.first) s (slots_of n slots)
slots-at n slots s i low high within =
    let j : ℕ = i - n.first in
    let rest : List Slot = drop n.first slots in
    let front : List Slot = take i slots in
    let long : length front ≡ i = length-take-le i slots (omega (arith, high, within)) in
    let at : drop n.first (put_at i s slots) ≡ drop n.first front ++ s ∷ drop i slots = drop-append-le n.first front (s ∷ drop i slots) (omega (arith, long, low)) in
    let mid : drop n.first front ≡ take j rest = ap (λ (k : ℕ). drop n.first (take k slots)) (let k : i ≡ n.first + j = omega (arith, low) in k) ∙ drop-take n.first j slots in
    let far : drop i slots ≡ drop j rest = ap (λ (k : ℕ). drop k slots) (let k : i ≡ n.first + j = omega (arith, low) in k) ∙ sym (drop-drop j n.first slots) in
    let size : length rest ≡ length slots - n.first = length-drop n.first slots in
    let all : drop n.first (put_at i s slots) ≡ put_at j s rest = at ∙ (ap (λ (l : List Slot). l ++ s ∷ drop i slots) mid ∙ ap (λ (l : List Slot). take j rest ++ s ∷ l) far) in
    ap (take (n.count + 1)) all ∙ take-put j n.count s rest (omega (arith, low, high)) (omega (arith, size, within))

-- ---- where a registration stands among others
-- the first of them comes after it
abbrev pub StartsLater : Placed → List Placed → Type 0
StartsLater r [] = ⊤
StartsLater r (x ∷ xs) = is_lt (placed_cmp r x) ≡ true

abbrev pub NoneLater : Placed → List Placed → Type 0
NoneLater r xs = AllByRecursion (λ x. is_lt (placed_cmp r x) ≡ false) xs

pub put-between : (r : Placed) (xs ys : List Placed) → NoneLater r xs → StartsLater r ys → put_placed r (xs ++ ys) ≡ xs ++ r ∷ ys
put-between r [] [] all first = refl
put-between r [] (y ∷ ys) all first = ap (λ (b : Bool). cond b (r ∷ y ∷ ys) (y ∷ put_placed r ys)) first
put-between r (x ∷ xs) ys all first =
    ap (λ (b : Bool). cond b (r ∷ x ∷ (xs ++ ys)) (x ∷ put_placed r (xs ++ ys))) all.0 ∙ ap (λ (l : List Placed). x ∷ l) (put-between r xs ys all.1 first)

none_later-both : (r : Placed) (xs ys : List Placed) → NoneLater r xs → NoneLater r ys → NoneLater r (xs ++ ys)
none_later-both r [] ys h k = k
none_later-both r (x ∷ xs) ys h k = (h.0, none_later-both r xs ys h.1 k)

starts_later-both : (r : Placed) (xs ys : List Placed) → StartsLater r xs → StartsLater r ys → StartsLater r (xs ++ ys)
starts_later-both r [] ys h k = k
starts_later-both r (x ∷ xs) ys h k = h

path_before : (r : Placed) (p : List ℕ) (slots : List Slot) → path_cmp p r.path ≡ Less → NoneLater r (all_at p slots)
path_before r p [] less = tt
path_before r p (s ∷ slots) less =
    (ap (λ (o : Ordering). is_lt (ordering_then o (nat_cmp r.slot.number s.number))) (flip_less p r.path less), path_before r p slots less)

path_later : (r : Placed) (p : List ℕ) (slots : List Slot) → path_cmp r.path p ≡ Less → StartsLater r (all_at p slots)
path_later r p [] less = tt
path_later r p (s ∷ slots) less = ap (λ (o : Ordering). is_lt (ordering_then o (nat_cmp r.slot.number s.number))) less

no_lower : (a b : ℕ) → b ≤ a → is_lt (nat_cmp a b) ≡ false
no_lower a b h =
    ⊎_elim (λ e. ap is_lt (sym (nat_cmp_is a b Equal e)))
    (λ k. ⊎_elim (λ l. absurd (omega (arith, h, l))) (λ g. ap is_lt (sym (nat_cmp_is a b Greater g))) k) (cases_order a b)

number_before : (r : Placed) (slots : List Slot) → AllByRecursion (λ s. s.number ≤ r.slot.number) slots → NoneLater r (all_at r.path slots)
number_before r [] h = tt
number_before r (s ∷ slots) h = (
  ap (λ (o : Ordering). is_lt (ordering_then o (nat_cmp r.slot.number s.number))) (itself r.path) ∙ no_lower r.slot.number s.number h.0,
  number_before r slots h.1,
)

number_later : (r : Placed) (slots : List Slot) → StartsAbove r.slot.number slots → StartsLater r (all_at r.path slots)
number_later r [] h = tt
number_later r (s ∷ slots) h =
    ap (λ (o : Ordering). is_lt (ordering_then o (nat_cmp r.slot.number s.number))) (itself r.path) ∙ ap is_lt (sym (nat_cmp_is r.slot.number s.number Less h))

-- ---- the nodes behind
pub moved-after : (before : List ℕ) (place end : ℕ) (ns : List Node) (slots : List Slot) (s : Slot) (i : ℕ) → ArePacked place ns end → i ≤ place
    → i ≤ length slots → listing_after before (moved ns) (put_at i s slots) ≡ listing_after before ns slots
moved-after before place end [] slots s i packed behind within = refl
moved-after before place end (n ∷ ns) slots s i packed behind within =
    ap (λ (l : List Slot). record { path = path_after before n; slots = l } ∷ listing_after (path_after before n) (moved ns) (put_at i s slots))
    (slots-behind n slots s i within (omega (arith, packed.0, behind))) ∙
    ap (λ (l : List Shown). record { path = path_after before n; slots = slots_of n slots } ∷ l)
    (moved-after (path_after before n) (place + n.count) end ns slots s i packed.1 (omega (arith, behind)) within)

behind-later : (r : Placed) (before : List ℕ) (ns : List Node) (slots : List Slot) → AllAbove r.path (node_paths before ns) → StartsLater r (read_off (listing_after before ns slots))
behind-later r before [] slots all = tt
behind-later r before (n ∷ ns) slots all =
    starts_later-both r (all_at (path_after before n) (slots_of n slots)) (read_off (listing_after (path_after before n) ns slots))
    (path_later r (path_after before n) (slots_of n slots) all.0) (behind-later r (path_after before n) ns slots all.1)

-- ---- node by node
-- the last node
abbrev pub final : Node → List Node → Node
final n [] = n
final n (m ∷ ns) = final m ns

-- a node with this path and those after it
abbrev pub shown_from : List ℕ → Node → List Node → List Slot → List Shown
shown_from path n ns slots = record { path = path; slots = slots_of n slots } ∷ listing_after path ns slots

-- the first of these nodes has this path
abbrev pub shown_all : List ℕ → List Node → List Slot → List Shown
shown_all path [] slots = []
shown_all path (n ∷ ns) slots = shown_from path n ns slots

pub record Put (old new : List Placed) (r : Placed) : Type 0 where
  pub front : List Placed
  pub rest : List Placed
  pub was : old ≡ front ++ rest
  pub is : new ≡ front ++ r ∷ rest
  pub before : NoneLater r front
  pub after : StartsLater r rest

pub put-is : (old new : List Placed) (r : Placed) → Put old new r → new ≡ put_placed r old
put-is old new r p = p.is ∙ (sym (put-between r p.front p.rest p.before p.after) ∙ ap (put_placed r) (sym p.was))

put-more : (old new : List Placed) (r : Placed) (xs : List Placed) → NoneLater r xs → Put old new r → Put (xs ++ old) (xs ++ new) r
put-more old new r xs all p = record {
  front = xs ++ p.front;
  rest = p.rest;
  was = ap (λ (l : List Placed). xs ++ l) p.was ∙ sym (append_assoc xs p.front p.rest);
  is = ap (λ (l : List Placed). xs ++ l) p.is ∙ sym (append_assoc xs p.front (r ∷ p.rest));
  before = none_later-both r xs p.front all p.before;
  after = p.after;
}

final-path : (path : List ℕ) (n : Node) (ns : List Node) → Has (end_path path (n ∷ ns)) (node_paths path (n ∷ ns))
final-path path n [] = inl refl
final-path path n (m ∷ ns) = inr (final-path (path_after path n) m ns)

pub above_front : (x : List ℕ) (xs ys : List (List ℕ)) → AllAbove x (xs ++ ys) → AllAbove x xs
above_front x [] ys h = tt
above_front x (z ∷ xs) ys h = (h.0, above_front x xs ys h.1)

at_final : (n : Node) (back : List Node) (slots : List Slot) (r : Placed) (i mid : ℕ) → n.first + n.count ≡ mid → n.first ≤ i → i ≤ mid
    → ArePacked mid back (length slots) → mid ≤ length slots → IsBetween r.slot.number (slots_of n slots) (i - n.first)
    → AllAbove r.path (node_paths r.path back) → Put (read_off (shown_from r.path n back slots))
    (read_off (shown_from r.path (record n { count = n.count + 1 }) (moved back) (put_at i r.slot slots))) r
at_final n back slots r i mid ends low high packed within between above =
    let p : List ℕ = r.path in
    let j : ℕ = i - n.first in
    let held : List Slot = slots_of n slots in
    let rest : List Placed = read_off (listing_after p back slots) in
    let here : slots_of (record n { count = n.count + 1 }) (put_at i r.slot slots) ≡ put_at j r.slot held = slots-at n slots r.slot i low (omega (arith, high, ends)) (omega (arith, within, ends)) in
    let behind : listing_after p (moved back) (put_at i r.slot slots) ≡ listing_after p back slots = moved-after p mid (length slots) back slots r.slot i packed high (omega (arith, high, within)) in
    record {
      front = all_at p (take j held);
      rest = all_at p (drop j held) ++ rest;
      was = ap (λ (l : List Slot). all_at p l ++ rest) (sym (take-append-drop j held))
          ∙ (ap (λ (l : List Placed). l ++ rest) (map-append (λ (x : Slot). record { path = p; slot = x }) (take j held) (drop j held))
          ∙ append_assoc (all_at p (take j held)) (all_at p (drop j held)) rest);
      is = ap (λ (l : List Slot). all_at p l ++ read_off (listing_after p (moved back) (put_at i r.slot slots))) here ∙ (ap (λ (l : List Shown). all_at p (put_at j r.slot held) ++ read_off l) behind ∙
          (ap (λ (l : List Placed). l ++ rest) (map-append (λ (x : Slot). record { path = p; slot = x }) (take j held) (r.slot ∷ drop j held))
          ∙ append_assoc (all_at p (take j held)) (r ∷ all_at p (drop j held)) rest));
      before = number_before r (take j held) between.low;
      after = starts_later-both r (all_at p (drop j held)) rest (number_later r (drop j held) between.high) (behind-later r p back slots above);
    }

pub first-le : (place : ℕ) (n : Node) (ns : List Node) (mid : ℕ) → ArePacked place (n ∷ ns) mid → place ≤ (final n ns).first
first-le place n [] mid h = omega (arith, h.0)
first-le place n (m ∷ ns) mid h = omega (arith, first-le (place + n.count) m ns mid h.1)

pub bumped-on : (path : List ℕ) (m : Node) (ns rest : List Node) (slots : List Slot)
    → listing_after path (bumped (m ∷ ns) ++ rest) slots ≡ shown_all (path_after path m) (bumped (m ∷ ns) ++ rest) slots
bumped-on path m [] rest slots = refl
bumped-on path m (x ∷ ns) rest slots = refl

pub put-listing : (path : List ℕ) (n : Node) (ns back : List Node) (slots : List Slot) (r : Placed) (i place mid : ℕ) → end_path path ns ≡ r.path
    → ArePacked place (n ∷ ns) mid → ArePacked mid back (length slots) → mid ≤ length slots → (final n ns).first ≤ i → i ≤ mid
    → IsBetween r.slot.number (slots_of (final n ns) slots) (i - (final n ns).first)
    → IsStrictlySortedBy path_cmp (path ∷ (node_paths path ns ++ node_paths r.path back))
    → Put (read_off (shown_from path n (ns ++ back) slots)) (read_off (shown_all path (bumped (n ∷ ns) ++ moved back) (put_at i r.slot slots))) r
unfolding IsStrictlySortedBy
put-listing path n [] back slots r i place mid ends packed behind within low high between sorted =
    subst (λ (p : List ℕ). Put (read_off (shown_from p n back slots)) (read_off (shown_from p (record n { count = n.count + 1 }) (moved back) (put_at i r.slot slots))) r) (sym ends)
    (at_final n back slots r i mid (omega (arith, packed.0, packed.1)) low high behind within between (subst (λ (p : List ℕ). AllAbove p (node_paths r.path back)) ends sorted.0))
put-listing path n (m ∷ ns) back slots r i place mid ends packed behind within low high between sorted =
    let on : List ℕ = path_after path m in
    let new : List Slot = put_at i r.slot slots in
    let rest : Put (read_off (shown_from on m (ns ++ back) slots)) (read_off (shown_all on (bumped (m ∷ ns) ++ moved back) new)) r =
    put-listing on m ns back slots r i (place + n.count) mid ends packed.1 behind within low high between sorted.1 in
    let has : Has r.path (node_paths path (m ∷ ns)) = subst (λ (p : List ℕ). Has p (node_paths path (m ∷ ns))) ends (final-path path m ns) in
    let less : path_cmp path r.path ≡ Less = has_above path (node_paths path (m ∷ ns)) r.path (above_front path (node_paths path (m ∷ ns)) (node_paths r.path back) sorted.0) has in
    let here : slots_of n new ≡ slots_of n slots = slots-before n slots r.slot i (omega (arith, high, within)) (omega (arith, packed.0, low, first-le (place + n.count) m ns mid packed.1)) in
    let same : read_off (shown_all path (n ∷ (bumped (m ∷ ns) ++ moved back)) new) ≡ all_at path (slots_of n slots) ++ read_off (shown_all on (bumped (m ∷ ns) ++ moved back) new) =
    ap (λ (l : List Slot). all_at path l ++ read_off (listing_after path (bumped (m ∷ ns) ++ moved back) new)) here
    ∙ ap (λ (l : List Shown). all_at path (slots_of n slots) ++ read_off l) (bumped-on path m ns (moved back) new) in
    subst (λ (l : List Placed). Put (all_at path (slots_of n slots) ++ read_off (shown_from on m (ns ++ back) slots)) l r) (sym same)
    (put-more (read_off (shown_from on m (ns ++ back) slots)) (read_off (shown_all on (bumped (m ∷ ns) ++ moved back) new)) r
    (all_at path (slots_of n slots)) (path_before r path (slots_of n slots) less) rest)
