-- A tree with one registration more is the tree of the list with one more.
use Rattle.std.proofs.Common.{◌≡◌, ℕ, ◌+◌, ◌-◌, ◌<◌, ◌≤◌, cond, List, [], ◌∷◌, ◌++◌, length, take, drop, refl, sym, ap, subst, ◌∙◌, arith, append_assoc, append-nil, inl, inr, ⊎_elim}
use Rattle.std.specs.Prelude.{⊤, ◌&&◌, nat_le}
use Rattle.std.specs.declared.cmp.Ordering.TheVariants.{Less}
use Rattle.std.specs.List.Sorted.{IsStrictlySortedBy}
use Rattle.std.proofs.lemmas.List.{length-take-le, length-drop, length-append, take_all, take-take, take-append-le}
use Rattle.std.proofs.lemmas.Bool.{cases_lt}
use Rattle.shared_forest.specs.declared.node.Node.{Node}
use Rattle.shared_forest.specs.declared.node.Slot.{Slot}
use Rattle.shared_forest.specs.Layout.{AreLaidOut, ArePacked, IsTree}
use Rattle.shared_forest.specs.Listing.{Shown, slots_of, path_after, listing_after, listing_of, IsInOrder}
use Rattle.event_trees.specs.Private.{path_cmp}
use Rattle.event_trees.specs.Canon.{Placed, prefixes, put_paths, paths_with, canon_of}
use Rattle.event_trees.specs.Build.{common, bumped}
use Rattle.event_trees.specs.ReadOff.{all_at, read_off}
use Rattle.event_trees.specs.Edit.{placed_cmp, put_placed}
use Rattle.event_trees.specs.Insert.{end_path, IsBetween, chain, raised, moved}
use Rattle.event_trees.proofs.Rises.{IsUpTo}
use Rattle.event_trees.proofs.Order.{Has, AllAbove, above_trans, sorted-puts}
use Rattle.event_trees.proofs.Growth.{EndsAt, take_none}
use Rattle.event_trees.proofs.InOrder.{canon-order}
use Rattle.event_trees.proofs.Whole.{read_off-append}
use Rattle.event_trees.proofs.Built.{listing_after-append, length-path_after}
use Rattle.event_trees.proofs.Reach.{common-left, common-right, take-common, later-shallow}
use Rattle.event_trees.proofs.CanonFrom.{paths_of, paths-put, canon-from, paths-canon}
use Rattle.event_trees.proofs.InsertLaid.{end_depth, IsShallow, topped-in}
use Rattle.event_trees.proofs.InsertPacked.{packed-path, packed-in}
use Rattle.event_trees.proofs.InsertPaths.{node_paths, paths-after, node_paths-append, end_path-append, end-raised, paths-moved, end-chain, paths-in, paths-with_path, puts-in}
use Rattle.event_trees.proofs.InsertListing.{above_front, put_at, final, shown_from, shown_all, Put, put-is, put-listing}

-- ---- the nodes before the place
length-end : (before : List ℕ) (depth : ℕ) (ns rest : List Node) → length before ≡ depth → AreLaidOut depth (ns ++ rest) → length (end_path before ns) ≡ end_depth depth ns
length-end before depth [] rest is laid = is
length-end before depth (n ∷ ns) rest is laid = length-end (path_after before n) n.depth ns rest (length-path_after before n laid.0 (omega (arith, is, laid.1))) laid.3

laid-behind : (depth : ℕ) (ns rest : List Node) → AreLaidOut depth (ns ++ rest) → AreLaidOut (end_depth depth ns) rest
laid-behind depth [] rest laid = laid
laid-behind depth (n ∷ ns) rest laid = laid-behind n.depth ns rest laid.3

snoc-end : (before : List ℕ) (ns : List Node) → (xs : List (List ℕ)) × (before ∷ node_paths before ns ≡ xs ++ end_path before ns ∷ [])
snoc-end before [] = ([], refl)
snoc-end before (n ∷ ns) =
    let r = snoc-end (path_after before n) ns in
    (before ∷ r.0, ap (λ (l : List (List ℕ)). before ∷ l) r.1)

has_left : (p : List ℕ) (xs ys : List (List ℕ)) → Has p xs → Has p (xs ++ ys)
has_left p [] ys h = absurd h
has_left p (x ∷ xs) ys h = ⊎_elim (λ e. inl e) (λ k. inr (has_left p xs ys k)) h

has_last : (p : List ℕ) (xs : List (List ℕ)) → Has p (xs ++ p ∷ [])
has_last p [] = inl refl
has_last p (x ∷ xs) = inr (has_last p xs)

-- the prefixes of the next node's path
pub begun-next : (before : List ℕ) (n : Node) (xs : List (List ℕ)) → 1 ≤ n.depth → n.depth ≤ length before + 1 → ((k : ℕ) → Has (take k before) xs)
    → (k : ℕ) → Has (take k (path_after before n)) (xs ++ path_after before n ∷ [])
begun-next before n xs low near h k =
    let path : List ℕ = path_after before n in
    let short : List ℕ = take (n.depth - 1) before in
    let size : length short ≡ n.depth - 1 = length-take-le (n.depth - 1) before (omega (arith, near)) in
    ⊎_elim (λ l.
    let same : take k path ≡ take k before = take-append-le k short (n.event ∷ []) (omega (arith, l, size)) ∙ take-take k (n.depth - 1) before (omega (arith, l)) in
    subst (λ (p : List ℕ). Has p (xs ++ path ∷ [])) (sym same) (has_left (take k before) xs (path ∷ []) (h k)))
    (λ g. subst (λ (p : List ℕ). Has p (xs ++ path ∷ [])) (sym (take_all k path (omega (arith, g, length-path_after before n low near, low)))) (has_last path xs)) (cases_lt k n.depth)

-- each prefix of the path of the last node has a node
begun : (before : List ℕ) (front : List (List ℕ)) (ns rest : List Node) (depth : ℕ) → length before ≡ depth → ((k : ℕ) → Has (take k before) front)
    → AreLaidOut depth (ns ++ rest) → (k : ℕ) → Has (take k (end_path before ns)) (front ++ node_paths before ns)
begun before front [] rest depth is h laid = λ k. subst (Has (take k before)) (sym (append-nil front)) (h k)
begun before front (n ∷ ns) rest depth is h laid =
    let path : List ℕ = path_after before n in
    let near : n.depth ≤ length before + 1 = omega (arith, is, laid.1) in
    let on = begun path (front ++ path ∷ []) ns rest n.depth (length-path_after before n laid.0 near) (begun-next before n front laid.0 near h) laid.3 in
    λ k. subst (Has (take k (end_path path ns))) (append_assoc front (path ∷ []) (node_paths path ns)) (on k)

pub sorted-front : (xs ys : List (List ℕ)) → IsStrictlySortedBy path_cmp (xs ++ ys) → IsStrictlySortedBy path_cmp xs
unfolding IsStrictlySortedBy
sorted-front [] ys s = tt
sorted-front (x ∷ xs) ys s = (above_front x xs ys s.0, sorted-front xs ys s.1)

sorted-behind : (xs ys : List (List ℕ)) → IsStrictlySortedBy path_cmp (xs ++ ys) → IsStrictlySortedBy path_cmp ys
unfolding IsStrictlySortedBy
sorted-behind [] ys s = s
sorted-behind (x ∷ xs) ys s = sorted-behind xs ys s.1

ends-front : (ns rest : List Node) → AreLaidOut 0 (ns ++ rest) → IsStrictlySortedBy path_cmp ([] ∷ node_paths [] (ns ++ rest)) → EndsAt ([] ∷ node_paths [] ns) (end_path [] ns)
ends-front ns rest laid sorted =
    let r = snoc-end [] ns in
    record {
      sorted = sorted-front ([] ∷ node_paths [] ns) (node_paths (end_path [] ns) rest) (subst (λ (l : List (List ℕ)). IsStrictlySortedBy path_cmp ([] ∷ l)) (node_paths-append [] ns rest) sorted);
      before = r.0;
      ends = r.1;
      begun = begun [] ([] ∷ []) ns rest 0 refl (λ k. inl (sym (take_none k))) laid;
    }

-- ---- the nodes behind it
-- the first of these nodes, after one with this path, is later than that path
abbrev pub IsLater : List ℕ → List ℕ → List Node → Type 0
IsLater q p [] = ⊤
IsLater q p (n ∷ ns) = path_cmp p (path_after q n) ≡ Less

shallow-behind : (q p : List ℕ) (depth : ℕ) (back : List Node) → IsUpTo q p → IsLater q p back → length q ≡ depth → AreLaidOut depth back → IsShallow (common q p) back
shallow-behind q p depth [] le later is laid = tt
shallow-behind q p depth (n ∷ ns) le later is laid = omega (arith, later-shallow (n.depth - 1) n.event q p le later (omega (arith, is, laid.1)))

above-behind : (q p : List ℕ) (back : List Node) → IsLater q p back → IsStrictlySortedBy path_cmp (node_paths q back) → AllAbove p (node_paths q back)
unfolding IsStrictlySortedBy
above-behind q p [] later sorted = tt
above-behind q p (n ∷ ns) later sorted = (later, above_trans p (path_after q n) (node_paths (path_after q n) ns) later sorted.0)

listing-behind : (q p : List ℕ) (back : List Node) (slots : List Slot) → IsShallow (common q p) back → listing_after p back slots ≡ listing_after q back slots
listing-behind q p [] slots s = refl
listing-behind q p (n ∷ ns) slots s =
    let front : take (n.depth - 1) q ≡ take (n.depth - 1) p = take-common (n.depth - 1) q p (omega (arith, s)) in
    ap (λ (l : List ℕ). record { path = l ++ n.event ∷ []; slots = slots_of n slots } ∷ listing_after (l ++ n.event ∷ []) ns slots) (sym front)

-- ---- nodes without registrations
listing-raised : (before : List ℕ) (c more : ℕ) (ns rest : List Node) (slots : List Slot) → listing_after before (raised c more ns ++ rest) slots ≡ listing_after before (ns ++ rest) slots
listing-raised before c more [] rest slots = refl
listing-raised before c more (n ∷ ns) rest slots = ap (λ (l : List Shown). record { path = path_after before n; slots = slots_of n slots } ∷ l)
    (listing-raised (path_after before n) c more ns rest slots)

read-chain : (before : List ℕ) (first d : ℕ) (es : List ℕ) (slots : List Slot) → read_off (listing_after before (chain first d es) slots) ≡ []
read-chain before first d [] slots = refl
read-chain before first d (e ∷ es) slots = read-chain (take ((d + 1) - 1) before ++ e ∷ []) first (d + 1) es slots

read-path : (q p : List ℕ) (c more mid : ℕ) (ns back : List Node) (slots : List Slot) → c ≡ common q p → end_path [] ns ≡ q → IsUpTo q p
    → IsShallow c back → read_off (listing_after [] ((raised c more ns ++ chain mid c (drop c p)) ++ back) slots) ≡ read_off (listing_after [] (ns ++ back) slots)
read-path q p c more mid ns back slots is ends le s =
    let ch : List Node = chain mid c (drop c p) in
    let front : List Shown = listing_after [] ns slots in
    let at_end : end_path q ch ≡ p = ap (λ (k : ℕ). end_path q (chain mid k (drop k p))) is ∙ end-chain q p mid le in
    let behind : listing_after (end_path q ch) back slots ≡ listing_after q back slots = ap (λ (l : List ℕ). listing_after l back slots) at_end
    ∙ listing-behind q p back slots (subst (λ (k : ℕ). IsShallow k back) is s) in
    let middle : read_off (listing_after q (ch ++ back) slots) ≡ read_off (listing_after q back slots) =
    ap read_off (listing_after-append q ch back slots) ∙ (read_off-append (listing_after q ch slots) (listing_after (end_path q ch) back slots) ∙
    (ap (λ (l : List Placed). l ++ read_off (listing_after (end_path q ch) back slots)) (read-chain q mid c (drop c p) slots) ∙ ap read_off behind)) in
    let split : (rest : List Node) → read_off (listing_after [] (ns ++ rest) slots) ≡ read_off front ++ read_off (listing_after q rest slots) =
    λ rest. ap read_off (listing_after-append [] ns rest slots) ∙ (read_off-append front (listing_after (end_path [] ns) rest slots)
    ∙ ap (λ (l : List ℕ). read_off front ++ read_off (listing_after l rest slots)) ends) in
    ap (λ (l : List Node). read_off (listing_after [] l slots)) (append_assoc (raised c more ns) ch back) ∙ (ap read_off (listing-raised [] c more ns (ch ++ back) slots) ∙
    (split (ch ++ back) ∙ (ap (λ (l : List Placed). read_off front ++ l) middle ∙ sym (split back))))

-- ---- where the registration comes in
-- at the node of its path, or at the end of the nodes before the new ones
pub record IsPlaced (r : Placed) (c : ℕ) (n : Node) (slots : List Slot) (i : ℕ) : Type 0 where
  pub low : n.first ≤ i
  pub high : i ≤ n.first + n.count
  pub new : c < length r.path → i ≡ n.first + n.count
  pub old : length r.path ≤ c → IsBetween r.slot.number (slots_of n slots) (i - n.first)

final-raised : (c more : ℕ) (ns : List Node) (n m : Node) → n.first ≡ m.first → n.count ≡ m.count
    → ((final n (raised c more ns)).first ≡ (final m ns).first) × ((final n (raised c more ns)).count ≡ (final m ns).count)
final-raised c more [] n m f g = (f, g)
final-raised c more (x ∷ ns) n m f g = final-raised c more ns (record x { below = cond (nat_le (length ns) x.below && nat_le x.depth c) (x.below + more) x.below }) x refl refl

pub final-end : (place : ℕ) (n : Node) (ns : List Node) (mid : ℕ) → ArePacked place (n ∷ ns) mid → (final n ns).first + (final n ns).count ≡ mid
final-end place n [] mid h = omega (arith, h.0, h.1)
final-end place n (m ∷ ns) mid h = final-end (place + n.count) m ns mid h.1

final-chain : (first d e : ℕ) (es : List ℕ) (n : Node) → ((final n (chain first d (e ∷ es))).first ≡ first) × ((final n (chain first d (e ∷ es))).count ≡ 0)
final-chain first d e [] n = (refl, refl)
final-chain first d e (x ∷ es) n = final-chain first (d + 1) x es n

final-both : (n : Node) (ns ms : List Node) → final n (ns ++ ms) ≡ final (final n ns) ms
final-both n [] ms = refl
final-both n (x ∷ ns) ms = final-both x ns ms

pub record AtFinal (number : ℕ) (n : Node) (slots : List Slot) (i mid : ℕ) : Type 0 where
  pub low : n.first ≤ i
  pub high : i ≤ mid
  pub between : IsBetween number (slots_of n slots) (i - n.first)

same-between : (number : ℕ) (n m : Node) (slots : List Slot) (i : ℕ) → n.first ≡ m.first → n.count ≡ m.count
    → IsBetween number (slots_of n slots) (i - n.first) → IsBetween number (slots_of m slots) (i - m.first)
same-between number n m slots i f g h =
    subst (λ (k : ℕ). IsBetween number (take k (drop m.first slots)) (i - m.first)) g (subst (λ (k : ℕ). IsBetween number (take n.count (drop k slots)) (i - k)) f h)

none-between : (number : ℕ) (n : Node) (slots : List Slot) (i : ℕ) → n.count ≡ 0 → i ≡ n.first → IsBetween number (slots_of n slots) (i - n.first)
none-between number n slots i none is =
    let at : i - n.first ≡ 0 = omega (arith, is) in
    subst (λ (k : ℕ). IsBetween number (take k (drop n.first slots)) (i - n.first)) (sym none)
    (subst (λ (k : ℕ). IsBetween number [] k) (sym at) (record { within = omega arith; low = tt; high = tt }))

at-final : (r : Placed) (c more mid : ℕ) (es : List ℕ) (top new : Node) (ns : List Node) (slots : List Slot) (i : ℕ) → new.first ≡ top.first
    → new.count ≡ top.count → es ≡ drop c r.path → c ≤ length r.path → ArePacked 0 (top ∷ ns) mid → IsPlaced r c (final top ns) slots i
    → AtFinal r.slot.number (final new (raised c more ns ++ chain mid c es)) slots i mid
at-final r c more mid [] top new ns slots i f g is short packed at =
    let l : Node = final new (raised c more ns) in
    let same = final-raised c more ns new top f g in
    let end : (final top ns).first + (final top ns).count ≡ mid = final-end 0 top ns mid packed in
    let all : length r.path ≤ c = omega (arith, ap length is, length-drop c r.path) in
    let one : raised c more ns ++ [] ≡ raised c more ns = append-nil (raised c more ns) in
    subst (λ (x : List Node). AtFinal r.slot.number (final new x) slots i mid) (sym one) (record {
      low = omega (arith, same.0, at.low);
      high = omega (arith, end, at.high);
      between = same-between r.slot.number (final top ns) l slots i (sym same.0) (sym same.1) (at.old all);
    })
at-final r c more mid (e ∷ es) top new ns slots i f g is short packed at =
    let ch : List Node = chain mid c (e ∷ es) in
    let l : Node = final (final new (raised c more ns)) ch in
    let both : final new (raised c more ns ++ ch) ≡ l = final-both new (raised c more ns) ch in
    let last = final-chain mid c e es (final new (raised c more ns)) in
    let end : (final top ns).first + (final top ns).count ≡ mid = final-end 0 top ns mid packed in
    let some : c < length r.path = omega (arith, ap length is, length-drop c r.path) in
    subst (λ (x : Node). AtFinal r.slot.number x slots i mid) (sym both) (record {
      low = omega (arith, last.0, at.new some, end);
      high = omega (arith, at.new some, end);
      between = none-between r.slot.number l slots i last.1 (omega (arith, last.0, at.new some, end));
    })

-- ---- the law
-- a tree, and the listing of a list
pub record IsTreeOf (nodes : List Node) (slots : List Slot) (list : List Placed) : Type 0 where
  pub tree : IsTree nodes slots
  pub listed : listing_of nodes slots ≡ canon_of list

put_at-length : (i : ℕ) (s : Slot) (slots : List Slot) → i ≤ length slots → length (put_at i s slots) ≡ length slots + 1
put_at-length i s slots within = omega (arith, length-append (take i slots) (s ∷ drop i slots), length-take-le i slots within, length-drop i slots)

pub bumped-shown_all : (top : Node) (ms back : List Node) (slots : List Slot) → shown_all [] (bumped (top ∷ ms) ++ back) slots ≡ listing_of (bumped (top ∷ ms) ++ back) slots
bumped-shown_all top [] back slots = refl
bumped-shown_all top (m ∷ ms) back slots = refl

pub inserted : (top : Node) (ns back : List Node) (slots : List Slot) (r : Placed) (c mid i : ℕ) → IsTree (top ∷ (ns ++ back)) slots
    → listing_of (top ∷ (ns ++ back)) slots ≡ canon_of (read_off (listing_of (top ∷ (ns ++ back)) slots))
    → IsStrictlySortedBy placed_cmp (put_placed r (read_off (listing_of (top ∷ (ns ++ back)) slots))) → IsUpTo (end_path [] ns) r.path
    → c ≡ common (end_path [] ns) r.path → IsLater (end_path [] ns) r.path back → ArePacked 0 (top ∷ ns) mid → ArePacked mid back (length slots)
    → IsPlaced r c (final top ns) slots i → mid ≤ length slots → IsTreeOf
    (bumped (raised c (length (drop c r.path)) (top ∷ ns) ++ chain mid c (drop c r.path)) ++ moved back) (put_at i r.slot slots)
    (put_placed r (read_off (listing_of (top ∷ (ns ++ back)) slots)))
inserted top ns back slots r c mid i tree canon order le is later front behind at within =
    let p : List ℕ = r.path in
    let q : List ℕ = end_path [] ns in
    let es : List ℕ = drop c p in
    let k : ℕ = length es in
    let old : List Shown = listing_of (top ∷ (ns ++ back)) slots in
    let list : List Placed = read_off old in
    let laid : AreLaidOut 0 (ns ++ back) = tree.topped.3 in
    let depth : length q ≡ end_depth 0 ns = length-end [] 0 ns back refl laid in
    let shallow_at : IsShallow (common q p) back = shallow-behind q p (end_depth 0 ns) back le later depth (laid-behind 0 ns back laid) in
    let shallow : IsShallow c back = subst (λ (x : ℕ). IsShallow x back) (sym is) shallow_at in
    let high : Node = record top { below = cond (nat_le (length ns) top.below && nat_le top.depth c) (top.below + k) top.below } in
    let ms : List Node = raised c k ns ++ chain mid c es in
    let new : List Node = bumped (raised c k (top ∷ ns) ++ chain mid c es) ++ moved back in
    let slots_new : List Slot = put_at i r.slot slots in
    let old_paths : paths_of old ≡ [] ∷ node_paths [] (ns ++ back) = ap (λ (l : List (List ℕ)). [] ∷ l) (paths-after [] (ns ++ back) slots) in
    let old_split : paths_of old ≡ ([] ∷ node_paths [] ns) ++ node_paths q back = old_paths ∙ ap (λ (l : List (List ℕ)). [] ∷ l) (node_paths-append [] ns back) in
    let old_sorted : IsStrictlySortedBy path_cmp ([] ∷ node_paths [] (ns ++ back)) = subst (IsStrictlySortedBy path_cmp) old_paths tree.order.paths in
    let ends : EndsAt ([] ∷ node_paths [] ns) q = ends-front ns back laid old_sorted in
    let above : AllAbove p (node_paths q back) = above-behind q p back later
    (sorted-behind ([] ∷ node_paths [] ns) (node_paths q back) (subst (IsStrictlySortedBy path_cmp) old_split tree.order.paths)) in
    let new_paths : [] ∷ node_paths [] (ms ++ moved back) ≡ put_paths (prefixes p) (paths_of old) =
    ap (λ (l : List (List ℕ)). [] ∷ l) (paths-in q p c k mid ns back is refl le shallow)
    ∙ (sym (puts-in q p ([] ∷ node_paths [] ns) (node_paths q back) ends le above) ∙ ap (put_paths (prefixes p)) (sym old_split)) in
    let sorted : IsStrictlySortedBy path_cmp ([] ∷ node_paths [] (ms ++ moved back)) = subst (IsStrictlySortedBy path_cmp) (sym new_paths) (sorted-puts (prefixes p) (paths_of old) tree.order.paths) in
    let listed_paths : paths_of (listing_of new slots_new) ≡ [] ∷ node_paths [] (ms ++ moved back) = paths-with_path c k mid es top ns back slots_new in
    let chain_end : end_path [] ms ≡ p = end_path-append [] (raised c k ns) (chain mid c es)
    ∙ (ap (λ (l : List ℕ). end_path l (chain mid c es)) (end-raised [] c k ns) ∙ (ap (λ (x : ℕ). end_path q (chain mid x (drop x p))) is ∙ end-chain q p mid le)) in
    let both : node_paths [] (ms ++ moved back) ≡ node_paths [] ms ++ node_paths p back = node_paths-append [] ms (moved back)
    ∙ (ap (λ (l : List ℕ). node_paths [] ms ++ node_paths l (moved back)) chain_end ∙ ap (λ (l : List (List ℕ)). node_paths [] ms ++ l) (paths-moved p back)) in
    let fin : AtFinal r.slot.number (final high ms) slots i mid = at-final r c k mid es top high ns slots i refl refl refl (omega (arith, is, common-right q p)) front at in
    let put : Put (read_off (shown_from [] high (ms ++ back) slots)) (read_off (shown_all [] new slots_new)) r =
    put-listing [] high ms back slots r i 0 mid chain_end (packed-path c k mid es top ns front) behind within fin.low fin.high fin.between
    (subst (λ (l : List (List ℕ)). IsStrictlySortedBy path_cmp ([] ∷ l)) both sorted) in
    let read_old : read_off (shown_from [] high (ms ++ back) slots) ≡ list = ap (λ (l : List Placed). all_at [] (slots_of top slots) ++ l) (read-path q p c k mid ns back slots is refl le shallow) in
    let read : read_off (listing_of new slots_new) ≡ put_placed r list = ap read_off (sym (bumped-shown_all high ms (moved back) slots_new))
    ∙ (put-is (read_off (shown_from [] high (ms ++ back) slots)) (read_off (shown_all [] new slots_new)) r put ∙ ap (put_placed r) read_old) in
    let all_paths : paths_of (listing_of new slots_new) ≡ paths_with ([] ∷ []) (put_placed r list) =
    listed_paths ∙ (new_paths ∙ (ap (put_paths (prefixes p)) (ap paths_of canon ∙ paths-canon list) ∙ sym (paths-put ([] ∷ []) r list))) in
    let listed : listing_of new slots_new ≡ canon_of (put_placed r list) = canon-from (put_placed r list) (listing_of new slots_new)
    (subst (IsStrictlySortedBy path_cmp) (sym listed_paths) sorted) all_paths read in
    record {
      tree = record {
        topped = topped-in c mid es top ns back shallow (omega (arith, is, common-left q p, depth)) tree.topped;
        packed = subst (ArePacked 0 new) (sym (put_at-length i r.slot slots (omega (arith, fin.high, within)))) (packed-in c k mid (length slots) es top ns back front behind);
        order = subst IsInOrder (sym listed) (canon-order (put_placed r list) order);
      };
      listed = listed;
    }
