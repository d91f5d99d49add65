-- How many nodes and registrations the tree of a list has.
use Rattle.std.proofs.Common.{◌≡◌, ℕ, suc, ◌+◌, ◌*◌, ◌≤◌, List, [], ◌∷◌, ◌++◌, length, refl, sym, ap, ◌∙◌, arith}
use Rattle.std.specs.List.{AllByRecursion}
use Rattle.std.proofs.lemmas.List.{length-map}
use Rattle.shared_forest.specs.declared.node.Node.{Node}
use Rattle.shared_forest.specs.declared.node.Slot.{Slot}
use Rattle.shared_forest.specs.Layout.{IsTree}
use Rattle.shared_forest.specs.Listing.{Shown, path_after, listing_after, listing_of}
use Rattle.event_trees.specs.Canon.{Placed, longer, prefixes, put_path, put_paths, paths_with, canon_of}
use Rattle.event_trees.specs.ReadOff.{all_at, read_off, AreShort}
use Rattle.event_trees.proofs.Order.{by_order, put-less, put-equal, put-greater}
use Rattle.event_trees.proofs.CanonFrom.{paths-canon}
use Rattle.event_trees.proofs.SlotsInOrder.{slots-tree}

size-put : (p : List ℕ) (xs : List (List ℕ)) → length (put_path p xs) ≤ length xs + 1
size-put p [] = omega arith
size-put p (x ∷ xs) =
    by_order p x (λ o. omega (arith, ap length (put-less p x xs o)))
    (λ o i. omega (arith, ap length (put-equal p x xs o)))
    (λ o i. omega (arith, ap length (put-greater p x xs o), size-put p xs))

size-puts : (ps xs : List (List ℕ)) → length (put_paths ps xs) ≤ length xs + length ps
size-puts [] xs = omega arith
size-puts (p ∷ ps) xs = omega (arith, size-puts ps (put_path p xs), size-put p xs)

size-longer : (front es : List ℕ) → length (longer front es) ≡ length es
size-longer front [] = refl
size-longer front (e ∷ es) = ap (λ (k : ℕ). suc k) (size-longer (front ++ e ∷ []) es)

size-with : (xs : List (List ℕ)) (list : List Placed) → AllByRecursion (λ r. length r.path ≤ 8) list → length (paths_with xs list) ≤ length xs + 8 * length list
size-with xs [] h = omega arith
size-with xs (r ∷ list) h = omega (arith, size-with (put_paths (prefixes r.path) xs) list h.1, size-puts (prefixes r.path) xs, size-longer [] r.path, h.0)

short-both : (xs ys : List Placed) → AllByRecursion (λ r. length r.path ≤ 8) xs → AllByRecursion (λ r. length r.path ≤ 8) ys → AllByRecursion (λ r. length r.path ≤ 8) (xs ++ ys)
short-both [] ys h k = k
short-both (x ∷ xs) ys h k = (h.0, short-both xs ys h.1 k)

short-at : (p : List ℕ) (slots : List Slot) → length p ≤ 8 → AllByRecursion (λ r. length r.path ≤ 8) (all_at p slots)
short-at p [] h = tt
short-at p (s ∷ slots) h = (h, short-at p slots h)

short-read : (shown : List Shown) → AreShort shown → AllByRecursion (λ r. length r.path ≤ 8) (read_off shown)
short-read [] h = tt
short-read (s ∷ ss) h = short-both (all_at s.path s.slots) (read_off ss) (short-at s.path s.slots h.0) (short-read ss h.1)

size-after : (before : List ℕ) (ns : List Node) (slots : List Slot) → length (listing_after before ns slots) ≡ length ns
size-after before [] slots = refl
size-after before (n ∷ ns) slots = ap (λ (k : ℕ). suc k) (size-after (path_after before n) ns slots)

size-listing : (nodes : List Node) (slots : List Slot) → length (listing_of nodes slots) ≡ length nodes
size-listing [] slots = refl
size-listing (top ∷ ns) slots = ap (λ (k : ℕ). suc k) (size-after [] ns slots)

-- as many registrations as are read off
pub size-slots : (nodes : List Node) (slots : List Slot) → IsTree nodes slots → length slots ≡ length (read_off (listing_of nodes slots))
size-slots nodes slots tree = sym (ap length (slots-tree nodes slots tree)) ∙ length-map (read_off (listing_of nodes slots)) (λ (r : Placed). r.slot)

-- at most 8 nodes for each registration, and the top node
pub size-nodes : (nodes : List Node) (slots : List Slot) → listing_of nodes slots ≡ canon_of (read_off (listing_of nodes slots))
    → AreShort (listing_of nodes slots) → length nodes ≤ 1 + 8 * length (read_off (listing_of nodes slots))
size-nodes nodes slots canon short =
    let list : List Placed = read_off (listing_of nodes slots) in
    omega (
      arith,
      size-listing nodes slots,
      ap length canon,
      length-map (canon_of list) (λ (s : Shown). s.path),
      ap length (paths-canon list),
      size-with ([] ∷ []) list (short-read (listing_of nodes slots) short),
    )
