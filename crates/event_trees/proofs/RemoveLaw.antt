-- A tree with one registration less is the tree of the list with one less.
use Rattle.std.proofs.Common.{◌≡◌, ℕ, ◌+◌, ◌-◌, ◌<◌, ◌≤◌, cond, List, [], ◌∷◌, ◌++◌, length, sym, ap, subst, ◌∙◌, append_assoc}
use Rattle.std.specs.Prelude.{⊤, ◌≢◌, nat_lt}
use Rattle.std.specs.List.Sorted.{IsStrictlySortedBy}
use Rattle.shared_forest.specs.declared.node.Node.{Node}
use Rattle.shared_forest.specs.declared.node.Slot.{Slot}
use Rattle.shared_forest.specs.Layout.{ArePacked, AreTopped, IsTree}
use Rattle.shared_forest.specs.Listing.{Shown, slots_of, listing_after, listing_of, IsInOrder}
use Rattle.event_trees.specs.Private.{path_cmp}
use Rattle.event_trees.specs.Canon.{Placed, canon_of}
use Rattle.event_trees.specs.Build.{bumped}
use Rattle.event_trees.specs.ReadOff.{all_at, read_off}
use Rattle.event_trees.specs.Edit.{placed_cmp}
use Rattle.event_trees.specs.Insert.{end_path, moved}
use Rattle.event_trees.specs.Remove.{lowered, lowered_by}
use Rattle.event_trees.proofs.InOrder.{strict-rises, canon-order}
use Rattle.event_trees.proofs.CanonFrom.{paths_of}
use Rattle.event_trees.proofs.InsertPaths.{node_paths, after-bump, node_paths-append, paths-moved}
use Rattle.event_trees.proofs.InsertListing.{put_at, final}
use Rattle.event_trees.proofs.InsertLaw.{bumped-shown_all}
use Rattle.event_trees.proofs.InsertPacked.{packed-both}
use Rattle.event_trees.proofs.Needed.{IsNeeded, AreNeeded, listing-needed, needed-canon}
use Rattle.event_trees.proofs.RemoveLaid.{topped-out, topped-back}
use Rattle.event_trees.proofs.RemoveListing.{Cut, cut-listing, sorted-cut, HaveNone, read-out, sorted-out, packed-out}

-- ---- nodes that need one another
-- a node that stays has registrations, or the next node is under it
abbrev pub IsHeld : Node → List Node → Type 0
IsHeld n [] = 1 ≤ n.count
IsHeld n (b ∷ bs) = n.count ≡ 0 → n.depth < b.depth

-- the last of these nodes, if there is one, before others
abbrev pub Stays : List Node → List Node → Type 0
Stays [] back = ⊤
Stays (n ∷ []) back = IsHeld n back
Stays (n ∷ m ∷ ns) back = Stays (m ∷ ns) back

needed-moved : (n : Node) (ns : List Node) → IsNeeded (record n { first = n.first + 1 }) (moved ns) → IsNeeded n ns
needed-moved n [] h = h
needed-moved n (m ∷ ns) h = (h.0, needed-moved m ns h.1)

are_needed-moved : (ns : List Node) → AreNeeded (moved ns) → AreNeeded ns
are_needed-moved [] h = tt
are_needed-moved (n ∷ ns) h = needed-moved n ns h

needed-behind : (n : Node) (ns back : List Node) → IsNeeded n (ns ++ back) → AreNeeded back
needed-behind n [] [] h = tt
needed-behind n [] (b ∷ bs) h = h.1
needed-behind n (m ∷ ns) back h = needed-behind m ns back h.1

held-needed : (n : Node) (back : List Node) → IsHeld n back → AreNeeded back → IsNeeded n back
held-needed n [] h k = h
held-needed n (b ∷ bs) h k = (h, k)

-- with one registration less at the last of the front
needed-less : (n : Node) (ns back : List Node) → AreNeeded (bumped (n ∷ ns) ++ moved back) → Stays (n ∷ ns) back → IsNeeded n (ns ++ back)
needed-less n [] back h stays = held-needed n back stays (are_needed-moved back (needed-behind (record n { count = n.count + 1 }) [] (moved back) h))
needed-less n (m ∷ []) back h stays = (h.0, needed-less m [] back h.1 stays)
needed-less n (m ∷ x ∷ ns) back h stays = (h.0, needed-less m (x ∷ ns) back h.1 stays)

bumped-needed : (n : Node) (ns rest : List Node) → IsNeeded n (bumped ns ++ rest) → AreNeeded rest
bumped-needed n ns rest h = needed-behind n (bumped ns) rest h

lower-needed : (n : Node) (less behind : ℕ) (rest : List Node) → IsNeeded n rest → IsNeeded (lowered_by less behind n) rest
lower-needed n less behind [] h = h
lower-needed n less behind (b ∷ bs) h = h

-- without the run
needed-out : (n : Node) (fs : List Node) (m : Node) (rs back : List Node) (less : ℕ) → AreNeeded (bumped (n ∷ (fs ++ m ∷ rs)) ++ moved back)
    → Stays (n ∷ fs) back → IsNeeded n (lowered less fs ++ back)
needed-out n [] m [] back less h stays = held-needed n back stays (are_needed-moved back (bumped-needed n (m ∷ []) (moved back) h))
needed-out n [] m (r ∷ rs) back less h stays = held-needed n back stays (are_needed-moved back (bumped-needed n (m ∷ r ∷ rs) (moved back) h))
needed-out n (f ∷ []) m rs back less h stays = (h.0, lower-needed f less 0 back (needed-out f [] m rs back less h.1 stays))
needed-out n (f ∷ g ∷ fs) m rs back less h stays = (h.0, lower-needed f less (length (g ∷ fs)) (lowered less (g ∷ fs) ++ back) (needed-out f (g ∷ fs) m rs back less h.1 stays))

are_needed-less : (ns back : List Node) → AreNeeded (bumped ns ++ moved back) → Stays ns back → AreNeeded (ns ++ back)
are_needed-less [] back h stays = are_needed-moved back h
are_needed-less (n ∷ ns) back h stays = needed-less n ns back h stays

are_needed-out : (fs : List Node) (m : Node) (rs back : List Node) (less : ℕ) → AreNeeded (bumped (fs ++ m ∷ rs) ++ moved back) → Stays fs back → AreNeeded (lowered less fs ++ back)
are_needed-out [] m [] back less h stays = are_needed-moved back (bumped-needed (record m { count = m.count + 1 }) [] (moved back) h)
are_needed-out [] m (r ∷ rs) back less h stays = are_needed-moved back (bumped-needed m (r ∷ rs) (moved back) h)
are_needed-out (n ∷ fs) m rs back less h stays = lower-needed n less (length fs) (lowered less fs ++ back) (needed-out n fs m rs back less h stays)

-- ---- the tree before: as its copy with one registration less, and one more at the last of these nodes
tail_needed : (top : Node) (ns back : List Node) → AreNeeded (bumped (top ∷ ns) ++ moved back) → AreNeeded (bumped ns ++ moved back)
tail_needed top [] back h = needed-behind (record top { count = top.count + 1 }) [] (moved back) h
tail_needed top (m ∷ ns) back h = needed-behind top [] (bumped (m ∷ ns) ++ moved back) h

pub record Before (top : Node) (ns back : List Node) (slots : List Slot) (s : Slot) (i mid : ℕ) : Type 0 where
  pub tree : IsTree (bumped (top ∷ ns) ++ moved back) (put_at i s slots)
  pub canon : listing_of (bumped (top ∷ ns) ++ moved back) (put_at i s slots) ≡ canon_of (read_off (listing_of (bumped (top ∷ ns) ++ moved back) (put_at i s slots)))
  pub order : IsStrictlySortedBy placed_cmp (read_off (listing_of (bumped (top ∷ ns) ++ moved back) (put_at i s slots)))
  pub packed : ArePacked 0 (top ∷ ns) mid
  pub behind : ArePacked mid back (length slots)
  pub low : (final top ns).first ≤ i
  pub high : i ≤ mid
  pub within : mid ≤ length slots

-- a tree of its own registrations
pub record Outcome (nodes : List Node) (slots : List Slot) (all : List Placed) (s : Slot) (path : List ℕ) : Type 0 where
  pub tree : IsTree nodes slots
  pub listed : listing_of nodes slots ≡ canon_of (read_off (listing_of nodes slots))
  pub cut : Cut (read_off (listing_of nodes slots)) all (record { path = path; slot = s })

no_middle : (xs : List Placed) (r : Placed) (ys : List Placed) → xs ++ r ∷ ys ≡ [] → ⊥
no_middle [] r ys e = cc
no_middle (x ∷ xs) r ys e = cc

cut_some : (less all : List Placed) (r : Placed) → Cut less all r → all ≢ []
cut_some less all r c e = no_middle c.front r c.rest (sym c.was ∙ e)

order-cut : (less all : List Placed) (r : Placed) → Cut less all r → IsStrictlySortedBy placed_cmp all → IsStrictlySortedBy placed_cmp less
order-cut less all r c s = subst (IsStrictlySortedBy placed_cmp) (sym c.is) (sorted-cut placed_cmp c.front (r ∷ []) c.rest (subst (IsStrictlySortedBy placed_cmp) c.was s))

-- what is known of the copy without its bare nodes
pub record Cleared (top : Node) (ns back : List Node) (slots : List Slot) (s : Slot) (all : List Placed) : Type 0 where
  pub topped : AreTopped (top ∷ (ns ++ back))
  pub packed : ArePacked 0 (top ∷ (ns ++ back)) (length slots)
  pub sorted : IsStrictlySortedBy path_cmp ([] ∷ node_paths [] (ns ++ back))
  pub needed : AreNeeded (bumped ns ++ moved back)
  pub cut : Cut (read_off (listing_of (top ∷ (ns ++ back)) slots)) all (record { path = end_path [] ns; slot = s })

bumped-cons : (top : Node) (ns rest : List Node) (slots : List Slot) (list : List Placed) → IsTree (bumped (top ∷ ns) ++ rest) slots
    → listing_of (bumped (top ∷ ns) ++ rest) slots ≡ canon_of list → IsStrictlySortedBy placed_cmp list → list ≢ [] → AreNeeded (bumped (top ∷ ns) ++ rest)
bumped-cons top [] rest slots list tree canon order some = needed-canon (record top { count = top.count + 1 }) rest slots list tree canon (strict-rises list order) some
bumped-cons top (m ∷ ns) rest slots list tree canon order some = needed-canon top (bumped (m ∷ ns) ++ rest) slots list tree canon (strict-rises list order) some

pub cleared : (top : Node) (ns back : List Node) (slots : List Slot) (s : Slot) (i mid : ℕ) → Before top ns back slots s i mid
    → Cleared top ns back slots s (read_off (listing_of (bumped (top ∷ ns) ++ moved back) (put_at i s slots)))
cleared top ns back slots s i mid b =
    let old : List Node = bumped (top ∷ ns) ++ moved back in
    let old_slots : List Slot = put_at i s slots in
    let all : List Placed = read_off (listing_of old old_slots) in
    let cut : Cut (read_off (listing_of (top ∷ (ns ++ back)) slots)) all (record { path = end_path [] ns; slot = s }) =
    subst (λ (l : List Shown). Cut (read_off (listing_of (top ∷ (ns ++ back)) slots)) (read_off l) (record { path = end_path [] ns; slot = s })) (bumped-shown_all top ns (moved back) old_slots)
    (cut-listing [] top ns back slots s i 0 mid b.packed b.behind b.within b.low b.high) in
    let paths : paths_of (listing_of old old_slots) ≡ [] ∷ node_paths [] (ns ++ moved back) = after-bump top ns back old_slots in
    let unmoved : node_paths [] (ns ++ moved back) ≡ node_paths [] (ns ++ back) = node_paths-append [] ns (moved back)
    ∙ (ap (λ (l : List (List ℕ)). node_paths [] ns ++ l) (paths-moved (end_path [] ns) back) ∙ sym (node_paths-append [] ns back)) in
    record {
      topped = topped-back top ns back b.tree.topped;
      packed = packed-both 0 mid (top ∷ ns) back (length slots) b.packed b.behind;
      sorted = subst (IsStrictlySortedBy path_cmp) (paths ∙ ap (λ (l : List (List ℕ)). [] ∷ l) unmoved) b.tree.order.paths;
      needed = tail_needed top ns back (bumped-cons top ns (moved back) old_slots all b.tree b.canon b.order
          (cut_some (read_off (listing_of (top ∷ (ns ++ back)) slots)) all (record { path = end_path [] ns; slot = s }) cut));
      cut = cut;
    }

outcome : (top : Node) (ns : List Node) (slots : List Slot) (all : List Placed) (s : Slot) (path : List ℕ) → AreTopped (top ∷ ns)
    → ArePacked 0 (top ∷ ns) (length slots) → IsStrictlySortedBy path_cmp ([] ∷ node_paths [] ns) → AreNeeded ns
    → Cut (read_off (listing_of (top ∷ ns) slots)) all (record { path = path; slot = s }) → IsStrictlySortedBy placed_cmp all → Outcome (top ∷ ns) slots all s path
outcome top ns slots all s path topped packed sorted needed cut order =
    let listed : listing_of (top ∷ ns) slots ≡ canon_of (read_off (listing_of (top ∷ ns) slots)) = listing-needed top ns slots topped.1 topped.3 packed sorted needed in
    record {
      tree = record {
        topped = topped;
        packed = packed;
        order = subst IsInOrder (sym listed) (canon-order (read_off (listing_of (top ∷ ns) slots))
            (order-cut (read_off (listing_of (top ∷ ns) slots)) all (record { path = path; slot = s }) cut order));
      };
      listed = listed;
      cut = cut;
    }

-- the node of the registration stays
pub out-kept : (top : Node) (ns back : List Node) (slots : List Slot) (s : Slot) (i mid : ℕ) → Before top ns back slots s i mid → Stays ns back
    → Outcome (top ∷ (ns ++ back)) slots (read_off (listing_of (bumped (top ∷ ns) ++ moved back) (put_at i s slots))) s (end_path [] ns)
out-kept top ns back slots s i mid b stays =
    let c = cleared top ns back slots s i mid b in
    outcome top (ns ++ back) slots (read_off (listing_of (bumped (top ∷ ns) ++ moved back) (put_at i s slots))) s (end_path [] ns) c.topped c.packed
    c.sorted (are_needed-less ns back c.needed stays) c.cut b.order

-- the nodes that nothing needs go
pub out-run : (top : Node) (fs : List Node) (m : Node) (rs back : List Node) (slots : List Slot) (s : Slot) (i mid : ℕ)
    → Before top (fs ++ m ∷ rs) back slots s i mid → m.below ≡ length rs → HaveNone (m ∷ rs) → Stays fs back
    → Outcome (lowered (length (m ∷ rs)) (top ∷ fs) ++ back) slots (read_off
    (listing_of (bumped (top ∷ (fs ++ m ∷ rs)) ++ moved back) (put_at i s slots))) s (end_path [] (fs ++ m ∷ rs))
out-run top fs m rs back slots s i mid b is none stays =
    let run : List Node = m ∷ rs in
    let k : ℕ = length run in
    let c = cleared top (fs ++ run) back slots s i mid b in
    let one : (fs ++ run) ++ back ≡ fs ++ (run ++ back) = append_assoc fs run back in
    let topped : AreTopped (top ∷ (fs ++ (run ++ back))) = subst (λ (l : List Node). AreTopped (top ∷ l)) one c.topped in
    let packed : ArePacked 0 (top ∷ (fs ++ (run ++ back))) (length slots) = subst (λ (l : List Node). ArePacked 0 (top ∷ l) (length slots)) one c.packed in
    let sorted : IsStrictlySortedBy path_cmp ([] ∷ node_paths [] (fs ++ (run ++ back))) = subst (λ (l : List Node). IsStrictlySortedBy path_cmp ([] ∷ node_paths [] l)) one c.sorted in
    let read : read_off (listing_of (lowered k (top ∷ fs) ++ back) slots) ≡ read_off (listing_of (top ∷ ((fs ++ run) ++ back)) slots) =
    ap (λ (l : List Placed). all_at [] (slots_of top slots) ++ l) (read-out fs m rs back slots k topped.3 is none ∙ ap (λ (l : List Node). read_off (listing_after [] l slots)) (sym one)) in
    let all : List Placed = read_off (listing_of (bumped (top ∷ (fs ++ run)) ++ moved back) (put_at i s slots)) in
    outcome (record top { below = cond (nat_lt (length fs) top.below) (top.below - k) top.below }) (lowered k fs ++ back) slots all s
    (end_path [] (fs ++ run)) (topped-out top fs run back is topped) (packed-out 0 k (top ∷ fs) run back (length slots) none packed)
    (sorted-out fs m rs back k topped.3 is sorted) (are_needed-out fs m rs back k c.needed stays)
    (subst (λ (l : List Placed). Cut l all (record { path = end_path [] (fs ++ run); slot = s })) (sym read) c.cut) b.order
