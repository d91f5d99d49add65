-- A tree with one registration less, by the places from which the code takes it and its nodes out.
use Rattle.std.proofs.Common.{◌≡◌, ℕ, zero, suc, ◌+◌, ◌-◌, ◌<◌, ◌≤◌, Bool, true, false, cond, eqb, List, [], ◌∷◌, ◌++◌, length, take, drop, get_or, refl, sym, ap, subst, ◌∙◌, arith, append_assoc, ⊎_elim}
use Rattle.std.specs.Prelude.{◌≢◌, ◌==◌, ◌||◌, nat_lt, map}
use Rattle.std.specs.List.{AllByRecursion, IsDistinct, list_any}
use Rattle.std.specs.List.Sorted.{IsStrictlySortedBy}
use Rattle.std.proofs.lemmas.List.{length-append, length-take-le, length-drop, take_at, drop_at, drop_more, take-append-drop, take-take, drop-take, take_all}
use Rattle.std.proofs.lemmas.Bool.{cases_lt, ne_eqb}
use Rattle.std.proofs.lemmas.Bool.Decides.{nat_tests}
use Rattle.shared_forest.specs.declared.node.Node.{Node}
use Rattle.shared_forest.specs.declared.node.Slot.{Slot}
use Rattle.shared_forest.specs.Layout.{under, AreLaidOut, ArePacked, IsTree}
use Rattle.shared_forest.specs.Listing.{listing_of}
use Rattle.event_trees.specs.Canon.{Placed, canon_of}
use Rattle.event_trees.specs.Build.{bumped}
use Rattle.event_trees.specs.ReadOff.{read_off}
use Rattle.event_trees.specs.Edit.{placed_cmp, without_placed}
use Rattle.event_trees.specs.Insert.{end_path, moved}
use Rattle.event_trees.specs.Remove.{lowered, moved_back, uncounted, without_nodes, IsBare, IsRun, IsOwner, IsBareFrom, IsKeep, IsPlaceOf, StartsWith}
use Rattle.event_trees.proofs.InOrder.{strict-rises}
use Rattle.event_trees.proofs.InsertPacked.{packed-front}
use Rattle.event_trees.proofs.InsertListing.{put_at, final}
use Rattle.event_trees.proofs.InsertLaw.{IsTreeOf, final-end}
use Rattle.event_trees.proofs.InsertTree.{final-get}
use Rattle.event_trees.proofs.Walks.{packed-le}
use Rattle.event_trees.proofs.Needed.{IsNeeded, needed-canon}
use Rattle.event_trees.proofs.RemoveLaid.{Fewer, fewer}
use Rattle.event_trees.proofs.RemoveListing.{cut-without, HaveNone}
use Rattle.event_trees.proofs.RemoveLaw.{IsHeld, Stays, Before, Outcome, out-kept, out-run}

-- ---- the last node without one registration, as a head and a tail
abbrev head_less : Node → List Node → Node
head_less n [] = record n { count = n.count - 1 }
head_less n (m ∷ ns) = n

abbrev tail_less : List Node → List Node
tail_less [] = []
tail_less (m ∷ ns) = uncounted (m ∷ ns)

less-cons : (n : Node) (ns : List Node) → uncounted (n ∷ ns) ≡ head_less n ns ∷ tail_less ns
less-cons n [] = refl
less-cons n (m ∷ ns) = refl

less-size : (ns : List Node) → length (uncounted ns) ≡ length ns
less-size [] = refl
less-size (n ∷ []) = refl
less-size (n ∷ m ∷ ns) = ap (λ (k : ℕ). suc k) (less-size (m ∷ ns))

tail-size : (ns : List Node) → length (tail_less ns) ≡ length ns
tail-size [] = refl
tail-size (m ∷ ns) = less-size (m ∷ ns)

same-count : (n : Node) → 1 ≤ n.count → record n { count = (n.count - 1) + 1 } ≡ n
same-count n h = ap (λ (k : ℕ). record n { count = k }) (let k : (n.count - 1) + 1 ≡ n.count = omega (arith, h) in k)

more-less : (n : Node) (ns : List Node) → 1 ≤ (final n ns).count → bumped (uncounted (n ∷ ns)) ≡ n ∷ ns
more-less n [] h = ap (λ (x : Node). x ∷ []) (same-count n h)
more-less n (m ∷ []) h = ap (λ (l : List Node). n ∷ l) (more-less m [] h)
more-less n (m ∷ x ∷ ns) h = ap (λ (l : List Node). n ∷ l) (more-less m (x ∷ ns) h)

packed-less : (place : ℕ) (n : Node) (ns : List Node) (mid : ℕ) → ArePacked place (n ∷ ns) (mid + 1) → 1 ≤ (final n ns).count → ArePacked place (uncounted (n ∷ ns)) mid
packed-less place n [] mid h some = (h.0, omega (arith, h.1, some))
packed-less place n (m ∷ ns) mid h some = (h.0, packed-less (place + n.count) m ns mid h.1 some)

packed-back : (place : ℕ) (ns : List Node) (end : ℕ) → ArePacked (place + 1) ns (end + 1) → ArePacked place (moved_back ns) end
packed-back place [] end h = omega (arith, h)
packed-back place (n ∷ ns) end h = (omega (arith, h.0), packed-back (place + n.count) ns end (subst (λ (k : ℕ). ArePacked k ns (end + 1)) (omega arith) h.1))

same-first : (n : Node) → 1 ≤ n.first → record n { first = (n.first - 1) + 1 } ≡ n
same-first n h = ap (λ (k : ℕ). record n { first = k }) (let k : (n.first - 1) + 1 ≡ n.first = omega (arith, h) in k)

moved-back : (place : ℕ) (ns : List Node) (end : ℕ) → 1 ≤ place → ArePacked place ns end → moved (moved_back ns) ≡ ns
moved-back place [] end low h = refl
moved-back place (n ∷ ns) end low h =
    ap (λ (x : Node). x ∷ moved (moved_back ns)) (same-first n (omega (arith, h.0, low))) ∙ ap (λ (l : List Node). n ∷ l) (moved-back (place + n.count) ns end (omega (arith, low)) h.1)

final-less : (top n : Node) (ns : List Node) → (final top (uncounted (n ∷ ns))).first ≡ (final n ns).first
final-less top n [] = refl
final-less top n (m ∷ ns) = final-less n m ns

first-less : (n : Node) (ns : List Node) → (final (head_less n ns) (tail_less ns)).first ≡ (final n ns).first
first-less n [] = refl
first-less n (m ∷ ns) = final-less n m ns

slots-back : (i : ℕ) (slots : List Slot) (d : Slot) → i < length slots → put_at i (get_or slots i d) (take i slots ++ drop (i + 1) slots) ≡ slots
slots-back i slots d within =
    let long : length (take i slots) ≡ i = length-take-le i slots (omega (arith, within)) in
    let front : take i (take i slots ++ drop (i + 1) slots) ≡ take i slots = take_at (take i slots) (drop (i + 1) slots) i long in
    let rest : drop i (take i slots ++ drop (i + 1) slots) ≡ drop (i + 1) slots = drop_at (take i slots) (drop (i + 1) slots) i long in
    ap (λ (l : List Slot). l ++ get_or slots i d ∷ drop i (take i slots ++ drop (i + 1) slots)) front ∙ (ap (λ (l : List Slot). take i slots ++ get_or slots i d ∷ l) rest ∙
    (ap (λ (l : List Slot). take i slots ++ l) (sym (drop_more slots i d within)) ∙ take-append-drop i slots))

slots-size : (i : ℕ) (slots : List Slot) → i < length slots → length slots ≡ length (take i slots ++ drop (i + 1) slots) + 1
slots-size i slots within = omega (arith, length-append (take i slots) (drop (i + 1) slots), length-take-le i slots (omega (arith, within)), length-drop (i + 1) slots, within)

-- ---- the tree before, by its nodes up to the registration's and those behind it
pub record Old (top : Node) (fs back : List Node) (slots : List Slot) (i : ℕ) : Type 0 where
  pub tree : IsTree (top ∷ (fs ++ back)) slots
  pub canon : listing_of (top ∷ (fs ++ back)) slots ≡ canon_of (read_off (listing_of (top ∷ (fs ++ back)) slots))
  pub order : IsStrictlySortedBy placed_cmp (read_off (listing_of (top ∷ (fs ++ back)) slots))
  pub within : i < length slots
  pub low : (final top fs).first ≤ i
  pub high : i < (final top fs).first + (final top fs).count

before-old : (top : Node) (fs back : List Node) (slots : List Slot) (i : ℕ) (d : Slot) → Old top fs back slots i → (mid : ℕ)
    × Before (head_less top fs) (tail_less fs) (moved_back back) (take i slots ++ drop (i + 1) slots) (get_or slots i d) i mid
    × (bumped (head_less top fs ∷ tail_less fs) ++ moved (moved_back back) ≡ top ∷ (fs ++ back))
before-old top fs back slots i d o =
    let parts = packed-front 0 (top ∷ fs) back (length slots) o.tree.packed in
    let some : 1 ≤ (final top fs).count = omega (arith, o.low, o.high) in
    let ends : (final top fs).first + (final top fs).count ≡ parts.0 = final-end 0 top fs parts.0 parts.1.0 in
    let mid : ℕ = parts.0 - 1 in
    let mid_is : parts.0 ≡ mid + 1 = omega (arith, ends, some) in
    let fewer_slots : List Slot = take i slots ++ drop (i + 1) slots in
    let size : length slots ≡ length fewer_slots + 1 = slots-size i slots o.within in
    let behind : ArePacked (mid + 1) back (length fewer_slots + 1) = subst (λ (k : ℕ). ArePacked k back (length fewer_slots + 1)) mid_is (subst (ArePacked parts.0 back) size parts.1.1) in
    let front : bumped (head_less top fs ∷ tail_less fs) ≡ top ∷ fs = ap bumped (sym (less-cons top fs)) ∙ more-less top fs some in
    let rest : moved (moved_back back) ≡ back = moved-back (mid + 1) back (length fewer_slots + 1) (omega arith) behind in
    let nodes_is : bumped (head_less top fs ∷ tail_less fs) ++ moved (moved_back back) ≡ top ∷ (fs ++ back) = ap
    (λ (l : List Node). l ++ moved (moved_back back)) front ∙ ap (λ (l : List Node). top ∷ (fs ++ l)) rest in
    let slots_is : put_at i (get_or slots i d) fewer_slots ≡ slots = slots-back i slots d o.within in
    let back_behind : ArePacked mid (moved_back back) (length fewer_slots) = packed-back mid back (length fewer_slots) behind in (
      mid,
      record {
        tree = subst (λ (l : List Node). IsTree l (put_at i (get_or slots i d) fewer_slots)) (sym nodes_is) (subst (λ (l : List Slot). IsTree (top ∷ (fs ++ back)) l) (sym slots_is) o.tree);
        canon = subst (λ (l : List Node). listing_of l (put_at i (get_or slots i d) fewer_slots) ≡ canon_of
            (read_off (listing_of l (put_at i (get_or slots i d) fewer_slots)))) (sym nodes_is)
            (subst (λ (l : List Slot). listing_of (top ∷ (fs ++ back)) l ≡ canon_of (read_off (listing_of (top ∷ (fs ++ back)) l))) (sym slots_is) o.canon);
        order = subst (λ (l : List Node). IsStrictlySortedBy placed_cmp (read_off (listing_of l (put_at i (get_or slots i d) fewer_slots))))
            (sym nodes_is) (subst (λ (l : List Slot). IsStrictlySortedBy placed_cmp (read_off (listing_of (top ∷ (fs ++ back)) l))) (sym slots_is) o.order);
        packed = subst (λ (l : List Node). ArePacked 0 l mid) (less-cons top fs) (packed-less 0 top fs mid (subst (ArePacked 0 (top ∷ fs)) mid_is parts.1.0) some);
        behind = back_behind;
        low = omega (arith, first-less top fs, o.low);
        high = omega (arith, mid_is, ends, o.high);
        within = packed-le mid (moved_back back) (length fewer_slots) back_behind;
      },
      nodes_is,
    )

-- the list that is read off, once the nodes and registrations are those of the tree
old-all : (top : Node) (fs back : List Node) (slots : List Slot) (i : ℕ) (d : Slot) → i < length slots
    → bumped (head_less top fs ∷ tail_less fs) ++ moved (moved_back back) ≡ top ∷ (fs ++ back)
    → read_off (listing_of (bumped (head_less top fs ∷ tail_less fs) ++ moved (moved_back back))
    (put_at i (get_or slots i d) (take i slots ++ drop (i + 1) slots))) ≡ read_off (listing_of (top ∷ (fs ++ back)) slots)
old-all top fs back slots i d within is =
    ap (λ (l : List Slot). read_off (listing_of (bumped (head_less top fs ∷ tail_less fs) ++ moved (moved_back back)) l))
    (slots-back i slots d within) ∙ ap (λ (l : List Node). read_off (listing_of l slots)) is

-- ---- which nodes stay
held-under : (n : Node) (back : List Node) → 0 < under n.depth back → IsHeld n (moved_back back)
held-under n [] h = absurd (omega (arith, h))
held-under n (b ∷ bs) h = λ none.
    ⊎_elim (λ l. l) (λ g.
    let test : nat_lt n.depth b.depth ≡ false = grind (arith, nat_tests) in
    absurd (omega (arith, h, ap (λ (x : Bool). cond x (under n.depth bs + 1) 0) test))) (cases_lt n.depth b.depth)

held-some : (n : Node) (back : List Node) → 1 ≤ n.count → IsHeld n back
held-some n [] h = h
held-some n (b ∷ bs) h = λ none. absurd (omega (arith, h, none))

less-held : (n : Node) (back : List Node) → (n.count ≤ 1 → 0 < under n.depth back) → IsHeld (record n { count = n.count - 1 }) (moved_back back)
less-held n back h =
    ⊎_elim (λ one. held-under (record n { count = n.count - 1 }) back (h (omega (arith, one))))
    (λ more. held-some (record n { count = n.count - 1 }) (moved_back back) (omega (arith, more))) (cases_lt n.count 2)

stays-kept : (d0 : ℕ) (n : Node) (ns back : List Node) → AreLaidOut d0 ((n ∷ ns) ++ back) → ((final n ns).count ≤ 1 → 0 < (final n ns).below) → Stays (uncounted (n ∷ ns)) (moved_back back)
stays-kept d0 n [] back laid h = less-held n back (λ one. omega (arith, h one, laid.2))
stays-kept d0 n (m ∷ []) back laid h = stays-kept n.depth m [] back laid.3 h
stays-kept d0 n (m ∷ x ∷ ns) back laid h = stays-kept n.depth m (x ∷ ns) back laid.3 h

stays-run : (d0 : ℕ) (f : Node) (fs : List Node) (m : Node) (rs back : List Node) → AreLaidOut d0 ((f ∷ fs) ++ ((m ∷ rs) ++ back))
    → m.below ≡ length rs → IsNeeded f (fs ++ ((m ∷ rs) ++ back)) → ((final f fs).count ≡ 0 → (final f fs).below ≢ length (m ∷ rs)) → Stays (f ∷ fs) (moved_back back)
stays-run d0 f [] m rs back laid is needed stop =
    ⊎_elim (λ none.
    let zero_count : f.count ≡ 0 = omega (arith, none) in
    let deeper : f.depth < m.depth = needed.0 zero_count in
    let test : nat_lt f.depth m.depth ≡ true = grind (arith, nat_tests) in
    let some : under f.depth (m ∷ (rs ++ back)) ≡ under f.depth (rs ++ back) + 1 = ap (λ (b : Bool). cond b (under f.depth (rs ++ back) + 1) 0) test in
    let less : Fewer f.depth [] (m ∷ rs) back = fewer f.depth f.depth [] (m ∷ rs) back is laid.3 in
    let past : under f.depth (m ∷ (rs ++ back)) ≡ under f.depth back + length (m ∷ rs) = less.past (omega (arith, some)) in
    ⊎_elim (λ empty. absurd (stop zero_count (omega (arith, laid.2, past, empty)))) (λ h. held-under f back (omega (arith, h))) (cases_lt (under f.depth back) 1))
    (λ some. held-some f (moved_back back) some) (cases_lt f.count 1)
stays-run d0 f (g ∷ fs) m rs back laid is needed stop = stays-run f.depth g fs m rs back laid.3 is needed.1 stop

bare-none : (n : Node) (ns : List Node) → IsBare (n ∷ ns) → HaveNone (uncounted (n ∷ ns))
bare-none n [] h = (omega (arith, h), tt)
bare-none n (m ∷ ns) h = (h.0, bare-none m ns h.1)

-- ---- the outcome
abbrev pub Removed : List Node → List Slot → ℕ → List Placed → Type 0
Removed nodes slots number all = IsTreeOf nodes slots (without_placed number all)

removed-from : (nodes : List Node) (slots : List Slot) (all : List Placed) (s : Slot) (path : List ℕ) → Outcome nodes slots all s path
    → IsDistinct eqb (map (λ r. r.slot.number) all) → Removed nodes slots s.number all
removed-from nodes slots all s path o distinct =
    let c = o.cut in
    let others : without_placed s.number all ≡ read_off (listing_of nodes slots) =
    ap (without_placed s.number) c.was ∙ (cut-without c.front (record { path = path; slot = s }) c.rest
    (subst (λ (l : List Placed). IsDistinct eqb (map (λ r. r.slot.number) l)) c.was distinct) ∙ sym c.is) in
    record { tree = o.tree; listed = o.listed ∙ ap canon_of (sym others) }

tail-stays : (top : Node) (fs back : List Node) → AreLaidOut 0 (fs ++ back) → (1 ≤ length fs → (final top fs).count ≤ 1 → 0 < (final top fs).below) → Stays (tail_less fs) (moved_back back)
tail-stays top [] back laid h = tt
tail-stays top (m ∷ ns) back laid h = stays-kept 0 m ns back laid (h (omega arith))

pub removed-kept : (top : Node) (fs back : List Node) (slots : List Slot) (i : ℕ) (d : Slot) → Old top fs back slots i
    → IsDistinct eqb (map (λ r. r.slot.number) (read_off (listing_of (top ∷ (fs ++ back)) slots)))
    → (1 ≤ length fs → (final top fs).count ≤ 1 → 0 < (final top fs).below)
    → Removed (uncounted (top ∷ fs) ++ moved_back back) (take i slots ++ drop (i + 1) slots) (get_or slots i d).number (read_off (listing_of (top ∷ (fs ++ back)) slots))
removed-kept top fs back slots i d o distinct keeps =
    let b = before-old top fs back slots i d o in
    let fewer_slots : List Slot = take i slots ++ drop (i + 1) slots in
    let all_is = old-all top fs back slots i d o.within b.2 in
    let out = out-kept (head_less top fs) (tail_less fs) (moved_back back) fewer_slots (get_or slots i d) i b.0 b.1 (tail-stays top fs back o.tree.topped.3 keeps) in
    let out_old = subst (λ (l : List Placed). Outcome (head_less top fs ∷ (tail_less fs ++ moved_back back)) fewer_slots l (get_or slots i d) (end_path [] (tail_less fs))) all_is out in
    subst (λ (l : List Node). Removed (l ++ moved_back back) fewer_slots (get_or slots i d).number (read_off (listing_of (top ∷ (fs ++ back)) slots))) (sym (less-cons top fs))
    (removed-from (head_less top fs ∷ (tail_less fs ++ moved_back back)) fewer_slots (read_off (listing_of (top ∷ (fs ++ back)) slots))
    (get_or slots i d) (end_path [] (tail_less fs)) out_old distinct)

-- the nodes that stay before the run, and the run
less-both : (fs : List Node) (m : Node) (rs : List Node) → uncounted (fs ++ m ∷ rs) ≡ fs ++ (head_less m rs ∷ tail_less rs)
less-both [] m rs = less-cons m rs
less-both (f ∷ []) m rs = ap (λ (l : List Node). f ∷ l) (less-cons m rs)
less-both (f ∷ g ∷ fs) m rs = ap (λ (l : List Node). f ∷ l) (less-both (g ∷ fs) m rs)

tail-both : (fs : List Node) (m : Node) (rs : List Node) → tail_less (fs ++ m ∷ rs) ≡ fs ++ (head_less m rs ∷ tail_less rs)
tail-both [] m rs = less-cons m rs
tail-both (f ∷ fs) m rs = less-both (f ∷ fs) m rs

head-both : (top : Node) (fs : List Node) (m : Node) (rs : List Node) → head_less top (fs ++ m ∷ rs) ≡ top
head-both top [] m rs = refl
head-both top (f ∷ fs) m rs = refl

head-below : (m : Node) (rs : List Node) → (head_less m rs).below ≡ m.below
head-below m [] = refl
head-below m (r ∷ rs) = refl

front-stays : (top : Node) (fs : List Node) (m : Node) (rs back : List Node) → AreLaidOut 0 (fs ++ ((m ∷ rs) ++ back)) → m.below ≡ length rs
    → IsNeeded top (fs ++ ((m ∷ rs) ++ back)) → (1 ≤ length fs → (final top fs).count ≡ 0 → (final top fs).below ≢ length (m ∷ rs)) → Stays fs (moved_back back)
front-stays top [] m rs back laid is needed stop = tt
front-stays top (f ∷ fs) m rs back laid is needed stop = stays-run 0 f fs m rs back laid is needed.1 (stop (omega arith))

pub removed-run : (top : Node) (fs : List Node) (m : Node) (rs back : List Node) (slots : List Slot) (i : ℕ) (d : Slot)
    → Old top (fs ++ m ∷ rs) back slots i → IsDistinct eqb (map (λ r. r.slot.number) (read_off (listing_of (top ∷ ((fs ++ m ∷ rs) ++ back)) slots)))
    → read_off (listing_of (top ∷ ((fs ++ m ∷ rs) ++ back)) slots) ≢ [] → IsBare (m ∷ rs) → m.below ≡ length rs
    → (1 ≤ length fs → (final top fs).count ≡ 0 → (final top fs).below ≢ length (m ∷ rs))
    → Removed (lowered (length (m ∷ rs)) (top ∷ fs) ++ moved_back back) (take i slots ++ drop (i + 1) slots) (get_or slots i d).number
    (read_off (listing_of (top ∷ ((fs ++ m ∷ rs) ++ back)) slots))
removed-run top fs m rs back slots i d o distinct some bare is stop =
    let ms : List Node = fs ++ m ∷ rs in
    let b = before-old top ms back slots i d o in
    let fewer_slots : List Slot = take i slots ++ drop (i + 1) slots in
    let s : Slot = get_or slots i d in
    let all : List Placed = read_off (listing_of (top ∷ (ms ++ back)) slots) in
    let all_is = old-all top ms back slots i d o.within b.2 in
    let h : Node = head_less m rs in
    let t : List Node = tail_less rs in
    let before : Before top (fs ++ h ∷ t) (moved_back back) fewer_slots s i b.0 =
    subst (λ (l : List Node). Before top l (moved_back back) fewer_slots s i b.0) (tail-both fs m rs)
    (subst (λ (n : Node). Before n (tail_less ms) (moved_back back) fewer_slots s i b.0) (head-both top fs m rs) b.1) in
    let same : read_off (listing_of (bumped (top ∷ (fs ++ h ∷ t)) ++ moved (moved_back back)) (put_at i s fewer_slots)) ≡ all =
    ap (λ (l : List Node). read_off (listing_of (bumped (top ∷ l) ++ moved (moved_back back)) (put_at i s fewer_slots))) (sym (tail-both fs m rs))
    ∙ (ap (λ (n : Node). read_off (listing_of (bumped (n ∷ tail_less ms) ++ moved (moved_back back)) (put_at i s fewer_slots))) (sym (head-both top fs m rs)) ∙ all_is) in
    let none : HaveNone (h ∷ t) = subst HaveNone (less-cons m rs) (bare-none m rs bare) in
    let below : h.below ≡ length t = head-below m rs ∙ (is ∙ sym (tail-size rs)) in
    let one : ms ++ back ≡ fs ++ ((m ∷ rs) ++ back) = append_assoc fs (m ∷ rs) back in
    let needed : IsNeeded top (ms ++ back) = needed-canon top (ms ++ back) slots all o.tree o.canon (strict-rises all o.order) some in
    let stays : Stays fs (moved_back back) = front-stays top fs m rs back (subst (AreLaidOut 0) one o.tree.topped.3) is (subst (IsNeeded top) one needed) stop in
    let out = out-run top fs h t (moved_back back) fewer_slots s i b.0 before below none stays in
    let size : length (h ∷ t) ≡ length (m ∷ rs) = ap (λ (k : ℕ). suc k) (tail-size rs) in
    subst (λ (k : ℕ). Removed (lowered k (top ∷ fs) ++ moved_back back) fewer_slots s.number all) size
    (removed-from (lowered (length (h ∷ t)) (top ∷ fs) ++ moved_back back) fewer_slots all s (end_path [] (fs ++ h ∷ t))
    (subst (λ (l : List Placed). Outcome (lowered (length (h ∷ t)) (top ∷ fs) ++ moved_back back) fewer_slots l s (end_path [] (fs ++ h ∷ t))) same out) distinct)

-- ---- by places
run-case : (top : Node) (fs run back : List Node) (slots : List Slot) (i : ℕ) (d : Slot) → 1 ≤ length run → Old top (fs ++ run) back slots i
    → IsDistinct eqb (map (λ r. r.slot.number) (read_off (listing_of (top ∷ ((fs ++ run) ++ back)) slots)))
    → read_off (listing_of (top ∷ ((fs ++ run) ++ back)) slots) ≢ [] → IsBare run → IsRun run
    → (1 ≤ length fs → (final top fs).count ≡ 0 → (final top fs).below ≢ length run)
    → Removed (lowered (length run) (top ∷ fs) ++ moved_back back) (take i slots ++ drop (i + 1) slots) (get_or slots i d).number
    (read_off (listing_of (top ∷ ((fs ++ run) ++ back)) slots))
run-case top fs [] back slots i d long o distinct some bare is stop = absurd (omega (arith, long))
run-case top fs (m ∷ rs) back slots i d long o distinct some bare is stop = removed-run top fs m rs back slots i d o distinct some bare is stop

-- the tree before
pub record Whole (nodes : List Node) (slots : List Slot) : Type 0 where
  pub tree : IsTree nodes slots
  pub canon : listing_of nodes slots ≡ canon_of (read_off (listing_of nodes slots))
  pub order : IsStrictlySortedBy placed_cmp (read_off (listing_of nodes slots))
  pub distinct : IsDistinct eqb (map (λ r. r.slot.number) (read_off (listing_of nodes slots)))
  pub some : read_off (listing_of nodes slots) ≢ []

old-of : (top : Node) (ns : List Node) (slots : List Slot) (i j : ℕ) → Whole (top ∷ ns) slots → i < length slots → IsOwner (top ∷ ns) i j → Old top (take j ns) (drop j ns) slots i
old-of top ns slots i j w within owner =
    let split : take j ns ++ drop j ns ≡ ns = take-append-drop j ns in
    let last : get_or (top ∷ ns) j (record { event = 0; depth = 0; below = 0; first = 0; count = 0 }) ≡ final top (take j ns) = final-get j top ns
    (record { event = 0; depth = 0; below = 0; first = 0; count = 0 }) (omega (arith, owner.within)) in
    record {
      tree = subst (λ (l : List Node). IsTree (top ∷ l) slots) (sym split) w.tree;
      canon = subst (λ (l : List Node). listing_of (top ∷ l) slots ≡ canon_of (read_off (listing_of (top ∷ l) slots))) (sym split) w.canon;
      order = subst (λ (l : List Node). IsStrictlySortedBy placed_cmp (read_off (listing_of (top ∷ l) slots))) (sym split) w.order;
      within = within;
      low = subst (λ (n : Node). n.first ≤ i) last owner.low;
      high = subst (λ (n : Node). i < n.first + n.count) last owner.high;
    }

by_run : (top : Node) (ns : List Node) (slots : List Slot) (i j keep : ℕ) (d : Slot) → Whole (top ∷ ns) slots → i < length slots
    → IsOwner (top ∷ ns) i j → IsBareFrom (top ∷ ns) (suc j) keep → Old top (take j ns) (drop j ns) slots i
    → IsDistinct eqb (map (λ r. r.slot.number) (read_off (listing_of (top ∷ (take j ns ++ drop j ns)) slots)))
    → Removed (without_nodes keep (suc j) (top ∷ ns)) (take i slots ++ drop (i + 1) slots) (get_or slots i d).number (read_off (listing_of (top ∷ ns) slots))
by_run top ns slots i j zero d w within owner bare o distinct = absurd (omega (arith, bare.low))
by_run top ns slots i j (suc k) d w within owner bare o distinct =
    let none : Node = record { event = 0; depth = 0; below = 0; first = 0; count = 0 } in
    let less : k < j = omega (arith, bare.high) in
    let gone : suc j - suc k ≡ j - k = omega arith in
    let run : List Node = take (j - k) (drop k ns) in
    let run_is : take (suc j - suc k) (drop k ns) ≡ run = ap (λ (n : ℕ). take n (drop k ns)) gone in
    let size : length run ≡ j - k = length-take-le (j - k) (drop k ns) (omega (arith, length-drop k ns, owner.within)) in
    let front : take j ns ≡ take k ns ++ run =
    sym (take-append-drop k (take j ns)) ∙ (ap (λ (l : List Node). l ++ drop k (take j ns)) (take-take k j ns (omega (arith, less))) ∙
    ap (λ (l : List Node). take k ns ++ l) (ap (λ (n : ℕ). drop k (take n ns)) (let n : j ≡ k + (j - k) = omega (arith, less) in n) ∙ drop-take k (j - k) ns)) in
    let split : take j ns ++ drop j ns ≡ ns = take-append-drop j ns in
    let split_run : (take k ns ++ run) ++ drop j ns ≡ ns = ap (λ (l : List Node). l ++ drop j ns) (sym front) ∙ split in
    let long : length (take k ns) ≡ k = length-take-le k ns (omega (arith, owner.within, less)) in
    let last : get_or (top ∷ ns) k none ≡ final top (take k ns) = final-get k top ns none (omega (arith, owner.within, less)) in
    let at : suc k - 1 ≡ k = omega arith in
    let stop : 1 ≤ length (take k ns) → (final top (take k ns)).count ≡ 0 → (final top (take k ns)).below ≢ length run = λ more zero_count same.
    bare.stop (omega (arith, more, long)) (ap (λ (n : ℕ). (get_or (top ∷ ns) n none).count) at
    ∙ (ap (λ (n : Node). n.count) last ∙ zero_count)) (ap (λ (n : ℕ). (get_or (top ∷ ns) n none).below) at ∙ (ap (λ (n : Node). n.below) last ∙ (same ∙ (size ∙ sym gone)))) in
    let law = run-case top (take k ns) run (drop j ns) slots i d (omega (arith, size, less))
    (subst (λ (l : List Node). Old top l (drop j ns) slots i) front o)
    (subst (λ (l : List Node). IsDistinct eqb (map (λ r. r.slot.number) (read_off (listing_of (top ∷ l) slots)))) (sym split_run) w.distinct)
    (subst (λ (l : List Node). read_off (listing_of (top ∷ l) slots) ≢ []) (sym split_run) w.some) (subst IsBare run_is bare.bare) (subst IsRun run_is bare.run) stop in
    let test : nat_lt (suc k) (suc j) ≡ true = grind (arith, nat_tests) in
    subst (λ (b : Bool). Removed (cond b (lowered (suc j - suc k) (top ∷ take k ns)) (uncounted (top ∷ take j ns)) ++ moved_back (drop j ns))
    (take i slots ++ drop (i + 1) slots) (get_or slots i d).number (read_off (listing_of (top ∷ ns) slots))) (sym test)
    (subst (λ (n : ℕ). Removed (lowered n (top ∷ take k ns) ++ moved_back (drop j ns)) (take i slots ++ drop (i + 1) slots) (get_or slots i d).number
    (read_off (listing_of (top ∷ ns) slots))) (size ∙ sym gone)
    (subst (λ (l : List Node). Removed (lowered (length run) (top ∷ take k ns) ++ moved_back (drop j ns)) (take i slots ++ drop (i + 1) slots)
    (get_or slots i d).number (read_off (listing_of (top ∷ l) slots))) split_run law))

by_keep : (top : Node) (ns : List Node) (slots : List Slot) (i j keep : ℕ) (d : Slot) → Whole (top ∷ ns) slots → i < length slots
    → IsOwner (top ∷ ns) i j → IsKeep (top ∷ ns) (suc j) keep → Removed (without_nodes keep (suc j) (top ∷ ns)) (take i slots ++ drop (i + 1) slots)
    (get_or slots i d).number (read_off (listing_of (top ∷ ns) slots))
by_keep top ns slots i j keep d w within owner keeps =
    let none : Node = record { event = 0; depth = 0; below = 0; first = 0; count = 0 } in
    let split : take j ns ++ drop j ns ≡ ns = take-append-drop j ns in
    let long : length (take j ns) ≡ j = length-take-le j ns (omega (arith, owner.within)) in
    let last : get_or (top ∷ ns) j none ≡ final top (take j ns) = final-get j top ns none (omega (arith, owner.within)) in
    let o : Old top (take j ns) (drop j ns) slots i = old-of top ns slots i j w within owner in
    let distinct : IsDistinct eqb (map (λ r. r.slot.number) (read_off (listing_of (top ∷ (take j ns ++ drop j ns)) slots))) = subst
    (λ (l : List Node). IsDistinct eqb (map (λ r. r.slot.number) (read_off (listing_of (top ∷ l) slots)))) (sym split) w.distinct in
    ⊎_elim (λ less.
    by_run top ns slots i j keep d w within owner (keeps.some less) o distinct)
    (λ all.
    let whole : keep ≡ suc j = omega (arith, all, keeps.high) in
    let test : nat_lt keep (suc j) ≡ false = grind (arith, nat_tests) in
    let at : suc j - 1 ≡ j = omega arith in
    let stays : 1 ≤ length (take j ns) → (final top (take j ns)).count ≤ 1 → 0 < (final top (take j ns)).below = λ more one.
    subst (λ (n : Node). 0 < n.below) last (subst (λ (k : ℕ). 0 < (get_or (top ∷ ns) k none).below) at
    (keeps.all whole (omega (arith, more, long)) (subst (λ (k : ℕ). (get_or (top ∷ ns) k none).count ≤ 1) (sym at) (subst (λ (n : Node). n.count ≤ 1) (sym last) one)))) in
    let law = removed-kept top (take j ns) (drop j ns) slots i d o distinct stays in
    subst (λ (b : Bool). Removed (cond b (lowered (suc j - keep) (take keep (top ∷ ns))) (uncounted (top ∷ take j ns)) ++ moved_back (drop j ns))
    (take i slots ++ drop (i + 1) slots) (get_or slots i d).number (read_off (listing_of (top ∷ ns) slots))) (sym test)
    (subst (λ (l : List Node). Removed (uncounted (top ∷ take j ns) ++ moved_back (drop j ns)) (take i slots ++ drop (i + 1) slots)
    (get_or slots i d).number (read_off (listing_of (top ∷ l) slots))) split law)) (cases_lt keep (suc j))

pub tree-removed : (nodes : List Node) (slots : List Slot) (i j keep : ℕ) (d : Slot) → Whole nodes slots → i < length slots → IsOwner nodes i j
    → IsKeep nodes (j + 1) keep → Removed (without_nodes keep (j + 1) nodes) (take i slots ++ drop (i + 1) slots) (get_or slots i d).number (read_off (listing_of nodes slots))
tree-removed [] slots i j keep d w within owner keeps = absurd w.tree.topped
tree-removed (top ∷ ns) slots i j keep d w within owner keeps =
    let one : j + 1 ≡ suc j = omega arith in
    subst (λ (e : ℕ). Removed (without_nodes keep e (top ∷ ns)) (take i slots ++ drop (i + 1) slots) (get_or slots i d).number (read_off (listing_of (top ∷ ns) slots))) (sym one)
    (by_keep top ns slots i j keep d w within owner (subst (λ (e : ℕ). IsKeep (top ∷ ns) e keep) one keeps))

pub place-number : (number : ℕ) (slots : List Slot) (place : ℕ) (d : Slot) → IsPlaceOf number slots place → place < length slots → (get_or slots place d).number ≡ number
place-number number slots place d p within = subst (StartsWith number) (drop_more slots place d within) p.here

slot_of_some : (i : ℕ) (slots : List Slot) → i < length slots → Slot
slot_of_some i [] h = absurd (omega (arith, h))
slot_of_some i (s ∷ slots) h = s

list_other : (list : List Placed) (number : ℕ) → list_any (λ r. r.slot.number == number) list ≡ true → list ≢ []
list_other [] number h e = cc
list_other (r ∷ list) number h e = cc

-- the same for lists that equal the tree's
pub removed-made : (nodes ns : List Node) (slots ss : List Slot) (i j keep number : ℕ) (more : List Node) (rest : List Slot) → ns ≡ nodes → ss ≡ slots
    → IsTree nodes slots → listing_of nodes slots ≡ canon_of (read_off (listing_of nodes slots))
    → IsStrictlySortedBy placed_cmp (read_off (listing_of nodes slots))
    → IsDistinct eqb (map (λ r. r.slot.number) (read_off (listing_of nodes slots)))
    → list_any (λ r. r.slot.number == number) (read_off (listing_of nodes slots)) ≡ true → IsPlaceOf number ss i → i < length slots
    → IsOwner nodes i j → IsKeep ns (j + 1) keep → more ≡ without_nodes keep (j + 1) ns → rest ≡ take i ss ++ drop (i + 1) ss
    → Removed more rest number (read_off (listing_of nodes slots))
removed-made nodes ns slots ss i j keep number more rest nodes_is slots_is tree canon order distinct there place within owner keeps more_is rest_is =
    let d : Slot = slot_of_some i slots within in
    let all : List Placed = read_off (listing_of nodes slots) in
    let law : Removed (without_nodes keep (j + 1) nodes) (take i slots ++ drop (i + 1) slots) (get_or slots i d).number all =
    tree-removed nodes slots i j keep d (record {
      tree = tree;
      canon = canon;
      order = order;
      distinct = distinct;
      some = list_other all number there;
    }) within owner (subst (λ (l : List Node). IsKeep l (j + 1) keep) nodes_is keeps) in
    let same : (get_or slots i d).number ≡ number = place-number number slots i d (subst (λ (l : List Slot). IsPlaceOf number l i) slots_is place) within in
    subst (λ (l : List Node). Removed l rest number all) (sym (more_is ∙ ap (without_nodes keep (j + 1)) nodes_is))
    (subst (λ (l : List Slot). Removed (without_nodes keep (j + 1) nodes) l number all) (sym (rest_is ∙ ap (λ (l : List Slot). take i l ++ drop (i + 1) l) slots_is))
    (subst (λ (k : ℕ). Removed (without_nodes keep (j + 1) nodes) (take i slots ++ drop (i + 1) slots) k all) same law))

-- ---- steps of the loops
bare-cons : (n : Node) (ns : List Node) → 1 ≤ length ns → n.count ≡ 0 → IsBare ns → IsBare (n ∷ ns)
bare-cons n [] some none bare = absurd (omega (arith, some))
bare-cons n (m ∷ ns) some none bare = (none, bare)

none-there : (number : ℕ) (list : List Placed) → AllByRecursion (λ s. s.number ≢ number) (map (λ r. r.slot) list) → list_any (λ r. r.slot.number == number) list ≡ false
none-there number [] h = refl
none-there number (r ∷ list) h = ap (λ (b : Bool). b || list_any (λ r. r.slot.number == number) list) (ne_eqb r.slot.number number h.0) ∙ none-there number list h.1

pub bare-step : (nodes : List Node) (end keep : ℕ) (d : Node) → 1 < keep → keep < end → end ≤ length nodes → (get_or nodes (keep - 1) d).count ≡ 0
    → (get_or nodes (keep - 1) d).below ≡ end - keep → IsBare (take (end - keep) (drop keep nodes))
    → IsBare (take (end - (keep - 1)) (drop (keep - 1) nodes)) × IsRun (take (end - (keep - 1)) (drop (keep - 1) nodes))
bare-step nodes end keep d low high within none below bare =
    let n : Node = get_or nodes (keep - 1) d in
    let run : List Node = take (end - keep) (drop keep nodes) in
    let size : length run ≡ end - keep = length-take-le (end - keep) (drop keep nodes) (omega (arith, length-drop keep nodes, within)) in
    let at : drop (keep - 1) nodes ≡ n ∷ drop keep nodes = drop_more nodes (keep - 1) d (omega (arith, high, within, low))
    ∙ ap (λ (k : ℕ). n ∷ drop k nodes) (let k : (keep - 1) + 1 ≡ keep = omega (arith, low) in k) in
    let is : take (end - (keep - 1)) (drop (keep - 1) nodes) ≡ n ∷ run = ap (take (end - (keep - 1))) at
    ∙ ap (λ (k : ℕ). take k (n ∷ drop keep nodes)) (let k : end - (keep - 1) ≡ suc (end - keep) = omega (arith, low, high) in k) in (
      subst IsBare (sym is) (bare-cons n run (omega (arith, size, high)) none bare),
      subst IsRun (sym is) (below ∙ sym size),
    )

pub place-there : (number : ℕ) (slots : List Slot) (list : List Placed) (place : ℕ) → map (λ r. r.slot) list ≡ slots → IsPlaceOf number slots place
    → list_any (λ r. r.slot.number == number) list ≡ true → place < length slots
place-there number slots list place is p there =
    ⊎_elim (λ l. l) (λ g.
    let all : AllByRecursion (λ s. s.number ≢ number) slots = subst (AllByRecursion (λ (s : Slot). s.number ≢ number)) (take_all place slots g) p.before in
    let none : list_any (λ r. r.slot.number == number) list ≡ false = none-there number list (subst (AllByRecursion (λ (s : Slot). s.number ≢ number)) (sym is) all) in
    cc) (cases_lt place (length slots))
