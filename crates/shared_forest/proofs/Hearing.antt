-- Who hears an event from one root to the next.
use Rattle.std.proofs.Common.{◌≡◌, ℕ, suc, ◌+◌, ◌-◌, ◌<◌, ◌≤◌, ◌==◌, Bool, true, false, cond, List, [], ◌∷◌, ◌++◌, length, get_or, take, drop, refl, sym, ap, subst, ◌∙◌, arith}
use Rattle.std.specs.Prelude.{nat_lt}
use Rattle.std.proofs.Math.Seq.{take-append-add}
use Rattle.std.proofs.lemmas.Bool.Decides.{nat_tests}
use Rattle.std.proofs.lemmas.List.{take-append-drop, drop_more, length-take, length-drop, drop-drop}
use Rattle.native_filters.specs.declared.facts.Hook.{Hook}
use Rattle.shared_forest.specs.declared.node.Node.{Node}
use Rattle.shared_forest.specs.declared.node.Slot.{Slot}
use Rattle.app_api.specs.declared.hearers.Hearers.{Hearers}
use Rattle.app_api.specs.declared.hearers.Hearers.TheVariants.{Nobody, One}
use Rattle.app_api.specs.Hearers.{joined, deep}
use Rattle.app_api.specs.HearerLaws.{joined-assoc, deep-joined, if-joined, if-nobody}
use Rattle.shared_forest.specs.Layout.{under, AreLaidOut, ArePacked}
use Rattle.shared_forest.specs.Listing.{slots_of, path_after, listing_after}
use Rattle.native_filters.specs.Hook.{is_hook}
use Rattle.shared_forest.specs.Heard.{with_hook, on_path, hearers_of}
use Rattle.shared_forest.proofs.OneListing.{packed-le}
use Rattle.shared_forest.proofs.FromRootToRoot.{no_node, packed-up, next-is, deeper, under-root}

pub with_hook-append : (hook : Hook) (xs ys : List Slot) → with_hook hook (xs ++ ys) ≡ joined (with_hook hook xs) (with_hook hook ys)
with_hook-append hook [] ys = refl
with_hook-append hook (x ∷ xs) ys =
    ap (λ (h : Hearers). joined (cond (is_hook x.hook hook) (One x.number) Nobody) h) (with_hook-append hook xs ys)
    ∙ sym (joined-assoc (cond (is_hook x.hook hook) (One x.number) Nobody) (with_hook hook xs) (with_hook hook ys))

-- the registrations from one place up to another
abbrev pub hearing : Hook → List Slot → ℕ → ℕ → Hearers
hearing hook slots at to = with_hook hook (take (to - at) (drop at slots))

split : (hook : Hook) (slots : List Slot) (at count to : ℕ) → at + count ≤ to → to ≤ length slots
    → hearing hook slots at to ≡ joined (with_hook hook (take count (drop at slots))) (hearing hook slots (at + count) to)
split hook slots at count to low high =
    let front : List Slot = take count (drop at slots) in
    let back : List Slot = drop count (drop at slots) in
    let long : length front ≡ count = omega (arith, length-take count (drop at slots), length-drop at slots) in
    let sum : to - at ≡ length front + (to - (at + count)) = omega (arith, long) in
    let cut : take (to - at) (drop at slots) ≡ front ++ take (to - (at + count)) back =
    ap (λ (l : List Slot). take (to - at) l) (sym (take-append-drop count (drop at slots))) ∙ (ap (λ (k : ℕ). take k (front ++ back)) sum ∙ take-append-add front back (to - (at + count))) in
    let on : back ≡ drop (at + count) slots = drop-drop count at slots in
    ap (with_hook hook) (cut ∙ ap (λ (l : List Slot). front ++ take (to - (at + count)) l) on) ∙ with_hook-append hook front (take (to - (at + count)) (drop (at + count) slots))

-- a path with more behind a root's event
on-longer : (event e : ℕ) (xs : List ℕ) (y : ℕ) (h : Hearers) → on_path event (e ∷ (xs ++ y ∷ [])) h ≡ cond (e == event) (deep h) Nobody
on-longer event e [] y h = refl
on-longer event e (x ∷ xs) y h = refl

empty : (hook : Hook) (event e place to : ℕ) (slots : List Slot) (r : Hearers) → to ≡ place
    → r ≡ joined (cond (e == event) (deep (hearing hook slots place to)) Nobody) r
empty hook event e place to slots r is =
    let none_left : to - place ≡ 0 = omega (arith, is) in
    sym (ap (λ (k : ℕ). joined (cond (e == event) (deep (with_hook hook (take k (drop place slots)))) Nobody) r) none_left ∙ ap (λ (h : Hearers). joined h r) (if-nobody (e == event)))

-- who hears of a node with a path, and of those after it
abbrev heard_on : Hook → ℕ → Node → List Node → List Slot → List ℕ → Hearers
heard_on hook event n ns slots path = joined (on_path event path (with_hook hook (slots_of n slots))) (hearers_of hook event (listing_after path ns slots))

heard-deeper : (hook : Hook) (event e place to : ℕ) (p : List ℕ) (n : Node) (ns : List Node) (slots : List Slot) (r : Hearers) → nat_lt 1 n.depth ≡ true
    → n.first ≡ place → place + n.count ≤ to → to ≤ length slots
    → hearers_of hook event (listing_after (e ∷ deeper p n) ns slots) ≡ joined (cond (e == event) (deep (hearing hook slots (place + n.count) to)) Nobody) r
    → hearers_of hook event (listing_after (e ∷ p) (n ∷ ns) slots) ≡ joined (cond (e == event) (deep (hearing hook slots place to)) Nobody) r
heard-deeper hook event e place to p n ns slots r is at low high rest =
    let b : Bool = e == event in
    let more : Hearers = hearing hook slots (place + n.count) to in
    let here : Hearers = with_hook hook (take n.count (drop place slots)) in
    let own : with_hook hook (slots_of n slots) ≡ here = ap (λ (k : ℕ). with_hook hook (take n.count (drop k slots))) at in
    let both : joined (cond b (deep here) Nobody) (cond b (deep more) Nobody) ≡ cond b (deep (hearing hook slots place to)) Nobody =
    sym (if-joined b (deep here) (deep more)) ∙ (ap (λ (h : Hearers). cond b h Nobody) (sym (deep-joined here more)) ∙
    ap (λ (h : Hearers). cond b (deep h) Nobody) (sym (split hook slots place n.count to low high))) in
    ap (heard_on hook event n ns slots) (under-root e p n is) ∙
    (ap (λ (h : Hearers). joined h (hearers_of hook event (listing_after (e ∷ deeper p n) ns slots))) (on-longer event e (take (n.depth - 2) p) n.event (with_hook hook (slots_of n slots))) ∙
    (ap (λ (h : Hearers). joined (cond b (deep (with_hook hook (slots_of n slots))) Nobody) h) rest ∙
    (ap (λ (h : Hearers). joined (cond b (deep h) Nobody) (joined (cond b (deep more) Nobody) r)) own ∙
    (sym (joined-assoc (cond b (deep here) Nobody) (cond b (deep more) Nobody) r) ∙ ap (λ (h : Hearers). joined h r) both))))

heard-after : (hook : Hook) (event e place to : ℕ) (p : List ℕ) (n : Node) (ns : List Node) (slots : List Slot) → nat_lt 1 n.depth ≡ false → 1 ≤ n.depth
    → to ≡ place
    → hearers_of hook event (listing_after (e ∷ p) (n ∷ ns) slots)
    ≡ joined (cond (e == event) (deep (hearing hook slots place to)) Nobody) (hearers_of hook event (listing_after [] (n ∷ ns) slots))
heard-after hook event e place to p n ns slots is one at =
    let flat : n.depth - 1 ≡ 0 = grind (arith, nat_tests) in
    let left : path_after (e ∷ p) n ≡ n.event ∷ [] = ap (λ (k : ℕ). take k (e ∷ p) ++ n.event ∷ []) flat in
    let right : path_after [] n ≡ n.event ∷ [] = ap (λ (k : ℕ). take k [] ++ n.event ∷ []) flat in
    ap (heard_on hook event n ns slots) (left ∙ sym right) ∙ empty hook event e place to slots (hearers_of hook event (listing_after [] (n ∷ ns) slots)) at

-- under a root's node, at a path of the root's event first
heard-below : (hook : Hook) (event e depth place to : ℕ) (p : List ℕ) (ns : List Node) (slots : List Slot) → 1 ≤ depth → AreLaidOut depth ns
    → ArePacked place ns (length slots) → ArePacked to (drop (under 1 ns) ns) (length slots)
    → hearers_of hook event (listing_after (e ∷ p) ns slots)
    ≡ joined (cond (e == event) (deep (hearing hook slots place to)) Nobody) (hearers_of hook event (listing_after [] (drop (under 1 ns) ns) slots))
heard-below hook event e depth place to p [] slots one laid packed rest =
    empty hook event e place to slots Nobody (omega (arith, packed, rest))
heard-below hook event e depth place to p (n ∷ ns) slots one laid packed rest =
    elim (nat_lt 1 n.depth) as (λ b. nat_lt 1 n.depth ≡ b → ArePacked to (drop (cond b (under 1 ns + 1) 0) (n ∷ ns)) (length slots)
    → hearers_of hook event (listing_after (e ∷ p) (n ∷ ns) slots)
    ≡ joined (cond (e == event) (deep (hearing hook slots place to)) Nobody) (hearers_of hook event (listing_after [] (drop (cond b (under 1 ns + 1) 0) (n ∷ ns)) slots))) [
      | true ↦ λ is after.
          let count : under 1 ns + 1 ≡ suc (under 1 ns) = omega arith in
          let left : ArePacked to (drop (under 1 ns) ns) (length slots) = subst (λ (k : ℕ). ArePacked to (drop k (n ∷ ns)) (length slots)) count after in
          let rest_heard = heard-below hook event e n.depth (place + n.count) to (deeper p n) ns slots laid.0 laid.3 packed.1 left in
          let low : place + n.count ≤ to = packed-up (place + n.count) to ns (length slots) (under 1 ns) packed.1 left in
          let high : to ≤ length slots = packed-le to (drop (under 1 ns) ns) (length slots) left in
          heard-deeper hook event e place to p n ns slots (hearers_of hook event (listing_after [] (drop (under 1 ns) ns) slots)) is packed.0 low high rest_heard
          ∙ ap (λ (k : ℕ). joined (cond (e == event) (deep (hearing hook slots place to)) Nobody) (hearers_of hook event (listing_after [] (drop k (n ∷ ns)) slots))) (sym count)
      | false ↦ λ is after. heard-after hook event e place to p n ns slots is laid.0 (sym after.0 ∙ packed.0)
    ] refl rest

-- who hears of a root's own registrations and of those under it, which end at a place
abbrev pub heard_at_root : Hook → Node → ℕ → List Slot → Hearers
heard_at_root hook n to slots =
    joined (with_hook hook (take n.count (drop n.first slots))) (deep (with_hook hook (take (to - (n.first + n.count)) (drop (n.first + n.count) slots))))

-- from one root to the next
step : (hook : Hook) (event place to : ℕ) (n : Node) (ns : List Node) (slots : List Slot) → AreLaidOut 0 (n ∷ ns)
    → ArePacked place (n ∷ ns) (length slots) → ArePacked to (drop n.below ns) (length slots)
    → hearers_of hook event (listing_after [] (n ∷ ns) slots)
    ≡ joined (cond (n.event == event) (heard_at_root hook n to slots) Nobody) (hearers_of hook event (listing_after [] (drop n.below ns) slots))
step hook event place to n ns slots laid packed rest =
    let one : n.depth ≡ 1 = omega (arith, laid.0, laid.1) in
    let under_it : n.below ≡ under 1 ns = laid.2 ∙ ap (λ (d : ℕ). under d ns) one in
    let flat : n.depth - 1 ≡ 0 = omega (arith, one) in
    let path : path_after [] n ≡ n.event ∷ [] = ap (λ (k : ℕ). take k [] ++ n.event ∷ []) flat in
    let left : ArePacked to (drop (under 1 ns) ns) (length slots) = subst (λ (k : ℕ). ArePacked to (drop k ns) (length slots)) under_it rest in
    let below = heard-below hook event n.event n.depth (place + n.count) to [] ns slots laid.0 laid.3 packed.1 left in
    let r : Hearers = hearers_of hook event (listing_after [] (drop (under 1 ns) ns) slots) in
    let b : Bool = n.event == event in
    let own : Hearers = with_hook hook (slots_of n slots) in
    let more : Hearers = deep (hearing hook slots (n.first + n.count) to) in
    ap (heard_on hook event n ns slots) path ∙
    (ap (λ (h : Hearers). joined (cond b own Nobody) h) below ∙
    (ap (λ (k : ℕ). joined (cond b own Nobody) (joined (cond b (deep (hearing hook slots (k + n.count) to)) Nobody) r)) (sym packed.0) ∙
    (sym (joined-assoc (cond b own Nobody) (cond b more Nobody) r) ∙
    (ap (λ (h : Hearers). joined h r) (sym (if-joined b own more)) ∙
    ap (λ (k : ℕ). joined (cond b (joined own more) Nobody) (hearers_of hook event (listing_after [] (drop k ns) slots))) (sym under_it)))))

-- between a root and the next one, whose registrations begin at this place
pub next-hearers : (nodes : List Node) (slots : List Slot) (at place to : ℕ) → at < length nodes → AreLaidOut 0 (drop at nodes) → ArePacked place (drop at nodes) (length slots)
    → ArePacked to (drop (at + 1 + (get_or nodes at no_node).below) nodes) (length slots)
    → ((get_or nodes at no_node).first + (get_or nodes at no_node).count ≤ to)
    × ((hook : Hook) (event : ℕ) → hearers_of hook event (listing_after [] (drop at nodes) slots)
    ≡ joined (cond ((get_or nodes at no_node).event == event) (heard_at_root hook (get_or nodes at no_node) to slots) Nobody)
    (hearers_of hook event (listing_after [] (drop (at + 1 + (get_or nodes at no_node).below) nodes) slots)))
next-hearers nodes slots at place to within laid packed after =
    let n : Node = get_or nodes at no_node in
    let ns : List Node = drop (at + 1) nodes in
    let here : drop at nodes ≡ n ∷ ns = drop_more nodes at no_node within in
    let there : drop n.below ns ≡ drop (at + 1 + n.below) nodes = sym (next-is nodes at within) in
    let laid_here : AreLaidOut 0 (n ∷ ns) = subst (AreLaidOut 0) here laid in
    let packed_here : ArePacked place (n ∷ ns) (length slots) = subst (λ (l : List Node). ArePacked place l (length slots)) here packed in
    let right : ArePacked to (drop n.below ns) (length slots) = subst (λ (l : List Node). ArePacked to l (length slots)) (sym there) after in
    let up : place + n.count ≤ to = packed-up (place + n.count) to ns (length slots) n.below packed_here.1 right in (
      omega (arith, up, packed_here.0),
      λ hook event. ap (λ (l : List Node). hearers_of hook event (listing_after [] l slots)) here ∙
          (step hook event place to n ns slots laid_here packed_here right ∙
          ap (λ (l : List Node). joined (cond (n.event == event) (heard_at_root hook n to slots) Nobody) (hearers_of hook event (listing_after [] l slots))) there),
    )

-- who was noted before, and now of this root
pub noted_more : (was now is r here total : Hearers) → now ≡ joined was is → here ≡ joined is r → joined was here ≡ total → joined now r ≡ total
noted_more was now is r here total n h t =
    ap (λ (b : Hearers). joined b r) n ∙ (joined-assoc was is r ∙ (ap (λ (b : Hearers). joined was b) (sym h) ∙ t))
