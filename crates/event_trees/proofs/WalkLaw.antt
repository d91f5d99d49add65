-- A walk gives what fires of the tree's listing, each path asked anew.
use Rattle.std.proofs.Common.{◌≡◌, ℕ, zero, suc, ◌+◌, ◌-◌, ◌<◌, ◌≤◌, Bool, true, false, cond, List, [], ◌∷◌, ◌++◌, length, take, drop, get_or, refl, sym, ap, subst, ◌∙◌, arith, ⊎_elim}
use Rattle.std.specs.Prelude.{◌&&◌, nat_lt}
use Rattle.std.proofs.lemmas.List.{length-take, take-take, take-append-le, length_push, take_all}
use Rattle.std.proofs.lemmas.Bool.{cases_lt}
use Rattle.std.proofs.lemmas.Bool.Decides.{nat_tests}
use Rattle.native_filters.specs.declared.facts.Hook.{Hook}
use Rattle.shared_forest.specs.declared.node.Node.{Node}
use Rattle.shared_forest.specs.declared.node.Slot.{Slot}
use Rattle.shared_forest.specs.Layout.{under, AreLaidOut, IsTree}
use Rattle.shared_forest.specs.Listing.{slots_of, path_after, listing_after, listing_of}
use Rattle.event_trees.specs.Walk.{passes, called, firing, walked}
use Rattle.event_trees.specs.declared.place.Place.{Place}
use Rattle.event_trees.specs.Place.{pending_at, come}
use Rattle.event_trees.proofs.Walks.{pending-node, node-within}

and_true : (a : Bool) → (a && true) ≡ a
and_true true = refl
and_true false = refl

and_left : (a b : Bool) → (a && b) ≡ true → a ≡ true
and_left true b h = refl
and_left false b h = h

and_right : (a b : Bool) → (a && b) ≡ true → b ≡ true
and_right true b h = h
and_right false b h = cc

and_false : (a b : Bool) → b ≡ false → (a && b) ≡ false
and_false true b h = h
and_false false b h = refl

passes-push : (keep : ℕ → Bool) (p : List ℕ) (e : ℕ) → passes keep p ≡ true → passes keep (p ++ e ∷ []) ≡ keep e
passes-push keep [] e h = and_true (keep e)
passes-push keep (a ∷ p) e h =
    ap (λ (b : Bool). b && passes keep (p ++ e ∷ [])) (and_left (keep a) (passes keep p) h) ∙ passes-push keep p e (and_right (keep a) (passes keep p) h)

passes-take : (keep : ℕ → Bool) (k : ℕ) (p : List ℕ) → passes keep p ≡ true → passes keep (take k p) ≡ true
passes-take keep zero p h = refl
passes-take keep (suc k) [] h = refl
passes-take keep (suc k) (a ∷ p) h =
    ap (λ (b : Bool). b && passes keep (take k p)) (and_left (keep a) (passes keep p) h) ∙ passes-take keep k p (and_right (keep a) (passes keep p) h)

-- a path with a beginning that doesn't pass doesn't pass
fails-take : (keep : ℕ → Bool) (k : ℕ) (p : List ℕ) → passes keep (take k p) ≡ false → passes keep p ≡ false
fails-take keep k p h =
    elim (passes keep p) as (λ b. (b ≡ true → passes keep (take k p) ≡ true) → b ≡ false) [
      | true ↦ λ t. let e : passes keep (take k p) ≡ true = t refl in cc
      | false ↦ λ t. refl
    ] (passes-take keep k p)

length-path_after : (before : List ℕ) (n : Node) → 1 ≤ n.depth → n.depth ≤ length before + 1 → length (path_after before n) ≡ n.depth
length-path_after before n low high = omega (arith, length_push (take (n.depth - 1) before) n.event, length-take (n.depth - 1) before)

take-path_after : (before : List ℕ) (n : Node) (k : ℕ) → k < n.depth → n.depth ≤ length before + 1 → take k (path_after before n) ≡ take k before
take-path_after before n k low high =
    let front : List ℕ = take (n.depth - 1) before in
    take-append-le k front (n.event ∷ []) (omega (arith, length-take (n.depth - 1) before)) ∙ take-take k (n.depth - 1) before (omega arith)

pub record Walks (keep : ℕ → Bool) (hook : Hook) (ns : List Node) (slots : List Slot) : Type 0 where
  pub passed : (before : List ℕ) → AreLaidOut (length before) ns → passes keep before ≡ true → firing keep hook (listing_after before ns slots) ≡ walked keep hook 0 ns slots
  pub failed : (before : List ℕ) (m : ℕ) → AreLaidOut (length before) ns → m < length before → passes keep (take (suc m) before) ≡ false
      → passes keep (take m before) ≡ true → firing keep hook (listing_after before ns slots) ≡ walked keep hook (under (suc m) ns) ns slots

-- a node whose parent passes
at_node : (keep : ℕ → Bool) (hook : Hook) (n : Node) (ns : List Node) (slots : List Slot) (rest : Walks keep hook ns slots) (before : List ℕ)
    → AreLaidOut (length before) (n ∷ ns) → passes keep (take (n.depth - 1) before) ≡ true → (b : Bool) → keep n.event ≡ b
    → firing keep hook (listing_after before (n ∷ ns) slots) ≡ walked keep hook 0 (n ∷ ns) slots
at_node keep hook n ns slots rest before laid above true is =
    let path : List ℕ = path_after before n in
    let long : length path ≡ n.depth = length-path_after before n laid.0 laid.1 in
    let here : passes keep path ≡ true = passes-push keep (take (n.depth - 1) before) n.event above ∙ is in
    let on : firing keep hook (listing_after path ns slots) ≡ walked keep hook 0 ns slots = rest.passed path (subst (λ (d : ℕ). AreLaidOut d ns) (sym long) laid.3) here in
    let left : firing keep hook (listing_after before (n ∷ ns) slots) ≡ called hook (slots_of n slots) ++ firing keep hook
    (listing_after path ns slots) = ap (λ (b : Bool). cond b (called hook (slots_of n slots)) [] ++ firing keep hook (listing_after path ns slots)) here in
    let right : walked keep hook 0 (n ∷ ns) slots ≡ called hook (slots_of n slots) ++ walked keep hook 0 ns slots = ap
    (λ (b : Bool). cond b (called hook (slots_of n slots) ++ walked keep hook 0 ns slots) (walked keep hook n.below ns slots)) is in
    left ∙ (ap (λ (l : List ℕ). called hook (slots_of n slots) ++ l) on ∙ sym right)
at_node keep hook n ns slots rest before laid above false is =
    let path : List ℕ = path_after before n in
    let long : length path ≡ n.depth = length-path_after before n laid.0 laid.1 in
    let here : passes keep path ≡ false = passes-push keep (take (n.depth - 1) before) n.event above ∙ is in
    let deep : suc (n.depth - 1) ≡ n.depth = omega (arith, laid.0) in
    let whole : take (suc (n.depth - 1)) path ≡ path = take_all (suc (n.depth - 1)) path (omega arith) in
    let front : take (n.depth - 1) path ≡ take (n.depth - 1) before = take-path_after before n (n.depth - 1) (omega (arith, laid.0)) laid.1 in
    let on : firing keep hook (listing_after path ns slots) ≡ walked keep hook (under (suc (n.depth - 1)) ns) ns slots =
    rest.failed path (n.depth - 1) (subst (λ (d : ℕ). AreLaidOut d ns) (sym long) laid.3) (omega (arith, laid.0)) (ap (passes keep) whole ∙ here) (ap (passes keep) front ∙ above) in
    let below : under (suc (n.depth - 1)) ns ≡ n.below = ap (λ (d : ℕ). under d ns) deep ∙ sym laid.2 in
    let left : firing keep hook (listing_after before (n ∷ ns) slots) ≡ firing keep hook (listing_after path ns slots) = ap
    (λ (b : Bool). cond b (called hook (slots_of n slots)) [] ++ firing keep hook (listing_after path ns slots)) here in
    let right : walked keep hook 0 (n ∷ ns) slots ≡ walked keep hook n.below ns slots = ap
    (λ (b : Bool). cond b (called hook (slots_of n slots) ++ walked keep hook 0 ns slots) (walked keep hook n.below ns slots)) is in
    left ∙ (on ∙ (ap (λ (k : ℕ). walked keep hook k ns slots) below ∙ sym right))

-- a node under one that doesn't pass
under_failed : (keep : ℕ → Bool) (hook : Hook) (n : Node) (ns : List Node) (slots : List Slot) (rest : Walks keep hook ns slots) (before : List ℕ)
    (m : ℕ) → AreLaidOut (length before) (n ∷ ns) → m < length before → passes keep (take (suc m) before) ≡ false → passes keep (take m before) ≡ true
    → suc m < n.depth → firing keep hook (listing_after before (n ∷ ns) slots) ≡ walked keep hook (under (suc m) (n ∷ ns)) (n ∷ ns) slots
under_failed keep hook n ns slots rest before m laid within no_pass above deeper =
    let path : List ℕ = path_after before n in
    let long : length path ≡ n.depth = length-path_after before n laid.0 laid.1 in
    let same : take (suc m) path ≡ take (suc m) before = take-path_after before n (suc m) deeper laid.1 in
    let front : take m path ≡ take m before = take-path_after before n m (omega arith) laid.1 in
    let here : passes keep path ≡ false = fails-take keep (suc m) path (ap (passes keep) same ∙ no_pass) in
    let on : firing keep hook (listing_after path ns slots) ≡ walked keep hook (under (suc m) ns) ns slots =
    rest.failed path m (subst (λ (d : ℕ). AreLaidOut d ns) (sym long) laid.3) (omega arith) (ap (passes keep) same ∙ no_pass) (ap (passes keep) front ∙ above) in
    let left : firing keep hook (listing_after before (n ∷ ns) slots) ≡ firing keep hook (listing_after path ns slots) = ap
    (λ (b : Bool). cond b (called hook (slots_of n slots)) [] ++ firing keep hook (listing_after path ns slots)) here in
    let test : nat_lt (suc m) n.depth ≡ true = grind (arith, nat_tests) in
    let count : under (suc m) (n ∷ ns) ≡ suc (under (suc m) ns) = ap (λ (b : Bool). cond b (under (suc m) ns + 1) 0) test ∙ omega arith in
    left ∙ (on ∙ sym (ap (λ (k : ℕ). walked keep hook k (n ∷ ns) slots) count))

-- a node that stands no deeper than the one that doesn't pass
after_failed : (keep : ℕ → Bool) (hook : Hook) (n : Node) (ns : List Node) (slots : List Slot) (rest : Walks keep hook ns slots) (before : List ℕ)
    (m : ℕ) → AreLaidOut (length before) (n ∷ ns) → passes keep (take m before) ≡ true → n.depth ≤ suc m
    → firing keep hook (listing_after before (n ∷ ns) slots) ≡ walked keep hook (under (suc m) (n ∷ ns)) (n ∷ ns) slots
after_failed keep hook n ns slots rest before m laid above no_deeper =
    let test : nat_lt (suc m) n.depth ≡ false = grind (arith, nat_tests) in
    let count : under (suc m) (n ∷ ns) ≡ 0 = ap (λ (b : Bool). cond b (under (suc m) ns + 1) 0) test in
    let front : take (n.depth - 1) (take m before) ≡ take (n.depth - 1) before = take-take (n.depth - 1) m before (omega (arith, laid.0)) in
    let parent : passes keep (take (n.depth - 1) before) ≡ true = sym (ap (passes keep) front) ∙ passes-take keep (n.depth - 1) (take m before) above in
    at_node keep hook n ns slots rest before laid parent (keep n.event) refl ∙ sym (ap (λ (k : ℕ). walked keep hook k (n ∷ ns) slots) count)

pub walks : (keep : ℕ → Bool) (hook : Hook) (ns : List Node) (slots : List Slot) → Walks keep hook ns slots
walks keep hook [] slots = record { passed = λ before laid h. refl; failed = λ before m laid within h k. refl }
walks keep hook (n ∷ ns) slots =
    let rest : Walks keep hook ns slots = walks keep hook ns slots in
    record {
      passed = λ before laid h. at_node keep hook n ns slots rest before laid (passes-take keep (n.depth - 1) before h) (keep n.event) refl;
      failed = λ before m laid within h k. ⊎_elim (λ deeper. under_failed keep hook n ns slots rest before m laid within h k deeper)
          (λ other. after_failed keep hook n ns slots rest before m laid k other) (cases_lt (suc m) n.depth);
    }

pub start-come : (keep : ℕ → Bool) (hook : Hook) (nodes : List Node) (slots : List Slot) (d : Node) (p : Place) → IsTree nodes slots
    → p.slot ≡ (get_or nodes 0 d).first → p.end ≡ (get_or nodes 0 d).first + (get_or nodes 0 d).count → p.node ≡ 1
    → come keep hook (record { nodes = nodes; slots = slots }) p ≡ firing keep hook (listing_of nodes slots)
start-come keep hook [] slots d p tree at end after = absurd tree.topped
start-come keep hook (top ∷ ns) slots d p tree at end after =
    let pending : pending_at slots p ≡ slots_of top slots = ap (λ (k : ℕ). drop k (take p.end slots)) at ∙ pending-node slots top p.end end in
    let rest : drop p.node (top ∷ ns) ≡ ns = ap (λ (k : ℕ). drop k (top ∷ ns)) after in
    let law : firing keep hook (listing_after [] ns slots) ≡ walked keep hook 0 ns slots = (walks keep hook ns slots).passed [] tree.topped.3 refl in
    ap (λ (l : List Slot). called hook l ++ walked keep hook 0 (drop p.node (top ∷ ns)) slots) pending
    ∙ (ap (λ (l : List Node). called hook (slots_of top slots) ++ walked keep hook 0 l slots) rest ∙ ap (λ (l : List ℕ). called hook (slots_of top slots) ++ l) (sym law))

pub top-within : (nodes : List Node) (slots : List Slot) (d : Node) (end : ℕ) → IsTree nodes slots → end ≡ (get_or nodes 0 d).first + (get_or nodes 0 d).count → end ≤ length slots
top-within [] slots d end tree is = absurd tree.topped
top-within (top ∷ ns) slots d end tree is = omega (arith, node-within (top ∷ ns) slots top tree (0, omega arith, refl))
