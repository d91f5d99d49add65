-- A tree that is built one registration after the other.
use Rattle.std.proofs.Common.{◌≡◌, ℕ, suc, ◌+◌, ◌-◌, ◌*◌, ◌<◌, ◌≤◌, Bool, true, cond, ltb, List, [], ◌∷◌, ◌++◌, length, take, drop, map, get_or, refl, sym, ap, subst, ◌∙◌, arith, append_assoc, ⊎_elim}
use Rattle.std.specs.Prelude.{⊤}
use Rattle.std.proofs.lemmas.List.{length-take, length-append, length_push, take_all, take_at, take_more, get_or-drop, length-drop, length-take-le, length-map, drop_more, get_or-map}
use Rattle.std.proofs.lemmas.Bool.{lt-ltb}
use Rattle.std.proofs.lemmas.Bool.Decides.{eqb_tells}
use Rattle.shared_forest.specs.declared.node.Node.{Node}
use Rattle.shared_forest.specs.declared.node.Slot.{Slot}
use Rattle.shared_forest.specs.Layout.{under, AreLaidOut, ArePacked, IsTree}
use Rattle.shared_forest.specs.Listing.{Shown, slots_of, path_after, listing_after, listing_of, IsInOrder}
use Rattle.event_trees.proofs.Rises.{IsUpTo, Rises}
use Rattle.event_trees.specs.Canon.{Placed, longer, canon_of}
use Rattle.event_trees.specs.declared.placed.PlacedReg.{PlacedReg}
use Rattle.event_trees.specs.EventPath.{path_of}
use Rattle.event_trees.specs.Insert.{end_path, last_path}
use Rattle.event_trees.specs.Build.{seen, all_seen, seen_slots, common, fresh, fresh_nodes, bumped, counted}
use Rattle.event_trees.proofs.Reach.{common-left}
use Rattle.event_trees.proofs.Growth.{Grown, grown-none, grown-push, Step, step, bare, newer}

pub listing_after-append : (before : List ℕ) (ns ms : List Node) (slots : List Slot)
    → listing_after before (ns ++ ms) slots ≡ listing_after before ns slots ++ listing_after (end_path before ns) ms slots
listing_after-append before [] ms slots = refl
listing_after-append before (n ∷ ns) ms slots = ap (λ (l : List Shown). record { path = path_after before n; slots = slots_of n slots } ∷ l) (listing_after-append (path_after before n) ns ms slots)

-- fresh nodes after a path that begins with the front
fresh-longer : (front before es : List ℕ) (first depth : ℕ) (slots : List Slot) → depth ≡ length front → take depth before ≡ front
    → listing_after before (fresh first depth es) slots ≡ map bare (longer front es)
fresh-longer front before [] first depth slots d t = refl
fresh-longer front before (e ∷ es) first depth slots d t =
    let path : List ℕ = take ((depth + 1) - 1) before ++ e ∷ [] in
    let same : (depth + 1) - 1 ≡ depth = omega arith in
    let is : path ≡ front ++ e ∷ [] = ap (λ (k : ℕ). take k before ++ e ∷ []) same ∙ ap (λ (l : List ℕ). l ++ e ∷ []) t in
    let long : length (front ++ e ∷ []) ≡ depth + 1 = omega (arith, length_push front e) in
    ap (λ (p : List ℕ). bare p ∷ listing_after p (fresh first (depth + 1) es) slots) is ∙
    ap (λ (l : List Shown). bare (front ++ e ∷ []) ∷ l) (fresh-longer (front ++ e ∷ []) (front ++ e ∷ []) es first (depth + 1) slots (sym long) (take_all (depth + 1) (front ++ e ∷ []) (omega arith)))

take-append : (front q : List ℕ) → take (length front) (front ++ q) ≡ front
take-append front q = take_at front q (length front) refl

-- the fresh nodes of a path are the prefixes that the last path doesn't have
fresh-newer : (front q p : List ℕ) (first : ℕ) (slots : List Slot) → listing_after (front ++ q) (fresh first (length front + common q p) (drop (common q p) p)) slots ≡ map bare (newer front q p)
fresh-newer front [] [] first slots = refl
fresh-newer front (a ∷ q) [] first slots = refl
fresh-newer front [] (b ∷ p) first slots =
    let none : length front + 0 ≡ length front = omega arith in
    fresh-longer front (front ++ []) (b ∷ p) first (length front + 0) slots none (ap (λ (k : ℕ). take k (front ++ [])) none ∙ take-append front [])
fresh-newer front (a ∷ q) (b ∷ p) first slots =
    ⊎_elim (λ t.
    let f : List ℕ = front ++ b ∷ [] in
    let c : ℕ = common q p in
    let at : common (a ∷ q) (b ∷ p) ≡ suc c = ap (λ (x : Bool). cond x (suc c) 0) t.0 in
    let long : length front + suc c ≡ length f + c = omega (arith, length_push front b) in
    let path : front ++ a ∷ q ≡ f ++ q = ap (λ (x : ℕ). front ++ x ∷ q) t.1 ∙ sym (append_assoc front (b ∷ []) q) in
    ap (λ (k : ℕ). listing_after (front ++ a ∷ q) (fresh first (length front + k) (drop k (b ∷ p))) slots) at ∙
    (ap (λ (k : ℕ). listing_after (front ++ a ∷ q) (fresh first k (drop c p)) slots) long ∙
    (ap (λ (l : List ℕ). listing_after l (fresh first (length f + c) (drop c p)) slots) path ∙
    (fresh-newer f q p first slots ∙ ap (λ (x : Bool). map bare (cond x (newer f q p) (longer front (b ∷ p)))) (sym t.0)))))
    (λ t.
    let at : common (a ∷ q) (b ∷ p) ≡ 0 = ap (λ (x : Bool). cond x (suc (common q p)) 0) t.0 in
    let none : length front + 0 ≡ length front = omega arith in
    ap (λ (k : ℕ). listing_after (front ++ a ∷ q) (fresh first (length front + k) (drop k (b ∷ p))) slots) at ∙
    (fresh-longer front (front ++ a ∷ q) (b ∷ p) first (length front + 0) slots none (ap (λ (k : ℕ). take k (front ++ a ∷ q)) none ∙ take-append front (a ∷ q)) ∙
    ap (λ (x : Bool). map bare (cond x (newer (front ++ b ∷ []) q p) (longer front (b ∷ p)))) (sym t.0))) (eqb_tells a b)

pub listing-fresh : (q p : List ℕ) (first : ℕ) (slots : List Slot) → listing_after q (fresh_nodes first q p) slots ≡ map bare (newer [] q p)
listing-fresh q p first slots =
    let none : 0 + common q p ≡ common q p = omega arith in
    ap (λ (k : ℕ). listing_after q (fresh first k (drop (common q p) p)) slots) (sym none) ∙ fresh-newer [] q p first slots

-- each node stands at most one deeper than the one before it
abbrev pub AreSteps : ℕ → List Node → Type 0
AreSteps depth [] = ⊤
AreSteps depth (n ∷ ns) = (1 ≤ n.depth) × (n.depth ≤ depth + 1) × AreSteps n.depth ns

fresh-steps : (first depth above : ℕ) (es : List ℕ) → depth ≤ above → AreSteps above (fresh first depth es)
fresh-steps first depth above [] h = tt
fresh-steps first depth above (e ∷ es) h = (omega arith, omega arith, fresh-steps first (depth + 1) (depth + 1) es (omega arith))

pub length-path_after : (before : List ℕ) (n : Node) → 1 ≤ n.depth → n.depth ≤ length before + 1 → length (path_after before n) ≡ n.depth
length-path_after before n low high = omega (arith, length_push (take (n.depth - 1) before) n.event, length-take (n.depth - 1) before)

steps-append : (before : List ℕ) (ns ms : List Node) → AreSteps (length before) ns → AreSteps (length (end_path before ns)) ms → AreSteps (length before) (ns ++ ms)
steps-append before [] ms h k = k
steps-append before (n ∷ ns) ms h k =
    let long : length (path_after before n) ≡ n.depth = length-path_after before n h.0 h.1 in
    (h.0, h.1, subst (λ (d : ℕ). AreSteps d (ns ++ ms)) long (steps-append (path_after before n) ns ms (subst (λ (d : ℕ). AreSteps d ns) (sym long) h.2) k))

packed-fresh : (place first depth : ℕ) (ns : List Node) (es : List ℕ) → ArePacked place ns first → ArePacked place (ns ++ fresh first depth es) first
packed-fresh place first depth [] [] h = h
packed-fresh place first depth [] (e ∷ es) h = (sym h, packed-fresh (place + 0) first (depth + 1) [] es (omega arith))
packed-fresh place first depth (n ∷ ns) es h = (h.0, packed-fresh (place + n.count) first depth ns es h.1)

length-fresh : (first depth : ℕ) (es : List ℕ) → length (fresh first depth es) ≡ length es
length-fresh first depth [] = refl
length-fresh first depth (e ∷ es) = ap (λ (k : ℕ). suc k) (length-fresh first (depth + 1) es)

-- ---- the last node has one registration more
bumped-steps : (depth : ℕ) (ns : List Node) → AreSteps depth ns → AreSteps depth (bumped ns)
bumped-steps depth [] h = tt
bumped-steps depth (n ∷ []) h = h
bumped-steps depth (n ∷ m ∷ ns) h = (h.0, h.1, bumped-steps n.depth (m ∷ ns) h.2)

pub bumped-packed : (place end : ℕ) (n : Node) (ns : List Node) → ArePacked place (n ∷ ns) end → ArePacked place (bumped (n ∷ ns)) (end + 1)
bumped-packed place end n [] h = (h.0, omega (arith, h.1))
bumped-packed place end n (m ∷ ns) h = (h.0, bumped-packed (place + n.count) end m ns h.1)

pub bumped-length : (ns : List Node) → length (bumped ns) ≡ length ns
bumped-length [] = refl
bumped-length (n ∷ []) = refl
bumped-length (n ∷ m ∷ ns) = ap (λ (k : ℕ). suc k) (bumped-length (m ∷ ns))

slots-more : (n : Node) (slots : List Slot) (d : Slot) (place : ℕ) → n.first + n.count ≡ place → place < length slots
    → slots_of (record n { count = n.count + 1 }) slots ≡ slots_of n slots ++ get_or slots place d ∷ []
slots-more n slots d place is within =
    let rest : List Slot = drop n.first slots in
    take_more rest n.count d (omega (arith, length-drop n.first slots)) ∙ ap (λ (s : Slot). take n.count rest ++ s ∷ []) (get_or-drop n.first slots n.count d ∙ ap (λ (k : ℕ). get_or slots k d) is)

no_end : {A : Type 0} (xs : List A) (y : A) → xs ++ y ∷ [] ≡ [] → ⊥
no_end [] y e = cc
no_end (x ∷ xs) y e = cc

tail_of : {A : Type 0} (x y : A) (xs ys : List A) → x ∷ xs ≡ y ∷ ys → xs ≡ ys
tail_of x y xs ys e = cc

head_of : {A : Type 0} (x y : A) (xs ys : List A) → x ∷ xs ≡ y ∷ ys → x ≡ y
head_of x y xs ys e = cc

-- the listing whose last pair is known, at a node and those after it
abbrev shown_from : List ℕ → Node → List Node → List Slot → List Shown
shown_from path n ns slots = record { path = path; slots = slots_of n slots } ∷ listing_after path ns slots

abbrev ending : List Shown → List ℕ → List Slot → List Shown
ending front p slots = front ++ record { path = p; slots = slots } ∷ []

abbrev shown_all : List ℕ → List Node → List Slot → List Shown
shown_all path [] slots = []
shown_all path (n ∷ ns) slots = shown_from path n ns slots

bumped-first : (path : List ℕ) (m : Node) (rest : List Node) (slots : List Slot) → listing_after path (bumped (m ∷ rest)) slots ≡ shown_all (path_after path m) (bumped (m ∷ rest)) slots
bumped-first path m [] slots = refl
bumped-first path m (x ∷ rest) slots = refl

bumped-shown : (path : List ℕ) (n : Node) (ns : List Node) (slots : List Slot) (front : List Shown) (p : List ℕ) (held : List Slot) (place end : ℕ)
    (d : Slot) → shown_from path n ns slots ≡ ending front p held → ArePacked place (n ∷ ns) end → end < length slots
    → shown_all path (bumped (n ∷ ns)) slots ≡ ending front p (held ++ get_or slots end d ∷ [])
bumped-shown path n [] slots [] p held place end d e packed within =
    let sn : Shown = record { path = path; slots = slots_of n slots } in
    let sp : Shown = record { path = p; slots = held } in
    let same : sn ≡ sp = head_of sn sp [] [] e in
    let paths : path ≡ p = ap (λ (s : Shown). s.path) same in
    let slots_same : slots_of n slots ≡ held = ap (λ (s : Shown). s.slots) same in
    let more : slots_of (record n { count = n.count + 1 }) slots ≡ slots_of n slots ++ get_or slots end d ∷ [] = slots-more n slots d end (omega (arith, packed.0, packed.1)) within in
    ap (λ (l : List Slot). record { path = path; slots = l } ∷ []) (more ∙ ap (λ (l : List Slot). l ++ get_or slots end d ∷ []) slots_same)
    ∙ ap (λ (l : List ℕ). record { path = l; slots = held ++ get_or slots end d ∷ [] } ∷ []) paths
bumped-shown path n [] slots (f ∷ fs) p held place end d e packed within =
    absurd (no_end fs (record { path = p; slots = held }) (sym (tail_of (record { path = path; slots = slots_of n slots }) f [] (ending fs p held) e)))
bumped-shown path n (m ∷ rest) slots [] p held place end d e packed within =
    let none : shown_from (path_after path m) m rest slots ≡ [] = tail_of (record { path = path; slots = slots_of n slots })
    (record { path = p; slots = held }) (shown_from (path_after path m) m rest slots) [] e in
    cc
bumped-shown path n (m ∷ rest) slots (f ∷ fs) p held place end d e packed within =
    let sn : Shown = record { path = path; slots = slots_of n slots } in
    let first : sn ≡ f = head_of sn f (shown_from (path_after path m) m rest slots) (ending fs p held) e in
    let others : shown_from (path_after path m) m rest slots ≡ ending fs p held = tail_of sn f (shown_from (path_after path m) m rest slots) (ending fs p held) e in
    let on : shown_all (path_after path m) (bumped (m ∷ rest)) slots ≡ ending fs p (held ++ get_or slots end d ∷ []) = bumped-shown
    (path_after path m) m rest slots fs p held (place + n.count) end d others packed.1 within in
    ap (λ (l : List Shown). sn ∷ l) (bumped-first path m rest slots ∙ on) ∙ ap (λ (s : Shown). s ∷ ending fs p (held ++ get_or slots end d ∷ [])) first

shown-end : (path : List ℕ) (n : Node) (ns : List Node) (slots : List Slot) (front : List Shown) (p : List ℕ) (held : List Slot)
    → shown_from path n ns slots ≡ ending front p held → end_path path ns ≡ p
shown-end path n [] slots [] p held e =
    ap (λ (s : Shown). s.path) (head_of (record { path = path; slots = slots_of n slots }) (record { path = p; slots = held }) [] [] e)
shown-end path n [] slots (f ∷ fs) p held e =
    absurd (no_end fs (record { path = p; slots = held }) (sym (tail_of (record { path = path; slots = slots_of n slots }) f [] (ending fs p held) e)))
shown-end path n (m ∷ rest) slots [] p held e =
    let none : shown_from (path_after path m) m rest slots ≡ [] = tail_of (record { path = path; slots = slots_of n slots })
    (record { path = p; slots = held }) (shown_from (path_after path m) m rest slots) [] e in
    cc
shown-end path n (m ∷ rest) slots (f ∷ fs) p held e =
    shown-end (path_after path m) m rest slots fs p held (tail_of (record { path = path; slots = slots_of n slots }) f (shown_from (path_after path m) m rest slots) (ending fs p held) e)

-- ---- the nodes of the registrations so far
abbrev pub AreSteppedFrom : List Node → Type 0
AreSteppedFrom [] = ⊥
AreSteppedFrom (top ∷ ns) = (top.event ≡ 0) × (top.depth ≡ 0) × AreSteps 0 ns

pub record Built (slots : List Slot) (list : List Placed) (q : List ℕ) (nodes : List Node) : Type 0 where
  pub grown : Grown list q
  pub listed : listing_of nodes slots ≡ canon_of list
  pub stepped : AreSteppedFrom nodes
  pub packed : ArePacked 0 nodes (length list)
  pub ends : last_path nodes ≡ q
  pub few : length nodes ≤ 1 + 8 * length list

abbrev pub top_node : Node
top_node = record { event = 0; depth = 0; below = 0; first = 0; count = 0 }

pub built-none : (slots : List Slot) → Built slots [] [] (top_node ∷ [])
unfolding canon_of
built-none slots = record {
  grown = grown-none;
  listed = refl;
  stepped = (refl, refl, tt);
  packed = (refl, refl);
  ends = refl;
  few = omega arith;
}

bumped-stepped : (n : Node) (ns : List Node) → AreSteppedFrom (n ∷ ns) → AreSteppedFrom (bumped (n ∷ ns))
bumped-stepped n [] h = h
bumped-stepped n (m ∷ ns) h = (h.0, h.1, bumped-steps 0 (m ∷ ns) h.2)

-- with the last node known, its path is that of the last registration
bumped-last : (n : Node) (ns : List Node) (slots : List Slot) (front : List Shown) (p : List ℕ) (held : List Slot)
    → listing_of (bumped (n ∷ ns)) slots ≡ ending front p held → last_path (bumped (n ∷ ns)) ≡ p
bumped-last n [] slots front p held e = shown-end [] (record n { count = n.count + 1 }) [] slots front p held e
bumped-last n (m ∷ ns) slots front p held e = shown-end [] n (bumped (m ∷ ns)) slots front p held e

bumped-listing : (n : Node) (ns : List Node) (slots : List Slot) → listing_of (bumped (n ∷ ns)) slots ≡ shown_all [] (bumped (n ∷ ns)) slots
bumped-listing n [] slots = refl
bumped-listing n (m ∷ ns) slots = refl

pub built-push : (slots : List Slot) (list : List Placed) (q : List ℕ) (nodes : List Node) (r : Placed) → Built slots list q nodes → IsUpTo q r.path
    → length list < length slots → get_or slots (length list) r.slot ≡ r.slot → length r.path ≤ 8
    → Built slots (list ++ r ∷ []) r.path (bumped (nodes ++ fresh_nodes (length list) q r.path))
built-push slots list q [] r b le within is short = absurd b.stepped
built-push slots list q (top ∷ ns) r b le within is short =
    let s : Step list q r = step list q r b.grown le in
    let k : ℕ = common q r.path in
    let new : List Node = fresh_nodes (length list) q r.path in
    let listed : listing_of (top ∷ (ns ++ new)) slots ≡ ending s.front r.path s.slots =
    ap (λ (l : List Shown). record { path = []; slots = slots_of top slots } ∷ l) (listing_after-append [] ns new slots) ∙
    (ap (λ (l : List Shown). listing_of (top ∷ ns) slots ++ l) (ap (λ (p : List ℕ). listing_after p new slots) b.ends ∙ listing-fresh q r.path (length list) slots) ∙
    (ap (λ (l : List Shown). l ++ map bare (newer [] q r.path)) b.listed ∙ s.was)) in
    let packed : ArePacked 0 (top ∷ (ns ++ new)) (length list) = packed-fresh 0 (length list) k (top ∷ ns) (drop k r.path) b.packed in
    let steps : AreSteps 0 (ns ++ new) = steps-append [] ns new b.stepped.2
    (fresh-steps (length list) k (length (end_path [] ns)) (drop k r.path) (omega (arith, common-left q r.path, ap length b.ends))) in
    let bump : listing_of (bumped (top ∷ (ns ++ new))) slots ≡ ending s.front r.path (s.slots ++ r.slot ∷ []) =
    bumped-listing top (ns ++ new) slots ∙ (bumped-shown [] top (ns ++ new) slots s.front r.path s.slots 0 (length list) r.slot listed packed within
    ∙ ap (λ (x : Slot). ending s.front r.path (s.slots ++ x ∷ [])) is) in
    record {
      grown = grown-push list q r b.grown le;
      listed = bump ∙ sym s.becomes;
      stepped = bumped-stepped top (ns ++ new) (b.stepped.0, b.stepped.1, steps);
      packed = subst (λ (e : ℕ). ArePacked 0 (bumped (top ∷ (ns ++ new))) e) (sym (length_push list r)) (bumped-packed 0 (length list) top (ns ++ new) packed);
      ends = bumped-last top (ns ++ new) slots s.front r.path (s.slots ++ r.slot ∷ []) bump;
      few = omega (arith, b.few, bumped-length (top ∷ (ns ++ new)), length-append ns new, length-fresh (length list) k (drop k r.path), length-drop k r.path, length_push list r);
    }

-- ---- each node counts those under it
counted-under : (depth : ℕ) (ns : List Node) → under depth (counted ns) ≡ under depth ns
counted-under depth [] = refl
counted-under depth (n ∷ ns) = ap (λ (k : ℕ). cond (ltb depth n.depth) (k + 1) 0) (counted-under depth ns)

counted-laid : (depth : ℕ) (ns : List Node) → AreSteps depth ns → AreLaidOut depth (counted ns)
counted-laid depth [] h = tt
counted-laid depth (n ∷ ns) h = (h.0, h.1, sym (counted-under n.depth ns), counted-laid n.depth ns h.2)

counted-packed : (place end : ℕ) (ns : List Node) → ArePacked place ns end → ArePacked place (counted ns) end
counted-packed place end [] h = h
counted-packed place end (n ∷ ns) h = (h.0, counted-packed (place + n.count) end ns h.1)

counted-after : (before : List ℕ) (ns : List Node) (slots : List Slot) → listing_after before (counted ns) slots ≡ listing_after before ns slots
counted-after before [] slots = refl
counted-after before (n ∷ ns) slots = ap (λ (l : List Shown). record { path = path_after before n; slots = slots_of n slots } ∷ l) (counted-after (path_after before n) ns slots)

all-under : (depth : ℕ) (ns : List Node) → AreSteps depth ns → under 0 ns ≡ length ns
all-under depth [] h = refl
all-under depth (n ∷ ns) h =
    let test : ltb 0 n.depth ≡ true = lt-ltb 0 n.depth (omega (arith, h.0)) in
    ap (λ (b : Bool). cond b (under 0 ns + 1) 0) test ∙ omega (arith, all-under n.depth ns h.2)

pub counted-length : (ns : List Node) → length (counted ns) ≡ length ns
counted-length [] = refl
counted-length (n ∷ ns) = ap (λ (k : ℕ). suc k) (counted-length ns)

pub built-listing : (slots : List Slot) (list : List Placed) (q : List ℕ) (nodes : List Node) → Built slots list q nodes → listing_of (counted nodes) slots ≡ canon_of list
built-listing slots list q [] b = absurd b.stepped
built-listing slots list q (top ∷ ns) b = ap (λ (l : List Shown). record { path = []; slots = slots_of top slots } ∷ l) (counted-after [] ns slots) ∙ b.listed

pub built-tree : (slots : List Slot) (list : List Placed) (q : List ℕ) (nodes : List Node) → Built slots list q nodes → length list ≡ length slots
    → IsInOrder (canon_of list) → IsTree (counted nodes) slots
built-tree slots list q [] b all order = absurd b.stepped
built-tree slots list q (top ∷ ns) b all order = record {
  topped = (b.stepped.0, b.stepped.1, ap (λ (d : ℕ). under d ns) b.stepped.1 ∙ (all-under 0 ns b.stepped.2 ∙ sym (counted-length ns)), counted-laid 0 ns b.stepped.2);
  packed = subst (λ (e : ℕ). ArePacked 0 (counted (top ∷ ns)) e) all (counted-packed 0 (length list) (top ∷ ns) b.packed);
  order = subst IsInOrder (sym (built-listing slots list q (top ∷ ns) b)) order;
}

-- the last node has fewer registrations than there are places
last-room : (place : ℕ) (n : Node) (ns : List Node) (end : ℕ) (d : Node) → ArePacked place (n ∷ ns) end → (get_or (n ∷ ns) (length (n ∷ ns) - 1) d).count ≤ end
last-room place n [] end d h = omega (arith, h.1)
last-room place n (m ∷ ns) end d h =
    let at : length (n ∷ m ∷ ns) - 1 ≡ suc (length (m ∷ ns) - 1) = omega arith in
    subst (λ (k : ℕ). (get_or (n ∷ m ∷ ns) k d).count ≤ end) (sym at) (last-room (place + n.count) m ns end d h.1)

pub built-room : (slots : List Slot) (list : List Placed) (q : List ℕ) (nodes : List Node) (p : List ℕ) (d : Node) → Built slots list q nodes
    → (get_or (nodes ++ fresh_nodes (length list) q p) (length (nodes ++ fresh_nodes (length list) q p) - 1) d).count ≤ length list
built-room slots list q [] p d b = absurd b.stepped
built-room slots list q (top ∷ ns) p d b =
    last-room 0 top (ns ++ fresh_nodes (length list) q p) (length list) d (packed-fresh 0 (length list) (common q p) (top ∷ ns) (drop (common q p) p) b.packed)

-- ---- one turn of the loop
pub built-next : (slots : List Slot) (all : List Placed) (i : ℕ) (q : List ℕ) (nodes : List Node) (d : Placed) → i < length all
    → slots ≡ map (λ r. r.slot) all → length (get_or all i d).path ≤ 8 → Built slots (take i all) q nodes → Rises q (drop i all)
    → Built slots (take (i + 1) all) (get_or all i d).path (bumped (nodes ++ fresh_nodes i q (get_or all i d).path)) × Rises (get_or all i d).path (drop (i + 1) all)
built-next slots all i q nodes d within same short b up =
    let r : Placed = get_or all i d in
    let long : length (take i all) ≡ i = length-take-le i all (omega arith) in
    let at : drop i all ≡ r ∷ drop (i + 1) all = drop_more all i d within in
    let order : Rises q (r ∷ drop (i + 1) all) = subst (Rises q) at up in
    let count : length slots ≡ length all = ap length same ∙ length-map all (λ (x : Placed). x.slot) in
    let held : get_or slots (length (take i all)) r.slot ≡ r.slot =
    ap (λ (k : ℕ). get_or slots k r.slot) long ∙ (ap (λ (l : List Slot). get_or l i r.slot) same ∙ get_or-map (λ (x : Placed). x.slot) all i d r.slot within) in
    let new : Built slots (take i all ++ r ∷ []) r.path (bumped (nodes ++ fresh_nodes (length (take i all)) q r.path)) = built-push slots (take i all) q nodes r b order.0 (omega arith) held short in (
      subst (λ (l : List Placed). Built slots l r.path (bumped (nodes ++ fresh_nodes i q r.path))) (sym (take_more all i d within))
          (subst (λ (k : ℕ). Built slots (take i all ++ r ∷ []) r.path (bumped (nodes ++ fresh_nodes k q r.path))) long new),
      order.1,
    )

pub built-room_at : (slots : List Slot) (all : List Placed) (i : ℕ) (q : List ℕ) (nodes : List Node) (p : List ℕ) (d : Node) → i ≤ length all
    → Built slots (take i all) q nodes → (get_or (nodes ++ fresh_nodes i q p) (length (nodes ++ fresh_nodes i q p) - 1) d).count ≤ i
built-room_at slots all i q nodes p d within b =
    let long : length (take i all) ≡ i = length-take-le i all within in
    subst (λ (k : ℕ). (get_or (nodes ++ fresh_nodes k q p) (length (nodes ++ fresh_nodes k q p) - 1) d).count ≤ k) long (built-room slots (take i all) q nodes p d b)

pub built-all : (slots : List Slot) (all : List Placed) (q : List ℕ) (nodes : List Node) → Built slots (take (length all) all) q nodes → Built slots all q nodes
built-all slots all q nodes b = subst (λ (l : List Placed). Built slots l q nodes) (take_all (length all) all (omega arith)) b

-- a lent list that comes back as long as it went
pub lent_back : (n : ℕ) (new old : List Node) → length new ≡ n → take n (new ++ drop (length new) old) ≡ new
lent_back n new old h = take_at new (drop (length new) old) n h

slots-seen : (regs : List PlacedReg) → seen_slots regs ≡ map (λ r. r.slot) (all_seen regs)
slots-seen [] = refl
slots-seen (r ∷ regs) = ap (λ (l : List Slot). r.slot ∷ l) (slots-seen regs)

pub built-turn : (regs : List PlacedReg) (i : ℕ) (d : PlacedReg) (q last p : List ℕ) (old pushed after : List Node) → i < length regs → last ≡ q
    → p ≡ path_of (get_or regs i d).path → length p ≤ 8 → pushed ≡ old ++ fresh_nodes i last p → after ≡ bumped pushed
    → Built (seen_slots regs) (take i (all_seen regs)) q old → Rises q (drop i (all_seen regs))
    → Built (seen_slots regs) (take (i + 1) (all_seen regs)) (path_of (get_or regs i d).path) after × Rises (path_of (get_or regs i d).path) (drop (i + 1) (all_seen regs))
built-turn regs i d q last p old pushed after within lasts paths short push bump b up =
    let r : PlacedReg = get_or regs i d in
    let all : List Placed = all_seen regs in
    let at : get_or all i (seen d) ≡ seen r = get_or-map seen regs i d (seen d) within in
    let path : (get_or all i (seen d)).path ≡ path_of r.path = ap (λ (x : Placed). x.path) at in
    let small : length (get_or all i (seen d)).path ≤ 8 = omega (arith, ap length path, ap length paths) in
    let next = built-next (seen_slots regs) all i q old (seen d) (omega (arith, length-map regs seen)) (slots-seen regs) small b up in
    let is : bumped (old ++ fresh_nodes i q (get_or all i (seen d)).path) ≡ after =
    ap (λ (l : List ℕ). bumped (old ++ fresh_nodes i q l)) (path ∙ sym paths) ∙ (ap (λ (l : List ℕ). bumped (old ++ fresh_nodes i l p)) (sym lasts) ∙ (ap bumped (sym push) ∙ sym bump)) in (
      subst (λ (l : List ℕ). Built (seen_slots regs) (take (i + 1) all) l after) path
          (subst (λ (ns : List Node). Built (seen_slots regs) (take (i + 1) all) (get_or all i (seen d)).path ns) is next.0),
      subst (λ (l : List ℕ). Rises l (drop (i + 1) all)) path next.1,
    )

pub built-room_turn : (regs : List PlacedReg) (i : ℕ) (q last p : List ℕ) (old pushed : List Node) (d : Node) → i < length regs → last ≡ q
    → pushed ≡ old ++ fresh_nodes i last p → Built (seen_slots regs) (take i (all_seen regs)) q old → (get_or pushed (length pushed - 1) d).count ≤ i
built-room_turn regs i q last p old pushed d within lasts push b =
    let is : old ++ fresh_nodes i q p ≡ pushed = ap (λ (l : List ℕ). old ++ fresh_nodes i l p) (sym lasts) ∙ sym push in
    subst (λ (ns : List Node). (get_or ns (length ns - 1) d).count ≤ i) is (built-room_at (seen_slots regs) (all_seen regs) i q old p d (omega (arith, length-map regs seen)) b)
