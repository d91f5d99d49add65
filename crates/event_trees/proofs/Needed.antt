-- In the tree of a list each node without registrations has nodes under it; and a tree that is so is that of a list.
use Rattle.std.proofs.Common.{◌≡◌, ℕ, suc, ◌+◌, ◌-◌, ◌<◌, ◌≤◌, Bool, cond, List, [], ◌∷◌, ◌++◌, length, take, drop, map, refl, sym, ap, subst, ◌∙◌, arith, append_assoc, append-nil, inl, inr, ⊎_elim}
use Rattle.std.specs.Prelude.{⊤, ◌⊎◌, ◌≢◌}
use Rattle.std.specs.List.Sorted.{IsStrictlySortedBy}
use Rattle.std.proofs.lemmas.List.{length-take-le, length-take, length-drop, length_push, take_all, take-take}
use Rattle.std.proofs.lemmas.Bool.{cases_lt}
use Rattle.std.proofs.lemmas.Bool.Decides.{eqb_tells}
use Rattle.shared_forest.specs.declared.node.Node.{Node}
use Rattle.shared_forest.specs.declared.node.Slot.{Slot}
use Rattle.shared_forest.specs.Layout.{AreLaidOut, ArePacked, IsTree}
use Rattle.shared_forest.specs.Listing.{Shown, slots_of, path_after, listing_after, listing_of}
use Rattle.event_trees.specs.Private.{path_cmp}
use Rattle.event_trees.specs.Canon.{Placed, longer, prefixes, put_path, put_paths, paths_with, canon_of}
use Rattle.event_trees.specs.ReadOff.{all_at, read_off}
use Rattle.event_trees.proofs.Rises.{Rises}
use Rattle.event_trees.proofs.Order.{Has, AllBelow, put-has, put-above}
use Rattle.event_trees.proofs.Growth.{Grown, grown-none, grown-push, Step, step, bare, newer, sorted-before, take_none}
use Rattle.event_trees.proofs.CanonFrom.{paths_of, canon-from}
use Rattle.event_trees.proofs.Built.{length-path_after}
use Rattle.event_trees.proofs.InsertPaths.{node_paths, paths-after}
use Rattle.event_trees.proofs.InsertLaw.{begun-next, sorted-front}
use Rattle.event_trees.proofs.Walks.{packed-le}

-- a node and those after it: one without registrations has the next under it, and the last has registrations
abbrev pub IsNeeded : Node → List Node → Type 0
IsNeeded n [] = 1 ≤ n.count
IsNeeded n (m ∷ ns) = (n.count ≡ 0 → n.depth < m.depth) × IsNeeded m ns

abbrev pub AreNeeded : List Node → Type 0
AreNeeded [] = ⊤
AreNeeded (n ∷ ns) = IsNeeded n ns

-- ---- the paths of the registrations of such nodes are all their paths
paths-both : (xs : List (List ℕ)) (list more : List Placed) → paths_with xs (list ++ more) ≡ paths_with (paths_with xs list) more
paths-both xs [] more = refl
paths-both xs (r ∷ list) more = paths-both (put_paths (prefixes r.path) xs) list more

-- prefixes that are there
held-puts : (front es : List ℕ) (xs : List (List ℕ)) → IsStrictlySortedBy path_cmp xs → ((k : ℕ) → Has (front ++ take k es) xs) → put_paths (longer front es) xs ≡ xs
held-puts front [] xs s h = refl
held-puts front (e ∷ es) xs s h =
    let f : List ℕ = front ++ e ∷ [] in
    let there : Has f xs = h 1 in
    ap (put_paths (longer f es)) (put-has f xs s there) ∙ held-puts f es xs s (λ k. subst (λ (p : List ℕ). Has p xs) (sym (append_assoc front (e ∷ []) (take k es))) (h (suc k)))

prefixes-push : (front es : List ℕ) (e : ℕ) (xs : List (List ℕ)) → put_paths (longer front (es ++ e ∷ [])) xs ≡ put_path (front ++ (es ++ e ∷ [])) (put_paths (longer front es) xs)
prefixes-push front [] e xs = refl
prefixes-push front (a ∷ es) e xs =
    let f : List ℕ = front ++ a ∷ [] in
    prefixes-push f es e (put_path f xs) ∙ ap (λ (p : List ℕ). put_path p (put_paths (longer f es) (put_path f xs))) (append_assoc front (a ∷ []) (es ++ e ∷ []))

with-more : (p : List ℕ) (slots : List Slot) (xs : List (List ℕ)) → put_paths (prefixes p) xs ≡ xs → paths_with xs (all_at p slots) ≡ xs
with-more p [] xs h = refl
with-more p (s ∷ slots) xs h = ap (λ (l : List (List ℕ)). paths_with l (all_at p slots)) h ∙ with-more p slots xs h

with-some : (p : List ℕ) (slots : List Slot) (xs ys : List (List ℕ)) → 1 ≤ length slots → put_paths (prefixes p) xs ≡ ys → put_paths (prefixes p) ys ≡ ys → paths_with xs (all_at p slots) ≡ ys
with-some p [] xs ys some h k = absurd (omega (arith, some))
with-some p (s ∷ slots) xs ys some h k = ap (λ (l : List (List ℕ)). paths_with l (all_at p slots)) h ∙ with-more p slots ys k

slots-some : (n : Node) (slots : List Slot) → n.first + n.count ≤ length slots → 1 ≤ n.count → 1 ≤ length (slots_of n slots)
slots-some n slots within some = omega (arith, length-take-le n.count (drop n.first slots) (omega (arith, within, length-drop n.first slots)), some)

-- the node's path and those before it
pub record SoFar (path : List ℕ) (n : Node) (so_far all : List (List ℕ)) : Type 0 where
  pub long : length path ≡ n.depth
  pub begun : (k : ℕ) → Has (take k path) all
  pub sorted : IsStrictlySortedBy path_cmp all
  pub puts : put_paths (prefixes path) so_far ≡ all

next-deeper : (path : List ℕ) (n m : Node) (so_far all : List (List ℕ)) → SoFar path n so_far all → n.depth < m.depth → m.depth ≤ length path + 1
    → AllBelow all (path_after path m) → put_paths (prefixes (path_after path m)) so_far ≡ all ++ path_after path m ∷ []
next-deeper path n m so_far all s deeper near below =
    let whole : take (m.depth - 1) path ≡ path = take_all (m.depth - 1) path (omega (arith, s.long, deeper)) in
    let is : path_after path m ≡ path ++ m.event ∷ [] = ap (λ (l : List ℕ). l ++ m.event ∷ []) whole in
    ap (λ (p : List ℕ). put_paths (prefixes p) so_far) is ∙ (prefixes-push [] path m.event so_far
    ∙ (ap (put_path (path ++ m.event ∷ [])) s.puts ∙ (ap (λ (p : List ℕ). put_path p all) (sym is) ∙ put-above (path_after path m) all below)))

shorter : (path : List ℕ) (xs : List (List ℕ)) (d k : ℕ) → ((j : ℕ) → Has (take j path) xs) → Has (take k (take d path)) xs
shorter path xs d k h =
    ⊎_elim (λ l. subst (λ (p : List ℕ). Has p xs) (sym (take-take k d path (omega (arith, l)))) (h k))
    (λ g. subst (λ (p : List ℕ). Has p xs) (sym (take_all k (take d path) (omega (arith, g, length-take d path)))) (h d)) (cases_lt k d)

next-held : (path : List ℕ) (n m : Node) (so_far all : List (List ℕ)) → SoFar path n so_far all → AllBelow all (path_after path m)
    → put_paths (prefixes (path_after path m)) all ≡ all ++ path_after path m ∷ []
next-held path n m so_far all s below =
    let short : List ℕ = take (m.depth - 1) path in
    let held : put_paths (prefixes short) all ≡ all = held-puts [] short all s.sorted (λ k. shorter path all (m.depth - 1) k s.begun) in
    prefixes-push [] short m.event all ∙ (ap (put_path (path_after path m)) held ∙ put-above (path_after path m) all below)

held-all : (path : List ℕ) (n : Node) (so_far all : List (List ℕ)) → SoFar path n so_far all → put_paths (prefixes path) all ≡ all
held-all path n so_far all s = held-puts [] path all s.sorted s.begun

pub paths-needed : (path : List ℕ) (n : Node) (ns : List Node) (slots : List Slot) (so_far all : List (List ℕ)) (place : ℕ) → SoFar path n so_far all
    → IsNeeded n ns → AreLaidOut (length path) ns → ArePacked place (n ∷ ns) (length slots) → IsStrictlySortedBy path_cmp (all ++ node_paths path ns)
    → paths_with so_far (all_at path (slots_of n slots) ++ read_off (listing_after path ns slots)) ≡ all ++ node_paths path ns
paths-needed path n [] slots so_far all place s needed laid packed sorted =
    let within : n.first + n.count ≤ length slots = omega (arith, packed.0, packed.1) in
    ap (paths_with so_far) (append-nil (all_at path (slots_of n slots)))
    ∙ (with-some path (slots_of n slots) so_far all (slots-some n slots within needed) s.puts (held-all path n so_far all s) ∙ sym (append-nil all))
paths-needed path n (m ∷ ns) slots so_far all place s needed laid packed sorted =
    let on : List ℕ = path_after path m in
    let here : List Placed = all_at path (slots_of n slots) in
    let rest : List Placed = read_off (listing_after path (m ∷ ns) slots) in
    let within : n.first + n.count ≤ length slots = omega (arith, packed.0, packed-le (place + n.count) (m ∷ ns) (length slots) packed.1) in
    let split : (all ++ on ∷ []) ++ node_paths on ns ≡ all ++ on ∷ node_paths on ns = append_assoc all (on ∷ []) (node_paths on ns) in
    let sorted_on : IsStrictlySortedBy path_cmp ((all ++ on ∷ []) ++ node_paths on ns) = subst (IsStrictlySortedBy path_cmp) (sym split) sorted in
    let sorted_all : IsStrictlySortedBy path_cmp (all ++ on ∷ []) = sorted-front (all ++ on ∷ []) (node_paths on ns) sorted_on in
    let below : AllBelow all on = sorted-before all on sorted_all in
    let next : (xs : List (List ℕ)) → put_paths (prefixes on) xs ≡ all ++ on ∷ [] → paths_with xs rest ≡ all ++ node_paths path (m ∷ ns) = λ xs h.
    paths-needed on m ns slots xs (all ++ on ∷ []) (place + n.count) (record {
      long = length-path_after path m laid.0 laid.1;
      begun = begun-next path m all laid.0 laid.1 s.begun;
      sorted = sorted_all;
      puts = h;
    }) needed.1 (subst (λ (k : ℕ). AreLaidOut k ns) (sym (length-path_after path m laid.0 laid.1)) laid.3) packed.1 sorted_on ∙ split in
    paths-both so_far here rest ∙ ⊎_elim (λ none.
    let zero_count : n.count ≡ 0 = omega (arith, none) in
    let same : paths_with so_far here ≡ so_far = ap (λ (k : ℕ). paths_with so_far (all_at path (take k (drop n.first slots)))) zero_count in
    ap (λ (l : List (List ℕ)). paths_with l rest) same ∙ next so_far (next-deeper path n m so_far all s (needed.0 zero_count) laid.1 below))
    (λ some.
    let same : paths_with so_far here ≡ all = with-some path (slots_of n slots) so_far all (slots-some n slots within some) s.puts (held-all path n so_far all s) in
    ap (λ (l : List (List ℕ)). paths_with l rest) same ∙ next all (next-held path n m so_far all s below)) (cases_lt n.count 1)

one_path : IsStrictlySortedBy path_cmp ([] ∷ [])
unfolding IsStrictlySortedBy
one_path = (tt, tt)

top-needed : (top : Node) (ns : List Node) → top.depth ≡ 0 → AreLaidOut 0 ns → AreNeeded ns → (1 ≤ length ns) → IsNeeded top ns
top-needed top [] is laid needed some = absurd (omega (arith, some))
top-needed top (m ∷ ns) is laid needed some = (λ _. omega (arith, is, laid.0), needed)

-- the listing of such a tree is that of its registrations
pub listing-needed : (top : Node) (ns : List Node) (slots : List Slot) → top.depth ≡ 0 → AreLaidOut 0 ns → ArePacked 0 (top ∷ ns) (length slots)
    → IsStrictlySortedBy path_cmp ([] ∷ node_paths [] ns) → AreNeeded ns → listing_of (top ∷ ns) slots ≡ canon_of (read_off (listing_of (top ∷ ns) slots))
listing-needed top [] slots is laid packed sorted needed = canon-from (read_off (listing_of (top ∷ []) slots)) (listing_of (top ∷ []) slots) one_path
    (sym (ap (paths_with ([] ∷ [])) (append-nil (all_at [] (slots_of top slots))) ∙ with-more [] (slots_of top slots) ([] ∷ []) refl)) refl
listing-needed top (m ∷ ns) slots is laid packed sorted needed =
    let paths : paths_of (listing_of (top ∷ m ∷ ns) slots) ≡ [] ∷ node_paths [] (m ∷ ns) = ap (λ (l : List (List ℕ)). [] ∷ l) (paths-after [] (m ∷ ns) slots) in
    let held : paths_with ([] ∷ []) (read_off (listing_of (top ∷ m ∷ ns) slots)) ≡ ([] ∷ []) ++ node_paths [] (m ∷ ns) =
    paths-needed [] top (m ∷ ns) slots ([] ∷ []) ([] ∷ []) 0 (record {
      long = sym is;
      begun = λ k. inl (sym (take_none k));
      sorted = one_path;
      puts = refl;
    }) (top-needed top (m ∷ ns) is laid needed (omega arith)) laid packed sorted in
    canon-from (read_off (listing_of (top ∷ m ∷ ns) slots)) (listing_of (top ∷ m ∷ ns) slots) (subst (IsStrictlySortedBy path_cmp) (sym paths) sorted) (paths ∙ sym held) refl

-- ---- in the listing of a list a path without registrations goes on at once
abbrev pub GoesOn : List Shown → Type 0
GoesOn [] = ⊤
GoesOn (s ∷ []) = ⊤
GoesOn (s ∷ t ∷ rest) = (s.slots ≡ [] → length s.path < length t.path) × GoesOn (t ∷ rest)

abbrev ended : List Shown → List ℕ → List Slot → List Shown
ended front p slots = front ++ record { path = p; slots = slots } ∷ []

goes_on-end : (front : List Shown) (p : List ℕ) (slots more : List Slot) → GoesOn (ended front p slots) → GoesOn (ended front p more)
goes_on-end [] p slots more h = tt
goes_on-end (f ∷ []) p slots more h = (h.0, tt)
goes_on-end (f ∷ g ∷ front) p slots more h = (h.0, goes_on-end (g ∷ front) p slots more h.1)

goes_on-longer : (front : List ℕ) (b : ℕ) (es : List ℕ) → GoesOn (map bare (longer front (b ∷ es)))
goes_on-longer front b [] = tt
goes_on-longer front b (e ∷ es) = (λ _. omega (arith, length_push (front ++ b ∷ []) e), goes_on-longer (front ++ b ∷ []) e es)

pub record Longer (ps : List (List ℕ)) : Type 0 where
  pub front : List ℕ
  pub event : ℕ
  pub events : List ℕ
  pub is : ps ≡ longer front (event ∷ events)

newer-longer : (front q p : List ℕ) → (newer front q p ≡ []) ⊎ Longer (newer front q p)
newer-longer front [] [] = inl refl
newer-longer front (a ∷ q) [] = inl refl
newer-longer front [] (b ∷ p) = inr (record { front = front; event = b; events = p; is = refl })
newer-longer front (a ∷ q) (b ∷ p) =
    ⊎_elim (λ t. let at : newer front (a ∷ q) (b ∷ p) ≡ newer (front ++ b ∷ []) q p = ap (λ (c : Bool). cond c (newer (front ++ b ∷ []) q p) (longer front (b ∷ p))) t.0 in
    ⊎_elim (λ h. inl (at ∙ h)) (λ l. inr (record { front = l.front; event = l.event; events = l.events; is = at ∙ l.is })) (newer-longer (front ++ b ∷ []) q p))
    (λ t. inr (record { front = front; event = b; events = p; is = ap (λ (c : Bool). cond c (newer (front ++ b ∷ []) q p) (longer front (b ∷ p))) t.0 })) (eqb_tells a b)

-- a last path that has registrations, or is the empty one, may be followed by longer ones
goes_on-both : (front : List Shown) (q : List ℕ) (slots : List Slot) (f : List ℕ) (b : ℕ) (es : List ℕ) → GoesOn (ended front q slots)
    → (slots ≡ [] → q ≡ []) → GoesOn (ended front q slots ++ map bare (longer f (b ∷ es)))
goes_on-both [] q slots f b es h top = (λ none. omega (arith, ap length (top none), length_push f b), goes_on-longer f b es)
goes_on-both (x ∷ []) q slots f b es h top = (h.0, goes_on-both [] q slots f b es tt top)
goes_on-both (x ∷ y ∷ front) q slots f b es h top = (h.0, goes_on-both (y ∷ front) q slots f b es h.1 top)

-- the listing so far: where it ends
pub record Ending (list : List Placed) (q : List ℕ) : Type 0 where
  pub front : List Shown
  pub slots : List Slot
  pub is : canon_of list ≡ front ++ record { path = q; slots = slots } ∷ []
  pub top : slots ≡ [] → q ≡ []
  pub some : slots ≡ [] → list ≡ []
  pub goes_on : GoesOn (canon_of list)

no_slots_end : (xs : List Slot) (x : Slot) → xs ++ x ∷ [] ≡ [] → ⊥
no_slots_end [] x e = cc
no_slots_end (y ∷ xs) x e = cc

ending-next : (list : List Placed) (q : List ℕ) (r : Placed) → Ending list q → Step list q r → Ending (list ++ r ∷ []) r.path
ending-next list q r e s =
    let more : GoesOn (canon_of list ++ map bare (newer [] q r.path)) = ⊎_elim
    (λ none. subst GoesOn (sym (ap (λ (l : List (List ℕ)). canon_of list ++ map bare l) none ∙ append-nil (canon_of list))) e.goes_on)
    (λ l. subst (λ (x : List (List ℕ)). GoesOn (canon_of list ++ map bare x)) (sym l.is)
    (subst (λ (x : List Shown). GoesOn (x ++ map bare (longer l.front (l.event ∷ l.events)))) (sym e.is)
    (goes_on-both e.front q e.slots l.front l.event l.events (subst GoesOn e.is e.goes_on) e.top))) (newer-longer [] q r.path) in
    record {
      front = s.front;
      slots = s.slots ++ r.slot ∷ [];
      is = s.becomes;
      top = λ none. absurd (no_slots_end s.slots r.slot none);
      some = λ none. absurd (no_slots_end s.slots r.slot none);
      goes_on = subst GoesOn (sym s.becomes) (goes_on-end s.front r.path s.slots (s.slots ++ r.slot ∷ []) (subst GoesOn s.was more));
    }

abbrev pub last_of : List ℕ → List Placed → List ℕ
last_of q [] = q
last_of q (r ∷ rest) = last_of r.path rest

ending-from : (list rest : List Placed) (q : List ℕ) → Grown list q → Ending list q → Rises q rest → Ending (list ++ rest) (last_of q rest)
ending-from list [] q g e up = subst (λ (l : List Placed). Ending l q) (sym (append-nil list)) e
ending-from list (r ∷ rest) q g e up =
    subst (λ (l : List Placed). Ending l (last_of r.path rest)) (append_assoc list (r ∷ []) rest)
    (ending-from (list ++ r ∷ []) rest r.path (grown-push list q r g up.0) (ending-next list q r e (step list q r g up.0)) up.1)

ending-none : Ending [] []
unfolding canon_of
ending-none = record { front = []; slots = []; is = refl; top = λ _. refl; some = λ _. refl; goes_on = tt }

ending-all : (list : List Placed) → Rises [] list → Ending list (last_of [] list)
ending-all list up = ending-from [] list [] grown-none ending-none up

head_is : (x y : Shown) (xs ys : List Shown) → x ∷ xs ≡ y ∷ ys → x ≡ y
head_is x y xs ys e = cc

-- the nodes of a listing that goes on
needed-from : (path : List ℕ) (n : Node) (ns : List Node) (slots : List Slot) (front : List Shown) (q : List ℕ) (held : List Slot)
    → length path ≡ n.depth → AreLaidOut (length path) ns → GoesOn (record { path = path; slots = slots_of n slots } ∷ listing_after path ns slots)
    → record { path = path; slots = slots_of n slots } ∷ listing_after path ns slots ≡ front ++ record { path = q; slots = held } ∷ [] → held ≢ [] → IsNeeded n ns
needed-from path n [] slots [] q held long laid on is some =
    ⊎_elim (λ none.
    let zero_count : n.count ≡ 0 = omega (arith, none) in
    let empty : slots_of n slots ≡ [] = ap (λ (k : ℕ). take k (drop n.first slots)) zero_count in
    let same : slots_of n slots ≡ held = ap (λ (s : Shown). s.slots) (head_is (record { path = path; slots = slots_of n slots }) (record { path = q; slots = held }) [] [] is) in
    absurd (some (sym same ∙ empty))) (λ h. h) (cases_lt n.count 1)
needed-from path n [] slots (f ∷ []) q held long laid on is some = cc
needed-from path n [] slots (f ∷ g ∷ front) q held long laid on is some = cc
needed-from path n (m ∷ ns) slots [] q held long laid on is some = cc
needed-from path n (m ∷ ns) slots (f ∷ front) q held long laid on is some =
    let size : length (path_after path m) ≡ m.depth = length-path_after path m laid.0 laid.1 in
    let rest : listing_after path (m ∷ ns) slots ≡ front ++ record { path = q; slots = held } ∷ [] = cc in (
      λ none.
          let empty : slots_of n slots ≡ [] = ap (λ (k : ℕ). take k (drop n.first slots)) none in
          omega (arith, on.0 empty, size, long),
      needed-from (path_after path m) m ns slots front q held size (subst (λ (k : ℕ). AreLaidOut k ns) (sym size) laid.3) on.1 rest some,
    )

-- the tree of a list that isn't empty
pub needed-canon : (top : Node) (ns : List Node) (slots : List Slot) (list : List Placed) → IsTree (top ∷ ns) slots
    → listing_of (top ∷ ns) slots ≡ canon_of list → Rises [] list → list ≢ [] → IsNeeded top ns
needed-canon top ns slots list tree canon up some =
    let e : Ending list (last_of [] list) = ending-all list up in
    needed-from [] top ns slots e.front (last_of [] list) e.slots (sym tree.topped.1) tree.topped.3 (subst GoesOn (sym canon) e.goes_on) (canon ∙ e.is) (λ none. some (e.some none))
