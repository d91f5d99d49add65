-- When a listing is that of a list, and the paths of a list with one registration more.
use Rattle.std.proofs.Common.{◌≡◌, ℕ, Bool, true, false, cond, List, [], ◌∷◌, ◌++◌, map, Ordering, refl, sym, ap, subst, ◌∙◌, append-nil}
use Rattle.std.specs.Prelude.{if◌then◌else◌}
use Rattle.std.specs.declared.cmp.Ordering.TheVariants.{Less}
use Rattle.std.specs.List.Sorted.{IsStrictlySortedBy}
use Rattle.std.specs.Ordering.{is_lt, is_eq}
use Rattle.shared_forest.specs.declared.node.Slot.{Slot}
use Rattle.shared_forest.specs.Listing.{Shown}
use Rattle.event_trees.specs.Private.{path_cmp}
use Rattle.event_trees.specs.Canon.{Placed, prefixes, put_path, put_paths, paths_with, slots_at, shown_at, canon_of}
use Rattle.event_trees.specs.ReadOff.{all_at, read_off}
use Rattle.event_trees.specs.Edit.{placed_cmp, put_placed}
use Rattle.event_trees.proofs.Order.{AllAbove, by_order, itself, flip_less, less_trans, put-less, put-equal, put-greater}

-- ---- paths are put in one by one, in any order
swap-less : (p q : List ℕ) (xs : List (List ℕ)) → path_cmp p q ≡ Less → put_path p (put_path q xs) ≡ put_path q (put_path p xs)
swap-less p q [] less = put-less p q [] less ∙ sym (put-greater q p [] (flip_less p q less))
swap-less p q (x ∷ xs) less =
    by_order q x (λ o.
    let under : path_cmp p x ≡ Less = less_trans p q x less o in
    ap (put_path p) (put-less q x xs o) ∙ (put-less p q (x ∷ xs) less ∙
    sym (ap (put_path q) (put-less p x xs under) ∙ (put-greater q p (x ∷ xs) (flip_less p q less) ∙ ap (λ (l : List (List ℕ)). p ∷ l) (put-less q x xs o)))))
    (λ o i.
    let under : path_cmp p x ≡ Less = subst (λ (y : List ℕ). path_cmp p y ≡ Less) i less in
    ap (put_path p) (put-equal q x xs o) ∙ (put-less p x xs under ∙
    sym (ap (put_path q) (put-less p x xs under) ∙ (put-greater q p (x ∷ xs) (flip_less p q less) ∙ ap (λ (l : List (List ℕ)). p ∷ l) (put-equal q x xs o)))))
    (λ o l. ap (put_path p) (put-greater q x xs o) ∙ by_order p x (λ under.
    put-less p x (put_path q xs) under ∙ sym (ap (put_path q) (put-less p x xs under) ∙ (put-greater q p (x ∷ xs) (flip_less p q less) ∙ ap (λ (l : List (List ℕ)). p ∷ l) (put-greater q x xs o))))
    (λ tied i. put-equal p x (put_path q xs) tied ∙ sym (ap (put_path q) (put-equal p x xs tied) ∙ put-greater q x xs o))
    (λ over k. put-greater p x (put_path q xs) over ∙ (ap (λ (l : List (List ℕ)). x ∷ l) (swap-less p q xs less)
    ∙ sym (ap (put_path q) (put-greater p x xs over) ∙ put-greater q x (put_path p xs) o))))

swap : (p q : List ℕ) (xs : List (List ℕ)) → put_path p (put_path q xs) ≡ put_path q (put_path p xs)
swap p q xs =
    by_order p q (λ o. swap-less p q xs o)
    (λ o i. subst (λ (y : List ℕ). put_path p (put_path y xs) ≡ put_path y (put_path p xs)) i refl)
    (λ o l. sym (swap-less q p xs l))

swap-one : (p : List ℕ) (ps xs : List (List ℕ)) → put_path p (put_paths ps xs) ≡ put_paths ps (put_path p xs)
swap-one p [] xs = refl
swap-one p (q ∷ qs) xs = swap-one p qs (put_path q xs) ∙ ap (put_paths qs) (swap p q xs)

swap-many : (ps qs xs : List (List ℕ)) → put_paths ps (put_paths qs xs) ≡ put_paths qs (put_paths ps xs)
swap-many [] qs xs = refl
swap-many (p ∷ ps) qs xs = ap (put_paths ps) (swap-one p qs xs) ∙ swap-many ps qs (put_path p xs)

with-puts : (ps xs : List (List ℕ)) (list : List Placed) → paths_with (put_paths ps xs) list ≡ put_paths ps (paths_with xs list)
with-puts ps xs [] = refl
with-puts ps xs (r ∷ rest) = ap (λ (l : List (List ℕ)). paths_with l rest) (swap-many (prefixes r.path) ps xs) ∙ with-puts ps (put_paths (prefixes r.path) xs) rest

-- the paths of a list with one more are its paths with the prefixes of one more put in
pub paths-put : (xs : List (List ℕ)) (r : Placed) (list : List Placed) → paths_with xs (put_placed r list) ≡ put_paths (prefixes r.path) (paths_with xs list)
paths-put xs r [] = refl
paths-put xs r (s ∷ list) =
    elim (is_lt (placed_cmp r s)) as (λ b. paths_with xs (cond b (r ∷ s ∷ list) (s ∷ put_placed r list)) ≡ put_paths (prefixes r.path) (paths_with (put_paths (prefixes s.path) xs) list)) [
      | true ↦ with-puts (prefixes r.path) xs (s ∷ list)
      | false ↦ paths-put (put_paths (prefixes s.path) xs) r list
    ]

-- ---- a listing in order says which registrations stand at which path
slots-same : (p : List ℕ) (slots : List Slot) (list : List Placed) → slots_at (all_at p slots ++ list) p ≡ slots ++ slots_at list p
slots-same p [] list = refl
slots-same p (s ∷ slots) list =
    ap (λ (o : Ordering). if is_eq o then s ∷ slots_at (all_at p slots ++ list) p else slots_at (all_at p slots ++ list) p) (itself p) ∙ ap (λ (l : List Slot). s ∷ l) (slots-same p slots list)

slots-other : (q p : List ℕ) (slots : List Slot) (list : List Placed) → is_eq (path_cmp q p) ≡ false → slots_at (all_at q slots ++ list) p ≡ slots_at list p
slots-other q p [] list other = refl
slots-other q p (s ∷ slots) list other =
    ap (λ (b : Bool). cond b (s ∷ slots_at (all_at q slots ++ list) p) (slots_at (all_at q slots ++ list) p)) other ∙ slots-other q p slots list other

abbrev pub paths_of : List Shown → List (List ℕ)
paths_of shown = map (λ s. s.path) shown

no-slots : (p : List ℕ) (shown : List Shown) → AllAbove p (paths_of shown) → slots_at (read_off shown) p ≡ []
no-slots p [] all = refl
no-slots p (s ∷ ss) all = slots-other s.path p s.slots (read_off ss) (ap is_eq (flip_less p s.path all.0)) ∙ no-slots p ss all.1

shown-other : (q : List ℕ) (slots : List Slot) (list : List Placed) (ps : List (List ℕ)) → AllAbove q ps → shown_at (all_at q slots ++ list) ps ≡ shown_at list ps
shown-other q slots list [] all = refl
shown-other q slots list (p ∷ ps) all =
    ap (λ (l : List Slot). record { path = p; slots = l } ∷ shown_at (all_at q slots ++ list) ps) (slots-other q p slots list (ap is_eq all.0))
    ∙ ap (λ (l : List Shown). record { path = p; slots = slots_at list p } ∷ l) (shown-other q slots list ps all.1)

shown-of : (shown : List Shown) → IsStrictlySortedBy path_cmp (paths_of shown) → shown_at (read_off shown) (paths_of shown) ≡ shown
unfolding IsStrictlySortedBy
shown-of [] s = refl
shown-of (x ∷ xs) s =
    let here : slots_at (read_off (x ∷ xs)) x.path ≡ x.slots = slots-same x.path x.slots (read_off xs) ∙ (ap (λ (l : List Slot). x.slots ++ l) (no-slots x.path xs s.0) ∙ append-nil x.slots) in
    ap (λ (l : List Slot). record { path = x.path; slots = l } ∷ shown_at (read_off (x ∷ xs)) (paths_of xs)) here ∙
    ap (λ (l : List Shown). record { path = x.path; slots = x.slots } ∷ l) (shown-other x.path x.slots (read_off xs) (paths_of xs) s.0 ∙ shown-of xs s.1)

-- a listing in order with the paths of a list, from which the list is read off, is the list's
pub canon-from : (list : List Placed) (shown : List Shown) → IsStrictlySortedBy path_cmp (paths_of shown) → paths_of shown ≡ paths_with ([] ∷ []) list → read_off shown ≡ list → shown ≡ canon_of list
unfolding canon_of
canon-from list shown s paths read =
    sym (shown-of shown s) ∙ (ap (λ (l : List Placed). shown_at l (paths_of shown)) read ∙ ap (shown_at list) paths)

paths-listed : (list : List Placed) (ps : List (List ℕ)) → paths_of (shown_at list ps) ≡ ps
paths-listed list [] = refl
paths-listed list (p ∷ ps) = ap (λ (l : List (List ℕ)). p ∷ l) (paths-listed list ps)

pub paths-canon : (list : List Placed) → paths_of (canon_of list) ≡ paths_with ([] ∷ []) list
unfolding canon_of
paths-canon list = paths-listed list (paths_with ([] ∷ []) list)
