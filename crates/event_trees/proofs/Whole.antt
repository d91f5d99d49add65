-- The registrations read off the listing of a sorted list are the list.
use Rattle.std.proofs.Common.{◌≡◌, ℕ, List, [], ◌∷◌, ◌++◌, map, refl, sym, ap, subst, ◌∙◌, append_assoc, append-nil}
use Rattle.std.proofs.lemmas.List.{map-append}
use Rattle.shared_forest.specs.declared.node.Slot.{Slot}
use Rattle.shared_forest.specs.Listing.{Shown}
use Rattle.event_trees.proofs.Rises.{Rises}
use Rattle.event_trees.specs.Canon.{Placed, canon_of}
use Rattle.event_trees.specs.ReadOff.{read_off}
use Rattle.event_trees.proofs.Growth.{Grown, grown-none, grown-push, Step, step, bare, newer}

abbrev at : List ℕ → Slot → Placed
at p slot = record { path = p; slot = slot }

pub read_off-append : (xs ys : List Shown) → read_off (xs ++ ys) ≡ read_off xs ++ read_off ys
read_off-append [] ys = refl
read_off-append (x ∷ xs) ys =
    ap (λ (l : List Placed). map (at x.path) x.slots ++ l) (read_off-append xs ys) ∙ sym (append_assoc (map (at x.path) x.slots) (read_off xs) (read_off ys))

read_off-bare : (ps : List (List ℕ)) → read_off (map bare ps) ≡ []
read_off-bare [] = refl
read_off-bare (p ∷ ps) = read_off-bare ps

read_off-end : (front : List Shown) (p : List ℕ) (slots : List Slot) → read_off (front ++ record { path = p; slots = slots } ∷ []) ≡ read_off front ++ map (at p) slots
read_off-end front p slots = read_off-append front (record { path = p; slots = slots } ∷ []) ∙ ap (λ (l : List Placed). read_off front ++ l) (append-nil (map (at p) slots))

read_off-push : (list : List Placed) (q : List ℕ) (r : Placed) → Step list q r → read_off (canon_of (list ++ r ∷ [])) ≡ read_off (canon_of list) ++ r ∷ []
read_off-push list q r s =
    let before : read_off (canon_of list) ≡ read_off s.front ++ map (at r.path) s.slots =
    sym (append-nil (read_off (canon_of list))) ∙ (ap (λ (l : List Placed). read_off (canon_of list) ++ l) (sym (read_off-bare (newer [] q r.path)))
    ∙ (sym (read_off-append (canon_of list) (map bare (newer [] q r.path))) ∙ (ap read_off s.was ∙ read_off-end s.front r.path s.slots))) in
    ap read_off s.becomes ∙ (read_off-end s.front r.path (s.slots ++ r.slot ∷ [])
    ∙ (ap (λ (l : List Placed). read_off s.front ++ l) (map-append (at r.path) s.slots (r.slot ∷ []))
    ∙ (sym (append_assoc (read_off s.front) (map (at r.path) s.slots) (r ∷ [])) ∙ ap (λ (l : List Placed). l ++ r ∷ []) (sym before))))

whole-from : (list rest : List Placed) (q : List ℕ) → Grown list q → read_off (canon_of list) ≡ list → Rises q rest → read_off (canon_of (list ++ rest)) ≡ list ++ rest
whole-from list [] q g is up = ap (λ (l : List Placed). read_off (canon_of l)) (append-nil list) ∙ (is ∙ sym (append-nil list))
whole-from list (r ∷ rest) q g is up =
    let next : read_off (canon_of (list ++ r ∷ [])) ≡ list ++ r ∷ [] = read_off-push list q r (step list q r g up.0) ∙ ap (λ (l : List Placed). l ++ r ∷ []) is in
    subst (λ (l : List Placed). read_off (canon_of l) ≡ l) (append_assoc list (r ∷ []) rest) (whole-from (list ++ r ∷ []) rest r.path (grown-push list q r g up.0) next up.1)

none_read : read_off (canon_of []) ≡ []
unfolding canon_of
none_read = refl

pub whole : (list : List Placed) → Rises [] list → read_off (canon_of list) ≡ list
whole list up = whole-from [] list [] grown-none none_read up
