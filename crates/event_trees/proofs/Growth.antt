-- What one registration more at the end of a sorted list does to the listing.
use Rattle.std.proofs.Common.{◌≡◌, ℕ, zero, suc, ◌+◌, Bool, true, false, cond, eqb, List, [], ◌∷◌, ◌++◌, length, take, map, Ordering, refl, sym, ap, subst, ◌∙◌, arith, append_assoc, append-nil, inl, inr, ⊎_elim}
use Rattle.std.specs.Prelude.{◌⊎◌, ◌≢◌, if◌then◌else◌}
use Rattle.std.specs.declared.cmp.Ordering.TheVariants.{Less, Equal, Greater}
use Rattle.std.specs.List.{AllByRecursion}
use Rattle.std.specs.List.Sorted.{IsStrictlySortedBy}
use Rattle.std.specs.Ordering.{nat_cmp, is_eq, is_gt, ordering_then}
use Rattle.std.specs.Cmp.{nat_cmp_is}
use Rattle.std.proofs.lemmas.List.{map-append, take_all}
use Rattle.std.proofs.lemmas.Bool.{cases_order, false≢true}
use Rattle.std.proofs.lemmas.Bool.Decides.{eqb_tells}
use Rattle.shared_forest.specs.declared.node.Slot.{Slot}
use Rattle.shared_forest.specs.Listing.{Shown}
use Rattle.event_trees.specs.Private.{path_cmp}
use Rattle.event_trees.proofs.Rises.{IsUpTo}
use Rattle.event_trees.specs.Canon.{Placed, longer, prefixes, put_path, put_paths, paths_with, slots_at, shown_at, canon_of}
use Rattle.event_trees.proofs.Order.{Has, AllBelow, AllAbove, itself, flip_less, below_trans, below_push, put-has, puts-above, sorted-puts, has-puts_old, has-puts_new, cmp-front}

pub cons_same : (a b : ℕ) (q p : List ℕ) → a ≡ b → q ≡ p → a ∷ q ≡ b ∷ p
cons_same a b q p e f = cc

-- the prefixes of a path that another path doesn't begin with
abbrev pub newer : List ℕ → List ℕ → List ℕ → List (List ℕ)
newer front q [] = []
newer front [] (b ∷ p) = longer front (b ∷ p)
newer front (a ∷ q) (b ∷ p) = cond (eqb a b) (newer (front ++ b ∷ []) q p) (longer front (b ∷ p))

-- paths in order, the last of which is this, with all its prefixes
pub record EndsAt (paths : List (List ℕ)) (q : List ℕ) : Type 0 where
  pub sorted : IsStrictlySortedBy path_cmp paths
  pub before : List (List ℕ)
  pub ends : paths ≡ before ++ q ∷ []
  pub begun : (k : ℕ) → Has (take k q) paths

last_above : (x : List ℕ) (xs : List (List ℕ)) (q : List ℕ) → AllAbove x (xs ++ q ∷ []) → path_cmp x q ≡ Less
last_above x [] q h = h.0
last_above x (y ∷ ys) q h = last_above x ys q h.1

-- all before the last are below it
pub sorted-before : (xs : List (List ℕ)) (q : List ℕ) → IsStrictlySortedBy path_cmp (xs ++ q ∷ []) → AllBelow xs q
unfolding IsStrictlySortedBy
sorted-before [] q s = tt
sorted-before (x ∷ xs) q s = (last_above x xs q s.0, sorted-before xs q s.1)

above-right : (x : List ℕ) (xs ys : List (List ℕ)) → AllAbove x (xs ++ ys) → AllAbove x ys
above-right x [] ys h = h
above-right x (z ∷ xs) ys h = above-right x xs ys h.1

-- a path of the front is below all behind it
sorted-across : (xs ys : List (List ℕ)) (x : List ℕ) → IsStrictlySortedBy path_cmp (xs ++ ys) → Has x xs → AllAbove x ys
unfolding IsStrictlySortedBy
sorted-across [] ys x s h = absurd h
sorted-across (z ∷ xs) ys x s h =
    ⊎_elim (λ e. subst (λ (p : List ℕ). AllAbove p ys) e (above-right z xs ys s.0)) (λ k. sorted-across xs ys x s.1 k) h

below_next : (paths : List (List ℕ)) (q p : List ℕ) → EndsAt paths q → path_cmp q p ≡ Less → AllBelow paths p
below_next paths q p e less =
    let all : AllBelow (e.before ++ q ∷ []) p = below_push e.before q p (below_trans q p e.before less (sorted-before e.before q (subst (IsStrictlySortedBy path_cmp) e.ends e.sorted))) less in
    subst (λ (l : List (List ℕ)). AllBelow l p) (sym e.ends) all

pub first_less : (a b : ℕ) (q p : List ℕ) → a ≢ b → IsUpTo (a ∷ q) (b ∷ p) → nat_cmp a b ≡ Less
first_less a b q p other le =
    ⊎_elim (λ e. absurd (other e))
    (λ h. ⊎_elim (λ l. sym (nat_cmp_is a b Less l))
    (λ g. let e : is_gt (path_cmp (a ∷ q) (b ∷ p)) ≡ true = ap (λ (o : Ordering). is_gt (ordering_then o (path_cmp q p)))
    (sym (nat_cmp_is a b Greater g)) in absurd (false≢true (sym le ∙ e))) h) (cases_order a b)

pub rest_up_to : (a b : ℕ) (q p : List ℕ) → a ≡ b → IsUpTo (a ∷ q) (b ∷ p) → IsUpTo q p
rest_up_to a b q p same le =
    let tied : nat_cmp a b ≡ Equal = sym (nat_cmp_is a b Equal same) in
    sym (ap (λ (o : Ordering). is_gt (ordering_then o (path_cmp q p))) tied) ∙ le

take-front : (front : List ℕ) (a : ℕ) (q : List ℕ) → take (length front + 1) (front ++ a ∷ q) ≡ front ++ a ∷ []
take-front [] a q = refl
take-front (x ∷ front) a q =
    let one : length (x ∷ front) + 1 ≡ suc (length front + 1) = omega arith in
    ap (λ (k : ℕ). take k (x ∷ (front ++ a ∷ q))) one ∙ ap (λ (l : List ℕ). x ∷ l) (take-front front a q)

-- putting the prefixes of a later path in adds those that the last path doesn't have
pub puts : (front q p : List ℕ) (paths : List (List ℕ)) → EndsAt paths (front ++ q) → IsUpTo q p → put_paths (longer front p) paths ≡ paths ++ newer front q p
puts front q [] paths e le = sym (append-nil paths)
puts front [] (b ∷ p) paths e le = puts-above front b p paths (below_next paths (front ++ []) (front ++ b ∷ []) e (cmp-front front [] (b ∷ [])))
puts front (a ∷ q) (b ∷ p) paths e le =
    ⊎_elim (λ t.
    let f : List ℕ = front ++ b ∷ [] in
    let same : front ++ a ∷ q ≡ f ++ q = ap (λ (x : ℕ). front ++ x ∷ q) t.1 ∙ sym (append_assoc front (b ∷ []) q) in
    let there : Has f paths = subst (λ (l : List ℕ). Has l paths) (take-front front a q ∙ ap (λ (x : ℕ). front ++ x ∷ []) t.1) (e.begun (length front + 1)) in
    let alone : put_path f paths ≡ paths = put-has f paths e.sorted there in
    let rest : put_paths (longer f p) paths ≡ paths ++ newer f q p = puts f q p paths (subst (EndsAt paths) same e) (rest_up_to a b q p t.1 le) in
    ap (λ (l : List (List ℕ)). put_paths (longer f p) l) alone ∙ (rest ∙ ap (λ (c : Bool). paths ++ cond c (newer f q p) (longer front (b ∷ p))) (sym t.0)))
    (λ t.
    let less : path_cmp (front ++ a ∷ q) (front ++ b ∷ []) ≡ Less = cmp-front front (a ∷ q) (b ∷ []) ∙ ap (λ (o : Ordering). ordering_then o (path_cmp q [])) (first_less a b q p t.1 le) in
    puts-above front b p paths (below_next paths (front ++ a ∷ q) (front ++ b ∷ []) e less)
    ∙ ap (λ (c : Bool). paths ++ cond c (newer (front ++ b ∷ []) q p) (longer front (b ∷ p))) (sym t.0)) (eqb_tells a b)

longer-ends : (front : List ℕ) (b : ℕ) (p : List ℕ) → (before : List (List ℕ)) × (longer front (b ∷ p) ≡ before ++ (front ++ b ∷ p) ∷ [])
longer-ends front b [] = ([], refl)
longer-ends front b (c ∷ p) =
    let r = longer-ends (front ++ b ∷ []) c p in
    ((front ++ b ∷ []) ∷ r.0, ap (λ (l : List (List ℕ)). (front ++ b ∷ []) ∷ l) (r.1 ∙ ap (λ (l : List ℕ). r.0 ++ l ∷ []) (append_assoc front (b ∷ []) (c ∷ p))))

newer-ends : (front q p : List ℕ) → IsUpTo q p → ((newer front q p ≡ []) × (q ≡ p)) ⊎ ((before : List (List ℕ)) × (newer front q p ≡ before ++ (front ++ p) ∷ []))
newer-ends front [] [] le = inl (refl, refl)
newer-ends front (a ∷ q) [] le = absurd (false≢true (sym le))
newer-ends front [] (b ∷ p) le = inr (longer-ends front b p)
newer-ends front (a ∷ q) (b ∷ p) le =
    ⊎_elim (λ t. let at : newer front (a ∷ q) (b ∷ p) ≡ newer (front ++ b ∷ []) q p = ap (λ (c : Bool). cond c (newer (front ++ b ∷ []) q p) (longer front (b ∷ p))) t.0 in
    ⊎_elim (λ h. inl (at ∙ h.0, cons_same a b q p t.1 h.1))
    (λ h. inr (h.0, at ∙ (h.1 ∙ ap (λ (l : List ℕ). h.0 ++ l ∷ []) (append_assoc front (b ∷ []) p)))) (newer-ends (front ++ b ∷ []) q p (rest_up_to a b q p t.1 le)))
    (λ t. let at : newer front (a ∷ q) (b ∷ p) ≡ longer front (b ∷ p) = ap (λ (c : Bool). cond c (newer (front ++ b ∷ []) q p) (longer front (b ∷ p))) t.0 in
    let r = longer-ends front b p in inr (r.0, at ∙ r.1)) (eqb_tells a b)

longer-has : (front : List ℕ) (b : ℕ) (p : List ℕ) (k : ℕ) → Has (front ++ b ∷ take k p) (longer front (b ∷ p))
longer-has front b p zero = inl refl
longer-has front b [] (suc k) = inl refl
longer-has front b (c ∷ p) (suc k) = inr (subst (λ (l : List ℕ). Has l (longer (front ++ b ∷ []) (c ∷ p))) (append_assoc front (b ∷ []) (c ∷ take k p)) (longer-has (front ++ b ∷ []) c p k))

prefixes-has : (p : List ℕ) (paths : List (List ℕ)) (k : ℕ) → Has [] paths → Has (take k p) (put_paths (prefixes p) paths)
prefixes-has p paths zero h = has-puts_old (prefixes p) paths [] h
prefixes-has [] paths (suc k) h = h
prefixes-has (b ∷ p) paths (suc k) h = has-puts_new (prefixes (b ∷ p)) paths (b ∷ take k p) (longer-has [] b p k)

ends-next : (paths : List (List ℕ)) (q p : List ℕ) → EndsAt paths q → ((newer [] q p ≡ []) × (q ≡ p))
    ⊎ ((before : List (List ℕ)) × (newer [] q p ≡ before ++ p ∷ [])) → (before : List (List ℕ)) × (paths ++ newer [] q p ≡ before ++ p ∷ [])
ends-next paths q p e h =
    ⊎_elim (λ t. (e.before, ap (λ (l : List (List ℕ)). paths ++ l) t.0 ∙ (append-nil paths ∙ (e.ends ∙ ap (λ (l : List ℕ). e.before ++ l ∷ []) t.1))))
    (λ t. (paths ++ t.0, ap (λ (l : List (List ℕ)). paths ++ l) t.1 ∙ sym (append_assoc paths t.0 (p ∷ [])))) h

pub ends-puts : (paths : List (List ℕ)) (q p : List ℕ) → EndsAt paths q → IsUpTo q p → EndsAt (put_paths (prefixes p) paths) p
ends-puts paths q p e le =
    let is : put_paths (prefixes p) paths ≡ paths ++ newer [] q p = puts [] q p paths e le in
    let end = ends-next paths q p e (newer-ends [] q p le) in
    record {
      sorted = sorted-puts (prefixes p) paths e.sorted;
      before = end.0;
      ends = is ∙ end.1;
      begun = λ k. prefixes-has p paths k (e.begun 0);
    }

-- the paths of a listing so far end at the last registration's
pub record Grown (list : List Placed) (q : List ℕ) : Type 0 where
  pub ends : EndsAt (paths_with ([] ∷ []) list) q
  pub held : AllByRecursion (λ r. Has r.path (paths_with ([] ∷ []) list)) list

pub take_none : (k : ℕ) → take k (let none : List ℕ = [] in none) ≡ []
take_none zero = refl
take_none (suc k) = refl

pub grown-none : Grown [] []
unfolding IsStrictlySortedBy
grown-none = record {
  ends = record { sorted = (tt, tt); before = []; ends = refl; begun = λ k. inl (sym (take_none k)) };
  held = tt;
}

paths_with-push : (paths : List (List ℕ)) (list : List Placed) (r : Placed) → paths_with paths (list ++ r ∷ []) ≡ put_paths (prefixes r.path) (paths_with paths list)
paths_with-push paths [] r = refl
paths_with-push paths (s ∷ list) r = paths_with-push (put_paths (prefixes s.path) paths) list r

held-more : (ps paths : List (List ℕ)) (list : List Placed) → AllByRecursion (λ r. Has r.path paths) list → AllByRecursion (λ r. Has r.path (put_paths ps paths)) list
held-more ps paths [] h = tt
held-more ps paths (r ∷ list) h = (has-puts_old ps paths r.path h.0, held-more ps paths list h.1)

held-push : (paths : List (List ℕ)) (list : List Placed) (r : Placed) → AllByRecursion (λ s. Has s.path paths) list → Has r.path paths → AllByRecursion (λ s. Has s.path paths) (list ++ r ∷ [])
held-push paths [] r h k = (k, tt)
held-push paths (s ∷ list) r h k = (h.0, held-push paths list r h.1 k)

pub grown-push : (list : List Placed) (q : List ℕ) (r : Placed) → Grown list q → IsUpTo q r.path → Grown (list ++ r ∷ []) r.path
grown-push list q r g le =
    let paths : List (List ℕ) = paths_with ([] ∷ []) list in
    let is : paths_with ([] ∷ []) (list ++ r ∷ []) ≡ put_paths (prefixes r.path) paths = paths_with-push ([] ∷ []) list r in
    let new : EndsAt (put_paths (prefixes r.path) paths) r.path = ends-puts paths q r.path g.ends le in
    let here : Has r.path (put_paths (prefixes r.path) paths) = subst (λ (l : List ℕ). Has l (put_paths (prefixes r.path) paths))
    (take_all (length r.path) r.path (omega arith)) (new.begun (length r.path)) in
    record {
      ends = subst (λ (l : List (List ℕ)). EndsAt l r.path) (sym is) new;
      held = subst (λ (l : List (List ℕ)). AllByRecursion (λ s. Has s.path l) (list ++ r ∷ [])) (sym is)
          (held-push (put_paths (prefixes r.path) paths) list r (held-more (prefixes r.path) paths list g.held) here);
    }

slots-none : (list : List Placed) (p : List ℕ) → AllByRecursion (λ r. path_cmp r.path p ≡ Less) list → slots_at list p ≡ []
slots-none [] p h = refl
slots-none (r ∷ list) p h = ap (λ (o : Ordering). if is_eq o then r.slot ∷ slots_at list p else slots_at list p) h.0 ∙ slots-none list p h.1

firsts : (p : List ℕ) (ps : List (List ℕ)) (list : List Placed) → AllByRecursion (λ r. AllAbove r.path (p ∷ ps)) list → AllByRecursion (λ r. path_cmp r.path p ≡ Less) list
firsts p ps [] h = tt
firsts p ps (r ∷ list) h = (h.0.0, firsts p ps list h.1)

others : (p : List ℕ) (ps : List (List ℕ)) (list : List Placed) → AllByRecursion (λ r. AllAbove r.path (p ∷ ps)) list → AllByRecursion (λ r. AllAbove r.path ps) list
others p ps [] h = tt
others p ps (r ∷ list) h = (h.0.1, others p ps list h.1)

-- a path without registrations
abbrev pub bare : List ℕ → Shown
bare p = record { path = p; slots = [] }

shown-none : (list : List Placed) (ps : List (List ℕ)) → AllByRecursion (λ r. AllAbove r.path ps) list → shown_at list ps ≡ map bare ps
shown-none list [] h = refl
shown-none list (p ∷ ps) h =
    let none : slots_at list p ≡ [] = slots-none list p (firsts p ps list h) in
    ap (λ (l : List Slot). record { path = p; slots = l } ∷ shown_at list ps) none ∙ ap (λ (l : List Shown). bare p ∷ l) (shown-none list ps (others p ps list h))

slots-push_same : (list : List Placed) (r : Placed) → slots_at (list ++ r ∷ []) r.path ≡ slots_at list r.path ++ r.slot ∷ []
slots-push_same [] r = ap (λ (o : Ordering). if is_eq o then r.slot ∷ [] else []) (itself r.path)
slots-push_same (s ∷ list) r =
    elim (is_eq (path_cmp s.path r.path)) as (λ b. cond b (s.slot ∷ slots_at (list ++ r ∷ []) r.path) (slots_at (list ++ r ∷ []) r.path) ≡ cond b
    (s.slot ∷ slots_at list r.path) (slots_at list r.path) ++ r.slot ∷ []) [
      | true ↦ ap (λ (l : List Slot). s.slot ∷ l) (slots-push_same list r)
      | false ↦ slots-push_same list r
    ]

slots-push_other : (list : List Placed) (r : Placed) (p : List ℕ) → path_cmp p r.path ≡ Less → slots_at (list ++ r ∷ []) p ≡ slots_at list p
slots-push_other [] r p less = ap (λ (o : Ordering). if is_eq o then r.slot ∷ [] else []) (flip_less p r.path less)
slots-push_other (s ∷ list) r p less =
    ap (λ (l : List Slot). if is_eq (path_cmp s.path p) then s.slot ∷ l else l) (slots-push_other list r p less)

shown-push_other : (list : List Placed) (r : Placed) (ps : List (List ℕ)) → AllBelow ps r.path → shown_at (list ++ r ∷ []) ps ≡ shown_at list ps
shown-push_other list r [] h = refl
shown-push_other list r (p ∷ ps) h =
    ap (λ (l : List Slot). record { path = p; slots = l } ∷ shown_at (list ++ r ∷ []) ps) (slots-push_other list r p h.0)
    ∙ ap (λ (l : List Shown). record { path = p; slots = slots_at list p } ∷ l) (shown-push_other list r ps h.1)

-- the new paths come to the end without registrations, and then the last path has one more
pub record Step (list : List Placed) (q : List ℕ) (r : Placed) : Type 0 where
  pub front : List Shown
  pub slots : List Slot
  pub was : canon_of list ++ map bare (newer [] q r.path) ≡ front ++ record { path = r.path; slots = slots } ∷ []
  pub becomes : canon_of (list ++ r ∷ []) ≡ front ++ record { path = r.path; slots = slots ++ r.slot ∷ [] } ∷ []

above-all : (paths ps : List (List ℕ)) (list : List Placed) → IsStrictlySortedBy path_cmp (paths ++ ps) → AllByRecursion (λ r. Has r.path paths) list → AllByRecursion (λ r. AllAbove r.path ps) list
above-all paths ps [] s h = tt
above-all paths ps (r ∷ list) s h = (sorted-across paths ps r.path s h.0, above-all paths ps list s h.1)

pub step : (list : List Placed) (q : List ℕ) (r : Placed) → Grown list q → IsUpTo q r.path → Step list q r
unfolding canon_of
step list q r g le =
    let paths : List (List ℕ) = paths_with ([] ∷ []) list in
    let more : List (List ℕ) = newer [] q r.path in
    let is : put_paths (prefixes r.path) paths ≡ paths ++ more = puts [] q r.path paths g.ends le in
    let new : EndsAt (put_paths (prefixes r.path) paths) r.path = ends-puts paths q r.path g.ends le in
    let sorted : IsStrictlySortedBy path_cmp (new.before ++ r.path ∷ []) = subst (IsStrictlySortedBy path_cmp) new.ends new.sorted in
    let none : shown_at list more ≡ map bare more = shown-none list more (above-all paths more list (subst (IsStrictlySortedBy path_cmp) is new.sorted) g.held) in
    let split : paths ++ more ≡ new.before ++ r.path ∷ [] = sym is ∙ new.ends in
    let with : paths_with ([] ∷ []) (list ++ r ∷ []) ≡ new.before ++ r.path ∷ [] = paths_with-push ([] ∷ []) list r ∙ new.ends in
    let at : List Placed → List ℕ → Shown = λ l p. record { path = p; slots = slots_at l p } in
    record {
      front = shown_at list new.before;
      slots = slots_at list r.path;
      was = ap (λ (l : List Shown). shown_at list paths ++ l) (sym none) ∙ (sym (map-append (at list) paths more) ∙ (ap (shown_at list) split ∙ map-append (at list) new.before (r.path ∷ [])));
      becomes = ap (shown_at (list ++ r ∷ [])) with ∙ (map-append (at (list ++ r ∷ [])) new.before (r.path ∷ [])
          ∙ (ap (λ (l : List Shown). l ++ at (list ++ r ∷ []) r.path ∷ [])
          (shown-push_other list r new.before (sorted-before new.before r.path sorted))
          ∙ ap (λ (l : List Slot). shown_at list new.before ++ record { path = r.path; slots = l } ∷ []) (slots-push_same list r)));
    }
