-- The order of paths, and paths put in order.
use Rattle.std.proofs.Common.{◌≡◌, ℕ, List, [], ◌∷◌, ◌++◌, Ordering, refl, sym, ap, subst, ◌∙◌, append_assoc, append-nil, inl, inr, ⊎_elim}
use Rattle.std.specs.Prelude.{◌⊎◌, if◌then◌else◌}
use Rattle.std.specs.declared.cmp.Ordering.TheVariants.{Less, Equal, Greater}
use Rattle.std.specs.List.{AllByRecursion}
use Rattle.std.specs.List.Sorted.{IsStrictlySortedBy}
use Rattle.std.specs.Cmp.{IsTotalOrder}
use Rattle.std.specs.Ordering.{is_lt, is_eq, ordering_then, ordering_reverse}
use Rattle.std.specs.FinMap.{nat_cmp-IsAntisymmetric, slice_cmp-IsAntisymmetric}
use Rattle.std.proofs.lemmas.Cmp.{nat_list_cmp_total, nat_cmp_total, tied_itself}
use Rattle.event_trees.specs.Private.{path_cmp}
use Rattle.event_trees.specs.Canon.{longer, put_path, put_paths}

pub total : IsTotalOrder path_cmp
total = nat_list_cmp_total

pub same_path : (p q : List ℕ) → path_cmp p q ≡ Equal → p ≡ q
same_path p q e = slice_cmp-IsAntisymmetric nat_cmp-IsAntisymmetric p q e

pub itself : (p : List ℕ) → path_cmp p p ≡ Equal
itself p = tied_itself total p

pub flip_less : (p q : List ℕ) → path_cmp p q ≡ Less → path_cmp q p ≡ Greater
flip_less p q e = total.antisymm q p ∙ ap ordering_reverse e

pub flip_greater : (p q : List ℕ) → path_cmp p q ≡ Greater → path_cmp q p ≡ Less
flip_greater p q e = total.antisymm q p ∙ ap ordering_reverse e

pub less_trans : (p q r : List ℕ) → path_cmp p q ≡ Less → path_cmp q r ≡ Less → path_cmp p r ≡ Less
less_trans p q r e f = total.trans p q r e f

-- the three cases
pub by_order : {G : Type 0} (p q : List ℕ) → (path_cmp p q ≡ Less → G) → (path_cmp p q ≡ Equal → p ≡ q → G) → (path_cmp p q ≡ Greater → path_cmp q p ≡ Less → G) → G
by_order {G} p q less equal greater =
    elim (path_cmp p q) as (λ o. path_cmp p q ≡ o → G) [
      | Less ↦ λ e. less e
      | Equal ↦ λ e. equal e (same_path p q e)
      | Greater ↦ λ e. greater e (flip_greater p q e)
    ] refl

pub put-less : (p x : List ℕ) (xs : List (List ℕ)) → path_cmp p x ≡ Less → put_path p (x ∷ xs) ≡ p ∷ x ∷ xs
put-less p x xs e = ap (λ (o : Ordering). if is_lt o then p ∷ x ∷ xs else if is_eq o then x ∷ xs else x ∷ put_path p xs) e

pub put-equal : (p x : List ℕ) (xs : List (List ℕ)) → path_cmp p x ≡ Equal → put_path p (x ∷ xs) ≡ x ∷ xs
put-equal p x xs e = ap (λ (o : Ordering). if is_lt o then p ∷ x ∷ xs else if is_eq o then x ∷ xs else x ∷ put_path p xs) e

pub put-greater : (p x : List ℕ) (xs : List (List ℕ)) → path_cmp p x ≡ Greater → put_path p (x ∷ xs) ≡ x ∷ put_path p xs
put-greater p x xs e = ap (λ (o : Ordering). if is_lt o then p ∷ x ∷ xs else if is_eq o then x ∷ xs else x ∷ put_path p xs) e

abbrev pub Has : List ℕ → List (List ℕ) → Type 0
Has p [] = ⊥
Has p (x ∷ xs) = (x ≡ p) ⊎ Has p xs

-- each of these paths is below this one
abbrev pub AllBelow : List (List ℕ) → List ℕ → Type 0
AllBelow xs p = AllByRecursion (λ x. path_cmp x p ≡ Less) xs

-- each of these paths is above this one
abbrev pub AllAbove : List ℕ → List (List ℕ) → Type 0
AllAbove p xs = AllByRecursion (λ x. path_cmp p x ≡ Less) xs

pub has_above : (p : List ℕ) (xs : List (List ℕ)) (y : List ℕ) → AllAbove p xs → Has y xs → path_cmp p y ≡ Less
has_above p [] y all h = absurd h
has_above p (x ∷ xs) y all h = ⊎_elim (λ e. subst (λ (z : List ℕ). path_cmp p z ≡ Less) e all.0) (λ k. has_above p xs y all.1 k) h

pub above_trans : (p q : List ℕ) (xs : List (List ℕ)) → path_cmp p q ≡ Less → AllAbove q xs → AllAbove p xs
above_trans p q [] e all = tt
above_trans p q (x ∷ xs) e all = (less_trans p q x e all.0, above_trans p q xs e all.1)

pub below_trans : (p q : List ℕ) (xs : List (List ℕ)) → path_cmp p q ≡ Less → AllBelow xs p → AllBelow xs q
below_trans p q [] e all = tt
below_trans p q (x ∷ xs) e all = (less_trans x p q all.0 e, below_trans p q xs e all.1)

pub below_push : (xs : List (List ℕ)) (y p : List ℕ) → AllBelow xs p → path_cmp y p ≡ Less → AllBelow (xs ++ y ∷ []) p
below_push [] y p all e = (e, tt)
below_push (x ∷ xs) y p all e = (all.0, below_push xs y p all.1 e)

-- a path that is there stays alone
pub put-has : (p : List ℕ) (xs : List (List ℕ)) → IsStrictlySortedBy path_cmp xs → Has p xs → put_path p xs ≡ xs
unfolding IsStrictlySortedBy
put-has p [] s h = absurd h
put-has p (x ∷ xs) s h =
    ⊎_elim (λ e. put-equal p x xs (subst (λ (y : List ℕ). path_cmp p y ≡ Equal) (sym e) (itself p)))
    (λ k. put-greater p x xs (flip_less x p (has_above x xs p s.0 k)) ∙ ap (λ (l : List (List ℕ)). x ∷ l) (put-has p xs s.1 k)) h

-- a path above all goes to the end
pub put-above : (p : List ℕ) (xs : List (List ℕ)) → AllBelow xs p → put_path p xs ≡ xs ++ p ∷ []
put-above p [] all = refl
put-above p (x ∷ xs) all = put-greater p x xs (flip_less x p all.0) ∙ ap (λ (l : List (List ℕ)). x ∷ l) (put-above p xs all.1)

above-put : (q p : List ℕ) (xs : List (List ℕ)) → AllAbove q xs → path_cmp q p ≡ Less → AllAbove q (put_path p xs)
above-put q p [] all e = (e, tt)
above-put q p (x ∷ xs) all e =
    by_order p x (λ o. subst (AllAbove q) (sym (put-less p x xs o)) (e, all))
    (λ o i. subst (AllAbove q) (sym (put-equal p x xs o)) all)
    (λ o i. subst (AllAbove q) (sym (put-greater p x xs o)) (all.0, above-put q p xs all.1 e))

pub sorted-put : (p : List ℕ) (xs : List (List ℕ)) → IsStrictlySortedBy path_cmp xs → IsStrictlySortedBy path_cmp (put_path p xs)
unfolding IsStrictlySortedBy
sorted-put p [] s = (tt, tt)
sorted-put p (x ∷ xs) s =
    by_order p x (λ o. subst (IsStrictlySortedBy path_cmp) (sym (put-less p x xs o)) ((o, above_trans p x xs o s.0), s))
    (λ o i. subst (IsStrictlySortedBy path_cmp) (sym (put-equal p x xs o)) s)
    (λ o i. subst (IsStrictlySortedBy path_cmp) (sym (put-greater p x xs o)) (above-put x p xs s.0 i, sorted-put p xs s.1))

pub has-put_new : (p : List ℕ) (xs : List (List ℕ)) → Has p (put_path p xs)
has-put_new p [] = inl refl
has-put_new p (x ∷ xs) =
    by_order p x (λ o. subst (Has p) (sym (put-less p x xs o)) (inl refl))
    (λ o i. subst (Has p) (sym (put-equal p x xs o)) (inl (sym i)))
    (λ o i. subst (Has p) (sym (put-greater p x xs o)) (inr (has-put_new p xs)))

pub has-put_old : (p y : List ℕ) (xs : List (List ℕ)) → Has y xs → Has y (put_path p xs)
has-put_old p y [] h = absurd h
has-put_old p y (x ∷ xs) h =
    by_order p x (λ o. subst (Has y) (sym (put-less p x xs o)) (inr h))
    (λ o i. subst (Has y) (sym (put-equal p x xs o)) h)
    (λ o i. subst (Has y) (sym (put-greater p x xs o)) (⊎_elim (λ e. inl e) (λ k. inr (has-put_old p y xs k)) h))

pub sorted-puts : (ps xs : List (List ℕ)) → IsStrictlySortedBy path_cmp xs → IsStrictlySortedBy path_cmp (put_paths ps xs)
sorted-puts [] xs s = s
sorted-puts (p ∷ ps) xs s = sorted-puts ps (put_path p xs) (sorted-put p xs s)

pub has-puts_old : (ps xs : List (List ℕ)) (y : List ℕ) → Has y xs → Has y (put_paths ps xs)
has-puts_old [] xs y h = h
has-puts_old (p ∷ ps) xs y h = has-puts_old ps (put_path p xs) y (has-put_old p y xs h)

pub has-puts_new : (ps xs : List (List ℕ)) (y : List ℕ) → Has y ps → Has y (put_paths ps xs)
has-puts_new [] xs y h = absurd h
has-puts_new (p ∷ ps) xs y h =
    ⊎_elim (λ e. has-puts_old ps (put_path p xs) y (subst (λ (z : List ℕ). Has z (put_path p xs)) e (has-put_new p xs)))
    (λ k. has-puts_new ps (put_path p xs) y k) h

-- what lies behind a common front decides
pub cmp-front : (f p q : List ℕ) → path_cmp (f ++ p) (f ++ q) ≡ path_cmp p q
cmp-front [] p q = refl
cmp-front (a ∷ f) p q = ap (λ (o : Ordering). ordering_then o (path_cmp (f ++ p) (f ++ q))) (tied_itself nat_cmp_total a) ∙ cmp-front f p q

pub front_less : (f : List ℕ) (e : ℕ) (es : List ℕ) → path_cmp f (f ++ e ∷ es) ≡ Less
front_less f e es = ap (λ (l : List ℕ). path_cmp l (f ++ e ∷ es)) (sym (append-nil f)) ∙ cmp-front f [] (e ∷ es)

-- paths above all go to the end, one after the other
pub puts-above : (front : List ℕ) (e : ℕ) (es : List ℕ) (xs : List (List ℕ)) → AllBelow xs (front ++ e ∷ []) → put_paths (longer front (e ∷ es)) xs ≡ xs ++ longer front (e ∷ es)
puts-above front e [] xs all = put-above (front ++ e ∷ []) xs all
puts-above front e (a ∷ es) xs all =
    let f : List ℕ = front ++ e ∷ [] in
    let step : put_path f xs ≡ xs ++ f ∷ [] = put-above f xs all in
    let less : path_cmp f (f ++ a ∷ []) ≡ Less = front_less f a [] in
    let next : AllBelow (xs ++ f ∷ []) (f ++ a ∷ []) = below_push xs f (f ++ a ∷ []) (below_trans f (f ++ a ∷ []) xs less all) less in
    ap (λ (l : List (List ℕ)). put_paths (longer f (a ∷ es)) l) step ∙ (puts-above f a es (xs ++ f ∷ []) next ∙ append_assoc xs (f ∷ []) (longer f (a ∷ es)))
