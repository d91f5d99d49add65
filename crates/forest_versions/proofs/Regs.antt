-- Lists of registrations: those that are on, one more, one less.
use Rattle.std.proofs.Common.{◌≡◌, ℕ, suc, arith, Bool, true, false, cond, eqb, List, [], ◌∷◌, Ordering, refl, sym, ap, subst, ◌∙◌}
use Rattle.std.specs.Prelude.{◌≢◌, IsTrue, not, Option, Some, None, ◌≤◌}
use Rattle.std.specs.declared.cmp.Ordering.TheVariants.{Less, Equal, Greater}
use Rattle.std.specs.List.{All, AllByRecursion, Contains, IsDistinct, filter}
use Rattle.std.specs.List.Sorted.{IsStrictlySortedBy}
use Rattle.std.specs.Cmp.{IsTotalOrder}
use Rattle.std.specs.Ordering.{is_lt}
use Rattle.std.proofs.lemmas.Bool.{ne_eqb, eqb-false, eqb-true, eq-eqb}
use Rattle.std.proofs.lemmas.Cmp.{nat_list_cmp_total, nat_cmp_total, on_total, then_total}
use Rattle.std.proofs.lemmas.List.Elements.{recursion_from_All, All-from_recursion, All-filter, All-nil}
use Rattle.std.proofs.lemmas.List.Kept.{IsStrictlySortedBy-filter}
use Rattle.app_api.specs.declared.registration.Reg.{Reg}
use Rattle.app_api.specs.Reg.{reg_of}
use Rattle.event_trees.specs.declared.defs.EventDef.{EventDef}
use Rattle.event_trees.specs.Defs.{is_event, path}
use Rattle.event_trees.specs.Private.{reg_cmp, numbers_of, IsPrivate, put_reg, without}

all-filter : {X : Type 0} (P : X → Type 0) (p : X → Bool) (xs : List X) → AllByRecursion P xs → AllByRecursion P (filter p xs)
all-filter P p [] all = tt
all-filter P p (x ∷ xs) all =
    elim (p x) as (λ b. AllByRecursion P (cond b (x ∷ filter p xs) (filter p xs))) [
      | true ↦ (all.0, all-filter P p xs all.1)
      | false ↦ all-filter P p xs all.1
    ]

numbers-filter : (P : ℕ → Type 0) (p : Reg → Bool) (list : List Reg) → AllByRecursion P (numbers_of list) → AllByRecursion P (numbers_of (filter p list))
numbers-filter P p [] all = tt
numbers-filter P p (r ∷ list) all =
    elim (p r) as (λ b. AllByRecursion P (numbers_of (cond b (r ∷ filter p list) (filter p list)))) [
      | true ↦ (all.0, numbers-filter P p list all.1)
      | false ↦ numbers-filter P p list all.1
    ]

distinct-filter : (p : Reg → Bool) (list : List Reg) → IsDistinct eqb (numbers_of list) → IsDistinct eqb (numbers_of (filter p list))
unfolding IsDistinct
distinct-filter p [] d = tt
distinct-filter p (r ∷ list) d =
    elim (p r) as (λ b. IsDistinct eqb (numbers_of (cond b (r ∷ filter p list) (filter p list)))) [
      | true ↦ (numbers-filter (λ n. eqb r.number n ≡ false) p list d.0, distinct-filter p list d.1)
      | false ↦ distinct-filter p list d.1
    ]

-- some registrations of a private list are one
pub private-filter : (defs : List EventDef) (p : Reg → Bool) (list : List Reg) → IsPrivate defs list → IsPrivate defs (filter p list)
private-filter defs p list private = record {
  numbers = All-filter p (λ (r : Reg). (1 ≤ r.number) × (r.number ≤ 255)) list private.numbers;
  events = All-filter p (λ (r : Reg). IsTrue (is_event defs r.event)) list private.events;
  distinct = distinct-filter p list private.distinct;
  sorted = IsStrictlySortedBy-filter (reg_cmp defs) p list private.sorted;
}

pub all-put : (P : Reg → Type 0) (defs : List EventDef) (r : Reg) (list : List Reg) → AllByRecursion P list → P r → AllByRecursion P (put_reg defs r list)
all-put P defs r [] all p = (p, tt)
all-put P defs r (s ∷ list) all p =
    elim (is_lt (reg_cmp defs r s)) as (λ b. AllByRecursion P (cond b (r ∷ s ∷ list) (s ∷ put_reg defs r list))) [
      | true ↦ (p, all)
      | false ↦ (all.0, all-put P defs r list all.1 p)
    ]

pub All-put : (P : Reg → Type 0) (defs : List EventDef) (r : Reg) (list : List Reg) → All P list → P r → All P (put_reg defs r list)
All-put P defs r list all p = All-from_recursion P (put_reg defs r list) (all-put P defs r list (recursion_from_All P list all) p)

-- no registration has a number that isn't found
pub unlike : (list : List Reg) (n : ℕ) → reg_of list n ≡ None → AllByRecursion (λ s. s.number ≢ n) list
unlike [] n absent = tt
unlike (s ∷ list) n absent =
    elim (eqb s.number n) as (λ b. eqb s.number n ≡ b → cond b (Some s) (reg_of list n) ≡ None → AllByRecursion (λ s. s.number ≢ n) (s ∷ list)) [
      | true ↦ λ e none. cc
      | false ↦ λ e none. (eqb-false s.number n e, unlike list n none)
    ] refl absent

without-unlike : (list : List Reg) (n : ℕ) → AllByRecursion (λ s. s.number ≢ n) list → without n list ≡ list
without-unlike [] n others = refl
without-unlike (s ∷ list) n others = rw (ne_eqb s.number n others.0) (ap (λ (l : List Reg). s ∷ l) (without-unlike list n others.1))

-- a registration that was added is taken out again
pub without-put : (defs : List EventDef) (r : Reg) (list : List Reg) → AllByRecursion (λ s. s.number ≢ r.number) list → without r.number (put_reg defs r list) ≡ list
without-put defs r [] others = rw (eq-eqb r.number r.number refl)
without-put defs r (s ∷ list) others =
    elim (is_lt (reg_cmp defs r s)) as (λ b. without r.number (cond b (r ∷ s ∷ list) (s ∷ put_reg defs r list)) ≡ s ∷ list) [
      | true ↦ rw (eq-eqb r.number r.number refl) (without-unlike (s ∷ list) r.number others)
      | false ↦ rw (ne_eqb s.number r.number others.0) (ap (λ (l : List Reg). s ∷ l) (without-put defs r list others.1))
    ]

swapped : (r s : Reg) (n : ℕ) (rest put : Option Reg) → s.number ≢ r.number → put ≡ cond (eqb r.number n) (Some r) rest
    → cond (eqb s.number n) (Some s) put ≡ cond (eqb r.number n) (Some r) (cond (eqb s.number n) (Some s) rest)
swapped r s n rest put other ih =
    elim (eqb s.number n) as (λ b. eqb s.number n ≡ b → cond b (Some s) put ≡ cond (eqb r.number n) (Some r) (cond b (Some s) rest)) [
      | true ↦ λ e. rw (ne_eqb r.number n (λ h. other (eqb-true s.number n e ∙ sym h)))
      | false ↦ λ e. ih
    ] refl

-- what is found after one registration more
pub reg_of-put : (defs : List EventDef) (r : Reg) (list : List Reg) (n : ℕ) → AllByRecursion (λ s. s.number ≢ r.number) list
    → reg_of (put_reg defs r list) n ≡ cond (eqb r.number n) (Some r) (reg_of list n)
reg_of-put defs r [] n others = refl
reg_of-put defs r (s ∷ list) n others =
    elim (is_lt (reg_cmp defs r s)) as (λ b. reg_of (cond b (r ∷ s ∷ list) (s ∷ put_reg defs r list)) n ≡ cond (eqb r.number n) (Some r) (cond (eqb s.number n) (Some s) (reg_of list n))) [
      | true ↦ refl
      | false ↦ swapped r s n (reg_of list n) (reg_of (put_reg defs r list) n) others.0 (reg_of-put defs r list n others.1)
    ]

same-left : (s : Reg) (number n : ℕ) (rest : Option Reg) → s.number ≡ number → cond (eqb number n) None rest ≡ cond (eqb number n) None (cond (eqb s.number n) (Some s) rest)
same-left s number n rest same =
    elim (eqb number n) as (λ b. eqb number n ≡ b → cond b None rest ≡ cond b None (cond (eqb s.number n) (Some s) rest)) [
      | true ↦ λ e. refl
      | false ↦ λ e. rw (ap (λ (k : ℕ). eqb k n) same ∙ e)
    ] refl

other-left : (s : Reg) (number n : ℕ) (rest less : Option Reg) → s.number ≢ number → less ≡ cond (eqb number n) None rest
    → cond (eqb s.number n) (Some s) less ≡ cond (eqb number n) None (cond (eqb s.number n) (Some s) rest)
other-left s number n rest less other ih =
    elim (eqb s.number n) as (λ b. eqb s.number n ≡ b → cond b (Some s) less ≡ cond (eqb number n) None (cond b (Some s) rest)) [
      | true ↦ λ e. rw (ne_eqb number n (λ h. other (eqb-true s.number n e ∙ sym h)))
      | false ↦ λ e. ih
    ] refl

none-either : (b : Bool) → reg_of [] 0 ≡ cond b None (reg_of [] 0)
none-either true = refl
none-either false = refl

-- what is found after one registration less
pub reg_of-without : (list : List Reg) (number n : ℕ) → reg_of (without number list) n ≡ cond (eqb number n) None (reg_of list n)
reg_of-without [] number n = none-either (eqb number n)
reg_of-without (s ∷ list) number n =
    let ih : reg_of (without number list) n ≡ cond (eqb number n) None (reg_of list n) = reg_of-without list number n in
    elim (eqb s.number number) as (λ b. eqb s.number number ≡ b → reg_of (cond (not b) (s ∷ without number list) (without number list)) n ≡ cond
    (eqb number n) None (cond (eqb s.number n) (Some s) (reg_of list n))) [
      | true ↦ λ e. ih ∙ same-left s number n (reg_of list n) (eqb-true s.number number e)
      | false ↦ λ e. other-left s number n (reg_of list n) (reg_of (without number list) n) (eqb-false s.number number e) ih
    ] refl

-- whether a registration is on
abbrev on : Reg → Bool
on r = r.on

put-front : (defs : List EventDef) (r : Reg) (list : List Reg) → AllByRecursion (λ u. reg_cmp defs r u ≡ Less) list → put_reg defs r list ≡ r ∷ list
put-front defs r [] all = refl
put-front defs r (s ∷ list) all = rw all.0

reg_total : (defs : List EventDef) → IsTotalOrder (reg_cmp defs)
reg_total defs = then_total (on_total (λ (r : Reg). path defs r.event) nat_list_cmp_total) (on_total (λ (r : Reg). r.number) nat_cmp_total)

less-all : (defs : List EventDef) (r s : Reg) (list : List Reg) → reg_cmp defs r s ≡ Less → AllByRecursion (λ t. reg_cmp defs s t ≡ Less) list → AllByRecursion (λ t. reg_cmp defs r t ≡ Less) list
less-all defs r s [] e all = tt
less-all defs r s (t ∷ list) e all = ((reg_total defs).trans r s t e all.0, less-all defs r s list e all.1)

less_of : (o : Ordering) → is_lt o ≡ true → o ≡ Less
less_of Less e = refl
less_of Equal e = cc
less_of Greater e = cc

-- one more behind t, seen through what is on
on-behind : (defs : List EventDef) (r t : Reg) (some put : List Reg) → is_lt (reg_cmp defs r t) ≡ false → put ≡ cond r.on (put_reg defs r some) some
    → cond t.on (t ∷ put) put ≡ cond r.on (put_reg defs r (cond t.on (t ∷ some) some)) (cond t.on (t ∷ some) some)
on-behind defs r t some put later ih =
    elim t.on as (λ b. cond b (t ∷ put) put ≡ cond r.on (put_reg defs r (cond b (t ∷ some) some)) (cond b (t ∷ some) some)) [
      | true ↦ rw later (ap (λ (l : List Reg). t ∷ l) ih ∙ elim r.on as (λ b. t ∷ cond b (put_reg defs r some) some ≡ cond b (t ∷ put_reg defs r some) (t ∷ some)) [ true ↦ refl | false ↦ refl ])
      | false ↦ ih
    ]

-- those that are on after one registration more
pub active-put : (defs : List EventDef) (r : Reg) (list : List Reg) → IsStrictlySortedBy (reg_cmp defs) list
    → filter on (put_reg defs r list) ≡ cond r.on (put_reg defs r (filter on list)) (filter on list)
unfolding IsStrictlySortedBy
active-put defs r [] sorted = refl
active-put defs r (t ∷ list) sorted =
    let some : List Reg = cond t.on (t ∷ filter on list) (filter on list) in
    elim (is_lt (reg_cmp defs r t)) as (λ b. is_lt (reg_cmp defs r t) ≡ b → filter on (cond b (r ∷ t ∷ list) (t ∷ put_reg defs r list)) ≡ cond r.on (put_reg defs r some) some) [
      | true ↦ λ e.
          let less : reg_cmp defs r t ≡ Less = less_of (reg_cmp defs r t) e in
          let above : AllByRecursion (λ u. reg_cmp defs r u ≡ Less) some = all-filter (λ (u : Reg). reg_cmp defs r u ≡ Less) on (t ∷ list) (less, less-all defs r t list less sorted.0) in
          ap (λ (l : List Reg). cond r.on l some) (sym (put-front defs r some above))
      | false ↦ λ e. on-behind defs r t (filter on list) (filter on (put_reg defs r list)) e (active-put defs r list sorted.1)
    ] refl

-- filters in either order
filter-swap : {X : Type 0} (p q : X → Bool) (xs : List X) → filter p (filter q xs) ≡ filter q (filter p xs)
filter-swap p q [] = refl
filter-swap {X} p q (x ∷ xs) =
    let ih : filter p (filter q xs) ≡ filter q (filter p xs) = filter-swap p q xs in
    elim (p x) as (λ b. p x ≡ b → filter p (cond (q x) (x ∷ filter q xs) (filter q xs)) ≡ filter q (cond b (x ∷ filter p xs) (filter p xs))) [
      | true ↦ λ e. elim (q x) as (λ c. filter p (cond c (x ∷ filter q xs) (filter q xs)) ≡ cond c (x ∷ filter q (filter p xs)) (filter q (filter p xs))) [
        | true ↦ rw e (ap (λ (l : List X). x ∷ l) ih)
        | false ↦ ih
      ]
      | false ↦ λ e. elim (q x) as (λ c. filter p (cond c (x ∷ filter q xs) (filter q xs)) ≡ filter q (filter p xs)) [
        | true ↦ rw e ih
        | false ↦ ih
      ]
    ] refl

-- those that are on after one registration less
pub active-without : (number : ℕ) (list : List Reg) → filter on (without number list) ≡ without number (filter on list)
active-without number list = filter-swap on (λ (r : Reg). not (eqb r.number number)) list

apart : (n k : ℕ) (list : List Reg) → n ≡ k → AllByRecursion (λ m. eqb n m ≡ false) (numbers_of list) → AllByRecursion (λ s. s.number ≢ k) list
apart n k [] same all = tt
apart n k (s ∷ list) same all = (λ e. eqb-false n s.number all.0 (same ∙ sym e), apart n k list same all.1)

-- one less that was off changes nothing of those that are on
pub active-without_off : (number : ℕ) (list : List Reg) (r : Reg) → reg_of list number ≡ Some r → r.on ≡ false → IsDistinct eqb (numbers_of list) → filter on (without number list) ≡ filter on list
unfolding IsDistinct
active-without_off number [] r found off d = cc
active-without_off number (s ∷ list) r found off d =
    elim (eqb s.number number) as (λ b. eqb s.number number ≡ b → cond b (Some s) (reg_of list number) ≡ Some r
    → filter on (cond (not b) (s ∷ without number list) (without number list)) ≡ cond s.on (s ∷ filter on list) (filter on list)) [
      | true ↦ λ e found.
          let same : s ≡ r = cc in
          rw (ap on same ∙ off) (ap (filter on) (without-unlike list number (apart s.number number list (eqb-true s.number number e) d.0)))
      | false ↦ λ e found. ap (λ (l : List Reg). cond s.on (s ∷ l) l) (active-without_off number list r found off d.1)
    ] refl found

-- those that are on when a number that isn't there and on is taken out
pub active-without_none : (number : ℕ) (list : List Reg) → ((r : Reg) → reg_of list number ≡ Some r → r.on ≡ false) → IsDistinct eqb (numbers_of list)
    → filter on (without number list) ≡ filter on list
active-without_none number list off d =
    elim (reg_of list number) as (λ (o : Option Reg). reg_of list number ≡ o → filter on (without number list) ≡ filter on list) [
      | None ↦ λ e. ap (filter on) (without-unlike list number (unlike list number e))
      | Some r ↦ λ e. active-without_off number list r e (off r e) d
    ] refl

-- what is found has what all have, and its number
pub found-holds : (P : Reg → Type 0) (list : List Reg) (n : ℕ) (r : Reg) → AllByRecursion P list → reg_of list n ≡ Some r → P r × (r.number ≡ n)
found-holds P [] n r all found = cc
found-holds P (s ∷ list) n r all found =
    elim (eqb s.number n) as (λ b. eqb s.number n ≡ b → cond b (Some s) (reg_of list n) ≡ Some r → P r × (r.number ≡ n)) [
      | true ↦ λ e f. let same : s ≡ r = cc in (subst P same all.0, ap (λ (q : Reg). q.number) (sym same) ∙ eqb-true s.number n e)
      | false ↦ λ e f. found-holds P list n r all.1 f
    ] refl found

in-tail : (s r : Reg) (list : List Reg) → Contains list r → Contains (s ∷ list) r
in-tail s r list h = (suc h.0, omega (arith, h.1), h.2)

-- what is found and on stands among those that are on
pub on-contained : (list : List Reg) (n : ℕ) (r : Reg) → reg_of list n ≡ Some r → r.on ≡ true → Contains (filter on list) r
on-contained [] n r found is-on = cc
on-contained (s ∷ list) n r found is-on =
    elim (eqb s.number n) as (λ b. cond b (Some s) (reg_of list n) ≡ Some r → Contains (cond s.on (s ∷ filter on list) (filter on list)) r) [
      | true ↦ λ f.
          let same : s ≡ r = cc in
          subst (λ (b : Bool). Contains (cond b (s ∷ filter on list) (filter on list)) r) (sym (ap on same ∙ is-on)) (0, omega arith, same)
      | false ↦ λ f.
          let rest : Contains (filter on list) r = on-contained list n r f is-on in
          elim s.on as (λ b. Contains (cond b (s ∷ filter on list) (filter on list)) r) [
            | true ↦ in-tail s r (filter on list) rest
            | false ↦ rest
          ]
    ] found

-- the empty list is private
pub private-none : (defs : List EventDef) → IsPrivate defs []
unfolding IsDistinct IsStrictlySortedBy
private-none defs = record {
  numbers = All-nil (λ (r : Reg). (1 ≤ r.number) × (r.number ≤ 255));
  events = All-nil (λ (r : Reg). IsTrue (is_event defs r.event));
  distinct = tt;
  sorted = tt;
}
