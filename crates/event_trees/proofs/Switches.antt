-- A private list with one registration switched is private, and its paths are those of the list with paths.
use Rattle.std.proofs.Common.{◌≡◌, ℕ, ◌≤◌, Bool, true, false, cond, eqb, List, [], ◌∷◌, Ordering, refl, sym, ap, ◌∙◌}
use Rattle.std.specs.Prelude.{◌≢◌, IsTrue, not}
use Rattle.std.specs.declared.cmp.Ordering.TheVariants.{Less, Equal, Greater}
use Rattle.std.specs.List.{All, AllByRecursion, IsDistinct}
use Rattle.std.specs.List.Sorted.{IsStrictlySortedBy}
use Rattle.std.specs.Cmp.{IsTotalOrder}
use Rattle.std.specs.Ordering.{nat_cmp, is_lt, ordering_then, ordering_reverse}
use Rattle.std.specs.FinMap.{nat_cmp-IsAntisymmetric}
use Rattle.std.proofs.lemmas.Bool.{ne_eqb}
use Rattle.std.proofs.lemmas.Cmp.{nat_list_cmp_total, nat_cmp_total, on_total, then_total}
use Rattle.std.proofs.lemmas.List.Elements.{recursion_from_All, All-from_recursion}
use Rattle.app_api.specs.declared.registration.Reg.{Reg}
use Rattle.event_trees.specs.declared.defs.EventDef.{EventDef}
use Rattle.event_trees.specs.Defs.{is_event, path}
use Rattle.event_trees.specs.Private.{path_cmp, reg_cmp, numbers_of, IsPrivate, put_reg, without, edited}
use Rattle.event_trees.specs.Canon.{Placed, placed_of, placed}
use Rattle.event_trees.specs.Edit.{put_placed, without_placed, IsSwitchable}

pub placed-put : (defs : List EventDef) (r : Reg) (list : List Reg) → placed defs (put_reg defs r list) ≡ put_placed (placed_of defs r) (placed defs list)
placed-put defs r [] = refl
placed-put defs r (s ∷ list) =
    elim (is_lt (reg_cmp defs r s)) as (λ b. placed defs (cond b (r ∷ s ∷ list) (s ∷ put_reg defs r list)) ≡ cond b
    (placed_of defs r ∷ placed_of defs s ∷ placed defs list) (placed_of defs s ∷ put_placed (placed_of defs r) (placed defs list))) [
      | true ↦ refl
      | false ↦ ap (λ (l : List Placed). placed_of defs s ∷ l) (placed-put defs r list)
    ]

pub placed-without : (defs : List EventDef) (number : ℕ) (list : List Reg) → placed defs (without number list) ≡ without_placed number (placed defs list)
placed-without defs number [] = refl
placed-without defs number (s ∷ list) =
    elim (not (eqb s.number number)) as (λ b. placed defs (cond b (s ∷ without number list) (without number list)) ≡ cond b
    (placed_of defs s ∷ without_placed number (placed defs list)) (without_placed number (placed defs list))) [
      | true ↦ ap (λ (l : List Placed). placed_of defs s ∷ l) (placed-without defs number list)
      | false ↦ placed-without defs number list
    ]

pub reg_total : (defs : List EventDef) → IsTotalOrder (reg_cmp defs)
reg_total defs = then_total (on_total (λ (r : Reg). path defs r.event) nat_list_cmp_total) (on_total (λ (r : Reg). r.number) nat_cmp_total)

then_equal : (o n : Ordering) → ordering_then o n ≡ Equal → n ≡ Equal
then_equal Less n e = cc
then_equal Equal n e = e
then_equal Greater n e = cc

pub less_of : (o : Ordering) → is_lt o ≡ true → o ≡ Less
less_of Less e = refl
less_of Equal e = cc
less_of Greater e = cc

greater_of : (o : Ordering) → is_lt o ≡ false → o ≢ Equal → o ≡ Greater
greater_of Less e h = cc
greater_of Equal e h = absurd (h refl)
greater_of Greater e h = refl

-- registrations with other numbers don't tie
after_it : (defs : List EventDef) (r s : Reg) → s.number ≢ r.number → is_lt (reg_cmp defs r s) ≡ false → reg_cmp defs s r ≡ Less
after_it defs r s other no_less =
    let greater : reg_cmp defs r s ≡ Greater = greater_of (reg_cmp defs r s) no_less
    (λ e. other (sym (nat_cmp-IsAntisymmetric r.number s.number (then_equal (path_cmp (path defs r.event) (path defs s.event)) (nat_cmp r.number s.number) e)))) in
    (reg_total defs).antisymm s r ∙ ap ordering_reverse greater

all-put : (P : Reg → Type 0) (defs : List EventDef) (r : Reg) (list : List Reg) → AllByRecursion P list → P r → AllByRecursion P (put_reg defs r list)
all-put P defs r [] all p = (p, tt)
all-put P defs r (s ∷ list) all p =
    elim (is_lt (reg_cmp defs r s)) as (λ b. AllByRecursion P (cond b (r ∷ s ∷ list) (s ∷ put_reg defs r list))) [
      | true ↦ (p, all)
      | false ↦ (all.0, all-put P defs r list all.1 p)
    ]

less-all : (defs : List EventDef) (r s : Reg) (list : List Reg) → reg_cmp defs r s ≡ Less → AllByRecursion (λ t. reg_cmp defs s t ≡ Less) list → AllByRecursion (λ t. reg_cmp defs r t ≡ Less) list
less-all defs r s [] e all = tt
less-all defs r s (t ∷ list) e all = ((reg_total defs).trans r s t e all.0, less-all defs r s list e all.1)

sorted-put : (defs : List EventDef) (r : Reg) (list : List Reg) → AllByRecursion (λ s. s.number ≢ r.number) list
    → IsStrictlySortedBy (reg_cmp defs) list → IsStrictlySortedBy (reg_cmp defs) (put_reg defs r list)
unfolding IsStrictlySortedBy
sorted-put defs r [] other s = (tt, tt)
sorted-put defs r (t ∷ list) other s =
    elim (is_lt (reg_cmp defs r t)) as (λ b. is_lt (reg_cmp defs r t) ≡ b → IsStrictlySortedBy (reg_cmp defs) (cond b (r ∷ t ∷ list) (t ∷ put_reg defs r list))) [
      | true ↦ λ e. let less : reg_cmp defs r t ≡ Less = less_of (reg_cmp defs r t) e in ((less, less-all defs r t list less s.0), s)
      | false ↦ λ e. (all-put (λ u. reg_cmp defs t u ≡ Less) defs r list s.0 (after_it defs r t other.0 e), sorted-put defs r list other.1 s.1)
    ] refl

numbers-put : (P : ℕ → Type 0) (defs : List EventDef) (r : Reg) (list : List Reg) → AllByRecursion P (numbers_of list) → P r.number → AllByRecursion P (numbers_of (put_reg defs r list))
numbers-put P defs r [] all p = (p, tt)
numbers-put P defs r (s ∷ list) all p =
    elim (is_lt (reg_cmp defs r s)) as (λ b. AllByRecursion P (numbers_of (cond b (r ∷ s ∷ list) (s ∷ put_reg defs r list)))) [
      | true ↦ (p, all)
      | false ↦ (all.0, numbers-put P defs r list all.1 p)
    ]

unlike : (r : Reg) (list : List Reg) → AllByRecursion (λ s. s.number ≢ r.number) list → AllByRecursion (λ n. eqb r.number n ≡ false) (numbers_of list)
unlike r [] other = tt
unlike r (s ∷ list) other = (ne_eqb r.number s.number (λ e. other.0 (sym e)), unlike r list other.1)

distinct-put : (defs : List EventDef) (r : Reg) (list : List Reg) → AllByRecursion (λ s. s.number ≢ r.number) list → IsDistinct eqb (numbers_of list)
    → IsDistinct eqb (numbers_of (put_reg defs r list))
unfolding IsDistinct
distinct-put defs r [] other d = (tt, tt)
distinct-put defs r (s ∷ list) other d =
    elim (is_lt (reg_cmp defs r s)) as (λ b. IsDistinct eqb (numbers_of (cond b (r ∷ s ∷ list) (s ∷ put_reg defs r list)))) [
      | true ↦ (unlike r (s ∷ list) other, d)
      | false ↦ (numbers-put (λ n. eqb s.number n ≡ false) defs r list d.0 (ne_eqb s.number r.number other.0), distinct-put defs r list other.1 d.1)
    ]

all-without : (P : Reg → Type 0) (number : ℕ) (list : List Reg) → AllByRecursion P list → AllByRecursion P (without number list)
all-without P number [] all = tt
all-without P number (s ∷ list) all =
    elim (not (eqb s.number number)) as (λ b. AllByRecursion P (cond b (s ∷ without number list) (without number list))) [
      | true ↦ (all.0, all-without P number list all.1)
      | false ↦ all-without P number list all.1
    ]

numbers-without : (P : ℕ → Type 0) (number : ℕ) (list : List Reg) → AllByRecursion P (numbers_of list) → AllByRecursion P (numbers_of (without number list))
numbers-without P number [] all = tt
numbers-without P number (s ∷ list) all =
    elim (not (eqb s.number number)) as (λ b. AllByRecursion P (numbers_of (cond b (s ∷ without number list) (without number list)))) [
      | true ↦ (all.0, numbers-without P number list all.1)
      | false ↦ numbers-without P number list all.1
    ]

sorted-without : (defs : List EventDef) (number : ℕ) (list : List Reg) → IsStrictlySortedBy (reg_cmp defs) list → IsStrictlySortedBy (reg_cmp defs) (without number list)
unfolding IsStrictlySortedBy
sorted-without defs number [] s = tt
sorted-without defs number (t ∷ list) s =
    elim (not (eqb t.number number)) as (λ b. IsStrictlySortedBy (reg_cmp defs) (cond b (t ∷ without number list) (without number list))) [
      | true ↦ (all-without (λ u. reg_cmp defs t u ≡ Less) number list s.0, sorted-without defs number list s.1)
      | false ↦ sorted-without defs number list s.1
    ]

distinct-without : (number : ℕ) (list : List Reg) → IsDistinct eqb (numbers_of list) → IsDistinct eqb (numbers_of (without number list))
unfolding IsDistinct
distinct-without number [] d = tt
distinct-without number (s ∷ list) d =
    elim (not (eqb s.number number)) as (λ b. IsDistinct eqb (numbers_of (cond b (s ∷ without number list) (without number list)))) [
      | true ↦ (numbers-without (λ n. eqb s.number n ≡ false) number list d.0, distinct-without number list d.1)
      | false ↦ distinct-without number list d.1
    ]

abbrev numbered : Reg → Type 0
numbered r = (1 ≤ r.number) × (r.number ≤ 255)

pub private-put : (defs : List EventDef) (r : Reg) (list : List Reg) → IsPrivate defs list → All (λ s. s.number ≢ r.number) list → 1 ≤ r.number
    → r.number ≤ 255 → IsTrue (is_event defs r.event) → IsPrivate defs (put_reg defs r list)
private-put defs r list p absent low high event =
    let other : AllByRecursion (λ s. s.number ≢ r.number) list = recursion_from_All (λ (s : Reg). s.number ≢ r.number) list absent in
    record {
      numbers = All-from_recursion numbered (put_reg defs r list) (all-put numbered defs r list (recursion_from_All numbered list p.numbers) (low, high));
      events = All-from_recursion (λ (s : Reg). IsTrue (is_event defs s.event)) (put_reg defs r list)
          (all-put (λ s. IsTrue (is_event defs s.event)) defs r list (recursion_from_All (λ (s : Reg). IsTrue (is_event defs s.event)) list p.events) event);
      distinct = distinct-put defs r list other p.distinct;
      sorted = sorted-put defs r list other p.sorted;
    }

pub private-without : (defs : List EventDef) (number : ℕ) (list : List Reg) → IsPrivate defs list → IsPrivate defs (without number list)
private-without defs number list p = record {
  numbers = All-from_recursion numbered (without number list) (all-without numbered number list (recursion_from_All numbered list p.numbers));
  events = All-from_recursion (λ (s : Reg). IsTrue (is_event defs s.event)) (without number list)
      (all-without (λ s. IsTrue (is_event defs s.event)) number list (recursion_from_All (λ (s : Reg). IsTrue (is_event defs s.event)) list p.events));
  distinct = distinct-without number list p.distinct;
  sorted = sorted-without defs number list p.sorted;
}

pub private-edited : (defs : List EventDef) (r : Reg) (on : Bool) (list : List Reg) → IsPrivate defs list → IsSwitchable list r on → 1 ≤ r.number
    → r.number ≤ 255 → IsTrue (is_event defs r.event) → IsPrivate defs (edited defs list r on)
private-edited defs r true list p s low high event = private-put defs r list p s low high event
private-edited defs r false list p s low high event = private-without defs r.number list p

pub placed-edited : (defs : List EventDef) (r : Reg) (on : Bool) (list : List Reg)
    → placed defs (edited defs list r on) ≡ cond on (put_placed (placed_of defs r) (placed defs list)) (without_placed r.number (placed defs list))
placed-edited defs r true list = placed-put defs r list
placed-edited defs r false list = placed-without defs r.number list
