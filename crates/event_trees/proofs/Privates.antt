-- Whether a list is private: its numbers one by one, and its order from one registration to the next.
use Rattle.std.proofs.Common.{◌≡◌, ℕ, ◌+◌, ◌-◌, ◌<◌, ◌≤◌, true, false, eqb, List, [], ◌∷◌, length, drop, get_or, sym, ap, subst, ◌∙◌, arith, ⊎_elim}
use Rattle.std.specs.Prelude.{◌↔◌, ◌≢◌}
use Rattle.std.specs.List.{AllByRecursion, IsDistinct, list_any}
use Rattle.std.specs.List.Sorted.{IsStrictlySortedBy}
use Rattle.std.specs.declared.cmp.Ordering.TheVariants.{Less}
use Rattle.std.specs.Ordering.{is_lt}
use Rattle.std.proofs.lemmas.Bool.{or_cases, or_parts, eqb-false}
use Rattle.std.proofs.lemmas.List.{drop_more, drop_all, get_or_default}
use Rattle.std.proofs.lemmas.Map.Keys.{IsDistinct-cons, IsDistinct-head, IsDistinct-tail, Less-from_sorted, sorted_from_all_adjacent}
use Rattle.app_api.specs.declared.registration.Reg.{Reg}
use Rattle.event_trees.specs.declared.defs.EventDef.{EventDef}
use Rattle.event_trees.specs.Private.{reg_cmp, numbers_of}
use Rattle.event_trees.proofs.Switches.{reg_total}

apart : (n : ℕ) (ns : List ℕ) → list_any (eqb n) ns ≡ false → AllByRecursion (λ m. eqb n m ≡ false) ns
apart n [] h = tt
apart n (m ∷ ns) h =
    let parts = or_parts (eqb n m) (list_any (eqb n) ns) h in
    (parts.0, apart n ns parts.1)

met : (n : ℕ) (ns : List ℕ) → list_any (eqb n) ns ≡ true → AllByRecursion (λ m. eqb n m ≡ false) ns → ⊥
met n [] h all = cc
met n (m ∷ ns) h all = ⊎_elim (λ e. let other : eqb n m ≡ false = all.0 in cc) (λ k. met n ns k all.1) (or_cases (eqb n m) (list_any (eqb n) ns) h)

pub absent : (list : List Reg) (n : ℕ) → list_any (eqb n) (numbers_of list) ≡ false → AllByRecursion (λ r. r.number ≢ n) list
absent [] n h = tt
absent (r ∷ list) n h =
    let parts = or_parts (eqb n r.number) (list_any (eqb n) (numbers_of list)) h in
    (λ e. eqb-false n r.number parts.0 (sym e), absent list n parts.1)

numbers-drop : (list : List Reg) (i : ℕ) (d : Reg) → i < length list → numbers_of (drop i list) ≡ (get_or list i d).number ∷ numbers_of (drop (i + 1) list)
numbers-drop list i d within = ap numbers_of (drop_more list i d within)

pub distinct-on : (list : List Reg) (i : ℕ) (d : Reg) → i < length list
    → list_any (eqb (get_or list i d).number) (numbers_of (drop (i + 1) list)) ≡ false → IsDistinct eqb (numbers_of (drop (i + 1) list)) ↔ IsDistinct eqb (numbers_of (drop i list))
distinct-on list i d within absent =
    let n : ℕ = (get_or list i d).number in
    let rest : List ℕ = numbers_of (drop (i + 1) list) in
    let at : numbers_of (drop i list) ≡ n ∷ rest = numbers-drop list i d within in (
      λ h. subst (IsDistinct eqb) (sym at) (IsDistinct-cons eqb n rest (apart n rest absent) h),
      λ h. IsDistinct-tail eqb n rest (subst (IsDistinct eqb) at h),
    )

pub distinct-off : (list : List Reg) (i : ℕ) (d : Reg) → i < length list
    → list_any (eqb (get_or list i d).number) (numbers_of (drop (i + 1) list)) ≡ true → IsDistinct eqb (numbers_of (drop i list)) → ⊥
distinct-off list i d within there h =
    let n : ℕ = (get_or list i d).number in
    let rest : List ℕ = numbers_of (drop (i + 1) list) in
    met n rest there (IsDistinct-head eqb n rest (subst (IsDistinct eqb) (numbers-drop list i d within) h))

pub distinct-end : (list : List Reg) (i : ℕ) → length list ≤ i → IsDistinct eqb (numbers_of (drop i list))
unfolding IsDistinct
distinct-end list i past = subst (λ (l : List Reg). IsDistinct eqb (numbers_of l)) (sym (drop_all i list past)) tt

pub falls : (defs : List EventDef) (list : List Reg) (i : ℕ) (a b : Reg) → 1 ≤ i → i < length list → a ≡ get_or list (i - 1) a → b ≡ get_or list i b
    → is_lt (reg_cmp defs a b) ≡ false → IsStrictlySortedBy (reg_cmp defs) list → ⊥
falls defs list i a b low within first second no_less sorted =
    let less : reg_cmp defs (get_or list (i - 1) a) (get_or list i a) ≡ Less = Less-from_sorted (reg_cmp defs) list (i - 1) i a sorted (omega arith) within in
    let same : get_or list i a ≡ b = get_or_default list i a b within ∙ sym second in
    let both : reg_cmp defs a b ≡ Less = ap (λ (x : Reg). reg_cmp defs x b) first ∙ (ap (λ (x : Reg). reg_cmp defs (get_or list (i - 1) a) x) (sym same) ∙ less) in
    cc

pub rises-all : (defs : List EventDef) (list : List Reg) (i : ℕ) → length list ≤ i
    → ((k : ℕ) (d : Reg) → k + 1 < i → reg_cmp defs (get_or list k d) (get_or list (k + 1) d) ≡ Less) → IsStrictlySortedBy (reg_cmp defs) list
unfolding IsStrictlySortedBy
rises-all defs [] i past h = tt
rises-all defs (r ∷ list) i past h = sorted_from_all_adjacent (reg_total defs) (r ∷ list) r (λ k within. h k r (omega (arith, within)))
