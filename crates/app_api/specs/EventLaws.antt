-- Only for proofs. A law of the table of events.
use Rattle.std.proofs.Common.{◌≡◌, ℕ, zero, suc, ◌-◌, ◌<◌, ◌≤◌, true, false, cond, leb, List, [], ◌∷◌, length, refl, ap, sym, ◌∙◌, arith, ⊎_elim}
use Rattle.std.specs.Prelude.{slice_get, None}
use Rattle.std.proofs.lemmas.Bool.{cases_lt, and_from, leb-true, le-leb}
use Rattle.native_filters.specs.declared.facts.Hook.{Hook}
use Rattle.app_api.specs.Events.{START, LAST, EventRow, built_ins, is_built_in, raised_at, raised_by_packets, allows_hook, is_of_packets}

none-behind : (rows : List EventRow) (i : ℕ) → length rows ≤ i → slice_get rows i ≡ None
none-behind [] i past = refl
none-behind (r ∷ rows) zero past = absurd (omega arith)
none-behind (r ∷ rows) (suc i) past =
    let less : length rows ≤ i = omega arith in
    none-behind rows i less

-- a hook is only allowed at a built-in event
pub allowed-built_in : (event : ℕ) (hook : Hook) → allows_hook event hook ≡ true → is_built_in event ≡ true
unfolding allows_hook
allowed-built_in event hook h =
    let count : ℕ = length built_ins in
    elim (leb START event) as (λ b. leb START event ≡ b → raised_at (slice_get built_ins (cond b (event - START) count)) hook ≡ true → is_built_in event ≡ true) [
      | true ↦ λ low raised. ⊎_elim
          (λ (small : event - START < count). and_from (leb START event) (leb event LAST) low (le-leb event LAST (omega (arith, leb-true START event low, small))))
          (λ (past : count ≤ event - START). let none : false ≡ true = ap (λ r. raised_at r hook) (sym (none-behind built_ins (event - START) past)) ∙ raised in cc)
          (cases_lt (event - START) count)
      | false ↦ λ low raised. cc
    ] refl h

-- packets raise built-in events alone
pub of_packets-built_in : (event : ℕ) → is_of_packets event ≡ true → is_built_in event ≡ true
unfolding is_of_packets
of_packets-built_in event h =
    let count : ℕ = length built_ins in
    elim (leb START event) as (λ b. leb START event ≡ b → raised_by_packets (slice_get built_ins (cond b (event - START) count)) ≡ true → is_built_in event ≡ true) [
      | true ↦ λ low raised. ⊎_elim
          (λ (small : event - START < count). and_from (leb START event) (leb event LAST) low (le-leb event LAST (omega (arith, leb-true START event low, small))))
          (λ (past : count ≤ event - START). let none : false ≡ true = ap raised_by_packets (sym (none-behind built_ins (event - START) past)) ∙ raised in cc)
          (cases_lt (event - START) count)
      | false ↦ λ low raised. cc
    ] refl h
