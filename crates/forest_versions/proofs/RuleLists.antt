-- Rules keep their order with one more and with one less.
use Rattle.std.proofs.Common.{◌≡◌, ℕ, ◌+◌, ◌<◌, ◌≤◌, true, false, cond, eqb, ltb, leb, List, [], ◌∷◌, map, refl, arith}
use Rattle.std.specs.Prelude.{◌≢◌, ◌&&◌, not, Some, None}
use Rattle.std.proofs.lemmas.Bool.{and_parts, and_from, leb-true, le-leb, ltb-true, ltb-false, eqb-false}
use Rattle.app_api.specs.declared.rule.Rule.{Rule}
use Rattle.app_api.specs.Numbers.{rise_from}
use Rattle.forest_versions.specs.Rules.{rule_of, put_rule, without_rule}

abbrev numbers : List Rule → List ℕ
numbers rules = map (λ (r : Rule). r.number) rules

lower : (a b : ℕ) (rules : List Rule) → a ≤ b → rise_from b (numbers rules) ≡ true → rise_from a (numbers rules) ≡ true
lower a b [] le h = refl
lower a b (r ∷ rules) le h =
    let parts = and_parts (leb b r.number) (rise_from (r.number + 1) (numbers rules)) h in
    let first : b ≤ r.number = leb-true b r.number parts.0 in
    and_from (leb a r.number) (rise_from (r.number + 1) (numbers rules)) (le-leb a r.number (omega arith)) parts.1

other : (s : Rule) (rules : List Rule) (n : ℕ) → cond (eqb s.number n) (Some s) (rule_of rules n) ≡ None → (s.number ≢ n) × (rule_of rules n ≡ None)
other s rules n absent =
    elim (eqb s.number n) as (λ b. eqb s.number n ≡ b → cond b (Some s) (rule_of rules n) ≡ None → (s.number ≢ n) × (rule_of rules n ≡ None)) [
      | true ↦ λ e none. cc
      | false ↦ λ e none. (eqb-false s.number n e, none)
    ] refl absent

pub rise-put : (low : ℕ) (r : Rule) (rules : List Rule) → low ≤ r.number → rule_of rules r.number ≡ None → rise_from low (numbers rules) ≡ true → rise_from low (numbers (put_rule r rules)) ≡ true
rise-put low r [] le absent h = rw (le-leb low r.number le)
rise-put low r (s ∷ rules) le absent h =
    let parts = and_parts (leb low s.number) (rise_from (s.number + 1) (numbers rules)) h in
    let apart = other s rules r.number absent in
    elim (ltb r.number s.number) as (λ b. ltb r.number s.number ≡ b → rise_from low (numbers (cond b (r ∷ s ∷ rules) (s ∷ put_rule r rules))) ≡ true) [
      | true ↦ λ e.
          let below : r.number < s.number = ltb-true r.number s.number e in
          and_from (leb low r.number) (leb (r.number + 1) s.number && rise_from (s.number + 1) (numbers rules)) (le-leb low r.number le)
          (and_from (leb (r.number + 1) s.number) (rise_from (s.number + 1) (numbers rules)) (le-leb (r.number + 1) s.number (omega arith)) parts.1)
      | false ↦ λ e.
          let above : s.number ≤ r.number = ltb-false r.number s.number e in
          let differ : s.number ≢ r.number = apart.0 in
          and_from (leb low s.number) (rise_from (s.number + 1) (numbers (put_rule r rules))) parts.0 (rise-put (s.number + 1) r rules (omega arith) apart.1 parts.1)
    ] refl

pub rise-without : (low number : ℕ) (rules : List Rule) → rise_from low (numbers rules) ≡ true → rise_from low (numbers (without_rule number rules)) ≡ true
rise-without low number [] h = refl
rise-without low number (s ∷ rules) h =
    let parts = and_parts (leb low s.number) (rise_from (s.number + 1) (numbers rules)) h in
    let rest : rise_from (s.number + 1) (numbers (without_rule number rules)) ≡ true = rise-without (s.number + 1) number rules parts.1 in
    let first : low ≤ s.number = leb-true low s.number parts.0 in
    elim (not (eqb s.number number)) as (λ b. rise_from low (numbers (cond b (s ∷ without_rule number rules) (without_rule number rules))) ≡ true) [
      | true ↦ and_from (leb low s.number) (rise_from (s.number + 1) (numbers (without_rule number rules))) parts.0 rest
      | false ↦ lower low (s.number + 1) (without_rule number rules) (omega arith) rest
    ]
