-- The first rule that passes a test, of rules by rising number.
use Rattle.std.proofs.Common.{◌≡◌, ℕ, zero, suc, ◌+◌, ◌<◌, ◌≤◌, Bool, true, false, cond, leb, List, [], ◌∷◌, map, length, get_or, find, Some, Any, All, refl, ap, ◌∙◌, arith}
use Rattle.std.proofs.lemmas.Bool.{and_parts, leb-true}
use Rattle.app_api.specs.declared.rule.Rule.{Rule}
use Rattle.app_api.specs.Numbers.{rise_from}
use Rattle.app_firewall.specs.Decision.{decided_by}

abbrev pub numbers : List Rule → List ℕ
numbers rules = map (λ r. r.number) rules

-- what the first rule that passes decides
abbrev pub first : (Rule → Bool) → List Rule → Bool × ℕ
first p rules = decided_by (find p rules)

-- rules that rise from a number on have no less
pub at_least : (low : ℕ) (rules : List Rule) (k : ℕ) (d : Rule) → rise_from low (numbers rules) ≡ true → k < length rules
    → low ≤ (get_or rules k d).number
at_least low [] k d rise h = absurd (omega arith)
at_least low (r ∷ rules) zero d rise h =
    leb-true low r.number (and_parts (leb low r.number) (rise_from (r.number + 1) (numbers rules)) rise).0
at_least low (r ∷ rules) (suc k) d rise h =
    let parts = and_parts (leb low r.number) (rise_from (r.number + 1) (numbers rules)) rise in
    let here = leb-true low r.number parts.0 in
    let there = at_least (r.number + 1) rules k d parts.1 (omega arith) in
    omega (arith, here, there)

-- no rule that passes has a lesser number
pub least : (p : Rule → Bool) (low : ℕ) (rules : List Rule) → rise_from low (numbers rules) ≡ true
    → All (λ r. p r ≡ true → (first p rules).1 ≤ r.number) rules
least p low [] rise k d h passes = absurd (omega arith)
least p low (r ∷ rules) rise zero d h passes =
    let here : (first p (r ∷ rules)).1 ≡ r.number = ap (λ b. (decided_by (cond b (Some r) (find p rules))).1) passes in
    omega (arith, here)
least p low (r ∷ rules) rise (suc k) d h passes =
    let rest = (and_parts (leb low r.number) (rise_from (r.number + 1) (numbers rules)) rise).1 in
    let there = at_least (r.number + 1) rules k d rest (omega arith) in
    elim (p r) as (λ b. (decided_by (cond b (Some r) (find p rules))).1 ≤ (get_or rules k d).number) [
      | true ↦ omega (arith, there)
      | false ↦ least p (r.number + 1) rules rest k d (omega arith) passes
    ]

-- a number over 0 is that of a rule that passes
pub passing : (p : Rule → Bool) (rules : List Rule) → 0 < (first p rules).1
    → Any (λ r. (p r ≡ true) × ((r.allow, r.number) ≡ first p rules)) rules
passing p [] over = absurd (omega arith)
passing p (r ∷ rules) over =
    elim (p r) as (λ b. p r ≡ b → 0 < (decided_by (cond b (Some r) (find p rules))).1
    → (k : ℕ) × (x : Rule) × (k < suc (length rules)) × (get_or (r ∷ rules) k x ≡ x)
    × ((p x ≡ true) × ((x.allow, x.number) ≡ decided_by (cond b (Some r) (find p rules))))) [
      | true ↦ λ passes _. (0, r, omega arith, refl, (passes, refl))
      | false ↦ λ _ over.
          let there = passing p rules over in
          (suc there.0, there.1, omega (arith, there.2), there.3, there.4)
    ] refl over

-- where nothing is found, none passes
pub none_passes : (p : Rule → Bool) (low : ℕ) (rules : List Rule) → 0 < low → rise_from low (numbers rules) ≡ true
    → first p rules ≡ (false, 0) → All (λ r. p r ≡ false) rules
none_passes p low [] over rise found k d h = absurd (omega arith)
none_passes p low (r ∷ rules) over rise found k d h =
    let parts = and_parts (leb low r.number) (rise_from (r.number + 1) (numbers rules)) rise in
    let here = leb-true low r.number parts.0 in
    elim (p r) as (λ b. p r ≡ b → decided_by (cond b (Some r) (find p rules)) ≡ (false, 0) → p (get_or (r ∷ rules) k d) ≡ false) [
      | true ↦ λ _ found. absurd (let number : r.number ≡ 0 = ap (λ q. q.1) found in omega (arith, here, number))
      | false ↦ λ fails found.
          elim k as (λ k. k < suc (length rules) → p (get_or (r ∷ rules) k d) ≡ false) [
            | zero ↦ λ _. fails
            | suc k ↦ λ h. none_passes p (r.number + 1) rules (omega arith) parts.1 found k d (omega arith)
          ] h
    ] refl found

-- where none passes, nothing is found
pub none_found : (p : Rule → Bool) (rules : List Rule) → All (λ r. p r ≡ false) rules → first p rules ≡ (false, 0)
none_found p [] fail = refl
none_found p (r ∷ rules) fail =
    ap (λ b. decided_by (cond b (Some r) (find p rules))) (fail 0 r (omega arith))
    ∙ none_found p rules (λ k d h. fail (suc k) d (omega arith))
