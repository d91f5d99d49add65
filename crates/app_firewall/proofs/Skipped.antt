-- Rules that pass a test only where a rule before them does.
use Rattle.std.proofs.Common.{◌≡◌, ◌≢◌, ℕ, zero, suc, ◌+◌, ◌<◌, ◌≤◌, Bool, true, false, cond, leb, List, [], ◌∷◌, ◌++◌, length, get_or, find, Some, None, is_some, refl, ap, sym, ◌∙◌, arith}
use Rattle.std.specs.Option.{option_or}
use Rattle.std.proofs.lemmas.Bool.{and_parts, leb-true, false≢true}
use Rattle.std.proofs.lemmas.List.Folds.{find-append}
use Rattle.app_api.specs.declared.rule.Rule.{Rule}
use Rattle.app_api.specs.Numbers.{rise_from}
use Rattle.app_firewall.specs.Decision.{decided_by}
use Rattle.app_firewall.proofs.First.{numbers, first}

-- a rule that passes is found, or one before it
pub found : (p : Rule → Bool) (rules : List Rule) (k : ℕ) (r : Rule) → k < length rules → get_or rules k r ≡ r → p r ≡ true
    → is_some (find p rules) ≡ true
found p [] k r h at passes = absurd (omega arith)
found p (s ∷ rules) zero r h at passes = ap (λ b. is_some (cond b (Some s) (find p rules))) (ap p at ∙ passes)
found p (s ∷ rules) (suc k) r h at passes =
    elim (p s) as (λ b. is_some (cond b (Some s) (find p rules)) ≡ true) [
      | true ↦ refl
      | false ↦ found p rules k r (omega arith) at passes
    ]

-- a rule that passes only where one before it does is never found
pub skipped : (p : Rule → Bool) (before after : List Rule) (r : Rule) → (p r ≡ true → is_some (find p before) ≡ true)
    → find p (before ++ r ∷ after) ≡ find p (before ++ after)
skipped p before after r covered =
    find-append p before (r ∷ after)
    ∙ (elim (find p before) as (λ o. (p r ≡ true → is_some o ≡ true) → option_or o (cond (p r) (Some r) (find p after)) ≡ option_or o (find p after)) [
      | Some s ↦ λ _. refl
      | None ↦ λ covered.
          elim (p r) as (λ b. (b ≡ true → false ≡ true) → cond b (Some r) (find p after) ≡ find p after) [
            | true ↦ λ covered. absurd (false≢true (covered refl))
            | false ↦ λ _. refl
          ] covered
    ] covered)
    ∙ sym (find-append p before after)

-- rules that rise from a number on decide with none that is less
not_below : (p : Rule → Bool) (low n : ℕ) (rules : List Rule) → rise_from low (numbers rules) ≡ true → 0 < n → n < low
    → (first p rules).1 ≢ n
not_below p low n [] rise over below = λ same. omega (arith, same)
not_below p low n (r ∷ rules) rise over below =
    let parts = and_parts (leb low r.number) (rise_from (r.number + 1) (numbers rules)) rise in
    let here = leb-true low r.number parts.0 in
    elim (p r) as (λ b. (decided_by (cond b (Some r) (find p rules))).1 ≢ n) [
      | true ↦ λ same. omega (arith, here, same)
      | false ↦ not_below p (r.number + 1) n rules parts.1 over (omega (arith, here))
    ]

-- a rule behind others has no number that is less than where they rise from
later : (low : ℕ) (before after : List Rule) (r : Rule) → rise_from low (numbers (before ++ r ∷ after)) ≡ true → low ≤ r.number
later low [] after r rise = leb-true low r.number (and_parts (leb low r.number) (rise_from (r.number + 1) (numbers after)) rise).0
later low (s ∷ before) after r rise =
    let parts = and_parts (leb low s.number) (rise_from (s.number + 1) (numbers (before ++ r ∷ after))) rise in
    let here = leb-true low s.number parts.0 in
    let there = later (s.number + 1) before after r parts.1 in
    omega (arith, here, there)

-- nor does such a rule decide
pub never : (p : Rule → Bool) (low : ℕ) (before after : List Rule) (r : Rule) → rise_from low (numbers (before ++ r ∷ after)) ≡ true
    → 0 < low → (p r ≡ true → is_some (find p before) ≡ true) → (first p (before ++ r ∷ after)).1 ≢ r.number
never p low [] after r rise over covered =
    let parts = and_parts (leb low r.number) (rise_from (r.number + 1) (numbers after)) rise in
    let here = leb-true low r.number parts.0 in
    elim (p r) as (λ b. (b ≡ true → false ≡ true) → (decided_by (cond b (Some r) (find p after))).1 ≢ r.number) [
      | true ↦ λ covered. absurd (false≢true (covered refl))
      | false ↦ λ _. not_below p (r.number + 1) r.number after parts.1 (omega (arith, here)) (omega arith)
    ] covered
never p low (s ∷ before) after r rise over covered =
    let rest = (and_parts (leb low s.number) (rise_from (s.number + 1) (numbers (before ++ r ∷ after))) rise).1 in
    let there = later (s.number + 1) before after r rest in
    elim (p s) as (λ b. (p r ≡ true → is_some (cond b (Some s) (find p before)) ≡ true)
    → (decided_by (cond b (Some s) (find p (before ++ r ∷ after)))).1 ≢ r.number) [
      | true ↦ λ _ same. omega (arith, there, same)
      | false ↦ λ covered. never p (s.number + 1) before after r rest (omega arith) covered
    ] covered
