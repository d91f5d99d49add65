-- Registrations by rising number, taken one number at a time.
use Rattle.std.proofs.Common.{◌≡◌, ℕ, ◌+◌, ◌<◌, ◌≤◌, true, List, [], ◌∷◌, ◌++◌, map, nat_lt, if◌then◌else◌, refl, ap, inl, inr, arith, Option, Some, None}
use Rattle.std.specs.List.{list_all}
use Rattle.std.proofs.lemmas.Bool.{and_parts, leb-true, lt-ltb, le-ltb, eq-eqb, ne_eqb, cases_order}
use Rattle.app_api.specs.declared.registration.Reg.{Reg}
use Rattle.app_api.specs.Numbers.{rise_from}
use Rattle.app_api.specs.Reg.{reg_of, is_preset}

abbrev pub numbers : List Reg → List ℕ
numbers regs = map (λ r. r.number) regs

-- the registrations from the front on whose numbers are below n
abbrev pub front : ℕ → List Reg → List Reg
front n [] = []
front n (r ∷ rs) = if nat_lt r.number n then r ∷ front n rs else []

abbrev pub listed : Option Reg → List Reg
listed None = []
listed (Some r) = r ∷ []

rise_from-least : (low n : ℕ) (ns : List ℕ) → rise_from low (n ∷ ns) ≡ true → low ≤ n
rise_from-least low n ns rise = leb-true low n (and_parts _ _ rise).0

rise_from-rest : (low n : ℕ) (ns : List ℕ) → rise_from low (n ∷ ns) ≡ true → rise_from (n + 1) ns ≡ true
rise_from-rest low n ns rise = (and_parts _ _ rise).1

is_preset-greatest : (r : Reg) → is_preset r ≡ true → r.number ≤ 15
is_preset-greatest r here =
    leb-true r.number 15 (and_parts _ _ (and_parts _ _ (and_parts _ _ (and_parts _ _ here).0).0).0).1

pub front-none : (low n : ℕ) (rs : List Reg) → rise_from low (numbers rs) ≡ true → n ≤ low → front n rs ≡ []
front-none low n [] rise few = refl
front-none low n (r ∷ rs) rise few =
    let least = rise_from-least low r.number (numbers rs) rise in
    rw (le-ltb r.number n (omega arith)) refl

pub reg_of-none : (low n : ℕ) (rs : List Reg) → rise_from low (numbers rs) ≡ true → n < low → reg_of rs n ≡ None
reg_of-none low n [] rise below = refl
reg_of-none low n (r ∷ rs) rise below =
    let least = rise_from-least low r.number (numbers rs) rise in
    rw (ne_eqb r.number n (λ e. absurd (omega arith)))
    (reg_of-none (r.number + 1) n rs (rise_from-rest low r.number (numbers rs) rise) (omega arith))

-- one number more adds its registration
pub front-add : (low n : ℕ) (rs : List Reg) → rise_from low (numbers rs) ≡ true → front (n + 1) rs ≡ front n rs ++ listed (reg_of rs n)
front-add low n [] rise = refl
front-add low n (r ∷ rs) rise =
    let rest = rise_from-rest low r.number (numbers rs) rise in
    elim (cases_order r.number n) [
      | inl e ↦
          rw (lt-ltb r.number (n + 1) (omega arith)) (rw (le-ltb r.number n (omega arith)) (rw (eq-eqb r.number n e)
          (ap (λ regs. r ∷ regs) (front-none (r.number + 1) (n + 1) rs rest (omega arith)))))
      | inr apart ↦ elim apart [
        | inl below ↦
            rw (lt-ltb r.number (n + 1) (omega arith)) (rw (lt-ltb r.number n below) (rw (ne_eqb r.number n (λ e. absurd (omega arith)))
            (ap (λ regs. r ∷ regs) (front-add (r.number + 1) n rs rest))))
        | inr above ↦
            rw (le-ltb r.number (n + 1) (omega arith)) (rw (le-ltb r.number n (omega arith)) (rw (ne_eqb r.number n (λ e. absurd (omega arith)))
            (rw (reg_of-none (r.number + 1) n rs rest (omega arith)) refl)))
      ]
    ]

-- presets have numbers up to 15
pub front-all : (rs : List Reg) → list_all is_preset rs ≡ true → front 16 rs ≡ rs
front-all [] each = refl
front-all (r ∷ rs) each =
    let greatest = is_preset-greatest r (and_parts _ _ each).0 in
    rw (lt-ltb r.number 16 (omega arith)) (ap (λ regs. r ∷ regs) (front-all rs (and_parts _ _ each).1))
