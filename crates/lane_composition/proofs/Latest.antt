-- The greatest moment of packets, and what it is among them.
use Rattle.std.proofs.Common.{◌≡◌, ◌<◌, ◌+◌, ◌⊎◌, inl, inr, ⊎_elim, ℕ, zero, suc, Bool, true, false, Some, None, List, [], ◌∷◌, length, get_or, refl, sym, subst, arith}
use Rattle.std.specs.Prelude.{if◌then◌else◌}
use Rattle.std.specs.List.{All}
use Rattle.std.proofs.lemmas.Bool.Decides.{nat_tests}
use Rattle.std.proofs.lemmas.List.Elements.{All-nil, All-cons}
use Rattle.flow_timers.specs.Moments.{is_idle, comes_after}
use Rattle.lane_core.specs.Sight.{Moment, Arrival}
use Rattle.run_outcome.specs.Greatest.{later_of, greatest_from, greatest}

-- ---- no moment comes after it. A moment by its second and its fraction: of g, of s, and of m

kept_before : (gs gf ss sf ms mf : ℕ) → comes_after ss sf (ms + 0) mf ≡ true → comes_after ss sf (gs + 0) gf ≡ false → comes_after ms mf (gs + 0) gf ≡ false
kept_before gs gf ss sf ms mf after not = grind (arith, nat_tests)

kept_after : (gs gf ss sf ms mf : ℕ) → comes_after ss sf (ms + 0) mf ≡ false → comes_after ms mf (gs + 0) gf ≡ false → comes_after ss sf (gs + 0) gf ≡ false
kept_after gs gf ss sf ms mf after not = grind (arith, nat_tests)

same_moment : (s f : ℕ) → comes_after s f (s + 0) f ≡ false
same_moment s f = grind (arith, nat_tests)

never_after_itself : (m : Moment) → is_idle m m 0 ≡ false
unfolding is_idle
never_after_itself m = same_moment m.seconds m.fraction

-- where the greater of two moments doesn't come after g, neither does
neither_after : (g s m : Moment) (b : Bool) → is_idle m s 0 ≡ b → is_idle g (if b then s else m) 0 ≡ false → (is_idle g s 0 ≡ false) × (is_idle g m 0 ≡ false)
unfolding is_idle
neither_after g s m true after not = (not, kept_before g.seconds g.fraction s.seconds s.fraction m.seconds m.fraction after not)
neither_after g s m false after not = (kept_after g.seconds g.fraction s.seconds s.fraction m.seconds m.fraction after not, not)

-- the greater of two moments is one of them
one_of : (g s m : Moment) (b : Bool) → (if b then s else m) ≡ g → (s ≡ g) ⊎ (m ≡ g)
one_of g s m true is = inl is
one_of g s m false is = inr is

module _ (g : Moment) where
  abbrev IsNotAfter : Arrival → Type 0
  IsNotAfter a = is_idle g a.moment 0 ≡ false

  abbrev pub IsAmong : List Arrival → Type 0
  IsAmong ps = (k : ℕ) × (k < length ps) × ((d : Arrival) → (get_or ps k d).moment ≡ g)

  none_after : (s : Moment) (ps : List Arrival) → greatest_from (Some s) ps ≡ Some g → (is_idle g s 0 ≡ false) × All IsNotAfter ps
  unfolding greatest_from
  none_after s [] is = (let same : s ≡ g = cc in subst (λ x. is_idle g x 0 ≡ false) (sym same) (never_after_itself g), All-nil IsNotAfter)
  none_after s (a ∷ ps) is =
      let rest = none_after (later_of (Some s) a.moment) ps is in
      let both = neither_after g s a.moment (is_idle a.moment s 0) refl rest.0 in
      (both.0, All-cons IsNotAfter a ps both.1 rest.1)

  pub none_is_later : (ps : List Arrival) → greatest ps ≡ Some g → All IsNotAfter ps
  unfolding greatest_from
  none_is_later [] is = absurd (cc)
  none_is_later (a ∷ ps) is = let rest = none_after a.moment ps is in All-cons IsNotAfter a ps rest.0 rest.1

  among_more : (a : Arrival) (ps : List Arrival) → IsAmong ps → IsAmong (a ∷ ps)
  among_more a ps one = (suc one.0, (let lt = one.1 in omega arith), λ d. one.2 d)

  among_from : (s : Moment) (ps : List Arrival) → greatest_from (Some s) ps ≡ Some g → (s ≡ g) ⊎ IsAmong ps
  unfolding greatest_from
  among_from s [] is = inl (cc)
  among_from s (a ∷ ps) is = ⊎_elim
      (λ it. ⊎_elim (λ before. inl before) (λ here. inr (zero, omega arith, λ d. here)) (one_of g s a.moment (is_idle a.moment s 0) it))
      (λ one. inr (among_more a ps one))
      (among_from (later_of (Some s) a.moment) ps is)

  pub is_among : (ps : List Arrival) → greatest ps ≡ Some g → IsAmong ps
  unfolding greatest_from
  is_among [] is = absurd (cc)
  is_among (a ∷ ps) is = ⊎_elim (λ here. (zero, omega arith, λ d. here)) (λ one. among_more a ps one) (among_from a.moment ps is)

some_from : (s : Moment) (ps : List Arrival) → greatest_from (Some s) ps ≡ None → ⊥
unfolding greatest_from
some_from s [] is = cc
some_from s (a ∷ ps) is = some_from (later_of (Some s) a.moment) ps is

pub none_is_none : (ps : List Arrival) → greatest ps ≡ None → ps ≡ []
unfolding greatest_from
none_is_none [] is = refl
none_is_none (a ∷ ps) is = absurd (some_from a.moment ps is)
