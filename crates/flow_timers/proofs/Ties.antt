-- Which deadline a name has after a change.
use Rattle.std.proofs.Common.{◌≡◌, ◌==◌, ◌&&◌, not, ℕ, Bool, true, false, cond, refl, sym, ap, subst, ◌∙◌, Option, None, Some, arith}
use Rattle.std.specs.declared.cmp.Ordering.{Ordering}
use Rattle.std.specs.declared.cmp.Ordering.TheVariants.{Less, Equal, Greater}
use Rattle.std.specs.Ordering.{nat_cmp, ordering_then, eq_by_cmp, is_eq}
use Rattle.std.specs.Cmp.{nat_cmp_total, ranked, Equal-is}
use Rattle.std.proofs.Math.Dec.{T, eqb, eqb_refl}
use Rattle.std.proofs.lemmas.Bool.{ne_eqb}
use Rattle.std.proofs.lemmas.Cmp.{eq_by_cmp_equiv}
use Rattle.flow_timers.specs.declared.book.Noted.{Noted}
use Rattle.flow_timers.specs.declared.deadline.Deadline.{Deadline}
use Rattle.flow_timers.specs.Notes.{due_second}
use Rattle.flow_timers.specs.Deadlines.{deadline_of, order, is_deadline}

is_eq-then : (r s : Ordering) → is_eq (ordering_then r s) ≡ (is_eq r && is_eq s)
is_eq-then Less s = refl
is_eq-then Equal s = refl
is_eq-then Greater s = refl

T_to_true : (b : Bool) → T b → b ≡ true
T_to_true true h = refl
T_to_true false h = absurd h

is_eq-nat_cmp : (a b : ℕ) → is_eq (nat_cmp a b) ≡ (a == b)
is_eq-nat_cmp a b = by (nat_cmp a b) refl
  where
    by : (r : Ordering) → nat_cmp a b ≡ r → is_eq r ≡ (a == b)
    by Less e = sym (ne_eqb a b (λ same. omega (arith, ranked a b Less (sym e), same)))
    by Equal e = sym (T_to_true (a == b) (subst (λ (n : ℕ). T (eqb a n)) (ranked a b Equal (sym e)) (eqb_refl a)))
    by Greater e = sym (ne_eqb a b (λ same. omega (arith, ranked a b Greater (sym e), same)))

turned : (a b : ℕ) → is_eq (nat_cmp a b) ≡ (b == a)
turned a b = (eq_by_cmp_equiv nat_cmp_total).symm a b ∙ is_eq-nat_cmp b a

and_true : (b : Bool) → (b && true) ≡ b
and_true true = refl
and_true false = refl

and_false : (b : Bool) → (b && false) ≡ false
and_false true = refl
and_false false = refl

-- the deadline of another name is another one
apart : (name : ℕ) (noted : Noted) (d : Deadline) → eq_by_cmp nat_cmp name d.name ≡ false → eq_by_cmp order (deadline_of name noted) d ≡ false
apart name noted d e =
    is_eq-then _ _
    ∙ ap (λ b. is_eq (nat_cmp (due_second noted) d.seconds) && b)
    (is_eq-then (nat_cmp noted.last.fraction d.fraction) (nat_cmp name d.name) ∙ ap (λ b. is_eq (nat_cmp noted.last.fraction d.fraction) && b) e ∙ and_false _)
    ∙ and_false _

-- of one name, the order tells deadlines apart as the test does
together : (noted : Noted) (d : Deadline) → eq_by_cmp order (deadline_of d.name noted) d ≡ is_deadline d (Some noted)
together noted d =
    let last : is_eq (ordering_then (nat_cmp noted.last.fraction d.fraction) (nat_cmp d.name d.name)) ≡ (d.fraction == noted.last.fraction) =
    is_eq-then _ _ ∙ (λ i. turned noted.last.fraction d.fraction i && (eq_by_cmp_equiv nat_cmp_total).refl d.name i) ∙ and_true _ in
    is_eq-then _ _ ∙ (λ i. turned (due_second noted) d.seconds i && last i)

same_name : (a b : ℕ) → eq_by_cmp nat_cmp a b ≡ true → a ≡ b
same_name a b e = ranked a b Equal (sym ((Equal-is (nat_cmp a b)).0 e))

-- a test of names, with either answer
either : {G : Type 0} (a b : ℕ) → (eq_by_cmp nat_cmp a b ≡ false → G) → (a ≡ b → G) → G
either {G} a b differ same = by (eq_by_cmp nat_cmp a b) refl
  where
    by : (t : Bool) → eq_by_cmp nat_cmp a b ≡ t → G
    by true e = same (same_name a b e)
    by false e = differ e

moved : (a b : Bool) → cond (b && not a) false (cond a true b) ≡ a
moved true true = refl
moved true false = refl
moved false true = refl
moved false false = refl

kept_out : (a : Bool) → cond a false (cond a true false) ≡ false
kept_out true = refl
kept_out false = refl

-- the new deadline added and the old one taken away, where it isn't the new one
pub replaced : (f g : ℕ → Option Noted) (name : ℕ) (before after : Noted) (d : Deadline) (kept : Bool)
    → f name ≡ Some before
    → g d.name ≡ cond (eq_by_cmp nat_cmp name d.name) (Some after) (f d.name)
    → kept ≡ is_deadline d (f d.name)
    → cond (eq_by_cmp order (deadline_of name before) d && not (eq_by_cmp order (deadline_of name after) d)) false
    (cond (eq_by_cmp order (deadline_of name after) d) true kept)
    ≡ is_deadline d (g d.name)
replaced f g name before after d kept was now is = either name d.name
    (λ differ.
    (λ i. cond (apart name before d differ i && not (apart name after d differ i)) false (cond (apart name after d differ i) true kept))
    ∙ is ∙ ap (is_deadline d) (sym (now ∙ ap (λ b. cond b (Some after) (f d.name)) differ)))
    (λ same. subst P (sym same) at_name same was now)
  where
    G : ℕ → Type 0
    G n = cond (eq_by_cmp order (deadline_of n before) d && not (eq_by_cmp order (deadline_of n after) d)) false
        (cond (eq_by_cmp order (deadline_of n after) d) true kept)
        ≡ is_deadline d (g d.name)

    P : ℕ → Type 0
    P n = n ≡ d.name → f n ≡ Some before → g d.name ≡ cond (eq_by_cmp nat_cmp n d.name) (Some after) (f d.name) → G n

    at_name : P d.name
    at_name e was_here now_here =
        (λ i. cond (together before d i && not (together after d i)) false (cond (together after d i) true ((is ∙ ap (is_deadline d) was_here) i)))
        ∙ moved (is_deadline d (Some after)) (is_deadline d (Some before))
        ∙ ap (is_deadline d) (sym (now_here ∙ ap (λ b. cond b (Some after) (f d.name)) ((eq_by_cmp_equiv nat_cmp_total).refl d.name)))

-- the new deadline of a name that wasn't there, added and taken back
pub taken_back : (f : ℕ → Option Noted) (name : ℕ) (after : Noted) (d : Deadline) (kept : Bool)
    → f name ≡ None
    → kept ≡ is_deadline d (f d.name)
    → cond (eq_by_cmp order (deadline_of name after) d) false (cond (eq_by_cmp order (deadline_of name after) d) true kept) ≡ is_deadline d (f d.name)
taken_back f name after d kept absent is = either name d.name
    (λ differ. (λ i. cond (apart name after d differ i) false (cond (apart name after d differ i) true kept)) ∙ is)
    (λ same.
    let none : is_deadline d (f d.name) ≡ false = ap (λ n. is_deadline d (f n)) (sym same) ∙ ap (is_deadline d) absent in
    let a : Bool = eq_by_cmp order (deadline_of name after) d in
    ap (λ b. cond a false (cond a true b)) (is ∙ none) ∙ kept_out a ∙ sym none)

-- the same by steps: the new deadline is added, and the old one taken away
pub replaced_by : (f g : ℕ → Option Noted) (name : ℕ) (before after : Noted) (d old new : Deadline) (kept added left : Bool)
    → old ≡ deadline_of name before → new ≡ deadline_of name after
    → left ≡ cond (eq_by_cmp order old d && not (eq_by_cmp order new d)) false added
    → added ≡ cond (eq_by_cmp order new d) true kept
    → f name ≡ Some before
    → g d.name ≡ cond (eq_by_cmp nat_cmp name d.name) (Some after) (f d.name)
    → kept ≡ is_deadline d (f d.name)
    → left ≡ is_deadline d (g d.name)
replaced_by f g name before after d old new kept added left o n taken more was now is =
    taken
    ∙ (λ i. cond (eq_by_cmp order (o i) d && not (eq_by_cmp order (n i) d)) false (more i))
    ∙ ap (λ x. cond (eq_by_cmp order (deadline_of name before) d && not (eq_by_cmp order (deadline_of name after) d)) false (cond (eq_by_cmp order x d) true kept)) n
    ∙ replaced f g name before after d kept was now is

pub taken_back_by : (f g : ℕ → Option Noted) (name : ℕ) (after : Noted) (d new : Deadline) (kept added left : Bool)
    → new ≡ deadline_of name after
    → left ≡ cond (eq_by_cmp order new d) false added
    → added ≡ cond (eq_by_cmp order new d) true kept
    → f name ≡ None
    → g d.name ≡ f d.name
    → kept ≡ is_deadline d (f d.name)
    → left ≡ is_deadline d (g d.name)
taken_back_by f g name after d new kept added left n taken more absent same is =
    taken ∙ (λ i. cond (eq_by_cmp order (n i) d) false (more i))
    ∙ ap (λ x. cond (eq_by_cmp order (deadline_of name after) d) false (cond (eq_by_cmp order x d) true kept)) n
    ∙ taken_back f name after d kept absent is ∙ ap (is_deadline d) (sym same)
