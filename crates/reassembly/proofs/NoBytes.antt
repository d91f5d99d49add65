-- A segment without bytes leaves a stream standing for what it stood for, and counts nothing.
use Rattle.std.proofs.Common.{◌≡◌, ℕ, ◌+◌, ◌-◌, ◌<◌, ◌≤◌, ℤ, pos, negsuc, true, false, Bool, cond, ◌&&◌, refl, ap, ◌∙◌, sym, arith, List, [], ◌∷◌, Option, None, length, suc, min, is_some, ⊎_elim, leb, ltb, le-ltb}
use Rattle.std.proofs.lemmas.Bool.{cases_lt, lt-leb}
use Rattle.std.specs.Prelude.{slice_index}
use Rattle.reassembly.specs.declared.answers.Policy.{Policy}
use Rattle.reassembly.specs.Receiver.{Receiver, held, next_of, limit_at}
use Rattle.reassembly.specs.Segment.{cell_after, held_after, accept_at, accept, counts}
use Rattle.reassembly.specs.View.{StreamView, StandsFor}
use Rattle.reassembly.proofs.Cells.{below_next, at_next, next_is}
use Rattle.reassembly.proofs.Laws.{held_accepted}

untouched : (next limit : ℕ) (policy : Policy) (q p : ℕ) (c : Option ℕ) → held_after next limit policy q [] p c ≡ c
untouched next limit policy q p c = ⊎_elim
    (λ (l : p < q). let out : leb q p ≡ false = lt-leb q p l in
    ap (λ (b : Bool). cond (b && ltb p (q + 0)) (cell_after next limit policy p c (slice_index [] (p - q))) c) out)
    (λ (l : q ≤ p). let out : ltb p (q + 0) ≡ false = le-ltb p (q + 0) (omega arith) in
    ap (λ (b : Bool). cond (leb q p && b) (cell_after next limit policy p c (slice_index [] (p - q))) c) out ∙ never (leb q p) (cell_after next limit policy p c (slice_index [] (p - q))) c)
    (cases_lt p q)
  where
    never : (b : Bool) (x y : Option ℕ) → cond (b && false) x y ≡ y
    never true x y = refl
    never false x y = refl

nothing_at : (s : StreamView) (r : Receiver) (q : ℕ) (policy : Policy) → StandsFor s r → StandsFor s (accept_at r q [] policy s.rbuf)
nothing_at s r q policy h =
    let acc : Receiver = accept_at r q [] policy s.rbuf in
    let cell : (p : ℕ) → held acc.cells p ≡ held r.cells p =
    λ p. held_accepted r q [] policy s.rbuf p ∙ untouched (next_of r.cells) (limit_at r s.rbuf) policy q p (held r.cells p) in
    let next : next_of acc.cells ≡ next_of r.cells =
    next_is acc.cells (next_of r.cells) (λ p l. ap is_some (cell p) ∙ below_next r.cells p l) (ap is_some (cell (next_of r.cells)) ∙ at_next r.cells) in
    record {
      next = h.next ∙ sym next;
      fin = h.fin;
      cells = λ p. h.cells p ∙ (ap (λ (n : ℕ). cond (leb (n - s.rbuf) p) (held r.cells p) None) (sym next)
          ∙ ap (λ (c : Option ℕ). cond (leb (next_of acc.cells - s.rbuf) p) c None) (sym (cell p)));
    }

pub nothing_stands : (s : StreamView) (r : Receiver) (q : ℤ) (bytes : List ℕ) (policy : Policy) → length bytes ≡ 0 → StandsFor s r → StandsFor s (accept r q bytes policy s.rbuf)
unfolding accept
nothing_stands s r (pos q) [] policy none h = nothing_at s r q policy h
nothing_stands s r (negsuc n) [] policy none h = nothing_at s r 0 policy h
nothing_stands s r q (b ∷ bs) policy none h = absurd (omega arith)

pub nothing_counts : (r : Receiver) (q : ℤ) (bytes : List ℕ) (rbuf : ℕ) → length bytes ≡ 0
    → record { new = 0; old = 0; differ = 0; over = 0 } ≡ counts r q bytes rbuf
unfolding counts
nothing_counts r (pos q) [] rbuf none = refl
nothing_counts r (negsuc n) [] rbuf none =
    let few : 0 ≡ min (suc n) 0 + 0 = omega arith in
    ap (λ (k : ℕ). record { new = 0; old = k; differ = 0; over = 0 }) few
nothing_counts r q (b ∷ bs) rbuf none = absurd (omega arith)
