use Rattle.std.proofs.Common.{◌≡◌, ℕ, ◌+◌, ◌-◌, ◌<◌, ◌≤◌, min, ◌∷◌, length, Option, sym, refl, ap, ◌∙◌, arith, is_some, false, true≢false, ⊎_elim}
use Rattle.std.proofs.lemmas.Bool.{cases_lt}
use Rattle.reassembly.specs.Kept.{runs_from, IsFirst, IsRunEnd}
use Rattle.reassembly.specs.Buffer.{window_of}
use Rattle.reassembly.specs.Window.{kept_at}
use Rattle.reassembly.proofs.KeptPieces.{runs_skip, runs_none, runs_first_of}
use Rattle.reassembly.proofs.pieces.PiecesIterator.next.Goals as goal

pub returns-in_default-clause-steps : goal.returns-in_default-clause-steps
returns-in_default-clause-steps c =
    let s = c.self.inside in
    let none : (x : ℕ) → s.place ≤ x → is_some (kept_at (window_of s.buffer.now) s.rbuf x) ≡ false = c.in_default.ensures in
    (sym c.self.view_is ∙ runs_none (kept_at (window_of s.buffer.now) s.rbuf) s.left s.place (λ x l h. none x l), refl)

pub returns-then-skip-from-clause-steps : goal.returns-then-skip-from-clause-steps
returns-then-skip-from-clause-steps c =
    let s = c.self.inside in
    let first : IsFirst (kept_at (window_of s.buffer.now) s.rbuf) s.place c.in-Some.start = c.in-Some.ensures in
    (sym c.self.view_is ∙ runs_none (kept_at (window_of s.buffer.now) s.rbuf) s.left s.place (λ x l h. first.gap x l (omega arith)), refl)

-- the positions up to the first kept one are passed over, and then its run comes, as far as the range reaches
stepped : (at : ℕ → Option ℕ) (place left start end len : ℕ) → IsFirst at place start → IsRunEnd at start end → start - place < left → len ≡ min (end - start) (left - (start - place))
    → runs_from at place left ≡ (start, len) ∷ runs_from at (start + len) (left - (start - place) - len)
stepped at place left start end len first run within e =
    let order : place ≤ start = first.order in
    let some : start < end = ⊎_elim
    (λ (l : start < end). l)
    (λ (l : end ≤ start).
    let up : start ≤ end = run.order in
    let same : end ≡ start = omega arith in
    absurd (true≢false (sym first.here ∙ ap (λ x. is_some (at x)) (sym same) ∙ run.stops)))
    (cases_lt start end) in
    runs_skip at (start - place) (left - (start - place)) left place start (omega arith) (omega arith) first.gap
    ∙ runs_first_of at len (left - (start - place) - len) (left - (start - place)) start (start + len) (omega arith) (omega arith) refl
    (λ x l h. run.run x l (omega arith))
    (λ l. ap (λ x. is_some (at x)) (let same : start + len ≡ end = omega arith in same) ∙ run.stops)

pub returns-clause-steps : goal.returns-clause-steps
returns-clause-steps c =
    let s = c.self.inside in
    let first : IsFirst (kept_at (window_of s.buffer.now) s.rbuf) s.place c.in-Some.start = c.in-Some.ensures in
    let left = s.left - (c.in-Some.start - s.place) in
    let len : c.min-len.result ≡ min (c.run_end-end.result - c.in-Some.start) left = c.min-len.ensures ∙ ap (min (c.run_end-end.result - c.in-Some.start)) c.from-2.ensures in
    sym c.self.view_is
    ∙ stepped (kept_at (window_of s.buffer.now) s.rbuf) s.place s.left c.in-Some.start c.run_end-end.result c.min-len.result first c.run_end-end.ensures (omega arith) len
    ∙ ap (λ x. (c.in-Some.start, c.min-len.result) ∷ runs_from (kept_at (window_of s.buffer.now) s.rbuf) (c.in-Some.start + x) (left - c.min-len.result)) (sym c.from-3.ensures)

pub returns-clause-goes : goal.returns-clause-goes
returns-clause-goes c =
    let step = returns-clause-steps c in
    let fewer = ap length step in
    record { on = λ finite. (tt, finite, omega (arith, fewer)); keeps = tt; rests = λ finite. tt }
