-- Runs of kept bytes, whoever keeps them.
use Rattle.std.proofs.Common.{◌≡◌, ℕ, ◌+◌, ◌-◌, ◌<◌, ◌≤◌, zero, suc, Bool, true, false, cond, refl, ap, ap₂, ◌∙◌, sym, arith, List, [], ◌∷◌, Option, Some, None, is_some, length, slice_index, min, leb, add-zero, true≢false, ⊎_elim}
use Rattle.std.proofs.lemmas.Bool.{cases_lt}
use Rattle.reassembly.specs.declared.window.Window.{Window}
use Rattle.reassembly.specs.Receiver.{Receiver, kept}
use Rattle.reassembly.specs.Kept.{byte_then, bytes_from, run_then, runs_from, IsRunEnd}
use Rattle.reassembly.specs.View.{StandsFor}
use Rattle.reassembly.specs.Runs.{is_accepted}
use Rattle.reassembly.specs.Window.{byte_at, kept_at, view_of, IsLaid}
use Rattle.reassembly.specs.Waiting.{runs_of}
use Rattle.reassembly.proofs.Placing.{held_viewed, some_of_cond, kept_cell}
use Rattle.reassembly.proofs.KeptRuns.{kept_low}

-- the window keeps what the receiver keeps
pub kept_same : (w : Window) (fin : Option ℕ) (rbuf : ℕ) → IsLaid w → (r : Receiver) → StandsFor (view_of w fin rbuf) r → (p : ℕ) → kept_at w rbuf p ≡ kept r.cells rbuf p
kept_same w fin rbuf laid r h p = sym (held_viewed w fin rbuf laid p) ∙ h.cells p

pub bytes_same : (at by : ℕ → Option ℕ) → ((p : ℕ) → at p ≡ by p) → (n p : ℕ) → bytes_from at p n ≡ bytes_from by p n
bytes_same at by same zero p = refl
bytes_same at by same (suc n) p = ap₂ byte_then (same p) (bytes_same at by same n (p + 1))

none_here : (c : Option ℕ) → is_some c ≡ false → (rest : List ℕ) → byte_then c rest ≡ []
none_here None e rest = refl
none_here (Some x) e rest = absurd (true≢false e)

-- bytes that stand at the run's positions, up to its end or to the n-th, are the run
pub bytes_are : (at : ℕ → Option ℕ) (xs : List ℕ) (n p : ℕ) → length xs ≤ n → ((i : ℕ) → i < length xs → at (p + i) ≡ Some (slice_index xs i))
    → (length xs < n → is_some (at (p + length xs)) ≡ false) → bytes_from at p n ≡ xs
bytes_are at [] zero p l here stops = refl
bytes_are at [] (suc n) p l here stops = none_here (at p) (ap (λ x. is_some (at x)) (sym (add-zero p)) ∙ stops (omega arith)) (bytes_from at (p + 1) n)
bytes_are at (x ∷ xs) zero p l here stops = absurd (omega arith)
bytes_are at (x ∷ xs) (suc n) p l here stops =
    let first : at p ≡ Some x = ap at (sym (add-zero p)) ∙ here 0 (omega arith) in
    let rest : bytes_from at (p + 1) n ≡ xs = bytes_are at xs n (p + 1) (omega arith)
    (λ i b. ap at (let e : p + 1 + i ≡ p + suc i = omega arith in e) ∙ here (suc i) (omega arith))
    (λ b. ap (λ y. is_some (at y)) (let e : p + 1 + length xs ≡ p + suc (length xs) = omega arith in e) ∙ stops (omega arith)) in
    ap₂ byte_then first rest

pub runs_same : (at by : ℕ → Option ℕ) → ((p : ℕ) → at p ≡ by p) → (n p : ℕ) → runs_from at p n ≡ runs_from by p n
runs_same at by same zero p = refl
runs_same at by same (suc n) p = ap₂ (λ c rest. run_then c p rest) (same p) (runs_same at by same n (p + 1))

some_of : (low accepted : Bool) (byte : ℕ) → is_some (cond low (cond accepted (Some byte) None) None) ≡ true → cond low (cond accepted (Some byte) None) None ≡ Some byte
some_of true true byte e = refl
some_of true false byte e = absurd (true≢false (sym e))
some_of false accepted byte e = absurd (true≢false (sym e))

-- what the window keeps at a kept position
some_byte : (w : Window) (rbuf p : ℕ) → is_some (kept_at w rbuf p) ≡ true → kept_at w rbuf p ≡ Some (byte_at w p)
some_byte w rbuf p e = some_of (leb (w.next - rbuf) p) (is_accepted w.next (runs_of w.runs) p) (byte_at w p) e

kept_from : (w : Window) (rbuf p : ℕ) → is_some (kept_at w rbuf p) ≡ true → w.next - rbuf ≤ p
kept_from w rbuf p e = ⊎_elim
    (λ (l : p < w.next - rbuf). absurd (true≢false (sym e ∙ kept_low w rbuf p l)))
    (λ (l : w.next - rbuf ≤ p). l)
    (cases_lt p (w.next - rbuf))

-- what is kept is accepted
kept_accepted : (w : Window) (rbuf p : ℕ) → is_some (kept_at w rbuf p) ≡ true → is_accepted w.next (runs_of w.runs) p ≡ true
kept_accepted w rbuf p e = sym (some_of_cond (is_accepted w.next (runs_of w.runs) p) (byte_at w p)) ∙ ap is_some (sym (kept_cell w rbuf p (kept_from w rbuf p e))) ∙ e

-- the buffer has the run that is to be read
pub record IsReadable (w : Window) (rbuf p n : ℕ) : Type 0 where
  pub from : w.next - rbuf ≤ p
  pub accepted : (x : ℕ) → p ≤ x → x < p + n → is_accepted w.next (runs_of w.runs) x ≡ true

pub readable : (w : Window) (rbuf p e n : ℕ) → IsRunEnd (kept_at w rbuf) p e → p + n ≤ e → 0 < n → IsReadable w rbuf p n
readable w rbuf p e n run l some = record {
  from = kept_from w rbuf p (run.run p (omega arith) (omega arith));
  accepted = λ x from below. kept_accepted w rbuf x (run.run x from (omega arith));
}

-- what is copied is the run, as far as it and the buffer reach
pub bytes_read : (w : Window) (fin : Option ℕ) (rbuf p e n : ℕ) (xs : List ℕ) → IsLaid w → IsRunEnd (kept_at w rbuf) p e → length xs ≡ min (e - p) n
    → ((i : ℕ) → i < length xs → slice_index xs i ≡ byte_at w (p + i))
    → (r : Receiver) → StandsFor (view_of w fin rbuf) r → xs ≡ bytes_from (kept r.cells rbuf) p n
bytes_read w fin rbuf p e n xs laid run len copied r h =
    let order : p ≤ e = run.order in
    sym (sym (bytes_same (kept_at w rbuf) (kept r.cells rbuf) (kept_same w fin rbuf laid r h) n p)
    ∙ bytes_are (kept_at w rbuf) xs n p (omega arith)
    (λ i l. some_byte w rbuf (p + i) (run.run (p + i) (omega arith) (omega arith)) ∙ ap Some (sym (copied i l)))
    (λ l. ap (λ x. is_some (kept_at w rbuf x)) (let same : p + length xs ≡ e = omega arith in same) ∙ run.stops))
