-- Each piece of a peek at a place has a byte.
use Rattle.std.proofs.Common.{◌≡◌, ℕ, zero, suc, ◌+◌, ◌<◌, true, false, Option, Some, None, List, [], ◌∷◌, length, map, refl, ap, arith}
use Rattle.std.proofs.lemmas.Grind.{common_steps}
use Rattle.std.specs.Prelude.{if◌then◌else◌, is_some, nat_eq, nat_lt}
use Rattle.std.specs.List.{list_all, AllByRecursion}
use Rattle.tcp_emulation.specs.declared.segment.Side.{Side}
use Rattle.reassembly.specs.Receiver.{kept}
use Rattle.reassembly.specs.Kept.{bytes_from, byte_then, join_run, run_then, runs_from}
use Rattle.flow_socket.specs.Emulation.{Emulation, direction_of}
use Rattle.flow_socket.specs.Peek.{runs_at, pieces_at}
use Rattle.report_text.specs.Tidy.{has_byte}

module _ (at : ℕ → Option ℕ) where
  -- a run begins at a kept position, and is no empty one
  abbrev IsARun : ℕ × ℕ → Type 0
  IsARun run = (is_some (at run.0) ≡ true) × (0 < run.1)

  joined : (p : ℕ) (runs : List (ℕ × ℕ)) → is_some (at p) ≡ true → AllByRecursion IsARun runs → AllByRecursion IsARun (join_run p runs)
  joined p [] here all = ((here, omega arith), tt)
  joined p (run ∷ runs) here all =
      elim (nat_eq run.0 (p + 1)) as (λ b. AllByRecursion IsARun (if b then (p, run.1 + 1) ∷ runs else (p, 1) ∷ run ∷ runs)) [
        | true ↦ ((here, omega arith), all.1)
        | false ↦ ((here, omega arith), all)
      ]

  then_runs : (o : Option ℕ) (p : ℕ) (runs : List (ℕ × ℕ)) → at p ≡ o → AllByRecursion IsARun runs → AllByRecursion IsARun (run_then o p runs)
  then_runs None p runs is all = all
  then_runs (Some b) p runs is all = joined p runs (ap is_some is) all

  are_runs : (p n : ℕ) → AllByRecursion IsARun (runs_from at p n)
  are_runs p zero = tt
  are_runs p (suc n) = then_runs (at p) p (runs_from at (p + 1) n) refl (are_runs (p + 1) n)

  first_byte : (o : Option ℕ) (rest : List ℕ) → is_some o ≡ true → nat_lt 0 (length (byte_then o rest)) ≡ true
  first_byte None rest some = absurd (cc)
  first_byte (Some b) rest some = grind (arith, common_steps)

  run_has_byte : (p n : ℕ) → is_some (at p) ≡ true → 0 < n → nat_lt 0 (length (bytes_from at p n)) ≡ true
  run_has_byte p zero here some = absurd (omega arith)
  run_has_byte p (suc n) here some = first_byte (at p) (bytes_from at (p + 1) n) here

  pieces : List (ℕ × ℕ) → List (ℕ × List ℕ)
  pieces runs = map (λ run. (run.0, bytes_from at run.0 run.1)) runs

  pub have_bytes : (runs : List (ℕ × ℕ)) → AllByRecursion IsARun runs → list_all has_byte (map (λ run. (run.0, bytes_from at run.0 run.1)) runs) ≡ true
  have_bytes [] all = refl
  have_bytes (run ∷ runs) all = rw (run_has_byte run.0 run.1 all.0.0 all.0.1) (have_bytes runs all.1)

pub pieces_have_bytes : (from : Side) (place n : ℕ) (e : Emulation) → list_all has_byte (pieces_at from place n e) ≡ true
unfolding pieces_at runs_at
pieces_have_bytes from place n e =
    let at = kept (direction_of from e).receiver.cells e.rbuf in have_bytes at (runs_from at place n) (are_runs at place n)
