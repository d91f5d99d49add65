use Rattle.std.proofs.Common.{◌-◌, ◌/◌, ◌<◌, ◌≤◌, arith, length, ⊎_elim}
use Rattle.std.proofs.lemmas.Bool.{cases_lt}
use Rattle.reassembly.specs.Waiting.{runs_of}
use Rattle.reassembly.proofs.Paged.{held_within}
use Rattle.reassembly.proofs.Taken.{accepted_below}
use Rattle.reassembly.proofs.window.Window.forget.Goals as goal

pub forget-requires-clause-reaches : goal.forget-requires-clause-reaches
forget-requires-clause-reaches c =
    let w = c.args.self.now in
    let low = c.saturating_sub-low.result in
    let within : (low - w.bytes.base) / 2048 ≤ length w.bytes.keys.items = ⊎_elim
    (λ (some : w.bytes.base < low).
    let last : (low - 1 - w.bytes.base) / 2048 < length w.bytes.keys.items = held_within w.bytes (low - 1)
    (c.requires.laid.held (low - 1) (omega arith) (accepted_below w.next (runs_of w.runs) (low - 1) (omega arith))) in
    omega arith)
    (λ (none : low ≤ w.bytes.base). omega arith)
    (cases_lt w.bytes.base low) in
    record { keyed = c.requires.laid.keyed; from = omega arith; within = omega arith }
