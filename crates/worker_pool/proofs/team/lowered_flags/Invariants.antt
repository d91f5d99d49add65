use Rattle.std.proofs.Common.{◌≡◌, ◌≤◌, vec_len}
use Rattle.std.specs.Vec.{vec_capacity}
use Rattle.worker_pool.proofs.team.lowered_flags.Given as goal

-- a flag a round, and room for all
abbrev pub invariant-loop : goal.invariant-loop
invariant-loop l = (vec_len l.flags ≡ l.counter) × (l.count ≤ vec_capacity l.flags)
