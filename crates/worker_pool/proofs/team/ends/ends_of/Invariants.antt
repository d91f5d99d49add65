use Rattle.std.proofs.Common.{◌≡◌, map}
use Rattle.std.specs.Prelude.{Ok}
use Rattle.worker_pool.proofs.team.ends.ends_of.Given as goal

-- so far each lane has an end
abbrev pub invariant-loop-came : goal.invariant-loop-came
invariant-loop-came g l = l.yielded ≡ map (λ end. Ok end) l.ends.items
