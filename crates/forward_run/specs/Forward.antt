-- Not of the headline. A forward run on several lanes: the capture without its dropped packets, in its order, under versions that the run may have.
use Rattle.std.specs.Prelude.{◌≡◌, ℕ, List, Option, Result, Ok, Err, ⊤}
use Rattle.std.specs.Io.KnownBytes.{Appends}
use Rattle.mos_bytes.specs.Writes.{AppendsFront}
use Rattle.app_api.specs.App.{Meaning}
use Rattle.pcap_source.specs.Captured.{Captured}
use Rattle.pcap_source.specs.Capture.{Frames, tail, too_long, too_many}
use Rattle.control_script.specs.declared.stamped.Stamped.{Stamped}
use Rattle.run_outcome.specs.Allowed.{MayHave}
use Rattle.worker_pool.specs.declared.job.PoolError.{PoolError}
use Rattle.worker_pool.specs.declared.job.PoolError.TheVariants.{TooLong, TooMany, ReadFault, WriteFault, Heavy, NoMemory}
use Rattle.run_outcome.specs.Forwarded.{forwarded_with}

-- why a forward run over a capture ends before it is whole; a run that keeps no entries is never too heavy
abbrev pub RefusedAs : Frames → PoolError → Type 0
RefusedAs f (TooLong offset) = f.ending ≡ too_long offset
RefusedAs f (TooMany offset) = f.ending ≡ too_many offset
RefusedAs f ReadFault = ⊤
RefusedAs f WriteFault = ⊤
RefusedAs f Heavy = ⊥
RefusedAs f NoMemory = ⊤

module _ (app : Meaning) (script : List Stamped) (lanes : ℕ) where
  -- all that these frames leave was written, and nothing else
  pub record ForwardsAll (frames : List Captured) (versions : List ℕ) (old new : Option (List ℕ)) : Type 0 where
    pub may_have : MayHave app script lanes frames versions
    pub written : Appends old new (forwarded_with app script versions frames)

  -- a front of what they leave was written
  pub record ForwardsFront (frames : List Captured) (old new : Option (List ℕ)) : Type 0 where
    pub versions : List ℕ
    pub may_have : MayHave app script lanes frames versions
    pub front : AppendsFront old new (forwarded_with app script versions frames)

  -- how a forward run over a capture ends: it answers the versions of its records, or why it ended
  abbrev pub ForwardsOver : Frames → Option (List ℕ) → Option (List ℕ) → Result (List ℕ) PoolError → Type 0
  ForwardsOver f old new (Ok versions) = (n : ℕ) × (f.ending ≡ tail n) × ForwardsAll f.frames versions old new
  ForwardsOver f old new (Err e) = RefusedAs f e × ForwardsFront f.frames old new
