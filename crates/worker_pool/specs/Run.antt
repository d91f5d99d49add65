-- Not of the headline. What a run on several lanes comes to: that of one run over all packets, under versions that it may have.
use Rattle.std.specs.Prelude.{◌≡◌, ℕ, ◌<◌, ◌≤◌, List, length, map, Result, Ok, Err, ⊤}
use Rattle.app_api.specs.App.{Meaning}
use Rattle.pcap_source.specs.Captured.{Captured}
use Rattle.pcap_source.specs.Capture.{Frames, tail, too_long, too_many}
use Rattle.control_script.specs.declared.stamped.Stamped.{Stamped}
use Rattle.lane_core.specs.KeptEnd.{shown_as}
use Rattle.lane_core.specs.Shown.{record_of, weight}
use Rattle.worker_pool.specs.declared.job.KeptLanes.{KeptLanes}
use Rattle.worker_pool.specs.declared.job.LanesEnd.{LanesEnd}
use Rattle.worker_pool.specs.declared.job.PoolError.{PoolError}
use Rattle.worker_pool.specs.declared.job.PoolError.TheVariants.{TooLong, TooMany, ReadFault, WriteFault, Heavy, NoMemory}
use Rattle.run_outcome.specs.Totals.{totals_of}
use Rattle.run_outcome.specs.Allowed.{MayHave, run_of}

-- what a run on lanes ends with, its records as the report shows them
abbrev pub as_shown : Meaning → KeptLanes → LanesEnd
as_shown app end = record { records = shown_as app end.records; versions = end.versions; totals = end.totals }

abbrev pub shown_end : Meaning → Result KeptLanes PoolError → Result LanesEnd PoolError
shown_end app (Ok end) = Ok (as_shown app end)
shown_end app (Err e) = Err e

module _ (app : Meaning) (script : List Stamped) (lanes : ℕ) where
  -- all records of such a run, their versions, and what is counted over them
  pub record IsWhole (frames : List Captured) (rest : ℕ) (end : LanesEnd) : Type 0 where
    pub allowed : MayHave app script lanes frames end.versions
    pub light : weight (run_of app script end.versions frames) ≤ 134217728
    pub records_are : end.records ≡ map (record_of app) (run_of app script end.versions frames)
    pub totals_are : end.totals ≡ totals_of (run_of app script end.versions frames) (length frames) rest

  -- such a run weighs too much
  pub record IsTooHeavy (frames : List Captured) : Type 0 where
    pub versions : List ℕ
    pub allowed : MayHave app script lanes frames versions
    pub heavy : 134217728 < weight (run_of app script versions frames)

  -- how a run on lanes over a capture ends
  abbrev pub EndsOver : Frames → Result LanesEnd PoolError → Type 0
  EndsOver f (Ok end) = (n : ℕ) × (f.ending ≡ tail n) × IsWhole f.frames n end
  EndsOver f (Err (TooLong offset)) = f.ending ≡ too_long offset
  EndsOver f (Err (TooMany offset)) = f.ending ≡ too_many offset
  EndsOver f (Err Heavy) = (n : ℕ) × (f.ending ≡ tail n) × IsTooHeavy f.frames
  EndsOver f (Err ReadFault) = ⊤
  EndsOver f (Err WriteFault) = ⊥
  EndsOver f (Err NoMemory) = ⊤
