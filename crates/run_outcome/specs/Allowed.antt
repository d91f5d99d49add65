-- Which versions a run over captured packets may have, and its records under them.
use Rattle.std.specs.Prelude.{ℕ, List}
use Rattle.flow_table.specs.Lane.{lane_of_key}
use Rattle.app_api.specs.App.{Meaning}
use Rattle.pcap_source.specs.Captured.{Captured}
use Rattle.control_script.specs.declared.stamped.Stamped.{Stamped}
use Rattle.control_script.specs.Order.{commands_of}
use Rattle.control_script.specs.Versions.{floor, ceil}
use Rattle.lane_core.specs.Sight.{arrivals}
use Rattle.lane_core.specs.Records.{RecordSoFar}
use Rattle.run_outcome.specs.Whole.{IsAllowedRun, run_under}

-- Versions that the records of these frames may have: each at least the floor of the record's first packet and at most its ceiling,
-- and never falling along the records of one of so many lanes.
abbrev pub MayHave : Meaning → List Stamped → ℕ → List Captured → List ℕ → Type 0
MayHave app script lanes frames vs =
    IsAllowedRun app (commands_of script) (floor script) (ceil script) (λ key. lane_of_key key lanes) (arrivals 0 frames) vs

-- the records of one run over these frames, of which the j-th has the j-th version
abbrev pub run_of : Meaning → List Stamped → List ℕ → List Captured → List RecordSoFar
run_of app script vs frames = run_under app (commands_of script) vs (arrivals 0 frames)
