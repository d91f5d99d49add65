-- The capture without its dropped packets.
use Rattle.std.specs.Prelude.{ℕ, List, [], ◌∷◌, ◌++◌}
use Rattle.app_api.specs.App.{Meaning}
use Rattle.app_api.specs.declared.reaction.Verdict.{Verdict}
use Rattle.app_api.specs.declared.reaction.Verdict.TheVariants.{Pass, Drop}
use Rattle.pcap_source.specs.Captured.{Captured}
use Rattle.control_script.specs.declared.stamped.Stamped.{Stamped}
use Rattle.control_script.specs.Order.{commands_of}
use Rattle.lane_core.specs.Sight.{Arrival, arrivals}
use Rattle.run_outcome.specs.Whole.{verdicts_under}

-- a packet that passes leaves as it was captured, and one that is dropped leaves nothing
abbrev pub bytes_under : Verdict → Captured → List ℕ
bytes_under Pass frame = frame.head ++ frame.bytes
bytes_under (Drop reason) frame = []

-- what captured packets leave, each by what became of it
unfoldable pub left_by_all : List (Arrival × Verdict) → List Captured → List ℕ
left_by_all [] frames = []
left_by_all (j ∷ js) [] = []
left_by_all (j ∷ js) (frame ∷ frames) = bytes_under j.1 frame ++ left_by_all js frames

-- the records of these frames whose packets pass, in order, in a run of which the j-th record has the j-th version
abbrev pub forwarded_with : Meaning → List Stamped → List ℕ → List Captured → List ℕ
forwarded_with app script vs frames = left_by_all (verdicts_under app (commands_of script) vs (arrivals 0 frames)) frames
