-- The records of a run.
use Rattle.std.specs.Prelude.{ℕ, List, [], map, Result, Ok, Err}
use Rattle.app_api.specs.App.{Meaning}
use Rattle.pcap_source.specs.Captured.{Captured}
use Rattle.pcap_source.specs.Capture.{Frames}
use Rattle.pcap_source.specs.declared.errors.OpenError.{OpenError}
use Rattle.forest_versions.specs.State.{ControlState, master}
use Rattle.control_script.specs.declared.stamped.Stamped.{Stamped}
use Rattle.control_script.specs.Order.{commands_of}
use Rattle.control_script.specs.Versions.{ceil}
use Rattle.lane_core.specs.Sight.{arrivals}
use Rattle.lane_core.specs.Records.{VersionedPacket, RecordSoFar, records, versioned, ended_at}
use Rattle.run_outcome.specs.Greatest.{greatest}
pub use Rattle.lane_core.specs.Versions.{versions_in as versions_of}
use Rattle.run_outcome.specs.Whole.{packets_under}

-- what is in force at each version: after the first so many commands of the script
abbrev pub control_at : Meaning → List Stamped → ℕ → ControlState
control_at app script = master app.presets (commands_of script)

-- ---- the packets of a capture, each with the version of the record that it would begin

-- with one worker: the commands up to the packet's ceiling
abbrev pub packets_of : List Stamped → List Captured → List VersionedPacket
packets_of script frames = versioned (ceil script) (arrivals 0 frames)

-- the j-th record has the j-th of these versions
abbrev pub packets_with : Meaning → List Stamped → List ℕ → List Captured → List VersionedPacket
packets_with app script vs frames = packets_under app (commands_of script) vs (arrivals 0 frames)

-- ---- a run, where `given` gives packets their versions

module _ (app : Meaning) (script : List Stamped) (given : List Captured → List VersionedPacket) where
  -- The records of a capture: at its end each open connection has ended that was silent for too long by the greatest moment of all
  -- packets.
  abbrev pub records_of : List Captured → List RecordSoFar
  records_of frames = map (ended_at app (control_at app script) (greatest (arrivals 0 frames))) (records app (control_at app script) (given frames))

-- the frames of a capture; none where its header is refused
abbrev pub frames_in : Result Frames OpenError → List Captured
frames_in (Ok f) = f.frames
frames_in (Err e) = []
