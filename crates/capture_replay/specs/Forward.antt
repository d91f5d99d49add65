-- The capture without its dropped packets.
use Rattle.std.specs.Prelude.{ℕ, List, []}
use Rattle.app_api.specs.App.{Meaning}
use Rattle.pcap_source.specs.Captured.{Captured}
use Rattle.control_script.specs.declared.stamped.Stamped.{Stamped}
use Rattle.lane_core.specs.Records.{VersionedPacket}
use Rattle.lane_core.specs.Verdicts.{verdicts_from}
use Rattle.run_outcome.specs.Forwarded.{left_by_all}
use Rattle.capture_replay.specs.Records.{control_at}

-- the records of a capture whose packets pass, in order
abbrev pub forwarded : Meaning → List Stamped → (List Captured → List VersionedPacket) → List Captured → List ℕ
forwarded app script given frames = left_by_all (verdicts_from app (control_at app script) [] (given frames)) frames
