use Rattle.pcap_source.specs.Capture.{capture_of}
use Rattle.capture_replay.specs.Records.{frames_in}
use Rattle.capture_replay.proofs.Ceilings.{known_versions}
use Rattle.capture_replay.proofs.laws.without_live_commands_all_versions_are_known.Goals as goal

pub returns : goal.returns
returns c = λ app script workers bytes vs ordered stamped may.
    known_versions c.a_run_has_its_versions.ensures.versions c.without_live_commands_there_is_one_run.ensures.records app script workers (frames_in (capture_of bytes)) vs
    (λ n. c.a_script_gives_floors_and_ceilings.ensures.equal script n ordered stamped) may
