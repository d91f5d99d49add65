use Rattle.pcap_source.specs.Capture.{capture_of}
use Rattle.capture_replay.specs.Records.{frames_in}
use Rattle.capture_replay.proofs.Ceilings.{ceilings_allowed, same_forwarded, same_outcome, same_records}
use Rattle.capture_replay.proofs.laws.what_one_worker_has_is_allowed.Goals as goal

pub returns-clause-allowed : goal.returns-clause-allowed
returns-clause-allowed c = λ app script workers bytes ordered.
    let stamps = c.a_script_gives_floors_and_ceilings.ensures in
    ceilings_allowed app script (frames_in (capture_of bytes)) c.ceilings_are_allowed.ensures stamps.rises c.packets_of_a_capture_rise.ensures.numbers
    c.a_run_has_its_versions.ensures.versions c.without_live_commands_there_is_one_run.ensures.records workers (λ n. stamps.within script n ordered)

pub returns-clause-outcome : goal.returns-clause-outcome
returns-clause-outcome c =
    same_outcome c.ceilings_are_allowed.ensures c.a_script_gives_floors_and_ceilings.ensures.rises c.packets_of_a_capture_rise.ensures.numbers
    c.a_run_has_its_versions.ensures.versions c.without_live_commands_there_is_one_run.ensures.records c.without_live_commands_there_is_one_run.ensures.verdicts

pub returns-clause-forwarded : goal.returns-clause-forwarded
returns-clause-forwarded c =
    same_forwarded c.ceilings_are_allowed.ensures c.a_script_gives_floors_and_ceilings.ensures.rises c.packets_of_a_capture_rise.ensures.numbers
    c.a_run_has_its_versions.ensures.versions c.without_live_commands_there_is_one_run.ensures.records c.without_live_commands_there_is_one_run.ensures.verdicts

pub returns-clause-records : goal.returns-clause-records
returns-clause-records c = λ app script bytes.
    same_records app script (frames_in (capture_of bytes)) c.ceilings_are_allowed.ensures c.a_script_gives_floors_and_ceilings.ensures.rises
    c.packets_of_a_capture_rise.ensures.numbers c.a_run_has_its_versions.ensures.versions c.without_live_commands_there_is_one_run.ensures.records
