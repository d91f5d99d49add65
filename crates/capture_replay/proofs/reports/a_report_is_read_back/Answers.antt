use Rattle.capture_replay.proofs.ReadBack.{report_read_back}
use Rattle.capture_replay.proofs.reports.a_report_is_read_back.Goals as goal

pub returns : goal.returns
returns c = report_read_back c.gained_is_read.ensures c.records_are_tidy.ensures c.packets_of_a_capture_rise.ensures.run
