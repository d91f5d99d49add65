use Rattle.capture_replay.proofs.Passed.{forwarded_again}
use Rattle.capture_replay.proofs.verdicts.what_is_forwarded_is_a_capture.Goals as goal

pub returns : goal.returns
returns c = forwarded_again c.some_records_are_a_capture.ensures
