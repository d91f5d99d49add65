use Rattle.capture_replay.proofs.Passed.{lines_are_verdicts}
use Rattle.capture_replay.proofs.verdicts.drop_lines_are_verdicts.Goals as goal

pub returns : goal.returns
returns c = lines_are_verdicts c.drops_are_verdicts.ensures
