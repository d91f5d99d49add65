use Rattle.lane_core.proofs.Dropping.{dropped, dropped_at_end}
use Rattle.lane_core.proofs.laws.drops_are_verdicts.Goals as goal

pub returns : goal.returns
returns c = record {
  so_far = λ app control_at ps. dropped app control_at ps;
  at_end = λ app control_at last ps. dropped_at_end app control_at last ps;
}
