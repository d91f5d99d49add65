use Rattle.std.proofs.Common.{[]}
use Rattle.lane_core.proofs.Restricted.{restricted, restricted_at}
use Rattle.lane_core.proofs.laws.records_by_key.Goals as goal

pub returns : goal.returns
returns c = record {
  so_far = λ app control_at keys others ps. restricted app control_at keys others [] ps;
  at_end = λ app control_at keys others last ps. restricted_at app control_at keys others last ps;
}
