use Rattle.std.proofs.Common.{[], refl}
use Rattle.lane_composition.specs.Members.{records}
use Rattle.lane_composition.specs.Allowed.{versions_of}
use Rattle.lane_composition.proofs.Naming.{named_again, judged_again}
use Rattle.lane_composition.proofs.versions.versions_name_the_records.Goals as goal

pub returns-clause-records : goal.returns-clause-records
returns-clause-records c = λ endings ps. named_again endings (versions_of (records endings ps)) [] ps refl

pub returns-clause-verdicts : goal.returns-clause-verdicts
returns-clause-verdicts c = λ endings judge ps. judged_again endings judge (versions_of (records endings ps)) [] ps refl
