use Rattle.lane_composition.specs.Members.{name_of}
use Rattle.run_outcome.specs.Lanes.{lane_of}
use Rattle.lane_composition.proofs.Parts.{same_parts}
use Rattle.lane_composition.proofs.shares.parts_make_the_whole.Goals as goal

pub returns-clause-records : goal.returns-clause-records
returns-clause-records c = λ lane ms ns rises also same. same_parts name_of (λ m. lane_of lane m.first.sight) ms ns rises also same

pub returns-clause-shown : goal.returns-clause-shown
returns-clause-shown c = λ of rs ss rises also same. same_parts (λ r. r.name) (λ r. of r.name) rs ss rises also same
