use Rattle.lane_composition.proofs.Stamps.{floor_within, ceil_rises, floor_is_ceil}
use Rattle.lane_composition.proofs.versions.stamps_give_floors_and_ceilings.Goals as goal

pub returns-clause-within : goal.returns-clause-within
returns-clause-within c = floor_within

pub returns-clause-rises : goal.returns-clause-rises
returns-clause-rises c = ceil_rises

pub returns-clause-equal : goal.returns-clause-equal
returns-clause-equal c = floor_is_ceil
