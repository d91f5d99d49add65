use Rattle.lane_composition.proofs.Scripts.{within, rises, equal, count}
use Rattle.lane_composition.proofs.versions.a_script_gives_floors_and_ceilings.Goals as goal

pub returns-clause-within : goal.returns-clause-within
returns-clause-within c = λ script n ordered. within script n ordered

pub returns-clause-rises : goal.returns-clause-rises
returns-clause-rises c = λ script n m le. rises script n m le

pub returns-clause-equal : goal.returns-clause-equal
returns-clause-equal c = λ script n ordered none. equal script n ordered none

pub returns-clause-count : goal.returns-clause-count
returns-clause-count c = λ script n. count script n
