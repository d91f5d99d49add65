use Rattle.lane_composition.proofs.Listed.{listed_share, listed_forwarded}
use Rattle.lane_composition.proofs.forward.numbers_are_places.Goals as goal

pub returns-clause-share : goal.returns-clause-share
returns-clause-share c = λ of l answers d n le. listed_share of l answers d n le

pub returns-clause-bytes : goal.returns-clause-bytes
returns-clause-bytes c = listed_forwarded
