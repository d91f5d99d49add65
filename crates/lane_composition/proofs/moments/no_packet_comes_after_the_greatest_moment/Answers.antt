use Rattle.lane_composition.proofs.Latest.{none_is_later, is_among, none_is_none}
use Rattle.lane_composition.proofs.moments.no_packet_comes_after_the_greatest_moment.Goals as goal

pub returns-clause-greatest : goal.returns-clause-greatest
returns-clause-greatest c = λ packets moment is. none_is_later moment packets is

pub returns-clause-own : goal.returns-clause-own
returns-clause-own c = λ packets moment is. is_among moment packets is

pub returns-clause-none : goal.returns-clause-none
returns-clause-none c = λ packets is. none_is_none packets is
