use Rattle.lane_composition.proofs.Leaving.{next_left, next_cut, some_left}
use Rattle.lane_composition.proofs.forward.the_next_leaves.Goals as goal

pub returns-clause-whole : goal.returns-clause-whole
returns-clause-whole c = λ lane n given after a old mid new l here others more. next_left lane n given after a old mid new l here others more

pub returns-clause-cut : goal.returns-clause-cut
returns-clause-cut c = λ lane n m given after a old mid new lt l here others cut. next_cut lane n given after a old mid new l here others m lt cut

pub returns-clause-some : goal.returns-clause-some
returns-clause-some c = some_left
