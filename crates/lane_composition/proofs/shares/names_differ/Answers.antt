use Rattle.lane_composition.proofs.Rising.{names_rise}
use Rattle.lane_composition.proofs.Composed.{names_apart}
use Rattle.lane_composition.proofs.shares.names_differ.Goals as goal

pub returns-clause-rise : goal.returns-clause-rise
returns-clause-rise c = names_rise

pub returns-clause-apart : goal.returns-clause-apart
returns-clause-apart c = names_apart
