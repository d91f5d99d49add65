use Rattle.connection_core.proofs.Firing.{calls_what_fires}
use Rattle.connection_core.proofs.laws.callbacks_are_those_that_fire.Goals as goal

pub returns : goal.returns
returns c = calls_what_fires
