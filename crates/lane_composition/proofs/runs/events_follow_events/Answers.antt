use Rattle.lane_composition.proofs.Taken.{commands_follow, packets_follow, verdicts_follow}
use Rattle.lane_composition.proofs.runs.events_follow_events.Goals as goal

pub returns-clause-commands : goal.returns-clause-commands
returns-clause-commands c = λ events more. commands_follow events more

pub returns-clause-packets : goal.returns-clause-packets
returns-clause-packets c = λ v events more. packets_follow v events more

pub returns-clause-verdicts : goal.returns-clause-verdicts
returns-clause-verdicts c = λ app before events more. verdicts_follow app before events more
