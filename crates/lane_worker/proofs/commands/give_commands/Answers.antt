use Rattle.control_script.specs.Order.{commands_of}
use Rattle.lane_worker.proofs.Taking.{takes_nothing}
use Rattle.lane_worker.proofs.commands.give_commands.Goals as goal

pub returns-then-version-clause-takes : goal.returns-then-version-clause-takes
returns-then-version-clause-takes g c = takes_nothing g.L.Recorder (commands_of c.args.script.now) c.args.lane.now c.requires.good
