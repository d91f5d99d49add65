use Rattle.control_script.proofs.Admission.{begins}
use Rattle.control_script.proofs.progress.Progress.new.Goals as goal

pub returns-clause-stands : goal.returns-clause-stands
returns-clause-stands c = begins c.args.presets.now _ c.new.ensures c.in_ok-control.ensures.ok
