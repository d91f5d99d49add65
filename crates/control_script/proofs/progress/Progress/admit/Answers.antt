use Rattle.std.proofs.Common.{sym, ◌∙◌}
use Rattle.control_script.proofs.Admission.{lawful-one, stands-on}
use Rattle.control_script.proofs.progress.Progress.admit.Goals as goal

pub apply-requires : goal.apply-requires
apply-requires c = record { lawful = lawful-one c.args.self.now.control c.args.stamped.command c.requires.within (sym c.refusal.ensures ∙ c.in-None.is) }

pub returns-in_ok-push-in-None-clause-stands : goal.returns-in_ok-push-in-None-clause-stands
returns-in_ok-push-in-None-clause-stands c presets stands =
    stands-on presets c.args.self.now _ c.args.stamped stands (lawful-one c.args.self.now.control c.args.stamped.command c.requires.within (sym c.refusal.ensures ∙ c.in-None.is))
    c.in_ok-apply-in-None.ensures.ok c.in_ok-push-in-None.ensures.ok
