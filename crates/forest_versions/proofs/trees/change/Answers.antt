use Rattle.std.proofs.Common.{sym, subst}
use Rattle.std.specs.Prelude.{IsTrue}
use Rattle.forest_versions.specs.declared.command.Command.{Command}
use Rattle.forest_versions.specs.Changes.{ChangesTo}
use Rattle.forest_versions.specs.State.{after}
use Rattle.forest_versions.specs.Lawful.{is_lawful}
use Rattle.forest_versions.proofs.LawfulFacts.{lawful-event, lawful-register}
use Rattle.forest_versions.proofs.trees.change.Goals as goal

pub define-requires : goal.define-requires
define-requires g c = lawful-event c.args.control.now c.in-Event.d (subst (λ (k : Command). IsTrue (is_lawful c.args.control.now k)) c.in-Event.is c.requires.lawful)

pub register-requires-clause-fits : goal.register-requires-clause-fits
register-requires-clause-fits g c = lawful-register c.args.control.now c.in-Register.r (subst (λ (k : Command). IsTrue (is_lawful c.args.control.now k)) c.in-Register.is c.requires.lawful)

pub returns-in-Event-clause-made : goal.returns-in-Event-clause-made
unfolding after
returns-in-Event-clause-made g c =
    subst (λ (k : Command). ChangesTo c.args.control.now c.define.new.self (after c.args.control.now k) c.define.result) (sym c.in-Event.is) c.define.ensures.made

pub returns-in-Register-clause-made : goal.returns-in-Register-clause-made
unfolding after
returns-in-Register-clause-made g c =
    subst (λ (k : Command). ChangesTo c.args.control.now c.register.new.control (after c.args.control.now k) c.register.result) (sym c.in-Register.is) c.register.ensures.made

pub returns-in-Unregister-clause-made : goal.returns-in-Unregister-clause-made
unfolding after
returns-in-Unregister-clause-made g c =
    subst (λ (k : Command). ChangesTo c.args.control.now c.withdraw.new.control (after c.args.control.now k) c.withdraw.result) (sym c.in-Unregister.is) c.withdraw.ensures.made
