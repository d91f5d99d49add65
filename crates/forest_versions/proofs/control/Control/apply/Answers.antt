use Rattle.std.proofs.Common.{◌≡◌, sym, subst}
use Rattle.std.specs.Prelude.{IsTrue}
use Rattle.forest_versions.specs.declared.command.Command.{Command}
use Rattle.forest_versions.specs.Changes.{ChangesTo}
use Rattle.forest_versions.specs.State.{after}
use Rattle.forest_versions.specs.Lawful.{is_lawful}
use Rattle.forest_versions.proofs.LawfulFacts.{lawful-event, lawful-register}
use Rattle.forest_versions.proofs.control.Control.apply.Goals as goal

pub define-requires : goal.define-requires
define-requires c = lawful-event c.args.self.now c.in-Event.d (subst (λ (k : Command). IsTrue (is_lawful c.args.self.now k)) c.in-Event.is c.requires.lawful)

pub register-requires : goal.register-requires
register-requires c = lawful-register c.args.self.now c.in-Register.r (subst (λ (k : Command). IsTrue (is_lawful c.args.self.now k)) c.in-Register.is c.requires.lawful)

pub returns-in-Event : goal.returns-in-Event
unfolding after
returns-in-Event c =
    subst (λ (k : Command). ChangesTo c.args.self.now c.define.new.self (after c.args.self.now k) c.define.result) (sym c.in-Event.is) c.define.ensures.made

pub returns-in-Register : goal.returns-in-Register
unfolding after
returns-in-Register c =
    subst (λ (k : Command). ChangesTo c.args.self.now c.register.new.self (after c.args.self.now k) c.register.result) (sym c.in-Register.is) c.register.ensures

pub returns-in-Unregister : goal.returns-in-Unregister
unfolding after
returns-in-Unregister c = record { ok = subst (λ (k : Command). c.withdraw.new.self ≡ after c.args.self.now k) (sym c.in-Unregister.is) c.withdraw.ensures; err = tt }
