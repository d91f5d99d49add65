use Rattle.std.proofs.Common.{◌≡◌, Some, sym, ap, subst, ◌∙◌, arith}
use Rattle.std.proofs.lemmas.Result.{on_ok_weaker}
use Rattle.std.specs.Option.{option_copied}
use Rattle.app_api.specs.Reg.{reg_of}
use Rattle.connection_core.specs.Numbers.{called_by}
use Rattle.connection_core.specs.Standing.{Steps, raise_of}
use Rattle.connection_core.proofs.terms.Terms.call_number.Goals as goal

pub returns-in-Some-clause-stands : goal.returns-in-Some-clause-stands
returns-in-Some-clause-stands g c =
    on_ok_weaker c.call.result (λ all. λ list s force.
    let app = g.A.App.meaning c.args.self.now.app.now in
    let there : Some c.in-Some.reg.now ≡ reg_of s.regs c.args.number = sym (ap option_copied c.in-Some.is) ∙ c.reg_at.ensures.reg ∙ force.regs c.args.number (omega (arith, c.ranges.number)) in
    subst (λ o. Steps c.args.self.now.keep list c.args.socket.now c.args.notes.now c.args.ledger.now c.call.new.socket c.call.new.notes c.call.new.ledger
    (λ under_way. called_by app s c.args.raise_at.now.number c.args.raise_at.now.from (raise_of c.args.raise_at.now) under_way o)) there
    (all list s force))
    c.call.ensures.stands
