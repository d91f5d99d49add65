use Rattle.std.proofs.Common.{◌∙◌, ◌≡◌, sym, subst, arith, refl, take, List}
use Rattle.std.specs.Prelude.{IsTrue}
use Rattle.std.specs.List.{All}
use Rattle.std.proofs.lemmas.List.{take_all}
use Rattle.std.proofs.lemmas.List.Elements.{All-more}
use Rattle.app_api.specs.declared.registration.Reg.{Reg}
use Rattle.event_trees.specs.Defs.{is_event}
use Rattle.event_trees.proofs.private.have_events.Goals as goal

pub loop-reg-preserved : goal.loop-reg-preserved
loop-reg-preserved c = All-more (λ (r : Reg). IsTrue (is_event c.args.defs.now r.event)) c.args.list.now c.loop-reg.reg-index c.reg-item.result
    c.loop-reg-test.true c.loop-reg.invariant (subst (λ (r : Reg). IsTrue (is_event c.args.defs.now r.event)) c.reg-item.is (sym c.is_event.ensures ∙ c.if-not-is_event.false))

pub returns : goal.returns
returns c =
    let whole : take c.loop-reg.reg-index c.args.list.now ≡ c.args.list.now = take_all c.loop-reg.reg-index c.args.list.now (omega arith) in
    (λ e. subst (λ (l : List Reg). All (λ (r : Reg). IsTrue (is_event c.args.defs.now r.event)) l) whole c.loop-reg.invariant, λ h. refl)
