use Rattle.std.proofs.Common.{◌≡◌, ◌+◌, List, sym, subst}
use Rattle.app_api.specs.declared.registration.Reg.{Reg}
use Rattle.event_trees.specs.Private.{IsPrivate, put_reg}
use Rattle.forest_versions.proofs.Presets.{Placing, placing-first, placing-fits, placing-next, allowed-root, root-there}
use Rattle.forest_versions.proofs.control.presets_in.Goals as goal

pub loop-reg-init : goal.loop-reg-init
loop-reg-init c = subst (λ (l : List Reg). Placing c.args.defs.now c.args.presets.now l 0) (sym c.new.ensures.items) (placing-first c.args.defs.now c.args.presets.now c.requires.lawful)

pub switch-requires-clause-event : goal.switch-requires-clause-event
switch-requires-clause-event c =
    let fits = placing-fits c.args.defs.now c.args.presets.now c.loop-reg.regs c.loop-reg.reg-index c.reg-item.result c.loop-reg.invariant c.loop-reg-test.true c.reg-item.is in
    root-there c.args.defs.now c.reg-item.result.event (allowed-root c.reg-item.result.event c.reg-item.result.hook fits.hook)

pub loop-reg-preserved : goal.loop-reg-preserved
loop-reg-preserved c =
    let made : c.switch.new.active ≡ put_reg c.args.defs.now c.reg-item.result c.loop-reg.regs = c.in_ok-switch.ensures.ok in
    subst (λ (l : List Reg). Placing c.args.defs.now c.args.presets.now l (c.loop-reg.reg-index + 1)) (sym made)
    (placing-next c.args.defs.now c.args.presets.now c.loop-reg.regs c.loop-reg.reg-index c.reg-item.result c.requires.none c.loop-reg.invariant
    c.loop-reg-test.true c.reg-item.is (subst (IsPrivate c.args.defs.now) made c.in_ok-switch.ensures.private))
