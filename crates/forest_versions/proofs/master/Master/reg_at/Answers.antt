use Rattle.std.proofs.Common.{◌≡◌, ◌∙◌, ◌≤◌, Bor, subst, arith}
use Rattle.std.specs.Prelude.{IsTrue, IfSome}
use Rattle.app_api.specs.declared.registration.Reg.{Reg}
use Rattle.app_api.specs.Reg.{peek_fits}
use Rattle.event_trees.specs.Defs.{is_event}
use Rattle.forest_versions.specs.State.{ControlState, master}
use Rattle.forest_versions.specs.Master.{Versions, Tells}
use Rattle.forest_versions.proofs.Finds.{IsGiven, all-given, some-weaker}
use Rattle.forest_versions.proofs.master.Master.reg_at.Goals as goal

pub returns-clause-number : goal.returns-clause-number
returns-clause-number c =
    let m : Versions = record { version = c.self.inside.version; forest = c.self.inside.forest; now = c.self.inside.control; past = c.self.inside.past } in
    let s : ControlState = master c.self.invariant.history.0 c.self.invariant.history.1.0 c.args.version in
    let told : Tells m c.args.version s = c.self.invariant.history.1.1.told c.args.version in
    some-weaker (λ (r : Bor Reg). IsGiven m c.args.number r.now) (λ (r : Bor Reg). r.now.number ≡ c.args.number) c.reg.result (λ r g. g.number)
    (all-given m c.args.version c.args.number s c.reg.result told (c.reg.ensures ∙ told.regs c.args.number (omega arith)))

pub returns-clause-low : goal.returns-clause-low
returns-clause-low c =
    let m : Versions = record { version = c.self.inside.version; forest = c.self.inside.forest; now = c.self.inside.control; past = c.self.inside.past } in
    let s : ControlState = master c.self.invariant.history.0 c.self.invariant.history.1.0 c.args.version in
    let told : Tells m c.args.version s = c.self.invariant.history.1.1.told c.args.version in
    some-weaker (λ (r : Bor Reg). IsGiven m c.args.number r.now) (λ (r : Bor Reg). 1 ≤ r.now.number) c.reg.result (λ r g. g.low)
    (all-given m c.args.version c.args.number s c.reg.result told (c.reg.ensures ∙ told.regs c.args.number (omega arith)))

pub returns-clause-event : goal.returns-clause-event
returns-clause-event c =
    let m : Versions = record { version = c.self.inside.version; forest = c.self.inside.forest; now = c.self.inside.control; past = c.self.inside.past } in
    let s : ControlState = master c.self.invariant.history.0 c.self.invariant.history.1.0 c.args.version in
    let told : Tells m c.args.version s = c.self.invariant.history.1.1.told c.args.version in
    let all : IfSome c.reg.result (λ r. IsTrue (is_event m.now.defs r.now.event)) = some-weaker (λ (r : Bor Reg). IsGiven m c.args.number r.now)
    (λ (r : Bor Reg). IsTrue (is_event m.now.defs r.now.event)) c.reg.result (λ r g. g.event)
    (all-given m c.args.version c.args.number s c.reg.result told (c.reg.ensures ∙ told.regs c.args.number (omega arith))) in
    subst (λ (n : Versions). IfSome c.reg.result (λ r. IsTrue (is_event n.now.defs r.now.event))) c.self.view_is all

pub returns-clause-peek : goal.returns-clause-peek
returns-clause-peek c =
    let m : Versions = record { version = c.self.inside.version; forest = c.self.inside.forest; now = c.self.inside.control; past = c.self.inside.past } in
    let s : ControlState = master c.self.invariant.history.0 c.self.invariant.history.1.0 c.args.version in
    let told : Tells m c.args.version s = c.self.invariant.history.1.1.told c.args.version in
    some-weaker (λ (r : Bor Reg). IsGiven m c.args.number r.now) (λ (r : Bor Reg). IsTrue (peek_fits r.now.peek)) c.reg.result (λ r g. g.peek)
    (all-given m c.args.version c.args.number s c.reg.result told (c.reg.ensures ∙ told.regs c.args.number (omega arith)))
