use Rattle.std.proofs.Common.{◌∙◌, ap}
use Rattle.std.specs.Prelude.{◌≢◌, IsTrue}
use Rattle.std.specs.List.{All}
use Rattle.std.proofs.lemmas.List.Elements.{All-from_recursion}
use Rattle.app_api.specs.declared.registration.Reg.{Reg}
use Rattle.app_api.specs.Reg.{peek_fits, reg_of}
use Rattle.event_trees.specs.Private.{put_reg}
use Rattle.forest_versions.specs.State.{ControlState}
use Rattle.forest_versions.proofs.Regs.{unlike, All-put}
use Rattle.forest_versions.proofs.Results.{either-way}
use Rattle.forest_versions.proofs.control.Control.register.Goals as goal

pub switch-requires-clause-switchable : goal.switch-requires-clause-switchable
switch-requires-clause-switchable c =
    All-from_recursion (λ (s : Reg). s.number ≢ c.args.r.now.number) c.self.inside.regs
    (unlike c.self.inside.regs c.args.r.now.number (ap (λ (s : ControlState). reg_of s.regs c.args.r.now.number) c.self.view_is ∙ c.requires.absent))

pub invariant_of-self : goal.invariant_of-self
invariant_of-self c = record {
  defs = c.self.invariant.defs;
  private = c.switch.ensures.private;
  peeks = either-way (All (λ (r : Reg). IsTrue (peek_fits r.peek))) c.switch.result c.switch.new.active
      (put_reg c.self.inside.defs c.args.r.now c.self.inside.regs) c.self.inside.regs c.switch.ensures.ok c.switch.ensures.err
      (All-put (λ (r : Reg). IsTrue (peek_fits r.peek)) c.self.inside.defs c.args.r.now c.self.inside.regs c.self.invariant.peeks c.requires.peek) c.self.invariant.peeks;
  low = c.self.invariant.low;
  high = c.self.invariant.high;
  rules = c.self.invariant.rules;
}
