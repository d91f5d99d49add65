use Rattle.std.proofs.Common.{eqb, sym, subst}
use Rattle.std.specs.Prelude.{IsTrue, not}
use Rattle.std.specs.List.{All}
use Rattle.std.proofs.lemmas.List.Elements.{All-filter}
use Rattle.app_api.specs.declared.registration.Reg.{Reg}
use Rattle.app_api.specs.Reg.{peek_fits}
use Rattle.event_trees.specs.Private.{IsPrivate}
use Rattle.forest_versions.proofs.Regs.{private-filter}
use Rattle.forest_versions.proofs.control.Control.withdraw.Goals as goal

pub invariant_of-self : goal.invariant_of-self
invariant_of-self c = record {
  defs = c.self.invariant.defs;
  private = subst (IsPrivate c.self.inside.defs) (sym c.remove_reg.ensures)
      (private-filter c.self.inside.defs (λ (r : Reg). not (eqb r.number c.args.number)) c.self.inside.regs c.self.invariant.private);
  peeks = subst (All (λ (r : Reg). IsTrue (peek_fits r.peek))) (sym c.remove_reg.ensures)
      (All-filter (λ (r : Reg). not (eqb r.number c.args.number)) (λ (r : Reg). IsTrue (peek_fits r.peek)) c.self.inside.regs c.self.invariant.peeks);
  low = c.self.invariant.low;
  high = c.self.invariant.high;
  rules = c.self.invariant.rules;
}
