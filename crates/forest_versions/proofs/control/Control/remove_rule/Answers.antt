use Rattle.std.proofs.Common.{List, sym, subst}
use Rattle.std.specs.Prelude.{IsTrue}
use Rattle.app_api.specs.declared.rule.Rule.{Rule}
use Rattle.app_api.specs.App.{are_rules}
use Rattle.forest_versions.proofs.RuleLists.{rise-without}
use Rattle.forest_versions.proofs.control.Control.remove_rule.Goals as goal

pub invariant_of-self : goal.invariant_of-self
invariant_of-self c = record {
  defs = c.self.invariant.defs;
  private = c.self.invariant.private;
  peeks = c.self.invariant.peeks;
  low = c.self.invariant.low;
  high = c.self.invariant.high;
  rules = subst (λ (l : List Rule). IsTrue (are_rules l)) (sym c.remove.ensures) (rise-without 1 c.args.number c.self.inside.rules c.self.invariant.rules);
}
