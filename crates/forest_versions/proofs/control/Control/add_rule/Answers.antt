use Rattle.std.proofs.Common.{◌∙◌, List, ap}
use Rattle.std.specs.Prelude.{IsTrue}
use Rattle.app_api.specs.declared.rule.Rule.{Rule}
use Rattle.app_api.specs.App.{are_rules}
use Rattle.forest_versions.specs.Rules.{rule_of, put_rule}
use Rattle.forest_versions.specs.State.{ControlState}
use Rattle.forest_versions.proofs.RuleLists.{rise-put}
use Rattle.forest_versions.proofs.Results.{either-way}
use Rattle.forest_versions.proofs.control.Control.add_rule.Goals as goal

pub invariant_of-self : goal.invariant_of-self
invariant_of-self c = record {
  defs = c.self.invariant.defs;
  private = c.self.invariant.private;
  peeks = c.self.invariant.peeks;
  low = c.self.invariant.low;
  high = c.self.invariant.high;
  rules = either-way (λ (l : List Rule). IsTrue (are_rules l)) c.put.result c.put.new.self (put_rule c.args.rule.now c.self.inside.rules)
      c.self.inside.rules c.put.ensures.ok c.put.ensures.err (rise-put 1 c.args.rule.now c.self.inside.rules c.requires.low
      (ap (λ (s : ControlState). rule_of s.rules c.args.rule.now.number) c.self.view_is ∙ c.requires.absent) c.self.invariant.rules) c.self.invariant.rules;
}
