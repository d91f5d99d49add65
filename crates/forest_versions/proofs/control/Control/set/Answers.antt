use Rattle.std.proofs.Common.{subst}
use Rattle.std.specs.Prelude.{IsTrue}
use Rattle.forest_versions.specs.declared.command.Command.{Command}
use Rattle.forest_versions.specs.Lawful.{is_lawful}
use Rattle.forest_versions.proofs.LawfulFacts.{lawful-buffer, lawful-rule}
use Rattle.forest_versions.proofs.control.Control.set.Goals as goal

pub set_buffer-requires-clause-low : goal.set_buffer-requires-clause-low
set_buffer-requires-clause-low c =
    (lawful-buffer c.args.self.now c.in-Buffer.bytes (subst (λ (k : Command). IsTrue (is_lawful c.args.self.now k)) c.in-Buffer.is c.requires.lawful)).0

pub set_buffer-requires-clause-high : goal.set_buffer-requires-clause-high
set_buffer-requires-clause-high c =
    (lawful-buffer c.args.self.now c.in-Buffer.bytes (subst (λ (k : Command). IsTrue (is_lawful c.args.self.now k)) c.in-Buffer.is c.requires.lawful)).1

pub add_rule-requires-clause-low : goal.add_rule-requires-clause-low
add_rule-requires-clause-low c =
    (lawful-rule c.args.self.now c.in-AddRule.rule (subst (λ (k : Command). IsTrue (is_lawful c.args.self.now k)) c.in-AddRule.is c.requires.lawful)).0

pub add_rule-requires-clause-absent : goal.add_rule-requires-clause-absent
add_rule-requires-clause-absent c =
    (lawful-rule c.args.self.now c.in-AddRule.rule (subst (λ (k : Command). IsTrue (is_lawful c.args.self.now k)) c.in-AddRule.is c.requires.lawful)).1
