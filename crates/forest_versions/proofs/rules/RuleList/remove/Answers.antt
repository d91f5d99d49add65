use Rattle.std.proofs.Common.{◌∙◌, eqb, ap, rules}
use Rattle.std.specs.Prelude.{not}
use Rattle.std.proofs.lemmas.Fn.{filter_same}
use Rattle.app_api.specs.declared.rule.Rule.{Rule}
use Rattle.forest_versions.specs.Rules.{without_rule}
use Rattle.forest_versions.proofs.rules.RuleList.remove.Goals as goal

pub returns : goal.returns
returns c =
    let kept = filter_same _ (λ (r : Rule). not (eqb r.number c.args.number)) _ (λ x b f' k. search rules) _ _ c.retain.ensures.filtered in
    kept ∙ ap (without_rule c.args.number) c.self.view_is
