use Rattle.std.proofs.Common.{◌∙◌, ap, rules}
use Rattle.std.specs.List.{filter}
use Rattle.std.proofs.lemmas.Fn.{filter_same}
use Rattle.app_api.specs.declared.registration.Reg.{Reg}
use Rattle.forest_versions.proofs.trees.active_regs.Goals as goal

pub returns : goal.returns
returns c =
    let kept = filter_same _ (λ (r : Reg). r.on) _ (λ x b f' k. search rules) _ _ c.retain.ensures.filtered in
    kept ∙ ap (filter (λ (r : Reg). r.on)) c.in_ok-items.ensures.items
