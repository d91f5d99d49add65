use Rattle.std.proofs.Common.{◌∙◌, eqb, ap, rules}
use Rattle.std.specs.Prelude.{not}
use Rattle.std.proofs.lemmas.Fn.{filter_same}
use Rattle.app_api.specs.declared.registration.Reg.{Reg}
use Rattle.event_trees.specs.Private.{without}
use Rattle.forest_versions.proofs.control.remove_reg.Goals as goal

pub returns : goal.returns
returns c =
    let kept = filter_same _ (λ (r : Reg). not (eqb r.number c.args.number)) _ (λ x b f' k. search rules) _ _ c.retain.ensures.filtered in
    kept ∙ ap (without c.args.number) c.regs.view_is
