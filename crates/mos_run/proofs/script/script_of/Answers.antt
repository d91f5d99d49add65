use Rattle.std.proofs.Common.{IsTrue, [], Some, subst, sym, ap, ◌∙◌}
use Rattle.std.proofs.lemmas.Result.{err_from_is_err_and}
use Rattle.app_api.specs.Reg.{are_presets}
use Rattle.std.specs.Option.{option_map_or}
use Rattle.mos_run.proofs.Scripts.{never_refused}
use Rattle.mos_run.proofs.script.script_of.Goals as goal

pub parse_script-requires : goal.parse_script-requires
parse_script-requires g c = record {
  lawful = subst (λ ps. IsTrue (are_presets ps)) (sym (c.deref-2.ensures.value ∙ c.in_ok-presets.ensures)) (g.met.A.App.lawful c.args.app.now).presets;
}

pub returns-in_err-script-clause-unasked : goal.returns-in_err-script-clause-unasked
returns-in_err-script-clause-unasked g c = λ none.
    let asked = c.text_of.ensures.unasked none in
    let error = err_from_is_err_and c.from_residual-in_err-script.result c.from_residual-in_err-script.ensures.1 in
    let empty = c.in_ok-text.ensures.text [] (ap (λ name. option_map_or (g.H.Shelf.content c.args.shelf.now) name (Some [])) none) in
    (asked.1, rw (error.1) (error.2 ∙ never_refused _ _ c.in_err-script.field-0.0 (c.deref.ensures.value ∙ empty) c.in_err-script.ensures.err))
