use Rattle.std.proofs.Common.{◌≡◌, false, ap, sym, subst, ◌∙◌, arith}
use Rattle.std.proofs.lemmas.List.Folds.{list_all_at}
use Rattle.app_api.specs.App.{is_field_name}
use Rattle.report_text.proofs.tidy.are_named.Goals as goal

pub returns-then-not-is_field_name : goal.returns-then-not-is_field_name
returns-then-not-is_field_name c =
    let refused : c.is_field_name.result ≡ false = grind arith in
    let fails : is_field_name c.loop-name-item.result.0 ≡ false = ap is_field_name (sym c.as_slice.ensures) ∙ sym c.is_field_name.ensures ∙ refused in
    sym (list_all_at (λ f. is_field_name f.0) c.args.fields.now c.loop-name.name-index c.loop-name-item.result c.loop-name-test.true
    (subst (λ f. is_field_name f.0 ≡ false) c.loop-name-item.is fails))
