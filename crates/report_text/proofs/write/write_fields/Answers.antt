use Rattle.std.proofs.Common.{◌≡◌, ◌++◌, drop, ◌+◌, sym, subst, true, flat_map}
use Rattle.app_api.specs.App.{is_field_name}
use Rattle.std.proofs.lemmas.List.{at_drop_all}
use Rattle.report_text.specs.Lines.{field_line}
use Rattle.report_text.proofs.Each.{passes-at}
use Rattle.report_text.proofs.Pieces.{fields-drop}
use Rattle.report_text.proofs.WritesText.{underway-done, underway-more, underway-part}
use Rattle.report_text.proofs.write.write_fields.Goals as goal

pub write_field-requires : goal.write_field-requires
write_field-requires g c =
    subst (λ n. is_field_name n ≡ true) (sym c.as_slice.ensures)
    (passes-at (λ f. is_field_name f.0) c.args.fields.now c.loop-name.name-index c.loop-name-item.result c.requires c.loop-name-test.true c.loop-name-item.is)

pub loop-name-preserved : goal.loop-name-preserved
loop-name-preserved g c =
    let next = fields-drop c.args.fields.now c.loop-name.name-index c.loop-name-item.result c.loop-name-test.true c.loop-name-item.is in
    let read = subst (λ n. flat_map field_line (drop c.loop-name.name-index c.args.fields.now) ≡ field_line (n, c.loop-name-item.result.1) ++ flat_map field_line (drop (c.loop-name.name-index + 1) c.args.fields.now))
    (sym c.as_slice.ensures) next in
    underway-more g.O.Sink _ _ _ _ _ _ _ _ c.loop-name.invariant read c.in_ok-write_field.ensures.text

pub returns-in_err-write_field : goal.returns-in_err-write_field
returns-in_err-write_field g c =
    let next = fields-drop c.args.fields.now c.loop-name.name-index c.loop-name-item.result c.loop-name-test.true c.loop-name-item.is in
    let read = subst (λ n. flat_map field_line (drop c.loop-name.name-index c.args.fields.now) ≡ field_line (n, c.loop-name-item.result.1) ++ flat_map field_line (drop (c.loop-name.name-index + 1) c.args.fields.now))
    (sym c.as_slice.ensures) next in
    record { text = underway-part g.O.Sink _ _ _ _ _ _ _ _ _ c.loop-name.invariant read c.in_err-write_field.ensures.text c.from_residual.ensures.1 }

pub returns : goal.returns
returns g c = record {
  text = underway-done g.O.Sink _ _ _ _ _ c.loop-name.invariant
      (at_drop_all (flat_map field_line) c.args.fields.now c.loop-name.name-index c.loop-name-test.false);
}
