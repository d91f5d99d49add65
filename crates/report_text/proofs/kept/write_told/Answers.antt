use Rattle.std.proofs.Common.{◌∙◌, ◌≡◌, ◌+◌, ◌++◌, ℕ, List, arith, drop, sym, ap, subst, true, flat_map}
use Rattle.app_api.specs.App.{field_shown, is_field_name}
use Rattle.std.proofs.lemmas.List.{at_drop_all}
use Rattle.std.proofs.lemmas.Option.{slice_get_within, get_or_from_slice_get}
use Rattle.report_text.specs.Lines.{field_line}
use Rattle.report_text.proofs.Each.{passes-at}
use Rattle.report_text.specs.Ranges.{field_fits}
use Rattle.report_text.proofs.Fitting.{all-later, all-none, asked-later, asked-past}
use Rattle.report_text.proofs.Pieces.{fields-asked, fields-past}
use Rattle.report_text.proofs.WritesText.{underway-done, underway-more, underway-part}
use Rattle.report_text.proofs.kept.write_told.Goals as goal

pub write_field-requires : goal.write_field-requires
write_field-requires g c =
    let fields = (g.A.App.meaning c.args.app.now).fields c.args.tally.now in
    let field : List ℕ × ℕ = (c.in-Some.name.now, c.in-Some.value) in
    let here = sym c.field.ensures ∙ ap field_shown c.in-Some.is in
    subst (λ n. is_field_name n ≡ true) (sym c.as_bytes.ensures.value)
    (passes-at (λ f. is_field_name f.0) fields c.loop-place.place field ((g.met.A.App.lawful c.args.app.now).names c.args.tally.now)
    (slice_get_within fields c.loop-place.place field here) (sym (get_or_from_slice_get fields c.loop-place.place field field here)))

pub loop-place-preserved : goal.loop-place-preserved
loop-place-preserved g c =
    let fields = (g.A.App.meaning c.args.app.now).fields c.args.tally.now in
    let next = fields-asked fields c.loop-place.place (c.in-Some.name.now, c.in-Some.value) (sym c.field.ensures ∙ ap field_shown c.in-Some.is) in
    let read = subst (λ n. flat_map field_line (drop c.loop-place.place fields) ≡ field_line (n, c.in-Some.value) ++ flat_map field_line (drop (c.loop-place.place + 1) fields))
    (sym c.as_bytes.ensures.value) next in (
      underway-more g.O.Sink _ _ _ _ _ _ _ _ c.loop-place.invariant.0 read c.in_ok-write_field.ensures.text,
      all-later field_fits _ _ _ _ c.loop-place.invariant.1
          (asked-later fields c.loop-place.place (c.in-Some.name.now, c.in-Some.value) (sym c.field.ensures ∙ ap field_shown c.in-Some.is)) c.field_fits.ensures,
    )

pub returns-in_err-write_field-clause-text : goal.returns-in_err-write_field-clause-text
returns-in_err-write_field-clause-text g c =
    let fields = (g.A.App.meaning c.args.app.now).fields c.args.tally.now in
    let next = fields-asked fields c.loop-place.place (c.in-Some.name.now, c.in-Some.value) (sym c.field.ensures ∙ ap field_shown c.in-Some.is) in
    let read = subst (λ n. flat_map field_line (drop c.loop-place.place fields) ≡ field_line (n, c.in-Some.value) ++ flat_map field_line (drop (c.loop-place.place + 1) fields))
    (sym c.as_bytes.ensures.value) next in
    underway-part g.O.Sink _ _ _ _ _ _ _ _ _ c.loop-place.invariant.0 read c.in_err-write_field.ensures.text c.from_residual.ensures.1

pub returns-after-loop-place-clause-text : goal.returns-after-loop-place-clause-text
returns-after-loop-place-clause-text g c =
    let few = (g.met.A.App.lawful c.args.app.now).few c.args.tally.now in
    let past = c.loop-place-test.false in
    underway-done g.O.Sink _ _ _ _ _ c.loop-place.invariant.0
    (at_drop_all (flat_map field_line) ((g.A.App.meaning c.args.app.now).fields c.args.tally.now) c.loop-place.place (omega (arith, few, past)))

pub returns-in_default-clause-text : goal.returns-in_default-clause-text
returns-in_default-clause-text g c =
    let fields = (g.A.App.meaning c.args.app.now).fields c.args.tally.now in
    underway-done g.O.Sink _ _ _ _ _ c.loop-place.invariant.0
    (fields-past fields c.loop-place.place (sym c.field.ensures ∙ ap field_shown c.in_default.is))

pub returns-in_default-clause-fits : goal.returns-in_default-clause-fits
returns-in_default-clause-fits g c done =
    let fields = (g.A.App.meaning c.args.app.now).fields c.args.tally.now in
    all-none field_fits _ _ c.loop-place.invariant.1 (asked-past fields c.loop-place.place (sym c.field.ensures ∙ ap field_shown c.in_default.is))
