use Rattle.std.proofs.Common.{◌∙◌, ◌+◌, ◌++◌, ap, drop, map, refl, sym}
use Rattle.std.proofs.lemmas.List.{at_drop_all}
use Rattle.report_text.specs.Ranges.{record_fits}
use Rattle.report_text.specs.Report.{record_text, records_text}
use Rattle.report_text.specs.declared.record.Record.{Record}
use Rattle.report_text.proofs.WritesText.{underway-done, underway-more, underway-part}
use Rattle.lane_core.specs.End.{ended}
use Rattle.lane_core.proofs.Ending.{slots_fit-drop, slots_text-drop}
use Rattle.lane_core.proofs.report.write_all_kept.Goals as goal

pub loop-of-preserved : goal.loop-of-preserved
loop-of-preserved g c =
    let app = g.A.App.meaning c.args.app.now in
    let next = slots_text-drop app c.args.records.now c.loop-of.of-index c.of-item.result c.loop-of-test.true c.of-item.is
    ∙ ap (λ (r : Record). record_text r ++ records_text (map (ended app) (drop (c.loop-of.of-index + 1) c.args.records.now))) (sym (c.kept.ensures app)) in (
      underway-more g.O.Sink _ _ _ _ _ _ _ _ c.loop-of.invariant.0 next c.in_ok-write_kept.ensures.text,
      c.loop-of.invariant.1
          ∙ slots_fit-drop app c.args.records.now c.loop-of.of-index c.of-item.result c.loop-of-test.true c.of-item.is
          (ap record_fits (sym (c.kept.ensures app)) ∙ c.in_ok-write_kept.ensures.fits refl),
    )

pub returns-in_err-write_kept-clause-text : goal.returns-in_err-write_kept-clause-text
returns-in_err-write_kept-clause-text g c =
    let app = g.A.App.meaning c.args.app.now in
    let next = slots_text-drop app c.args.records.now c.loop-of.of-index c.of-item.result c.loop-of-test.true c.of-item.is
    ∙ ap (λ (r : Record). record_text r ++ records_text (map (ended app) (drop (c.loop-of.of-index + 1) c.args.records.now))) (sym (c.kept.ensures app)) in
    underway-part g.O.Sink _ _ _ _ _ _ _ _ _ c.loop-of.invariant.0 next c.in_err-write_kept.ensures.text c.from_residual.ensures.1

pub returns-clause-text : goal.returns-clause-text
returns-clause-text g c =
    underway-done g.O.Sink _ _ _ _ _ c.loop-of.invariant.0
    (at_drop_all (λ rest. records_text (map (ended (g.A.App.meaning c.args.app.now)) rest)) c.args.records.now c.loop-of.of-index c.loop-of-test.false)
