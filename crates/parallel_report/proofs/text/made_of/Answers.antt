use Rattle.std.proofs.Common.{◌∙◌, sym, ap, arith, ◌++◌}
use Rattle.lane_core.specs.End.{ended}
use Rattle.report_text.specs.Report.{record_text}
use Rattle.parallel_report.proofs.Fitting.{fit-more}
use Rattle.parallel_report.proofs.Lines.{lines-more}
use Rattle.parallel_report.proofs.text.made_of.Goals as goal

pub loop-done-preserved : goal.loop-done-preserved
loop-done-preserved g c = record {
  within = omega arith;
  text =
      c.if-add_record.ensures.text ∙ ap (λ text. text ++ record_text (ended (g.A.App.meaning c.args.app.now) c.index-records-done.result)) c.loop-done.invariant.text
      ∙ sym (lines-more (g.A.App.meaning c.args.app.now) c.args.records.now c.loop-done.done c.index-records-done.result c.loop-done-test.true c.index-records-done.is);
  fit = fit-more (g.A.App.meaning c.args.app.now) c.args.records.now c.loop-done.done c.index-records-done.result c.loop-done-test.true c.index-records-done.is
      c.loop-done.invariant.fit (c.add_record.ensures.fits c.if-add_record.true);
}
