use Rattle.std.proofs.lemmas.List.{at_drop_all}
use Rattle.report_text.specs.Report.{records_text}
use Rattle.report_text.specs.Tidy.{is_tidy_record}
use Rattle.report_text.proofs.Each.{passes-at}
use Rattle.report_text.proofs.Pieces.{records_text-drop}
use Rattle.report_text.proofs.WritesText.{underway-done, underway-more, underway-part}
use Rattle.report_text.proofs.write.write_records.Goals as goal

pub write_record-requires : goal.write_record-requires
write_record-requires g c =
    passes-at is_tidy_record c.args.records.now c.loop-of.of-index c.of-item.result c.requires c.loop-of-test.true c.of-item.is

pub loop-of-preserved : goal.loop-of-preserved
loop-of-preserved g c =
    let next = records_text-drop c.args.records.now c.loop-of.of-index c.of-item.result c.loop-of-test.true c.of-item.is in
    underway-more g.O.Sink _ _ _ _ _ _ _ _ c.loop-of.invariant next c.in_ok-write_record.ensures.text

pub returns-in_err-write_record : goal.returns-in_err-write_record
returns-in_err-write_record g c =
    let next = records_text-drop c.args.records.now c.loop-of.of-index c.of-item.result c.loop-of-test.true c.of-item.is in
    record { text = underway-part g.O.Sink _ _ _ _ _ _ _ _ _ c.loop-of.invariant next c.in_err-write_record.ensures.text c.from_residual.ensures.1 }

pub returns : goal.returns
returns g c = record {
  text = underway-done g.O.Sink _ _ _ _ _ c.loop-of.invariant (at_drop_all records_text c.args.records.now c.loop-of.of-index c.loop-of-test.false);
}
