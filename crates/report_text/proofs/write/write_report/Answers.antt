use Rattle.std.proofs.Common.{arith}
use Rattle.report_text.specs.Report.{report_text}
use Rattle.report_text.specs.Tidy.{tidy}
use Rattle.report_text.proofs.WritesText.{wrote-after, wrote-part}
use Rattle.report_text.proofs.write.write_report.Goals as goal

pub returns-in_err-write_records : goal.returns-in_err-write_records
unfolding report_text
returns-in_err-write_records g c = record { text = wrote-part g.O.Sink _ _ _ _ _ _ c.in_err-write_records.ensures.text c.from_residual.ensures.1 }

pub returns : goal.returns
unfolding report_text
returns g c = record { text = wrote-after g.O.Sink _ _ _ _ _ _ _ c.in_ok-write_records.ensures.text c.write_totals.ensures.text }

pub write_records-requires : goal.write_records-requires
unfolding tidy
write_records-requires g c = grind arith
