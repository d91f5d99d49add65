use Rattle.std.proofs.Common.{refl}
use Rattle.report_text.specs.Report.{report_text}
use Rattle.report_text.proofs.WritesText.{wrote-after, wrote-part}
use Rattle.lane_core.proofs.report.write_report_kept.Goals as goal

pub returns-in_err-write_all_kept-clause-text : goal.returns-in_err-write_all_kept-clause-text
unfolding report_text
returns-in_err-write_all_kept-clause-text g c = wrote-part g.O.Sink _ _ _ _ _ _ c.in_err-write_all_kept.ensures.text c.from_residual.ensures.1

pub returns-clause-text : goal.returns-clause-text
unfolding report_text
returns-clause-text g c = wrote-after g.O.Sink _ _ _ _ _ _ _ c.in_ok-write_all_kept.ensures.text c.write_totals.ensures.text

pub returns-clause-typed : goal.returns-clause-typed
returns-clause-typed g c done = record { records_fit = c.in_ok-write_all_kept.ensures.fits refl; counts_fit = c.write_totals.ensures.fits }
