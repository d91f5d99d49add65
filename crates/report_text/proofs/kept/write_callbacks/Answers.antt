use Rattle.std.proofs.Common.{ap, flat_map}
use Rattle.report_text.specs.Lines.{callback_line}
use Rattle.report_text.specs.Ranges.{entry_fits}
use Rattle.report_text.proofs.Fitting.{all-later}
use Rattle.report_text.proofs.WritesText.{underway-done, underway-more, underway-part}
use Rattle.report_text.proofs.kept.write_callbacks.Goals as goal

pub loop-callback-preserved : goal.loop-callback-preserved
loop-callback-preserved g c = (
  underway-more g.O.Sink _ _ _ _ _ _ _ _ c.loop-callback.invariant.0 (ap (flat_map callback_line) c.in-Some.ensures) c.in_ok-write_callback.ensures.text,
  all-later entry_fits _ _ _ _ c.loop-callback.invariant.1 c.in-Some.ensures c.callback_fits.ensures,
)

pub returns-in_err-write_callback-clause-text : goal.returns-in_err-write_callback-clause-text
returns-in_err-write_callback-clause-text g c =
    underway-part g.O.Sink _ _ _ _ _ _ _ _ _ c.loop-callback.invariant.0 (ap (flat_map callback_line) c.in-Some.ensures)
    c.in_err-write_callback.ensures.text c.from_residual.ensures.1

pub returns-clause-text : goal.returns-clause-text
returns-clause-text g c = underway-done g.O.Sink _ _ _ _ _ c.loop-callback.invariant.0 (ap (flat_map callback_line) c.in_default.ensures)
