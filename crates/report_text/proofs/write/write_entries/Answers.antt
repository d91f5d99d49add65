use Rattle.std.proofs.Common.{◌∙◌, ◌+◌, ◌++◌, ap, sym, drop, flat_map}
use Rattle.std.proofs.lemmas.List.{at_drop_all}
use Rattle.report_text.specs.Lines.{callback_line}
use Rattle.report_text.proofs.Pieces.{callbacks-drop}
use Rattle.report_text.proofs.WritesText.{underway-done, underway-more, underway-part}
use Rattle.report_text.proofs.write.write_entries.Goals as goal

pub loop-entry-preserved : goal.loop-entry-preserved
loop-entry-preserved g c =
    let next = callbacks-drop c.args.entries.now c.loop-entry.entry-index c.entry-item.result c.loop-entry-test.true c.entry-item.is
    ∙ ap (λ e. callback_line e ++ flat_map callback_line (drop (c.loop-entry.entry-index + 1) c.args.entries.now)) (sym c.of.ensures) in
    underway-more g.O.Sink _ _ _ _ _ _ _ _ c.loop-entry.invariant next c.in_ok-write_callback.ensures.text

pub returns-in_err-write_callback : goal.returns-in_err-write_callback
returns-in_err-write_callback g c =
    let next = callbacks-drop c.args.entries.now c.loop-entry.entry-index c.entry-item.result c.loop-entry-test.true c.entry-item.is
    ∙ ap (λ e. callback_line e ++ flat_map callback_line (drop (c.loop-entry.entry-index + 1) c.args.entries.now)) (sym c.of.ensures) in
    record { text = underway-part g.O.Sink _ _ _ _ _ _ _ _ _ c.loop-entry.invariant next c.in_err-write_callback.ensures.text c.from_residual.ensures.1 }

pub returns : goal.returns
returns g c = record {
  text = underway-done g.O.Sink _ _ _ _ _ c.loop-entry.invariant
      (at_drop_all (flat_map callback_line) c.args.entries.now c.loop-entry.entry-index c.loop-entry-test.false);
}
