use Rattle.std.proofs.Common.{flat_map}
use Rattle.std.proofs.lemmas.List.{at_drop_all}
use Rattle.report_text.specs.Lines.{drop_line}
use Rattle.app_api.specs.declared.reaction.Reason.TheVariants.{Reg}
use Rattle.report_text.proofs.Pieces.{drops-drop}
use Rattle.report_text.proofs.WritesText.{underway-done, underway-more, underway-part}
use Rattle.report_text.proofs.write.write_drops.Goals as goal

pub loop-index-preserved : goal.loop-index-preserved
loop-index-preserved g c =
    let next = drops-drop c.args.drops.now c.loop-index.index-index (0, Reg 0) c.loop-index-test.true in
    underway-more g.O.Sink _ _ _ _ _ _ _ _ c.loop-index.invariant next c.in_ok-write_drop.ensures.text

pub returns-in_err-write_drop : goal.returns-in_err-write_drop
returns-in_err-write_drop g c =
    let next = drops-drop c.args.drops.now c.loop-index.index-index (0, Reg 0) c.loop-index-test.true in
    record { text = underway-part g.O.Sink _ _ _ _ _ _ _ _ _ c.loop-index.invariant next c.in_err-write_drop.ensures.text c.from_residual.ensures.1 }

pub returns : goal.returns
returns g c = record {
  text = underway-done g.O.Sink _ _ _ _ _ c.loop-index.invariant
      (at_drop_all (flat_map drop_line) c.args.drops.now c.loop-index.index-index c.loop-index-test.false);
}
