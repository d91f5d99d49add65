use Rattle.std.proofs.Common.{List, ap}
use Rattle.control_script.specs.declared.stamped.Stamped.{Stamped}
use Rattle.control_script.specs.Lines.{lines}
use Rattle.control_script.specs.Script.{lines_read, script}
use Rattle.control_script.proofs.parse.parse_script.Goals as goal

pub lines-init : goal.lines-init
unfolding script
lines-init c = record {
  stands = c.in_ok-progress.ensures.stands;
  same = ap (λ (before : List Stamped). lines_read c.args.presets.now 1 (lines c.args.text.now) before) c.in_ok-progress.ensures.script;
}
