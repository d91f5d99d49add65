use Rattle.std.proofs.Common.{◌≡◌, length}
use Rattle.control_script.specs.Lines.{lines}
use Rattle.control_script.specs.Progress.{StandsOn}
use Rattle.control_script.specs.Script.{lines_read, script}
use Rattle.control_script.proofs.parse.parse_script.Given as goal

abbrev pub invariant-lines : goal.invariant-lines
invariant-lines l = record {
  stands : StandsOn l.presets l.progress;
  same : lines_read l.presets l.n (lines l.rest) l.progress.script ≡ script l.text l.presets;
}

abbrev pub decreases-lines : goal.decreases-lines
decreases-lines l = length l.rest
