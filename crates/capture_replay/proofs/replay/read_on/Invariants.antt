use Rattle.std.proofs.Common.{◌-◌}
use Rattle.capture_replay.specs.Reading.{RunsOn, at_start, run_at}
use Rattle.capture_replay.proofs.replay.read_on.Given as goal

-- the run went on from its start
abbrev pub invariant-loop-frame : goal.invariant-loop-frame
invariant-loop-frame g l =
    RunsOn g.L.Recorder g.O.Sink l.plan.script.now l.plan.output g.S.Source (run_at l.fn.lane l.fn.capture at_start l.fn.out (g.S.Source.left l.fn.source))
    (run_at l.lane l.capture l.so_far l.out (g.S.Source.left l.source)) l.fn.source l.source

abbrev pub decreases-loop-frame : goal.decreases-loop-frame
decreases-loop-frame g l = 1048576 - l.so_far.packets
