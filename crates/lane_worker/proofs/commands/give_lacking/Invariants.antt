use Rattle.std.proofs.Common.{◌≡◌, ◌≤◌, ◌-◌, None}
use Rattle.control_script.specs.Order.{commands_of}
use Rattle.lane_worker.specs.Given.{IsUnder, TakesCommands}
use Rattle.lane_worker.proofs.commands.give_lacking.Given as goal

-- the lane took commands from the call till now, and not too many
abbrev pub invariant-loop-alloc : goal.invariant-loop-alloc
invariant-loop-alloc g l = record {
  good : g.L.Recorder.failed l.lane ≡ None;
  takes : TakesCommands g.L.Recorder (commands_of l.script) l.fn.lane l.lane;
  under : IsUnder g.L.Recorder (commands_of l.script) l.lane;
  before : g.L.Recorder.given l.lane ≤ l.version;
}

abbrev pub decreases-loop-alloc : goal.decreases-loop-alloc
decreases-loop-alloc g l = l.version - g.L.Recorder.given l.lane
