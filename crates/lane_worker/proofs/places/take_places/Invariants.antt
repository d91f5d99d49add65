use Rattle.std.proofs.Common.{◌≡◌, ◌≤◌, None}
use Rattle.control_script.specs.Order.{commands_of}
use Rattle.lane_worker.specs.Given.{IsUnder}
use Rattle.lane_worker.specs.Turning.{Advanced}
use Rattle.lane_worker.proofs.places.take_places.Given as goal

-- the lane took commands from the call till now, and not too many
abbrev pub invariant-loop : goal.invariant-loop
invariant-loop g l = record {
  good : g.L.Recorder.failed l.lane ≡ None;
  advanced : Advanced g.L.Recorder (commands_of l.context.script.now) l.fn.lane l.lane l.fn.commands l.commands;
  under : IsUnder g.L.Recorder (commands_of l.context.script.now) l.lane;
  ceil : g.L.Recorder.given l.lane ≤ l.ceil;
}
