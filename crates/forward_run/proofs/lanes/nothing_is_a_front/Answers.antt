use Rattle.flow_table.specs.Lane.{lane_of_key}
use Rattle.control_script.specs.Order.{commands_of}
use Rattle.control_script.specs.Versions.{floor, ceil}
use Rattle.lane_core.specs.Sight.{arrivals}
use Rattle.lane_core.specs.Records.{records, versioned}
use Rattle.lane_core.specs.Versions.{versions_in}
use Rattle.run_outcome.specs.Whole.{in_force}
use Rattle.run_outcome.specs.Forwarded.{forwarded_with}
use Rattle.forward_run.proofs.Forwarding.{front_of_nothing}
use Rattle.forward_run.proofs.lanes.nothing_is_a_front.Goals as goal

pub returns : goal.returns
returns c =
    let script = c.args.script.now in
    let laws = c.a_script_gives_floors_and_ceilings.ensures in
    record {
      front = λ app lanes frames before.
          let vs = versions_in (records app (in_force app (commands_of script)) (versioned (ceil script) (arrivals 0 frames))) in
          record {
            versions = vs;
            may_have = c.ceilings_are_allowed.ensures app (commands_of script) (floor script) (ceil script) (λ key. lane_of_key key lanes) (arrivals 0 frames)
                (λ n. laws.within script n c.len-commands.ensures.order) (λ n m le. laws.rises script n m le) (c.packets_of_a_capture_rise.ensures.numbers frames);
            front = front_of_nothing before (forwarded_with app script vs frames);
          };
    }
