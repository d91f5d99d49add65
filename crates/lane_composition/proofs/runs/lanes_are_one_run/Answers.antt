use Rattle.lane_composition.proofs.Whole.{one_run}
use Rattle.lane_composition.proofs.runs.lanes_are_one_run.Goals as goal

pub returns : goal.returns
returns c = record {
  run = λ app commands least most lane packets lanes have whole.
      one_run c.later_commands_change_none.ensures c.one_event_more.ensures c.last_packet_is_added.ensures app commands least most lane packets lanes have whole;
}
