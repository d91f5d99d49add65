use Rattle.lane_composition.proofs.Whole.{fronts_run}
use Rattle.lane_composition.proofs.runs.fronts_are_of_one_run.Goals as goal

pub returns : goal.returns
returns c = record {
  run = λ app commands least most lane packets lanes between rises numbered have.
      fronts_run c.later_commands_change_none.ensures c.one_event_more.ensures c.last_packet_is_added.ensures app commands least most lane packets lanes have c.weight_never_falls.ensures between
      rises numbered;
}
