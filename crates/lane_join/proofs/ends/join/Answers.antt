use Rattle.std.proofs.Common.{◌∙◌, ap}
use Rattle.std.specs.Prelude.{min, ◌-◌, ◌^◌}
use Rattle.lane_core.specs.KeptEnd.{shown_as}
use Rattle.lane_composition.specs.Merge.{lane_at}
use Rattle.run_outcome.specs.Whole.{run_under}
use Rattle.lane_composition.specs.Ends.{sum_of}
use Rattle.lane_join.proofs.Kept.{of_lanes, merge_shown}
use Rattle.lane_join.proofs.ends.join.Goals as goal

pub returns : goal.returns
returns c = record {
  joined = λ keep app commands lane packets lanes vs one numbered are.
      let ends = c.args.ends.items in
      let law = c.ends_of_lanes_are_one_end.ensures in
      let of = lane_at lane packets in
      let run = run_under app commands vs packets in
      let records = c.in_ok-records.records in
      let mergeable = of_lanes app of ends (law.mergeable keep app commands lane packets lanes vs ends one numbered are) in
      let merged = merge_shown app of ends records (c.in_ok-records.ensures.merged of mergeable) in
      let joined = law.joined keep app commands lane packets lanes vs ends (shown_as app records) one numbered are merged in
      let seen = c.as_slice.ensures.value in
      let sums = c.sums_of-sums.ensures in
      record {
        records_are = joined.records_are;
        callbacks_are = sums.callbacks ∙ ap (λ x. min (sum_of (λ end. end.callbacks) x) (2 ^ 64 - 1)) seen ∙ joined.callbacks_are;
        weight_is = sums.weight ∙ ap (λ x. min (sum_of (λ end. end.weight) x) (2 ^ 64 - 1)) seen ∙ joined.weight_is;
        drops_are = sums.drops ∙ ap (λ x. min (sum_of (λ end. end.drops) x) (2 ^ 64 - 1)) seen ∙ joined.drops_are;
      };
}
