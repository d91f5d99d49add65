use Rattle.std.proofs.Common.{None, Some, sym, ap, ◌∙◌}
use Rattle.run_outcome.specs.Greatest.{greatest, later_of}
use Rattle.lane_join.proofs.Latest.{greatest_push}
use Rattle.lane_join.proofs.moments.greatest_with.Goals as goal

pub returns : goal.returns
returns c = record {
  greatest = λ frames frame same is.
      ap (λ m. Some m) (c.later_of.ensures ∙ ap (later_of c.args.so_far) same ∙ ap (λ g. later_of g (record { seconds = frame.seconds; fraction = frame.fraction })) is) ∙ sym (greatest_push None 0 frames frame);
}
