use Rattle.lane_composition.proofs.Counting.{lanes_add_up}
use Rattle.lane_composition.proofs.counts.counts_add_up.Goals as goal

pub returns : goal.returns
returns c = record { total = λ lane count lanes ms below. lanes_add_up lane count lanes ms below }
