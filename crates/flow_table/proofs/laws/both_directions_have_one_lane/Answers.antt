use Rattle.std.proofs.Common.{sym, ap, ◌∙◌}
use Rattle.flow_table.specs.Key.{key_between, key_of_head}
use Rattle.flow_table.specs.Endpoint.{source_of, destination_of}
use Rattle.flow_table.specs.Lane.{lane_of_key}
use Rattle.flow_table.proofs.Keys.{key_between-swap}
use Rattle.flow_table.proofs.laws.both_directions_have_one_lane.Goals as goal

pub returns : goal.returns
unfolding key_of_head
returns c there back payload other lanes source destination =
    ap (λ key. lane_of_key key lanes)
    (key_between-swap (source_of there) (destination_of there)
    ∙ ap (λ e. key_between (destination_of there) e) (sym destination)
    ∙ ap (λ e. key_between e (destination_of back)) (sym source))
