use Rattle.std.proofs.Common.{[]}
use Rattle.lane_composition.proofs.Counting.{more_packets}
use Rattle.lane_composition.proofs.Composed.{front_weighs}
use Rattle.lane_composition.proofs.counts.more_packets_count_more.Goals as goal

pub returns-clause-packets : goal.returns-clause-packets
returns-clause-packets c = λ endings count ps more grows ends. more_packets endings count grows ends [] ps more

pub returns-clause-lanes : goal.returns-clause-lanes
returns-clause-lanes c = λ endings count lane packets parts more vs l grows ends runs. front_weighs endings lane packets parts more vs runs count grows ends l
