use Rattle.std.proofs.Common.{[]}
use Rattle.lane_composition.proofs.Histories.{same_records, same_verdict}
use Rattle.lane_composition.proofs.shares.records_are_their_packets.Goals as goal

pub returns : goal.returns
returns c = record { records = λ app control_at ps. same_records app control_at [] ps; verdicts = λ app control_at p ms. same_verdict app control_at p ms }
