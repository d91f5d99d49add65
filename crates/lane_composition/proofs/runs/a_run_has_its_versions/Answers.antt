use Rattle.std.proofs.Common.{[], ap, ◌∙◌}
use Rattle.lane_composition.specs.Allowed.{arrivals_of}
use Rattle.lane_composition.specs.Histories.{over_under}
use Rattle.lane_composition.proofs.Bridging.{packets_are}
use Rattle.lane_composition.proofs.Whole.{versions_by}
use Rattle.lane_composition.proofs.Reported.{named_packets}
use Rattle.lane_composition.proofs.runs.a_run_has_its_versions.Goals as goal

pub returns-clause-versions : goal.returns-clause-versions
returns-clause-versions c = λ app commands least most lane packets vs allowed. versions_by app commands packets vs least most lane allowed

pub returns-clause-packets : goal.returns-clause-packets
returns-clause-packets c = λ app commands packets vs. ap arrivals_of (packets_are app commands vs packets) ∙ named_packets (over_under app commands) vs [] packets
