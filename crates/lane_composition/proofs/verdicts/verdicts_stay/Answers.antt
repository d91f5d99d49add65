use Rattle.std.proofs.Common.{[], ap, ◌∙◌}
use Rattle.lane_composition.specs.Members.{records}
use Rattle.lane_composition.specs.Named.{named, named_from}
use Rattle.lane_composition.specs.Judged.{judged, judged_from}
use Rattle.lane_composition.proofs.Judging.{judged_more, named_more, forwarded_front}
use Rattle.lane_composition.proofs.verdicts.verdicts_stay.Goals as goal

pub returns-clause-verdicts : goal.returns-clause-verdicts
returns-clause-verdicts c = λ endings judge ps more. (judged_from endings judge (records endings ps) more, judged_more endings judge [] ps more)

pub returns-clause-named : goal.returns-clause-named
returns-clause-named c = λ endings judge vs ps more. (
  judged_from endings judge (records endings (named endings vs ps)) (named_from endings vs (records endings (named endings vs ps)) more),
  judged_more endings judge [] (named endings vs ps) (named_from endings vs (records endings (named endings vs ps)) more) ∙ ap (judged endings judge) (named_more endings vs [] ps more),
)

pub returns-clause-bytes : goal.returns-clause-bytes
returns-clause-bytes c = forwarded_front
