-- Only for proofs. What a team asks that is to stream an opened capture.
use Rattle.std.specs.Prelude.{◌≡◌, ℕ, List, [], Option, None}
use Rattle.pcap_source.specs.Reading.{CaptureState, Opened}
use Rattle.lane_worker.specs.declared.worker.Worker.{Worker}
use Rattle.forward_dispatch.specs.declared.dispatch.Dealing.{Dealing}
use Rattle.forward_dispatch.specs.Streamed.{AreLaneAnswers}
use Rattle.forward_dispatch.specs.Turns.{LeavesSo}

-- An opened capture may be streamed to workers that began so: nothing was sent or has left.
pub record MayStream {L : Type 0} (begins : List (Worker L)) (capture : CaptureState) (d : Dealing L) (out : Option (List ℕ)) : Type 0 where
  pub opened : Opened capture
  pub all_answers_are : AreLaneAnswers begins d.way.all_answers.items
  pub none_left : LeavesSo [] d out out
  pub last : d.last ≡ None
