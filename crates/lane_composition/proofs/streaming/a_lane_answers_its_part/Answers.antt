use Rattle.lane_composition.proofs.Streamed.{streamed_share, streamed_bytes}
use Rattle.lane_composition.proofs.streaming.a_lane_answers_its_part.Goals as goal

pub returns-clause-answers : goal.returns-clause-answers
returns-clause-answers c = λ frame_of lane js d l n numbered le. streamed_share frame_of js d numbered lane l n le

pub returns-clause-bytes : goal.returns-clause-bytes
returns-clause-bytes c = λ frame_of js d n numbered le. streamed_bytes frame_of js d numbered n le
