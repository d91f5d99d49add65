use Rattle.capture_replay.specs.Records.{control_at}
use Rattle.capture_replay.proofs.verdicts.each_packet_stands_in_one_record.Goals as goal

pub returns : goal.returns
returns c = λ app script given frames. c.packets_stand_once.ensures app (control_at app script) (given frames)
