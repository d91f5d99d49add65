use Rattle.capture_maker.proofs.Taken.{taken_whole}
use Rattle.capture_maker.proofs.laws.reader_takes_all_packets.Goals as goal

pub returns : goal.returns
returns c = taken_whole
