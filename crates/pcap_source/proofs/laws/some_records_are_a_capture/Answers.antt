use Rattle.pcap_source.proofs.Again.{some_are_a_capture}
use Rattle.pcap_source.proofs.laws.some_records_are_a_capture.Goals as goal

pub returns : goal.returns
returns c = some_are_a_capture
