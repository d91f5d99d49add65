use Rattle.pcap_source.proofs.Longest.{frames_from-longest}
use Rattle.pcap_source.proofs.laws.records_are_the_longest_front.Goals as goal

pub returns : goal.returns
returns c = frames_from-longest
