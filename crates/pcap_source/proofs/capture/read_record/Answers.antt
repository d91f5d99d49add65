-- A record that was lent is the one that stands at this place.
use Rattle.std.proofs.lemmas.Bool.{OnTrue_at}
use Rattle.pcap_source.proofs.Steps.{gives-whole}
use Rattle.pcap_source.proofs.capture.read_record.Goals as goal

pub returns-then-branch-clause-gives : goal.returns-then-branch-clause-gives
returns-then-branch-clause-gives g c =
    let took = c.if-branch.true in
    let lent = c.in_ok-take_lent.ensures in
    gives-whole c.args.at.order c.args.at.count c.args.at.offset _ _ c.take_lent.new.frame (OnTrue_at took lent.consumed) (OnTrue_at took lent.whole) (OnTrue_at took lent.few)
