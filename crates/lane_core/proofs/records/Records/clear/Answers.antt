use Rattle.lane_core.proofs.Live.{none_live, none_counted}
use Rattle.lane_core.proofs.records.Records.clear.Goals as goal

pub invariant_of-self : goal.invariant_of-self
invariant_of-self g c =
    let self = c.args.self.now in
    record {
      live = none_live (g.F.ForestView.answered self.forests) (g.F.ForestView.content self.forests) self.master c.new-2.result.len self.next c.new.result c.new.ensures.none;
      counted = none_counted c.new-3.result.counts c.new-2.result.len self.next c.new.result c.new-3.ensures.counts c.new-2.ensures.len c.new.ensures.empty self.counted.numbered;
      first = self.first;
    }
