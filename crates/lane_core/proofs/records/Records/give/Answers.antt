use Rattle.std.proofs.Common.{refl}
use Rattle.std.proofs.lemmas.Result.{on_ok_weaker}
use Rattle.lane_core.proofs.Commands.{live_on, kept_on}
use Rattle.lane_core.proofs.records.Records.give.Goals as goal

pub invariant_of-self : goal.invariant_of-self
invariant_of-self g c =
    let self = c.args.self.now in
    record {
      live = live_on g.F.ForestView self.master c.give_to.new.master self.forests c.give_to.new.forests c.give_to.ensures.trees self.list.len self.next self.connections self.live;
      counted = self.counted;
      first = c.give_to.ensures.trees.first;
    }

pub returns-clause-given : goal.returns-clause-given
returns-clause-given g c =
    let self = c.args.self.now in
    on_ok_weaker c.give_to.result (λ taken. record {
      taken = taken;
      stands = λ keep so_far stands. kept_on g.F.ForestView self.master c.give_to.new.master self.forests c.give_to.new.forests c.give_to.ensures.trees self.list.len self.next self.connections self.live
          keep self.list.items self.ledger.counts so_far stands;
      dropped = refl;
      next = refl;
    }) c.give_to.ensures.taken
