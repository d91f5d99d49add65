use Rattle.std.proofs.Common.{◌≡◌, refl, arith}
use Rattle.std.proofs.lemmas.Grind.{common_steps}
use Rattle.std.specs.FinMap as map
use Rattle.lane_core.proofs.Live.{none_live, counted_without, kept_without}
use Rattle.lane_core.proofs.records.Records.prepare.Goals as goal

pub invariant_of-self : goal.invariant_of-self
invariant_of-self g c =
    let self = c.args.self.now in
    record {
      live = none_live (g.F.ForestView.answered self.forests) (g.F.ForestView.content self.forests) self.master self.list.len self.next c.with_seed.result c.with_seed.ensures.none;
      counted = counted_without self.ledger.counts self.list.len self.dropped self.next c.with_seed.result (map.len self.connections) c.with_seed.ensures.empty self.counted;
      first = self.first;
    }

pub returns : goal.returns
returns g c =
    let self = c.args.self.now in
    let empty : self.list.len ≡ 0 = let is = c.is_empty.ensures in let test = c.if-not-is_empty.false in grind (arith, common_steps) in
    record {
      stands = λ keep so_far stands. kept_without self empty c.with_seed.result c.with_seed.ensures.none keep so_far stands;
      dropped = refl;
      under = record { master = refl; forests = refl; next = refl };
    }
