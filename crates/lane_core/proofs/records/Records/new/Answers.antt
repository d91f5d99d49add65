use Rattle.std.proofs.Common.{refl, arith}
use Rattle.connection_core.specs.InForce.{registered_at}
use Rattle.lane_core.proofs.Live.{none_live, none_counted}
use Rattle.lane_core.proofs.Stored.{kept-empty}
use Rattle.lane_core.proofs.records.Records.new.Goals as goal

pub invariant_of-result : goal.invariant_of-result
invariant_of-result g c =
    let f = c.new.new.f in
    let m = c.in_ok-master.master in
    record {
      live = none_live (g.F.ForestView.answered f) (g.F.ForestView.content f) m c.new-3.result.len 0 c.new-2.result c.new-2.ensures.none;
      counted = none_counted c.new-4.result.counts c.new-3.result.len 0 c.new-2.result c.new-4.ensures.counts c.new-3.ensures.len c.new-2.ensures.empty (omega arith);
      first = record { answered = c.in_ok-master.ensures.answered; tree = c.in_ok-master.ensures.forest };
    }

pub returns : goal.returns
returns g c = record {
  commands = c.in_ok-master.ensures.stands;
  stands = λ keep. rw (c.new-3.ensures.items, c.new-4.ensures.counts)
      (kept-empty keep (registered_at c.in_ok-master.master) (g.F.ForestView.content c.new.new.f) c.new-2.result c.new-2.ensures.none);
  dropped = refl;
  next = refl;
  interned = c.in_ok-master.ensures.stored.counted;
}
