use Rattle.std.proofs.Common.{◌≡◌, sym, subst, [], length}
use Rattle.std.proofs.lemmas.Bool.{MatchBool-at_true}
use Rattle.lane_join.specs.Queues.{lists_in, waiting, Moves, AreEmpty}
use Rattle.lane_join.proofs.Merged.{left_moved, IsSoFar, so_far_none, so_far_moved}
use Rattle.lane_join.proofs.merging.merge.Goals as goal
use Rattle.lane_join.proofs.merging.merge.Goals.{Then-branch}

pub loop-items-init : goal.loop-items-init
loop-items-init c of are =
    subst (λ m. IsSoFar of (lists_in c.args.ends.items) (waiting c.in_ok-queues.queues.items) m) (sym c.in_ok-items.ensures.items)
    (subst (λ qs. IsSoFar of (lists_in c.args.ends.items) qs []) (sym c.in_ok-queues.ensures) (so_far_none of (lists_in c.args.ends.items)))

moved : (c : Then-branch) → Moves (waiting c.loop-items.queues.items) (waiting c.take_lowest.new.queues.items) c.loop-items.items.items c.take_lowest.new.merged.items
moved c = MatchBool-at_true
    (Moves (waiting c.loop-items.queues.items) (waiting c.take_lowest.new.queues.items) c.loop-items.items.items c.take_lowest.new.merged.items)
    (AreEmpty (waiting c.loop-items.queues.items) (length c.loop-items.queues.items) × (c.take_lowest.new.merged.items ≡ c.loop-items.items.items))
    c.if-branch.true c.in_ok-take_lowest.ensures

pub loop-items-smaller : goal.loop-items-smaller
loop-items-smaller c =
    left_moved (waiting c.loop-items.queues.items) (waiting c.take_lowest.new.queues.items) c.loop-items.items.items c.take_lowest.new.merged.items (moved c)

pub loop-items-preserved : goal.loop-items-preserved
loop-items-preserved c of are =
    so_far_moved of (lists_in c.args.ends.items) (waiting c.loop-items.queues.items) (waiting c.take_lowest.new.queues.items) c.loop-items.items.items c.take_lowest.new.merged.items
    are (c.loop-items.invariant of are) (moved c)
