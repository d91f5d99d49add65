use Rattle.worker_pool.proofs.Telling.{all_told_nothing, all_told_more}
use Rattle.worker_pool.proofs.team.control.publish.Goals as goal

pub loop-place-init : goal.loop-place-init
loop-place-init g c = all_told_nothing c.args.lanes.now

pub loop-place-preserved : goal.loop-place-preserved
loop-place-preserved g c =
    all_told_more c.loop-place.place c.args.lanes.now c.loop-place.lanes c.tell_all.new.lanes c.loop-place.invariant c.tell_all.ensures
