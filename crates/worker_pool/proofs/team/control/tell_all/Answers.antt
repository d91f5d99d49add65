use Rattle.std.proofs.Common.{arith}
use Rattle.worker_pool.specs.Telling.{Tells}
use Rattle.worker_pool.proofs.Telling.{zip_from}
use Rattle.worker_pool.proofs.team.control.tell_all.Goals as goal

pub returns : goal.returns
returns c =
    let same = c.loop-lane.auto.lanes in
    let ended = c.loop-lane-test.false in
    let last = c.loop-lane.auto.lane-index-end in
    zip_from (Tells c.args.place) c.args.lanes.now c.loop-lane.lanes (omega (arith, same)) (λ k d below. c.loop-lane.invariant.told k d (omega (arith, below, same, ended, last)))
