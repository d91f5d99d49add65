use Rattle.std.proofs.Common.{false, length}
use Rattle.std.proofs.lemmas.Result.{err_from_is_err_and}
use Rattle.control_script.specs.Order.{commands_of}
use Rattle.control_script.specs.Versions.{floor, ceil}
use Rattle.lane_core.specs.Sight.{arrivals}
use Rattle.run_outcome.specs.Allowed.{run_of}
use Rattle.worker_pool.specs.Ending.{by_key}
use Rattle.worker_pool.proofs.Concluding.{lanes_end}
use Rattle.forward_run.proofs.Exits.{versions_joined, good_ended, not_heavy, why_none}
use Rattle.forward_run.proofs.leave.versions_in.Goals as goal

pub returns-in_err-ends-clause-no_memory : goal.returns-in_err-ends-clause-no_memory
returns-in_err-ends-clause-no_memory g c app script frames lanes came =
    let p = err_from_is_err_and c.from_residual.result c.from_residual.ensures.1 in
    rw (p.1, p.2) (not_heavy g.L.Recorder c.args.last app script frames c.args.workers.items lanes _ came c.in_err-ends.ensures.failed)

pub returns-in_err-ends-clause-kinds : goal.returns-in_err-ends-clause-kinds
returns-in_err-ends-clause-kinds g c =
    let p = err_from_is_err_and c.from_residual.result c.from_residual.ensures.1 in
    rw (p.1, p.2) (why_none g.L.Recorder c.args.last c.args.workers.items _ c.in_err-ends.ensures.failed)

pub returns-clause-good : goal.returns-clause-good
returns-clause-good g c ok = good_ended g.L.Recorder c.args.last c.args.workers.items c.in_ok-ends.ends.items c.in_ok-ends.ensures.ended

pub returns-clause-versions : goal.returns-clause-versions
returns-clause-versions g c app script frames lanes vs last came one may_have =
    let key = by_key (length c.args.workers.items) in
    let joined = c.in_ok-joined.joined in
    versions_joined false app (run_of app script vs frames) vs c.in_ok-versions.versions joined.records c.as_slice.result.now joined.callbacks joined.weight joined.drops
    (c.in_ok-joined.ensures.joined false app (commands_of script) key (arrivals 0 frames) lanes vs one (c.packets_of_a_capture_rise.ensures.numbers frames)
    (lanes_end g.L.Recorder false app script frames c.args.workers.items lanes came c.args.last c.in_ok-ends.ends.items c.in_ok-ends.ensures.ended last))
    (c.a_run_has_its_versions.ensures.versions app (commands_of script) (floor script) (ceil script) key (arrivals 0 frames) vs may_have)
    c.as_slice.ensures c.in_ok-versions.ensures
