use Rattle.std.proofs.Common.{length, sym, subst}
use Rattle.std.proofs.lemmas.Result.{err_from_is_err_and}
use Rattle.control_script.specs.Order.{commands_of}
use Rattle.control_script.specs.Versions.{floor, ceil}
use Rattle.lane_core.specs.Sight.{arrivals}
use Rattle.worker_pool.specs.Team.{HaveServed}
use Rattle.worker_pool.specs.Ending.{by_key, CameTo}
use Rattle.worker_pool.proofs.Concluding.{lanes_end, all_run, joined_run, refused}
use Rattle.worker_pool.proofs.report.conclude.joined_of.Goals as goal

pub returns : goal.returns
returns g c = record {
  joined = λ keep app frames begins packets few last team kept served.
      let script = c.args.context.now.script.now in
      let workers = c.args.workers.items in
      let seen = c.as_slice.ensures.value in
      let found = c.lanes_have_come.ensures.came keep app frames begins packets few team kept (subst (HaveServed g.L.Recorder script begins frames) (sym seen) served) in
      let came = subst (λ ws. CameTo g.L.Recorder keep app script frames ws found.0) seen found.1 in
      let ends = c.in_ok-ends.ends.items in
      let ended = c.in_ok-ends.ensures.ended in
      joined_run g.L.Recorder keep app script frames workers found.0 came c.args.last ends ended (length begins) served.count c.in_ok-join.field-0
      (c.lanes_are_one_run.ensures.run app (commands_of script) (floor script) (ceil script) (by_key (length workers)) (arrivals 0 frames) found.0 came.run
      (all_run g.L.Recorder keep app script frames workers found.0 came c.args.last ends ended))
      (λ vs one. c.in_ok-join.ensures.joined keep app (commands_of script) (by_key (length workers)) (arrivals 0 frames) found.0 vs one
      (c.packets_of_a_capture_rise.ensures.numbers frames) (lanes_end g.L.Recorder keep app script frames workers found.0 came c.args.last ends ended last));
}

pub returns-in_err-ends : goal.returns-in_err-ends
returns-in_err-ends g c =
    let p = err_from_is_err_and c.from_residual.result c.from_residual.ensures.1 in
    rw (p.1, p.2) (record {
      joined = λ keep app frames begins packets few last team kept served.
          let script = c.args.context.now.script.now in
          let workers = c.args.workers.items in
          let seen = c.as_slice.ensures.value in
          let found = c.lanes_have_come.ensures.came keep app frames begins packets few team kept (subst (HaveServed g.L.Recorder script begins frames) (sym seen) served) in
          let came = subst (λ ws. CameTo g.L.Recorder keep app script frames ws found.0) seen found.1 in
          refused g.L.Recorder keep app script frames workers found.0 came c.args.last last (length begins) _ served.count c.in_err-ends.ensures.failed
          (λ k heavy. c.a_heavy_lane_makes_a_heavy_run.ensures.run app (commands_of script) (floor script) (ceil script) (by_key (length workers)) (arrivals 0 frames) found.0 k
          c.lanes_have_come.ensures.floors c.lanes_have_come.ensures.ceilings (c.packets_of_a_capture_rise.ensures.numbers frames) came.run heavy)
          (λ k whole heavy. c.a_heavy_lane_makes_a_heavy_run.ensures.at_end app (commands_of script) (floor script) (ceil script) (by_key (length workers)) (arrivals 0 frames) found.0 k
          c.lanes_have_come.ensures.floors c.lanes_have_come.ensures.ceilings (c.packets_of_a_capture_rise.ensures.numbers frames) came.run whole heavy);
    })
