use Rattle.std.proofs.Common.{sym, ◌∙◌, arith}
use Rattle.control_script.specs.Order.{commands_of}
use Rattle.control_script.specs.Versions.{floor, ceil}
use Rattle.lane_core.specs.Sight.{arrivals}
use Rattle.run_outcome.specs.Allowed.{run_of}
use Rattle.worker_pool.specs.Ending.{by_key}
use Rattle.worker_pool.proofs.Concluding.{is_whole, too_heavy, length-arrivals}
use Rattle.worker_pool.proofs.report.conclude.whole_of.Goals as goal

pub returns-then-is_heavy : goal.returns-then-is_heavy
returns-then-is_heavy c = record {
  whole = λ app script lanes frames vs allowed joined of_frames few.
      let end = c.args.joined in
      too_heavy app script lanes frames vs allowed end.records end.callbacks end.weight end.drops joined
      (sym c.is_heavy.ensures ∙ c.if-is_heavy.true);
}

pub returns : goal.returns
returns c = record {
  whole = λ app script lanes frames vs allowed joined of_frames few.
      let end = c.args.joined in
      is_whole app script lanes frames vs allowed end.records end.callbacks end.weight end.drops joined
      c.as_slice-records.result.now c.as_slice-records.ensures
      (c.a_run_has_its_versions.ensures.versions app (commands_of script) (floor script) (ceil script) (by_key lanes) (arrivals 0 frames) vs allowed)
      (c.counts_of_a_run_fit.ensures.callbacks (run_of app script vs frames))
      (c.counts_of_a_run_fit.ensures.drops app (commands_of script) (arrivals 0 frames) vs (let e = length-arrivals 0 frames in omega arith))
      c.args.packets c.args.tail of_frames (sym c.is_heavy.ensures ∙ c.if-is_heavy.false) c.in_ok-versions.versions c.in_ok-versions.ensures;
}
