use Rattle.std.proofs.Common.{ℕ, length, get_or, false}
use Rattle.pcap_source.specs.Captured.{Captured}
use Rattle.control_script.specs.Order.{commands_of}
use Rattle.control_script.specs.Versions.{floor, ceil}
use Rattle.lane_core.specs.Sight.{arrivals}
use Rattle.run_outcome.specs.Whole.{verdicts_under}
use Rattle.lane_composition.specs.Streamed.{answer_at, lane_in}
use Rattle.worker_pool.specs.Ending.{by_key}
use Rattle.forward_dispatch.specs.Streamed.{lane_at}
use Rattle.lane_worker.proofs.Fronts.{IsPrefix-refl}
use Rattle.forward_run.proofs.Explaining.{blank, past, js_count, same_lanes, more_packets, ran_all, front_of_same, left_front, left_all}
use Rattle.forward_run.proofs.explain.lanes_have_answered.Goals as goal

pub returns-clause-front : goal.returns-clause-front
returns-clause-front g c app frames told begins packets all_answers few team kept served are behind =
    let script = c.args.script.now in
    let workers = c.args.workers.now in
    let commands = commands_of script in
    let key = by_key (length workers) in
    let found = c.lanes_have_come.ensures.came false app frames begins packets few team kept served in
    let lanes = found.0 in
    let run = c.fronts_are_of_one_run.ensures.run app commands (floor script) (ceil script) key (arrivals 0 told) lanes
    c.lanes_have_come.ensures.floors c.lanes_have_come.ensures.ceilings (c.packets_of_a_capture_rise.ensures.numbers told)
    (more_packets (floor script) (ceil script) commands key frames told lanes behind found.1.run) in
    let vs = run.0 in
    let js = verdicts_under app commands vs (arrivals 0 told) in
    let frame_of : ℕ → Captured = λ i. get_or told i blank in
    let right = answer_at frame_of js past in
    let by_verdicts = lane_in key js past in
    let judged = c.verdicts_of_a_run.ensures.packets app commands (arrivals 0 told) vs in
    let dealt = c.packets_go_to_lanes.ensures.frame (length workers) in
    record {
      versions = vs;
      may_have = run.1;
      front = λ given old new are_sent left.
          left_front g.L.Recorder app script frames told begins workers all_answers lanes behind found.2 are served.count vs judged dealt given old new are_sent
          (λ l. c.lanes_answer_as_the_run.ensures.fronts app commands key told lanes vs frame_of past l run.2)
          (c.lanes_answer_as_the_run.ensures.bytes app commands told vs frame_of past)
          (λ n agree l. c.later_lanes_change_nothing.ensures.share (lane_at (length workers) frames) by_verdicts n agree l)
          (λ le right_answers h. c.what_left_is_right.ensures.front by_verdicts right (length frames) (length js) given old new le right_answers h)
          left;
    }

pub returns-clause-whole : goal.returns-clause-whole
returns-clause-whole g c app frames begins packets all_answers few team kept served are =
    let script = c.args.script.now in
    let workers = c.args.workers.now in
    let commands = commands_of script in
    let key = by_key (length workers) in
    let found = c.lanes_have_come.ensures.came false app frames begins packets few team kept served in
    let lanes = found.0 in (
      lanes,
      found.1,
      λ good.
          let run = c.lanes_are_one_run.ensures.run app commands (floor script) (ceil script) key (arrivals 0 frames) lanes found.1.run
          (ran_all g.L.Recorder false app script frames workers lanes found.1 good) in
          let vs = run.0 in
          let js = verdicts_under app commands vs (arrivals 0 frames) in
          let frame_of : ℕ → Captured = λ i. get_or frames i blank in
          let right = answer_at frame_of js past in
          let by_verdicts = lane_in key js past in
          let behind = IsPrefix-refl frames in
          let judged = c.verdicts_of_a_run.ensures.packets app commands (arrivals 0 frames) vs in
          let dealt = c.packets_go_to_lanes.ensures.frame (length workers) in
          let agree = same_lanes g.L.Recorder app script frames frames begins workers all_answers lanes behind found.2 are served.count vs judged dealt in
          record {
            versions = vs;
            may_have = run.1;
            one = run.2;
            all = λ given old new are_sent left.
                left_all g.L.Recorder app script frames frames begins workers all_answers lanes behind found.2 are served.count vs judged dealt given old new are_sent
                (λ l. front_of_same _ _ (c.lanes_answer_as_the_run.ensures.whole app commands key frames lanes vs frame_of past l run.2))
                (c.lanes_answer_as_the_run.ensures.bytes app commands frames vs frame_of past)
                (js_count g.L.Recorder app script frames frames begins workers all_answers lanes behind found.2 are served.count vs judged dealt)
                (λ right_answers h. c.what_left_is_right.ensures.all by_verdicts right (length frames) given old new right_answers
                (c.later_lanes_change_nothing.ensures.left (lane_at (length workers) frames) by_verdicts (length frames) given old new agree h))
                left;
          },
    )
