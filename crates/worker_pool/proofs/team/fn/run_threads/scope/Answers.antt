use denote.Param.Send.{sendable}
use Rattle.std.proofs.Common.{[], refl, sym, subst, List, ◌∙◌, arith}
use Rattle.std.specs.List.{AllZip}
use Rattle.std.proofs.Crossing.{crosses}
use Rattle.lane_rings.proofs.ring.RingTx.TheSendSync as ring
use Rattle.control_script.specs.declared.stamped.Stamped.{Stamped}
use Rattle.control_script.specs.Order.{commands_of}
use Rattle.worker_pool.specs.Inputs.{AreInputs}
use Rattle.worker_pool.specs.AtWork.{IsBack}
use Rattle.worker_pool.proofs.Starting.{dealt_under, all_at_work, all_served}
use Rattle.worker_pool.proofs.team.fn.run_threads.scope.Goals as goal

pub start_control-control-requires-send-F : goal.start_control-control-requires-send-F
start_control-control-requires-send-F g c κs within = search (sendable, crosses, ring.the_field_send, c.requires.gate_shared) depth 40

pub send_packets-read-requires : goal.send_packets-read-requires
send_packets-read-requires g c =
    let are = c.start_all-inputs.ensures.inputs in
    record {
      some = let e = are.count in let f = c.requires.starts.team.team.some in omega (arith, e, f);
      begins = (c.captures.workers.items, subst (λ (s : List Stamped). AreInputs g.L.Recorder s c.captures.workers.items [] c.start_all-inputs.result.items) (sym c.requires.starts.feed) are, c.requires.may);
    }

pub finish_all-workers-requires : goal.finish_all-workers-requires
finish_all-workers-requires g c =
    let script = c.context_of-context.result.script.now in
    let are = c.start_all-inputs.ensures.inputs in
    let under = subst (λ (s : List Stamped). AreInputs g.L.Recorder s c.captures.workers.items [] c.start_all-inputs.result.items) (sym c.requires.starts.feed) are in
    let sent = dealt_under g.L.Recorder (g.E.Feed.script c.captures.feed.now) script _ _ _ (c.requires.starts.feed ∙ sym c.context_of-context.ensures.script)
    (c.send_packets-read.ensures.dealt c.captures.workers.items under c.requires.may) in
    record {
      at_work = all_at_work g.L.Recorder script c.captures.workers.items sent.frames c.send_packets-read.new.inputs.items sent.inputs_are;
      empty = c.requires.room.none_back;
      places = let e = sent.inputs_are.count in let f = c.requires.room.room_for_workers in omega (arith, e, f);
    }

pub returns : goal.returns
returns g c =
    let script = c.captures.script.now in
    let are = c.start_all-inputs.ensures.inputs in
    let under = subst (λ (s : List Stamped). AreInputs g.L.Recorder s c.captures.workers.items [] c.start_all-inputs.result.items) (sym c.requires.starts.feed) are in
    let sent = dealt_under g.L.Recorder (g.E.Feed.script c.captures.feed.now) script _ _ _ c.requires.starts.feed
    (c.send_packets-read.ensures.dealt c.captures.workers.items under c.requires.may) in
    record {
      served = record {
        frames = sent.frames;
        few = sent.few;
        served = all_served g.L.Recorder script c.captures.workers.items sent.frames c.send_packets-read.new.inputs.items c.finish_all-workers.result.items sent.inputs_are
            (subst (λ (s : List Stamped). AllZip (IsBack g.L.Recorder (commands_of s)) c.send_packets-read.new.inputs.items c.finish_all-workers.result.items) c.context_of-context.ensures.script
            c.finish_all-workers.ensures.back);
        done = sent.done;
      };
      same = refl;
    }
