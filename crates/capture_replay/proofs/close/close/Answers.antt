use Rattle.std.proofs.Common.{◌≡◌, ◌∙◌, true, false, map, not, Err, refl, sym, ap, subst}
use Rattle.std.specs.Prelude.{◌⊎◌}
use Rattle.std.proofs.lemmas.Result.{err_from_is_err_and}
use Rattle.mos_bytes.specs.Writes.{AppendsFront}
use Rattle.std.specs.Io.KnownBytes.{Appends}
use Rattle.lane_core.specs.declared.errors.LaneError.TheVariants as Lane
use Rattle.capture_replay.specs.Records.{packets_of}
use Rattle.capture_replay.specs.Outcome.{is_forward}
use Rattle.capture_replay.specs.declared.refusal.ReplayError.TheVariants as Replay
use Rattle.capture_replay.proofs.Closing.{was_good, ended_with, end_is_heavy, end_is_light, closing_is, typed_is, ends_well, ends_badly, ends_not}
use Rattle.capture_replay.proofs.Replaying.{front_at_end}
use Rattle.capture_replay.proofs.close.close.Goals as goal

pub returns-in_err-closed-clause-ends : goal.returns-in_err-closed-clause-ends
returns-in_err-closed-clause-ends g c = λ header frames before count is_last read first.
    let lane = c.args.lane in
    let plan = c.args.plan.now in
    let app = g.L.Recorder.app lane in
    let front = front_at_end app plan.script.now plan.output header frames c.args.tail before (g.O.Sink.taken c.args.out.now) first in
    let error = err_from_is_err_and c.from_residual.result c.from_residual.ensures.1 in
    rw (error.1, error.2)
    (ends_not app plan.script.now (packets_of plan.script.now) plan.output frames header c.args.tail c.in_err-closed.field-0.0 before (g.O.Sink.taken c.args.out.now)
    (λ heavy. end_is_heavy app plan.script.now plan.output frames (g.L.Recorder.given lane) (g.L.Recorder.failed lane) (g.L.Recorder.stands lane)
    (g.L.Recorder.keeps lane) c.args.last c.later_commands_change_none.ensures is_last read
    c.weight_never_falls.ensures c.requires.keeps (λ good. c.close.ensures.heavy good (c.in_err-closed.was ∙ ap (λ e. Err e) heavy)))
    front)

pub returns-in_err-versions-clause-ends : goal.returns-in_err-versions-clause-ends
returns-in_err-versions-clause-ends g c = λ header frames before count is_last read first.
    let plan = c.args.plan.now in
    let app = g.L.Recorder.app c.args.lane in
    let front = front_at_end app plan.script.now plan.output header frames c.args.tail before (g.O.Sink.taken c.args.out.now) first in
    let error = err_from_is_err_and c.from_residual-in_err-versions.result c.from_residual-in_err-versions.ensures.1 in
    rw (error.1, error.2)
    (ends_not app plan.script.now (packets_of plan.script.now) plan.output frames header c.args.tail Lane.NoMemory before (g.O.Sink.taken c.args.out.now)
    (λ heavy. cc) front)

pub returns-in_err-write_end-clause-ends : goal.returns-in_err-write_end-clause-ends
returns-in_err-write_end-clause-ends g c = λ header frames before count is_last read first.
    let lane = c.args.lane in
    let plan = c.args.plan.now in
    let app = g.L.Recorder.app lane in
    let end = c.in_ok-closed.closed.end in
    let good = was_good (g.L.Recorder.failed lane) c.close.result c.in_ok-closed.closed c.close.ensures.failed c.in_ok-closed.was in
    let is = ended_with app plan.script.now plan.output frames (g.L.Recorder.given lane) (g.L.Recorder.failed lane) (g.L.Recorder.stands lane)
    (g.L.Recorder.keeps lane) c.args.last c.later_commands_change_none.ensures is_last read
    end good (c.in_ok-closed.ensures.kept good) in
    let light = end_is_light app plan.script.now plan.output frames (g.L.Recorder.given lane) (g.L.Recorder.failed lane) (g.L.Recorder.stands lane)
    (g.L.Recorder.keeps lane) c.args.last c.later_commands_change_none.ensures is_last read
    good c.requires.keeps c.in_ok-closed.ensures.light in
    let text = closing_is app plan.script.now plan.output frames (g.L.Recorder.keeps lane) end is _ c.in_ok-closed.ensures.app
    c.as_slice-records.result.now c.as_slice-records.ensures c.args.packets c.args.tail count c.requires.keeps in
    let error = err_from_is_err_and c.from_residual-in_err-write_end.result c.from_residual-in_err-write_end.ensures.1 in
    let which = subst (λ e. ((e ≡ Replay.WriteFault) × (is_forward plan.output ≡ false)) ⊎ (e ≡ Replay.NoMemory)) (sym error.2) c.in_err-write_end.ensures.only in
    let last = subst (AppendsFront (g.O.Sink.taken c.args.out.now) (g.O.Sink.taken c.write_end.new.out)) text c.in_err-write_end.ensures.text in
    rw (error.1)
    (ends_badly app plan.script.now (packets_of plan.script.now) plan.output frames header c.args.tail error.0 before (g.O.Sink.taken c.args.out.now)
    (g.O.Sink.taken c.write_end.new.out) light which first last)

pub returns-clause-ends : goal.returns-clause-ends
returns-clause-ends g c = λ header frames before count is_last read first.
    let lane = c.args.lane in
    let plan = c.args.plan.now in
    let app = g.L.Recorder.app lane in
    let end = c.in_ok-closed.closed.end in
    let good = was_good (g.L.Recorder.failed lane) c.close.result c.in_ok-closed.closed c.close.ensures.failed c.in_ok-closed.was in
    let is = ended_with app plan.script.now plan.output frames (g.L.Recorder.given lane) (g.L.Recorder.failed lane) (g.L.Recorder.stands lane)
    (g.L.Recorder.keeps lane) c.args.last c.later_commands_change_none.ensures is_last read
    end good (c.in_ok-closed.ensures.kept good) in
    let light = end_is_light app plan.script.now plan.output frames (g.L.Recorder.given lane) (g.L.Recorder.failed lane) (g.L.Recorder.stands lane)
    (g.L.Recorder.keeps lane) c.args.last c.later_commands_change_none.ensures is_last read
    good c.requires.keeps c.in_ok-closed.ensures.light in
    let text = closing_is app plan.script.now plan.output frames (g.L.Recorder.keeps lane) end is _ c.in_ok-closed.ensures.app
    c.as_slice-records.result.now c.as_slice-records.ensures c.args.packets c.args.tail count c.requires.keeps in
    let last = subst (Appends (g.O.Sink.taken c.args.out.now) (g.O.Sink.taken c.write_end.new.out)) text c.in_ok-write_end.ensures.text in
    ends_well app plan.script.now (packets_of plan.script.now) plan.output frames header c.args.tail _ before (g.O.Sink.taken c.args.out.now)
    (g.O.Sink.taken c.write_end.new.out) light
    (c.in_ok-versions.ensures ∙ ap (map (λ r. r.version)) c.as_slice-records.ensures ∙ is.versions_are) first last

pub returns-clause-typed : goal.returns-clause-typed
returns-clause-typed g c = λ report done frames count is_last read.
    let lane = c.args.lane in
    let plan = c.args.plan.now in
    let app = g.L.Recorder.app lane in
    let end = c.in_ok-closed.closed.end in
    let good = was_good (g.L.Recorder.failed lane) c.close.result c.in_ok-closed.closed c.close.ensures.failed c.in_ok-closed.was in
    let is = ended_with app plan.script.now plan.output frames (g.L.Recorder.given lane) (g.L.Recorder.failed lane) (g.L.Recorder.stands lane)
    (g.L.Recorder.keeps lane) c.args.last c.later_commands_change_none.ensures is_last read
    end good (c.in_ok-closed.ensures.kept good) in
    typed_is app plan.script.now plan.output frames (g.L.Recorder.keeps lane) end is _ c.in_ok-closed.ensures.app
    c.as_slice-records.result.now c.as_slice-records.ensures c.args.packets c.args.tail count
    (c.requires.keeps ∙ ap (λ o. not (is_forward o)) report) (c.in_ok-write_end.ensures.typed report refl)
