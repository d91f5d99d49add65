use Rattle.std.proofs.Common.{◌∙◌, ◌++◌, ◌∷◌, [], Err, sym, ap, subst}
use Rattle.std.proofs.lemmas.Result.{err_from_is_err_and}
use Rattle.std.specs.Io.KnownBytes.{Appends}
use Rattle.mos_bytes.specs.Writes.{AppendsFront}
use Rattle.capture_replay.specs.Records.{packets_of}
use Rattle.capture_replay.proofs.Following.{ready_still}
use Rattle.capture_replay.specs.Reading.{Follows, IsOver, packet_at}
use Rattle.capture_replay.proofs.Reading.{not_failed, read_still, read_more, read_heavy, gained_is, seen_arrival}
use Rattle.capture_replay.proofs.taking.take_at.Goals as goal

pub returns-then-has_failed-clause-ready : goal.returns-then-has_failed-clause-ready
returns-then-has_failed-clause-ready g c = λ ok. ready_still g.L.Recorder c.args.plan.now.script.now c.args.lane.now c.args.number c.requires.may.ready

pub returns-then-has_failed-clause-reads : goal.returns-then-has_failed-clause-reads
returns-then-has_failed-clause-reads g c = λ ok frame frames seen count read.
    let lane = c.args.lane.now in
    let plan = c.args.plan.now in
    read_still (g.L.Recorder.app lane) plan.script.now plan.output frames frame c.args.number count (g.L.Recorder.given lane) (g.L.Recorder.failed lane) (g.L.Recorder.stands lane)
    c.last_packet_is_added.ensures c.weight_never_falls.ensures (c.has_failed.ensures.0 c.if-has_failed.true) read

pub returns-in_ok-write_passed-in-Ok-clause-reads : goal.returns-in_ok-write_passed-in-Ok-clause-reads
returns-in_ok-write_passed-in-Ok-clause-reads g c = λ ok frame frames seen count read.
    let old = c.args.lane.now in
    let new = c.advance.new.lane in
    let plan = c.args.plan.now in
    let e = c.in-Ok.ensures in
    let good = not_failed (g.L.Recorder.failed old) c.has_failed.result c.if-has_failed.false c.has_failed.ensures.1 in
    let before = read.follows good in
    let same = seen_arrival c.args.number frame c.args.moment c.args.head.now c.args.bytes.now seen in
    let plan_script = plan.script.now in
    rw (c.advance.ensures.same.app)
    (read_more (g.L.Recorder.app old) plan.script.now plan.output frames frame c.args.number count (g.L.Recorder.given new) (g.L.Recorder.failed new) (g.L.Recorder.stands new)
    e.ok (subst (λ a. Follows plan_script (g.L.Recorder.given new) (g.L.Recorder.stands new) (packets_of plan_script frames ++ packet_at plan_script c.args.number a ∷ [])) same
    (e.follows (packets_of plan.script.now frames) before))
    (λ kept over. e.light (c.requires.keeps ∙ kept) (packets_of plan.script.now frames) before
    (subst (λ a. IsOver (g.L.Recorder.app old) plan_script (packets_of plan_script frames ++ packet_at plan_script c.args.number a ∷ [])) (sym same) over)))

pub returns-in-Err-Heavy-clause-reads : goal.returns-in-Err-Heavy-clause-reads
returns-in-Err-Heavy-clause-reads g c = λ ok frame frames seen count read.
    let old = c.args.lane.now in
    let new = c.advance.new.lane in
    let plan = c.args.plan.now in
    let is = c.in-Err-Heavy.is ∙ ap Err c.in-Err-Heavy.field-0-is in
    let good = not_failed (g.L.Recorder.failed old) c.has_failed.result c.if-has_failed.false c.has_failed.ensures.1 in
    let heavy = c.advance.ensures.heavy is in
    let same = seen_arrival c.args.number frame c.args.moment c.args.head.now c.args.bytes.now seen in
    let plan_script = plan.script.now in
    rw (c.advance.ensures.same.app)
    (read_heavy (g.L.Recorder.app old) plan.script.now plan.output frames frame c.args.number count (g.L.Recorder.given new) (g.L.Recorder.failed new) (g.L.Recorder.stands new)
    (c.advance.ensures.failed is) (sym c.requires.keeps ∙ heavy.0) (subst (λ a. IsOver (g.L.Recorder.app old) plan_script (packets_of plan_script frames ++ packet_at plan_script c.args.number a ∷ [])) same
    (heavy.1 (packets_of plan.script.now frames) (read.follows good))))

pub returns-in_ok-write_passed-in-Ok-clause-writes : goal.returns-in_ok-write_passed-in-Ok-clause-writes
returns-in_ok-write_passed-in-Ok-clause-writes g c = λ frame frames seen count read.
    let old = c.args.lane.now in
    let plan = c.args.plan.now in
    let good = not_failed (g.L.Recorder.failed old) c.has_failed.result c.if-has_failed.false c.has_failed.ensures.1 in
    subst (Appends (g.O.Sink.taken c.args.out.now) (g.O.Sink.taken c.write_passed.new.out))
    (gained_is (g.L.Recorder.app old) plan.script.now plan.output frames frame c.args.number c.args.moment c.args.head.now c.args.bytes.now seen count c.in-Ok.verdict
    (c.in-Ok.ensures.verdict (packets_of plan.script.now frames) (read.follows good)))
    (c.in_ok-write_passed-in-Ok.ensures.text frame seen.head_is seen.bytes_is)

pub returns-in_err-write_passed-in-Ok-clause-writes : goal.returns-in_err-write_passed-in-Ok-clause-writes
returns-in_err-write_passed-in-Ok-clause-writes g c = λ frame frames seen count read.
    let old = c.args.lane.now in
    let plan = c.args.plan.now in
    let good = not_failed (g.L.Recorder.failed old) c.has_failed.result c.if-has_failed.false c.has_failed.ensures.1 in
    let error = err_from_is_err_and c.from_residual.result c.from_residual.ensures.1 in
    rw (error.1)
    (subst (AppendsFront (g.O.Sink.taken c.args.out.now) (g.O.Sink.taken c.write_passed.new.out))
    (gained_is (g.L.Recorder.app old) plan.script.now plan.output frames frame c.args.number c.args.moment c.args.head.now c.args.bytes.now seen count c.in-Ok.verdict
    (c.in-Ok.ensures.verdict (packets_of plan.script.now frames) (read.follows good)))
    (c.in_err-write_passed-in-Ok.ensures.text frame seen.head_is seen.bytes_is))
