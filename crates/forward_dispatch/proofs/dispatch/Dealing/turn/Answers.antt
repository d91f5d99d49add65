use Rattle.std.proofs.Common.{◌≡◌, ◌∷◌, [], Ok, Err, Some, refl, sym, ap, subst, ◌∙◌, arith}
use Rattle.std.proofs.lemmas.Result.{err_from_is_err_and}
use Rattle.pcap_source.specs.Capture.{tail}
use Rattle.pcap_source.specs.Reading.{NextGives, frames_at}
use Rattle.worker_pool.proofs.Reading.{read_tail, read_end, read_refused}
use Rattle.worker_pool.specs.declared.job.PoolError.TheVariants.{WriteFault}
use Rattle.forward_dispatch.proofs.Turning.{settled_sent, settled_leaves, settled_cut, settled_went, settles_as, kept_sent, kept_leaves, stops_refused, same_refusal, told_whole, told_early}
use Rattle.forward_dispatch.proofs.dispatch.Dealing.turn.Goals as goal

pub returns-in_err-await_place-clause-ends : goal.returns-in_err-await_place-clause-ends
returns-in_err-await_place-clause-ends g c = λ begins frames start first before few s reads l.
    let script = c.args.context.now.script.now in
    let d = c.await_place.new.self in
    let left = g.S.Source.left c.args.source.now in
    let old = g.O.Sink.taken c.args.out.now in
    let new = g.O.Sink.taken c.await_place.new.out in
    let e = c.in_err-await_place.field-0.0 in
    let settles = c.in_err-await_place.ensures.settles in
    let p = err_from_is_err_and c.from_residual.result c.from_residual.ensures.1 in
    rw (p.1, p.2) (
      frames,
      told_early g.L.Recorder script c.the_next_leaves.ensures.some begins frames few start c.args.capture.now first left left before reads d new
          (settled_sent g.L.Recorder script c.args.self.now d old new _ settles begins frames s) e
          (λ not. settled_leaves g.L.Recorder script c.args.self.now d old new _ settles (λ is. not (same_refusal e WriteFault (Err e) refl is)) frames before l)
          (settled_cut g.L.Recorder script c.args.self.now d old new _ settles frames before l)
          c.in_err-await_place.ensures.only,
    )

pub returns-in_err-next-clause-ends : goal.returns-in_err-next-clause-ends
returns-in_err-next-clause-ends g c = λ begins frames start first before few s reads l.
    let script = c.args.context.now.script.now in
    let d = record c.await_place.new.self { frame = c.next.new.frame } in
    let left = g.S.Source.left c.args.source.now in
    let last = g.S.Source.left c.next.new.source in
    let old = g.O.Sink.taken c.args.out.now in
    let new = g.O.Sink.taken c.await_place.new.out in
    let e = c.in_err-next.field-0.0 in
    let settles = settles_as g.L.Recorder script c.args.self.now c.await_place.new.self d old new _ refl refl refl c.in_ok-await_place.ensures.settles in
    let p = err_from_is_err_and c.from_residual-in_err-next.result c.from_residual-in_err-next.ensures.1 in
    rw (p.1, p.2) (
      frames,
      told_whole g.L.Recorder script c.the_next_leaves.ensures.some begins frames few start c.args.capture.now first left last before reads d new
          (settled_sent g.L.Recorder script c.args.self.now d old new _ settles begins frames s) _
          (settled_leaves g.L.Recorder script c.args.self.now d old new _ settles (λ is. absurd (cc)) frames before l)
          (stops_refused frames start first last e
          (read_refused start c.args.capture.now c.next.new.self frames c.next.new.frame first left last last e c.in_err-next.ensures.gives reads)),
    )

pub returns-in-Tail-clause-ends : goal.returns-in-Tail-clause-ends
returns-in-Tail-clause-ends g c = λ begins frames start first before few s reads l.
    let script = c.args.context.now.script.now in
    let d = record c.await_place.new.self { frame = c.next.new.frame } in
    let left = g.S.Source.left c.args.source.now in
    let last = g.S.Source.left c.next.new.source in
    let old = g.O.Sink.taken c.args.out.now in
    let new = g.O.Sink.taken c.await_place.new.out in
    let settles = settles_as g.L.Recorder script c.args.self.now c.await_place.new.self d old new _ refl refl refl c.in_ok-await_place.ensures.settles in
    let gives = subst (λ s. NextGives c.args.capture.now c.next.new.self left last c.next.new.frame (Ok s)) c.in-Tail.is c.in_ok-next.ensures.gives in
    let sent = settled_sent g.L.Recorder script c.args.self.now d old new _ settles begins frames s in (
      frames,
      told_whole g.L.Recorder script c.the_next_leaves.ensures.some begins frames few start c.args.capture.now first left last before reads d new sent _
          (settled_leaves g.L.Recorder script c.args.self.now d old new _ settles (λ is. absurd (cc)) frames before l)
          (record {
            count = sent.count ∙ sym c.whole.ensures.packets;
            last = c.whole.ensures.last ∙ sent.newest;
            holds = λ bytes told.
                subst (λ n. (frames_at start bytes ≡ record { frames = frames; ending = tail n }) × (last ≡ Some [])) (sym c.whole.ensures.tail)
                (read_tail start bytes frames c.args.capture.now c.next.new.self c.next.new.frame c.in-Tail.tail left last gives (reads bytes told));
          }),
    )

pub returns-in-End-clause-ends : goal.returns-in-End-clause-ends
returns-in-End-clause-ends g c = λ begins frames start first before few s reads l.
    let script = c.args.context.now.script.now in
    let d = record c.await_place.new.self { frame = c.next.new.frame } in
    let left = g.S.Source.left c.args.source.now in
    let last = g.S.Source.left c.next.new.source in
    let old = g.O.Sink.taken c.args.out.now in
    let new = g.O.Sink.taken c.await_place.new.out in
    let settles = settles_as g.L.Recorder script c.args.self.now c.await_place.new.self d old new _ refl refl refl c.in_ok-await_place.ensures.settles in
    let gives = subst (λ s. NextGives c.args.capture.now c.next.new.self left last c.next.new.frame (Ok s)) c.in-End.is c.in_ok-next.ensures.gives in
    let sent = settled_sent g.L.Recorder script c.args.self.now d old new _ settles begins frames s in (
      frames,
      told_whole g.L.Recorder script c.the_next_leaves.ensures.some begins frames few start c.args.capture.now first left last before reads d new sent _
          (settled_leaves g.L.Recorder script c.args.self.now d old new _ settles (λ is. absurd (cc)) frames before l)
          (record {
            count = sent.count ∙ sym c.whole-in-End.ensures.packets;
            last = c.whole-in-End.ensures.last ∙ sent.newest;
            holds = λ bytes told.
                subst (λ n. (frames_at start bytes ≡ record { frames = frames; ending = tail n }) × (last ≡ Some [])) (sym c.whole-in-End.ensures.tail)
                (read_end start bytes frames c.args.capture.now c.next.new.self c.next.new.frame left last gives (reads bytes told));
          }),
    )

pub send_next-requires-clause-few : goal.send_next-requires-clause-few
send_next-requires-clause-few g c =
    let moved = c.in_ok-next.ensures.moved (ap (λ s. Ok s) c.in-Frame.is) in
    let within = moved.within in
    let count = moved.count in
    let same = c.requires.count in
    let kept = c.await_place.ensures.settles.leaves.sent in
    omega (arith, within, count, same, kept)

pub send_next-requires-clause-under_way : goal.send_next-requires-clause-under_way
send_next-requires-clause-under_way g c =
    let script = c.args.context.now.script.now in
    let given = c.requires.under_way in
    let d = record c.await_place.new.self { frame = c.next.new.frame } in
    let old = g.O.Sink.taken c.args.out.now in
    let new = g.O.Sink.taken c.await_place.new.out in
    let settles = settles_as g.L.Recorder script c.args.self.now c.await_place.new.self d old new _ refl refl refl c.in_ok-await_place.ensures.settles in
    let sent = settled_sent g.L.Recorder script c.args.self.now d old new _ settles given.begins given.frames given.sent in
    record {
      some = let some = given.some in let one = given.sent.inputs_are.count in let two = sent.inputs_are.count in omega (arith, some, one, two);
      begins = given.begins;
      frames = given.frames;
      sent = sent;
    }

pub returns-in-Ok-clause-sends : goal.returns-in-Ok-clause-sends
returns-in-Ok-clause-sends g c = λ is.
    let script = c.args.context.now.script.now in
    let d = record c.await_place.new.self { frame = c.next.new.frame } in
    let left = g.S.Source.left c.args.source.now in
    let last = g.S.Source.left c.next.new.source in
    let old = g.O.Sink.taken c.args.out.now in
    let new = g.O.Sink.taken c.await_place.new.out in
    let settles = settles_as g.L.Recorder script c.args.self.now c.await_place.new.self d old new _ refl refl refl c.in_ok-await_place.ensures.settles in
    let moved = c.in_ok-next.ensures.moved (ap (λ s. Ok s) c.in-Frame.is) in
    let within = moved.within in
    let count = moved.count in
    let same = c.requires.count in
    let kept = c.await_place.ensures.settles.leaves.sent in
    let more = c.in-Ok.ensures.sent in
    record {
      frame = c.next.new.frame;
      gives = subst (λ s. NextGives c.args.capture.now c.next.new.self left last c.next.new.frame (Ok s)) c.in-Frame.is c.in_ok-next.ensures.gives;
      live = c.in_ok-next.ensures.live.1 (ap (λ s. Ok s) c.in-Frame.is);
      count = omega (arith, count, same, kept, more);
      more = omega (arith, kept, more);
      within = omega (arith, within, count, same, kept, more);
      went = settled_went g.L.Recorder script c.args.self.now d old new _ settles (λ is. absurd (cc)) c.send_next.new.self (c.next.new.frame ∷ []) (c.in-Ok.ensures.went new);
    }

pub returns-in-Err-clause-ends : goal.returns-in-Err-clause-ends
returns-in-Err-clause-ends g c = λ begins frames start first before few s reads l.
    let script = c.args.context.now.script.now in
    let d = record c.await_place.new.self { frame = c.next.new.frame } in
    let left = g.S.Source.left c.args.source.now in
    let last = g.S.Source.left c.next.new.source in
    let old = g.O.Sink.taken c.args.out.now in
    let new = g.O.Sink.taken c.await_place.new.out in
    let settles = settles_as g.L.Recorder script c.args.self.now c.await_place.new.self d old new _ refl refl refl c.in_ok-await_place.ensures.settles in
    let sent = settled_sent g.L.Recorder script c.args.self.now d old new _ settles begins frames s in
    let kept = c.in-Err.ensures.kept new in (
      frames,
      told_whole g.L.Recorder script c.the_next_leaves.ensures.some begins frames few start c.args.capture.now first left last before reads c.send_next.new.self new
          (kept_sent g.L.Recorder script d c.send_next.new.self new new kept begins frames sent) _
          (kept_leaves g.L.Recorder script d c.send_next.new.self new new kept begins frames sent before (settled_leaves g.L.Recorder script c.args.self.now d old new _ settles (λ is. absurd (cc)) frames before l))
          tt,
    )
