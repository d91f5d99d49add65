use Rattle.std.proofs.Common.{◌+◌, Option, None, List, ℕ, Err, drop, refl, ap, ◌∙◌, arith, length-drop}
use Rattle.std.proofs.lemmas.Result.{err_from_is_err_and}
use Rattle.mos_bytes.specs.Reads.{BeginsWith}
use Rattle.pcap_source.specs.Capture.{record_at}
use Rattle.pcap_source.specs.InPlace.{left_behind}
use Rattle.worker_pool.proofs.Walking.{behind_none, taken_behind}
use Rattle.capture_replay.specs.declared.refusal.ReplayError.TheVariants as Replay
use Rattle.capture_replay.specs.Reading.{run_at}
use Rattle.capture_replay.proofs.Ends.{err_same}
use Rattle.capture_replay.proofs.InPlace.{seen_behind, told_in}
use Rattle.capture_replay.proofs.Onward.{goes_nowhere, goes_past, keeps_all, on_and_on, one_frame, stops_behind, stops_taking, writes_as, writes_since}
use Rattle.capture_replay.proofs.in_place.walk.Goals as goal

pub loop-record-init : goal.loop-record-init
loop-record-init g c = record {
  within = omega arith;
  may = c.requires.may;
  goes = λ left begins. goes_past _ (run_at c.args.lane.now c.args.capture.now c.args.so_far c.args.out.now left) (left_behind 0 left) (goes_nowhere _ c.requires.may)
      (λ frames bytes r. rw (behind_none left) r);
}

pub loop-record-preserved : goal.loop-record-preserved
loop-record-preserved g c =
    let at = c.loop-record in
    let front = c.args.front.now in
    let record_ = c.in-Some.record in
    let taken = taken_behind at.capture c.next_in.new.self front at.len record_ c.in-Some.ensures.taken in
    let frame = record_at at.capture.order (drop at.len front) in
    let seen = seen_behind at.capture c.next_in.new.self front at.len record_ c.in-Some.ensures.taken in
    let more = c.in_ok-take_at.ensures in
    let on = λ (left : Option (List ℕ)) (begins : BeginsWith left front). on_and_on (at.invariant.goes left begins)
    (one_frame (run_at at.lane at.capture at.so_far at.out (left_behind at.len left))
    (run_at c.take_at.new.lane c.next_in.new.self c.with_packet-so_far.result c.take_at.new.out (left_behind (at.len + record_.len) left)) (g.O.Sink.taken at.out) frame _
    at.invariant.may taken.moves taken.live c.take_at.ensures.same (more.ready refl) c.with_packet-so_far.ensures.packets c.with_packet-so_far.ensures.greatest seen.moment_is
    c.take_at.ensures.silent (writes_as (λ none. absurd none) c.take_at.ensures.to) (keeps_all _)
    (λ frames count read. more.reads refl frame frames seen count read) (λ frames count read. more.writes frame frames seen count read)
    (λ rest told. told_in left front at.len record_.len at.capture c.next_in.new.self frame rest begins at.invariant.within taken.gives told)) in
    record {
      within = let inside = taken.within in let was = at.invariant.within in omega (arith, inside, was, length-drop at.len front);
      may = (on None tt).may;
      goes = on;
    }

pub returns-in_err-take_at-clause-stops : goal.returns-in_err-take_at-clause-stops
returns-in_err-take_at-clause-stops g c =
    let at = c.loop-record in
    let front = c.args.front.now in
    let record_ = c.in-Some.record in
    let taken = taken_behind at.capture c.next_in.new.self front at.len record_ c.in-Some.ensures.taken in
    let frame = record_at at.capture.order (drop at.len front) in
    let seen = seen_behind at.capture c.next_in.new.self front at.len record_ c.in-Some.ensures.taken in
    let e = c.in_err-take_at.field-0.0 in
    let p = err_from_is_err_and c.from_residual.result c.from_residual.ensures.1 in
    rw (p.1, p.2)
    (λ left begins. stops_behind _ _ c.take_at.new.out e (at.invariant.goes left begins)
    (stops_taking (run_at at.lane at.capture at.so_far at.out (left_behind at.len left)) c.next_in.new.self (left_behind (at.len + record_.len) left) (g.O.Sink.taken at.out) c.take_at.new.out frame e
    at.invariant.may (keeps_all _) c.in_err-take_at.ensures.only (λ frames count read. c.in_err-take_at.ensures.writes frame frames seen count read)
    (λ rest told. told_in left front at.len record_.len at.capture c.next_in.new.self frame rest begins at.invariant.within taken.gives told)))

pub returns-in_err-take_at-clause-silent : goal.returns-in_err-take_at-clause-silent
returns-in_err-take_at-clause-silent g c = λ kept. c.take_at.ensures.silent kept ∙ (c.loop-record.invariant.goes None tt).silent kept

pub returns-in_err-take_at-clause-to : goal.returns-in_err-take_at-clause-to
returns-in_err-take_at-clause-to g c =
    let p = err_from_is_err_and c.from_residual.result c.from_residual.ensures.1 in
    rw (p.1, p.2) (writes_since (c.loop-record.invariant.goes None tt).to (writes_as (λ is. c.in_err-take_at.was ∙ ap (λ x. Err x) (err_same c.in_err-take_at.field-0.0 Replay.WriteFault is)) c.take_at.ensures.to))

pub returns-in_default-clause-silent : goal.returns-in_default-clause-silent
returns-in_default-clause-silent g c = (c.loop-record.invariant.goes None tt).silent

pub returns-in_default-clause-to : goal.returns-in_default-clause-to
returns-in_default-clause-to g c = writes_as (λ bad. cc) (c.loop-record.invariant.goes None tt).to
