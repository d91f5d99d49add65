use Rattle.std.proofs.Common.{[], Some, Ok, Err, refl, sym, ap, subst, ◌∙◌, arith, rules}
use Rattle.std.proofs.lemmas.Result.{err_from_is_err_and}
use Rattle.std.specs.Prelude.{IsErr}
use Rattle.pcap_source.specs.Reading.{NextGives}
use Rattle.capture_replay.specs.Outcome.{is_forward}
use Rattle.capture_replay.specs.Reading.{run_at}
use Rattle.capture_replay.proofs.Refusals.{no_read_fault}
use Rattle.capture_replay.proofs.Reading.{fails_forward, none_greatest}
use Rattle.capture_replay.proofs.Ends.{no_heavy_packet, no_write_packet}
use Rattle.capture_replay.proofs.Replaying.{step_told}
use Rattle.capture_replay.proofs.Onward.{broke_handing, broke_reading, closed, goes_nowhere, one_frame, reads_as, reads_nothing, runs_on_and_on, stopped, stops_taking, writes_as, writes_since}
use Rattle.capture_replay.proofs.replay.read_on.Goals as goal

pub loop-frame-init : goal.loop-frame-init
loop-frame-init g c = record { goes = goes_nowhere _ c.requires.may; from = reads_nothing _ }

pub returns-in_err-lent : goal.returns-in_err-lent
returns-in_err-lent g c =
    let p = err_from_is_err_and c.from_residual.result c.from_residual.ensures.1 in
    rw (p.1, p.2)
    (stopped (record { counted = refl; latest = none_greatest; read = c.requires.read }) c.loop-frame.invariant c.in_err-lent.ensures.breaks)

pub returns-in_err-hand_on : goal.returns-in_err-hand_on
returns-in_err-hand_on g c =
    let run = runs_on_and_on c.loop-frame.invariant c.in_ok-lent.ensures.on in
    let forward = fails_forward (is_forward c.args.plan.now.output) c.hand_on.result c.in_err-hand_on.field-0.0 c.in_err-hand_on.was (λ is. (c.hand_on.ensures.handed.silent is).0) in
    let p = err_from_is_err_and c.from_residual-in_err-hand_on.result c.from_residual-in_err-hand_on.ensures.1 in
    rw (p.1, p.2)
    (stopped (record { counted = refl; latest = none_greatest; read = c.requires.read }) run
    (broke_handing _ c.hand_on.new.out c.run_lent.new.source run.goes.may forward c.hand_on.ensures.bytes (subst IsErr (sym c.in_err-hand_on.was) refl) c.hand_on.ensures.handed.to))

pub returns-in_err-next : goal.returns-in_err-next
returns-in_err-next g c =
    let run = runs_on_and_on c.loop-frame.invariant c.in_ok-lent.ensures.on in
    let e = c.in_err-next.field-0.0 in
    let p = err_from_is_err_and c.from_residual-in_err-next.result c.from_residual-in_err-next.ensures.1 in
    rw (p.1, p.2)
    (stopped (record { counted = refl; latest = none_greatest; read = c.requires.read }) run
    (broke_reading _ c.hand_on.new.out c.run_lent.new.source c.next.new.source c.next.new.self c.next.new.frame e c.hand_on.ensures.bytes c.hand_on.ensures.handed c.in_err-next.ensures.gives
    (reads_as (λ is. c.in_err-next.was ∙ ap (λ x. Err x) is) (record { cause = c.next.ensures.cause; lasts = c.next.ensures.lasts }))))

pub returns-in_err-take_at-in-Frame : goal.returns-in_err-take_at-in-Frame
returns-in_err-take_at-in-Frame g c =
    let at = c.run_lent.new in
    let run = runs_on_and_on c.loop-frame.invariant c.in_ok-lent.ensures.on in
    let output = c.args.plan.now.output in
    let e = c.in_err-take_at-in-Frame.field-0.0 in
    let only = c.in_err-take_at-in-Frame.ensures.only in
    let frame = c.next.new.frame in
    let gives = subst (λ s. NextGives at.capture c.next.new.self (g.S.Source.left at.source) (g.S.Source.left c.next.new.source) frame (Ok s)) c.in-Frame.is c.in_ok-next.ensures.gives in
    let p = err_from_is_err_and c.from_residual-in_err-take_at-in-Frame.result c.from_residual-in_err-take_at-in-Frame.ensures.1 in
    rw (p.1, p.2)
    (stopped (record { counted = refl; latest = none_greatest; read = c.requires.read }) run (record {
      stops = stops_taking (run_at at.lane at.capture c.in_ok-lent.lent at.out (g.S.Source.left at.source)) c.next.new.self (g.S.Source.left c.next.new.source) (g.O.Sink.taken c.hand_on.new.out)
          c.take_at.new.out frame e run.goes.may c.hand_on.ensures.bytes only
          (λ frames. c.in_err-take_at-in-Frame.ensures.writes frame frames (record { moment_is = search rules; head_is = search rules; bytes_is = search rules }))
          (λ rest. step_told at.capture c.next.new.self _ _ rest frame _ gives);
      light = no_heavy_packet e only;
      silent = λ kept. (c.take_at.ensures.silent kept ∙ (c.hand_on.ensures.handed.silent kept).1, no_write_packet (is_forward output) e only kept);
      cut = λ is. absurd (no_read_fault e only is);
      from = record { cause = record { later = c.next.ensures.cause.later; cause = λ is. absurd (no_read_fault e only is) }; lasts = c.next.ensures.lasts };
      to = writes_since c.hand_on.ensures.handed.to (writes_as (λ is. c.in_err-take_at-in-Frame.was ∙ ap (λ x. Err x) is) c.take_at.ensures.to);
    }))

pub loop-frame-preserved : goal.loop-frame-preserved
loop-frame-preserved g c =
    let at = c.run_lent.new in
    let run = runs_on_and_on c.loop-frame.invariant c.in_ok-lent.ensures.on in
    let frame = c.next.new.frame in
    let gives = subst (λ s. NextGives at.capture c.next.new.self (g.S.Source.left at.source) (g.S.Source.left c.next.new.source) frame (Ok s)) c.in-Frame.is c.in_ok-next.ensures.gives in
    let is_frame = c.in_ok-next.was ∙ ap (λ s. Ok s) c.in-Frame.is in
    let more = c.in_ok-take_at-in-Frame.ensures in
    runs_on_and_on run (record {
      goes = one_frame (run_at at.lane at.capture c.in_ok-lent.lent at.out (g.S.Source.left at.source))
          (run_at c.take_at.new.lane c.next.new.self c.with_packet-so_far.result c.take_at.new.out (g.S.Source.left c.next.new.source)) (g.O.Sink.taken c.hand_on.new.out) frame
          (record { seconds = c.frame-in-loop-frame.inside.seconds; fraction = c.frame-in-loop-frame.inside.fraction })
          run.goes.may (c.next.ensures.moved is_frame) (c.next.ensures.live.1 is_frame) c.take_at.ensures.same (more.ready refl)
          c.with_packet-so_far.ensures.packets c.with_packet-so_far.ensures.greatest (search rules)
          (λ is. c.take_at.ensures.silent is ∙ (c.hand_on.ensures.handed.silent is).1)
          (writes_since (writes_as (λ none. absurd none) c.hand_on.ensures.handed.to) (writes_as (λ none. absurd none) c.take_at.ensures.to)) c.hand_on.ensures.bytes
          (λ frames. more.reads refl frame frames (record { moment_is = search rules; head_is = search rules; bytes_is = search rules }))
          (λ frames. more.writes frame frames (record { moment_is = search rules; head_is = search rules; bytes_is = search rules }))
          (λ rest. step_told at.capture c.next.new.self _ _ rest frame _ gives);
      from = record { cause = record { later = c.next.ensures.cause.later; cause = λ none. absurd none }; lasts = c.next.ensures.lasts };
    })

pub loop-frame-smaller : goal.loop-frame-smaller
loop-frame-smaller g c =
    let rises = c.in_ok-lent.ensures.on.goes.rises in
    let moved = c.next.ensures.moved (c.in_ok-next.was ∙ ap (λ s. Ok s) c.in-Frame.is) in
    let count = c.in_ok-lent.ensures.on.goes.may.count in
    let within = moved.within in
    omega (arith, rises, count, within)

pub close-requires-clause-read : goal.close-requires-clause-read
close-requires-clause-read g c =
    let run = runs_on_and_on c.loop-frame.invariant c.in_ok-lent.ensures.on in
    let more = run.goes.reads [] (record { counted = refl; latest = none_greatest; read = c.requires.read }) in
    (more.0, more.1.come.counted, more.1.come.latest, more.1.come.read)

pub close-requires-in-End-clause-read : goal.close-requires-in-End-clause-read
close-requires-in-End-clause-read g c =
    let run = runs_on_and_on c.loop-frame.invariant c.in_ok-lent.ensures.on in
    let more = run.goes.reads [] (record { counted = refl; latest = none_greatest; read = c.requires.read }) in
    (more.0, more.1.come.counted, more.1.come.latest, more.1.come.read)

pub returns-in-Tail : goal.returns-in-Tail
returns-in-Tail g c =
    let at = c.run_lent.new in
    let gives = subst (λ s. NextGives at.capture c.next.new.self (g.S.Source.left at.source) (g.S.Source.left c.next.new.source) c.next.new.frame (Ok s)) c.in-Tail.is c.in_ok-next.ensures.gives in
    closed (record { counted = refl; latest = none_greatest; read = c.requires.read }) c.in-Tail.bytes c.close.result (runs_on_and_on c.loop-frame.invariant c.in_ok-lent.ensures.on)
    c.hand_on.ensures.bytes c.hand_on.ensures.handed (record { cause = c.next.ensures.cause; lasts = c.next.ensures.lasts }) (c.in_ok-next.ensures.ended (λ frame. let is = c.in-Tail.is in cc))
    (λ rest told. let step = step_told at.capture c.next.new.self _ _ rest c.next.new.frame _ gives told in (step.steps.0, step.told ∙ ap (λ l. Some l) step.steps.2))
    c.close.ensures.ends c.close.ensures.typed c.close.ensures.silent c.close.ensures.only c.close.ensures.to

pub returns-in-End : goal.returns-in-End
returns-in-End g c =
    let at = c.run_lent.new in
    let gives = subst (λ s. NextGives at.capture c.next.new.self (g.S.Source.left at.source) (g.S.Source.left c.next.new.source) c.next.new.frame (Ok s)) c.in-End.is c.in_ok-next.ensures.gives in
    closed (record { counted = refl; latest = none_greatest; read = c.requires.read }) 0 c.close-in-End.result (runs_on_and_on c.loop-frame.invariant c.in_ok-lent.ensures.on)
    c.hand_on.ensures.bytes c.hand_on.ensures.handed (record { cause = c.next.ensures.cause; lasts = c.next.ensures.lasts }) (c.in_ok-next.ensures.ended (λ frame. let is = c.in-End.is in cc))
    (λ rest told. let step = step_told at.capture c.next.new.self _ _ rest c.next.new.frame _ gives told in (step.steps.0, step.told ∙ ap (λ l. Some l) step.steps.1))
    c.close-in-End.ensures.ends c.close-in-End.ensures.typed c.close-in-End.ensures.silent c.close-in-End.ensures.only c.close-in-End.ensures.to
