use Rattle.std.proofs.Common.{◌≡◌, ℕ, false, List, Some, Ok, Err, refl, sym, ap, subst, ◌∙◌, inl, inr, rules}
use Rattle.std.specs.Prelude.{◌⊎◌}
use Rattle.std.specs.Io.KnownBytes.{Appends}
use Rattle.std.proofs.lemmas.Result.{err_from_is_err_and}
use Rattle.mos_bytes.specs.Writes.{AppendsFront}
use Rattle.report_text.specs.Ranges.{HaveTypes}
use Rattle.lane_core.specs.KeptEnd.{shown_as}
use Rattle.worker_pool.specs.Run.{as_shown}
use Rattle.pcap_source.specs.Reading.{frames_at}
use Rattle.capture_replay.specs.declared.refusal.ReplayError.TheVariants as Replay
use Rattle.capture_replay.specs.Records.{packets_with}
use Rattle.capture_replay.specs.Outcome.{closing, is_forward}
use Rattle.capture_replay.proofs.Replaying.{opened_replay, refused_header}
use Rattle.capture_replay.proofs.Joined.{no_write_told, stopped_any, stopped, finished, broke_off}
use Rattle.capture_replay.proofs.Forwarding.{forward_is, no_header, cut_short, all_left}
use Rattle.capture_replay.proofs.Refusals.{no_read_fault}
use Rattle.capture_replay.proofs.Ends.{err_same, reads_header, reads_lanes, reads_refused, reads_whole}
use Rattle.capture_replay.proofs.Typed.{pool_typed, typed_over}
use Rattle.capture_replay.proofs.Onward.{writes_as, writes_nothing}
use Rattle.capture_replay.proofs.plan.Crew.run.Goals as goal

pub returns-in_err-capture-clause-ran : goal.returns-in_err-capture-clause-ran
returns-in_err-capture-clause-ran g c =
    let plan = c.args.plan.now in
    let gives = c.in_err-capture.ensures.gives in
    let p = err_from_is_err_and c.from_residual.result c.from_residual.ensures.1 in
    record {
      comes_to = λ bytes told. rw (p.1, p.2)
          (stopped_any (g.A.App.meaning c.args.app) plan.script.now plan.workers plan.output bytes c.what_one_worker_has_is_allowed.ensures.allowed c.requires.order (g.O.Sink.taken c.args.out.now) _
          (λ vs. refused_header (g.A.App.meaning c.args.app) plan.script.now (packets_with (g.A.App.meaning c.args.app) plan.script.now vs) plan.output (g.S.Source.left c.args.source.now)
          (g.S.Source.left c.open.new.source) bytes c.in_err-capture.field-0.0 gives told));
      read = search rules;
      silent = search rules;
      reads = rw (p.1, p.2) (reads_header g.S.Source plan.output c.args.source.now c.open.new.source c.args.out.now c.in_err-capture.field-0.0 gives);
      from = search rules;
      to = search rules;
    }

-- ---- packets are written meanwhile

pub returns-in_err-write_header-clause-ran : goal.returns-in_err-write_header-clause-ran
returns-in_err-write_header-clause-ran g c =
    let plan = c.args.plan.now in
    let capture = c.in_ok-capture.capture in
    let start = c.in_ok-capture.ensures.start in
    let forwards = sym c.is_forward.ensures ∙ c.if-is_forward.true in
    let p = err_from_is_err_and c.from_residual-in_err-write_header.result c.from_residual-in_err-write_header.ensures.1 in
    record {
      comes_to = λ bytes told.
          let rep = opened_replay (g.S.Source.left c.args.source.now) (g.S.Source.left c.open.new.source) capture bytes c.in_ok-capture.ensures.gives start.count start.offset told in
          rw (p.1, p.2, forward_is plan.output forwards)
          (no_header (g.A.App.meaning c.args.app) plan.script.now plan.workers bytes capture.header (frames_at capture rep.rest) rep.holds rep.header start.header
          c.what_one_worker_has_is_allowed.ensures.allowed c.requires.order (g.O.Sink.taken c.args.out.now) (g.O.Sink.taken c.write_header.new.out) c.in_err-write_header.ensures.bytes);
      read = search rules;
      silent = search rules;
      reads = rw (p.1, p.2)
          (reads_refused g.S.Source plan.output _ _ _ Replay.WriteFault (λ is. cc) (λ kept. absurd (let both = sym forwards ∙ kept in cc)) (λ is. absurd (cc)));
      from = search rules;
      to = search rules;
    }

pub returns-in_err-versions-clause-ran : goal.returns-in_err-versions-clause-ran
returns-in_err-versions-clause-ran g c =
    let plan = c.args.plan.now in
    let capture = c.in_ok-capture.capture in
    let start = c.in_ok-capture.ensures.start in
    let forwards = sym c.is_forward.ensures ∙ c.if-is_forward.true in
    let rep = λ (bytes : List ℕ) (told : g.S.Source.left c.args.source.now ≡ Some bytes). opened_replay (g.S.Source.left c.args.source.now) (g.S.Source.left c.open.new.source) capture bytes
    c.in_ok-capture.ensures.gives start.count start.offset told in
    let p = err_from_is_err_and c.from_residual-in_err-versions.result c.from_residual-in_err-versions.ensures.1 in
    record {
      comes_to = λ bytes told.
          let r = rep bytes told in
          rw (p.1, p.2, forward_is plan.output forwards)
          (cut_short (g.A.App.meaning c.args.app) plan.script.now plan.workers bytes capture.header (frames_at capture r.rest) r.holds r.header start.header
          (g.O.Sink.taken c.args.out.now) (g.O.Sink.taken c.write_header.new.out) (g.O.Sink.taken c.forward_lanes.new.out) c.in_err-versions.field-0.0
          c.in_ok-write_header.ensures.bytes (c.in_err-versions.ensures.forwards r.rest r.told));
      read = search rules;
      silent = search rules;
      reads = rw (p.1, p.2)
          (reads_lanes g.S.Source plan.output c.args.source.now c.open.new.source c.forward_lanes.new.source capture _ c.in_err-versions.field-0.0 c.in_err-versions.ensures.reads
          (λ is. absurd (c.in_err-versions.ensures.never_heavy is)) (λ is. ap (λ x. Err x) is) (λ kept. absurd (let both = sym forwards ∙ kept in cc)) rep);
      from = search rules;
      to = search rules;
    }

pub returns-then-is_forward-clause-ran : goal.returns-then-is_forward-clause-ran
returns-then-is_forward-clause-ran g c =
    let plan = c.args.plan.now in
    let capture = c.in_ok-capture.capture in
    let start = c.in_ok-capture.ensures.start in
    record {
      comes_to = λ bytes told.
          let rep = opened_replay (g.S.Source.left c.args.source.now) (g.S.Source.left c.open.new.source) capture bytes c.in_ok-capture.ensures.gives start.count start.offset told in
          rw (forward_is plan.output (sym c.is_forward.ensures ∙ c.if-is_forward.true))
          (all_left (g.A.App.meaning c.args.app) plan.script.now plan.workers bytes capture.header (frames_at capture rep.rest) rep.holds rep.header start.header
          c.a_run_has_its_versions.ensures.versions (g.O.Sink.taken c.args.out.now) (g.O.Sink.taken c.write_header.new.out) (g.O.Sink.taken c.forward_lanes.new.out) c.in_ok-versions.versions
          c.in_ok-write_header.ensures.bytes (c.in_ok-versions.ensures.forwards rep.rest rep.told));
      read = search rules;
      silent = search rules;
      reads = reads_whole g.S.Source plan.output _ _ _ (Ok _) (c.in_ok-versions.ensures.reads.ended refl) (λ fault. cc);
      from = search rules;
      to = search rules;
    }

-- ---- what is written comes at the end

pub returns-in_err-end-clause-ran : goal.returns-in_err-end-clause-ran
returns-in_err-end-clause-ran g c =
    let plan = c.args.plan.now in
    let capture = c.in_ok-capture.capture in
    let start = c.in_ok-capture.ensures.start in
    let e = c.in_err-end.field-0.0 in
    let rep = λ (bytes : List ℕ) (told : g.S.Source.left c.args.source.now ≡ Some bytes). opened_replay (g.S.Source.left c.args.source.now) (g.S.Source.left c.open.new.source) capture bytes
    c.in_ok-capture.ensures.gives start.count start.offset told in
    let p = err_from_is_err_and c.from_residual-in_err-end.result c.from_residual-in_err-end.ensures.1 in
    record {
      comes_to = λ bytes told.
          let r = rep bytes told in
          rw (p.1, p.2)
          (stopped (g.A.App.meaning c.args.app) plan.script.now plan.workers plan.output bytes (frames_at capture r.rest) r.holds (sym c.is_forward.ensures ∙ c.if-is_forward.false)
          c.what_one_worker_has_is_allowed.ensures.allowed c.requires.order (g.O.Sink.taken c.args.out.now) e (c.in_err-end.ensures.ends r.rest r.told));
      read = search rules;
      silent = search rules;
      reads = rw (p.1, p.2)
          (reads_lanes g.S.Source plan.output c.args.source.now c.open.new.source c.run_lanes_kept.new.source capture _ e c.in_err-end.ensures.reads
          (λ is. inr (ap (λ x. Err x) is)) (λ is. ap (λ x. Err x) is) (λ kept. (refl, no_write_told e c.in_err-end.ensures.no_write)) rep);
      from = search rules;
      to = rw (p.1, p.2) (writes_as (no_write_told e c.in_err-end.ensures.no_write) (writes_nothing c.args.out.now));
    }

pub returns-in_err-write_end-clause-ran : goal.returns-in_err-write_end-clause-ran
returns-in_err-write_end-clause-ran g c =
    let plan = c.args.plan.now in
    let capture = c.in_ok-capture.capture in
    let start = c.in_ok-capture.ensures.start in
    let app = g.A.App.meaning c.args.app in
    let end = c.in_ok-end.end in
    let p = err_from_is_err_and c.from_residual-in_err-write_end.result c.from_residual-in_err-write_end.ensures.1 in
    let which = subst (λ e. ((e ≡ Replay.WriteFault) × (is_forward plan.output ≡ false)) ⊎ (e ≡ Replay.NoMemory)) (sym p.2) c.in_err-write_end.ensures.only in
    record {
      comes_to = λ bytes told.
          let rep = opened_replay (g.S.Source.left c.args.source.now) (g.S.Source.left c.open.new.source) capture bytes c.in_ok-capture.ensures.gives start.count start.offset told in
          let ends = c.in_ok-end.ensures.ends rep.rest rep.told in
          rw (p.1)
          (broke_off app plan.script.now plan.workers plan.output bytes (frames_at capture rep.rest) rep.holds (sym c.is_forward.ensures ∙ c.if-is_forward.false) ends.0 ends.1 (as_shown app end) ends.2
          (g.O.Sink.taken c.args.out.now) (g.O.Sink.taken c.write_end.new.out) p.0 which
          (subst (λ l. AppendsFront (g.O.Sink.taken c.args.out.now) (g.O.Sink.taken c.write_end.new.out) (closing plan.output (shown_as app l) end.totals))
          c.as_slice-records.ensures c.in_err-write_end.ensures.text));
      read = search rules;
      silent = search rules;
      reads = rw (p.1)
          (reads_whole g.S.Source plan.output _ _ _ (Err p.0) (c.in_ok-end.ensures.reads.ended (inl refl)) (λ fault. no_read_fault p.0 which (err_same p.0 Replay.ReadFault fault)));
      from = search rules;
      to = search rules;
    }

pub returns : goal.returns
returns g c =
    let plan = c.args.plan.now in
    let capture = c.in_ok-capture.capture in
    let start = c.in_ok-capture.ensures.start in
    let app = g.A.App.meaning c.args.app in
    let end = c.in_ok-end.end in
    let rep = λ (bytes : List ℕ) (told : g.S.Source.left c.args.source.now ≡ Some bytes). opened_replay (g.S.Source.left c.args.source.now) (g.S.Source.left c.open.new.source) capture bytes
    c.in_ok-capture.ensures.gives start.count start.offset told in
    record {
      ran = record {
        comes_to = λ bytes told.
            let r = rep bytes told in
            let ends = c.in_ok-end.ensures.ends r.rest r.told in
            finished app plan.script.now plan.workers plan.output bytes (frames_at capture r.rest) r.holds (sym c.is_forward.ensures ∙ c.if-is_forward.false) ends.0 ends.1 (as_shown app end) ends.2
            c.a_run_has_its_versions.ensures.versions (g.O.Sink.taken c.args.out.now) (g.O.Sink.taken c.write_end.new.out)
            (subst (λ l. Appends (g.O.Sink.taken c.args.out.now) (g.O.Sink.taken c.write_end.new.out) (closing plan.output (shown_as app l) end.totals))
            c.as_slice-records.ensures c.in_ok-write_end.ensures.text);
        read = search rules;
        silent = search rules;
        reads = reads_whole g.S.Source plan.output _ _ _ (Ok _) (c.in_ok-end.ensures.reads.ended (inl refl)) (λ fault. cc);
        from = search rules;
        to = search rules;
      };
      typed = λ report bytes told.
          let r = rep bytes told in
          let ends = c.in_ok-end.ensures.ends r.rest r.told in
          let f = frames_at capture r.rest in
          let types = subst (λ l. HaveTypes (shown_as app l) end.totals) c.as_slice-records.ensures (c.in_ok-write_end.ensures.typed report refl) in
          typed_over app plan.script.now (packets_with app plan.script.now end.versions) bytes f ends.0 r.holds ends.1
          (pool_typed app plan.script.now plan.workers f.frames ends.0 (as_shown app end) ends.2 types);
    }
