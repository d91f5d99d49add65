use Rattle.std.proofs.Common.{◌≡◌, ℕ, List, Some, [], refl, sym, subst, ◌∙◌, inl, inr, ⊎_elim, rules}
use Rattle.std.proofs.lemmas.Result.{err_from_is_err_and, IfErr-weaker}
use Rattle.mos_bytes.proofs.Writes.{AppendsFront-nil}
use Rattle.capture_replay.specs.Records.{packets_of}
use Rattle.capture_replay.specs.Outcome.{is_forward, outcome_over}
use Rattle.capture_replay.specs.Runs.{RunsAs}
use Rattle.capture_replay.specs.Typed.{ReportIsTyped}
use Rattle.capture_replay.specs.declared.refusal.ReplayError.TheVariants as Replay
use Rattle.capture_replay.proofs.Reading.{none_read, fails_forward}
use Rattle.capture_replay.proofs.Replaying.{opened_replay, refused_header, stopped_writing, front_of_header, header_written, front_so_far}
use Rattle.capture_replay.proofs.Ends.{reads_header, reads_refused}
use Rattle.capture_replay.proofs.Onward.{reads_since, writes_since}
use Rattle.capture_replay.proofs.Typed.{alone_typed}
use Rattle.capture_replay.proofs.replay.replay.Goals as goal

pub returns-in_err-capture-clause-ran : goal.returns-in_err-capture-clause-ran
returns-in_err-capture-clause-ran g c = record {
  comes_to = λ bytes told.
      let plan = c.args.plan.now in
      let p = err_from_is_err_and c.from_residual.result c.from_residual.ensures.1 in
      rw (p.1, p.2) (
        refused_header (g.A.App.meaning c.args.app) plan.script.now (packets_of plan.script.now) plan.output (g.S.Source.left c.args.source.now)
            (g.S.Source.left c.open.new.source) bytes c.in_err-capture.field-0.0 c.in_err-capture.ensures.gives told,
        AppendsFront-nil _ _,
      );
  read = search rules;
  silent = search rules;
  reads =
      let p = err_from_is_err_and c.from_residual.result c.from_residual.ensures.1 in
      rw (p.1, p.2) (reads_header g.S.Source c.args.plan.now.output c.args.source.now c.open.new.source c.args.out.now c.in_err-capture.field-0.0 c.in_err-capture.ensures.gives);
  from = search rules;
  to = search rules;
}

pub returns-in_err-write_front-clause-ran : goal.returns-in_err-write_front-clause-ran
returns-in_err-write_front-clause-ran g c = record {
  comes_to = λ bytes told.
      let plan = c.args.plan.now in
      let app = g.A.App.meaning c.args.app in
      let start = c.in_ok-capture.ensures.start in
      let rep = opened_replay (g.S.Source.left c.args.source.now) (g.S.Source.left c.open.new.source) c.in_ok-capture.capture bytes c.in_ok-capture.ensures.gives start.count start.offset told in
      let forward = fails_forward (is_forward plan.output) c.write_front.result c.in_err-write_front.field-0.0 c.in_err-write_front.was (λ is. (c.write_front.ensures.handed.silent is).0) in
      let p = err_from_is_err_and c.from_residual-in_err-write_front.result c.from_residual-in_err-write_front.ensures.1 in
      rw (p.1, p.2) (
        stopped_writing app plan.script.now plan.output bytes _ c.in_ok-capture.capture [] rep forward start.header,
        front_of_header app plan.script.now plan.output bytes _ c.in_ok-capture.capture (g.O.Sink.taken c.args.out.now) (g.O.Sink.taken c.write_front.new.out) rep c.in_err-write_front.ensures.text,
      );
  read = search rules;
  silent = search rules;
  reads =
      let plan = c.args.plan.now in
      let forward = fails_forward (is_forward plan.output) c.write_front.result c.in_err-write_front.field-0.0 c.in_err-write_front.was (λ is. (c.write_front.ensures.handed.silent is).0) in
      let p = err_from_is_err_and c.from_residual-in_err-write_front.result c.from_residual-in_err-write_front.ensures.1 in
      rw (p.1, p.2) (reads_refused g.S.Source plan.output _ _ _ Replay.WriteFault (λ is. cc) (λ kept. absurd (let both = sym forward ∙ kept in cc)) (λ is. absurd (cc)));
  from = search rules;
  to = search rules;
}

pub returns-in_err-lane-clause-ran : goal.returns-in_err-lane-clause-ran
returns-in_err-lane-clause-ran g c = record {
  comes_to = λ bytes told.
      let plan = c.args.plan.now in
      let app = g.A.App.meaning c.args.app in
      let start = c.in_ok-capture.ensures.start in
      let rep = opened_replay (g.S.Source.left c.args.source.now) (g.S.Source.left c.open.new.source) c.in_ok-capture.capture bytes c.in_ok-capture.ensures.gives start.count start.offset told in
      let written = header_written app plan.script.now plan.output c.in_ok-capture.capture.header (g.O.Sink.taken c.args.out.now)
      (g.O.Sink.taken c.write_front.new.out) c.in_ok-write_front.ensures.text in
      let p = err_from_is_err_and c.from_residual-in_err-lane.result c.from_residual-in_err-lane.ensures.1 in
      rw (p.1, p.2)
      (inr (inr (inl refl)), front_so_far app plan.script.now plan.output bytes _ c.in_ok-capture.capture [] (g.O.Sink.taken c.args.out.now) (g.O.Sink.taken c.write_front.new.out) rep written);
  read = search rules;
  silent = search rules;
  reads =
      let p = err_from_is_err_and c.from_residual-in_err-lane.result c.from_residual-in_err-lane.ensures.1 in
      rw (p.1, p.2)
      (reads_refused g.S.Source c.args.plan.now.output _ _ _ Replay.NoMemory (λ is. cc) (λ kept. ((c.write_front.ensures.handed.silent kept).1, λ fault. cc)) (λ is. absurd (cc)));
  from = search rules;
  to = search rules;
}

pub read_on-requires-clause-read : goal.read_on-requires-clause-read
read_on-requires-clause-read g c =
    let lane = c.in_ok-lane.lane in
    let made = c.in_ok-lane.ensures in
    none_read (g.A.App.meaning lane.app) c.args.plan.now.script.now c.args.plan.now.output lane.records.master.version lane.failed _ made.failed made.given made.stands

pub returns : goal.returns
returns g c =
    let plan = c.args.plan.now in
    let lane = c.in_ok-lane.lane in
    let start = c.in_ok-capture.ensures.start in
    let rep = λ (bytes : List ℕ) (told : g.S.Source.left c.args.source.now ≡ Some bytes). opened_replay (g.S.Source.left c.args.source.now) (g.S.Source.left c.open.new.source)
    c.in_ok-capture.capture bytes c.in_ok-capture.ensures.gives start.count start.offset told in
    let written = header_written (g.A.App.meaning lane.app) plan.script.now plan.output c.in_ok-capture.capture.header (g.O.Sink.taken c.args.out.now) (g.O.Sink.taken c.write_front.new.out)
    c.in_ok-write_front.ensures.text in
    let comes_to = λ (bytes : List ℕ) (told : g.S.Source.left c.args.source.now ≡ Some bytes). subst
    (λ a. RunsAs (outcome_over a plan.script.now (packets_of plan.script.now) plan.output bytes) (g.O.Sink.taken c.args.out.now) (g.O.Sink.taken c.read_on.new.out) c.read_on.result)
    c.in_ok-lane.ensures.app (c.read_on.ensures.comes_to bytes (g.O.Sink.taken c.args.out.now) written (rep bytes told)) in
    record {
      ran = record {
        comes_to = comes_to;
        read = λ ok bytes told. c.read_on.ensures.read ok bytes (rep bytes told);
        silent = λ kept. IfErr-weaker c.read_on.result _ _ (λ e same write memory. same write memory ∙ (c.write_front.ensures.handed.silent kept).1) (c.read_on.ensures.silent kept);
        reads =
            let reads = c.read_on.ensures.reads in
            record {
              ended = reads.ended;
              begun = λ kept. ⊎_elim (λ idle. inl (idle.0 ∙ (c.write_front.ensures.handed.silent kept).1, idle.1)) (λ ended. inr ended) (reads.begun kept);
              cut = λ fault bytes told. reads.cut fault bytes (rep bytes told);
            };
        from = reads_since (record { cause = c.open.ensures.cause; lasts = c.open.ensures.lasts }) c.read_on.ensures.from;
        to = writes_since c.write_front.ensures.handed.to c.read_on.ensures.to;
      };
      typed = alone_typed c.what_one_worker_has_is_allowed.ensures.records (g.A.App.meaning c.args.app) plan.script.now plan.output
          (g.S.Source.left c.args.source.now) (g.O.Sink.taken c.args.out.now) (g.O.Sink.taken c.read_on.new.out) c.read_on.result comes_to
          (λ report done bytes told. subst (λ a. ReportIsTyped a plan.script.now (packets_of plan.script.now) bytes) c.in_ok-lane.ensures.app (c.read_on.ensures.typed report done bytes (rep bytes told)));
    }
