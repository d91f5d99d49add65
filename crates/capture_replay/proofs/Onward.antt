-- A run that reads on in its capture: one frame more, where it stops, and how it ends.
use Rattle.std.proofs.Common.{◌≡◌, ◌≢◌, ℕ, ◌+◌, false, true, Option, Some, None, List, [], ◌∷◌, ◌++◌, length, Result, Ok, Err, refl, sym, ap, subst, ◌∙◌, arith, le_refl, length-append}
use Rattle.std.proofs.lemmas.Result.{IfErr-weaker}
use Rattle.std.specs.Prelude.{◌⊎◌, IfErr, IsErrOf, IsOk, IsTrue}
use Rattle.std.specs.Io.KnownBytes.{Appends, Keeps}
use Rattle.std.proofs.KnownBytes.{Appends-kept, Appends-trans}
use Rattle.mos_bytes.specs.declared.source.Source.{Ghosts as Source}
use Rattle.mos_bytes.specs.declared.sink.Sink.{Ghosts as Sink}
use Rattle.mos_bytes.specs.declared.failed.Failed.{Failed}
use Rattle.mos_bytes.specs.Outside.{Reads, Writes}
use Rattle.mos_bytes.specs.Writes.{AppendsFront}
use Rattle.mos_bytes.proofs.Causes.{HasCauseOf-earlier}
use Rattle.pcap_source.specs.Captured.{Captured}
use Rattle.pcap_source.specs.Capture.{ended, tail}
use Rattle.pcap_source.specs.Reading.{CaptureState, Moves, NextGives, frames_at}
use Rattle.pcap_source.specs.declared.capture.Step.TheVariants.{Frame}
use Rattle.pcap_source.specs.declared.errors.NextError.{NextError}
use Rattle.pcap_source.specs.declared.errors.NextError.TheVariants as Next
use Rattle.report_text.specs.Ranges.{HaveTypes}
use Rattle.control_script.specs.declared.stamped.Stamped.{Stamped}
use Rattle.lane_core.specs.Sight.{Moment, arrivals}
use Rattle.lane_core.specs.declared.recorder.Recorder.{Ghosts as Recorder}
use Rattle.run_outcome.specs.Greatest.{greatest, later_of}
use Rattle.capture_replay.specs.declared.output.Output.{Output}
use Rattle.capture_replay.specs.declared.output.Output.TheVariants.{Report}
use Rattle.capture_replay.specs.declared.refusal.ReplayError.{ReplayError}
use Rattle.capture_replay.specs.declared.refusal.ReplayError.TheVariants as Replay
use Rattle.capture_replay.specs.Records.{packets_of}
use Rattle.capture_replay.specs.Refusal.{record_refusal}
use Rattle.capture_replay.specs.Outcome.{is_forward, outcome_over, streamed}
use Rattle.capture_replay.specs.Runs.{EndsAlone, MayRun, RunsAlone, RunsAs, StopsAs}
use Rattle.capture_replay.specs.Typed.{ReportIsTyped, counted, shown}
use Rattle.capture_replay.specs.Reading.{BreaksOff, GoesOn, HandsOn, HasCome, LaneHasRead, LaneIsReady, MayReadOn, Replaying, Replays, RunState, RunsOn, SameLane, StopsAt, gained, run_at}
use Rattle.capture_replay.proofs.Refusals.{is_read_fault, no_write_fault}
use Rattle.capture_replay.proofs.Ends.{cut_record, err_same, no_heavy_record, no_ok, no_read_end, reads_refused, reads_whole}
use Rattle.capture_replay.proofs.Replaying.{StepTold, ended_at, front_of_frame, front_so_far, refused_record, replayed, step_told, stopped_by, stopped_writing, streamed_last}
use Rattle.capture_replay.proofs.InPlace.{latest_with}
use Rattle.capture_replay.proofs.Typed.{typed_at}

-- ---- what calls did to the outside, one behind another

module _ {S : Type 0} {source : Source S} where
  pub reads_nothing : (s : S) → Reads source s s ⊥
  reads_nothing s = record { cause = record { later = le_refl _; cause = λ none. absurd none }; lasts = refl }

  pub reads_as : {s t : S} {F G : Type 0} → (G → F) → Reads source s t F → Reads source s t G
  reads_as less reads = record { cause = record { later = reads.cause.later; cause = λ fault. reads.cause.cause (less fault) }; lasts = reads.lasts }

  pub reads_since : {s t u : S} {F G : Type 0} → Reads source s t F → Reads source t u G → Reads source s u G
  reads_since first next = record { cause = HasCauseOf-earlier _ _ _ _ first.cause.later next.cause; lasts = next.lasts ∙ first.lasts }

module _ {O : Type 0} {sink : Sink O} where
  pub writes_nothing : (o : O) → Writes sink o o ⊥
  writes_nothing o = record { cause = record { later = le_refl _; cause = λ none. absurd none }; lasts = refl }

  pub writes_as : {o p : O} {F G : Type 0} → (G → F) → Writes sink o p F → Writes sink o p G
  writes_as less writes = record { cause = record { later = writes.cause.later; cause = λ fault. writes.cause.cause (less fault) }; lasts = writes.lasts }

  pub writes_since : {o p q : O} {F G : Type 0} → Writes sink o p F → Writes sink p q G → Writes sink o q G
  writes_since first next = record { cause = HasCauseOf-earlier _ _ _ _ first.cause.later next.cause; lasts = next.lasts ∙ first.lasts }

pub keeps_all : (taken : Option (List ℕ)) → Keeps taken taken
keeps_all None = tt
keeps_all (Some bytes) = refl

module _ {L O : Type 0} {lanes : Recorder L} {sinks : Sink O} {script : List Stamped} {output : Output} where
  -- ---- it goes on

  pub goes_nowhere : (a : RunState L O) → MayReadOn lanes script output a.lane a.capture a.so_far → GoesOn lanes sinks script output a a
  goes_nowhere a may = record {
    may = may;
    rises = le_refl _;
    app = refl;
    silent = λ is. refl;
    to = writes_nothing a.out;
    reads = λ frames here. (frames, record { come = here; written = λ before w. w; replays = λ bytes r. r });
  }

  pub on_and_on : {a b c : RunState L O} → GoesOn lanes sinks script output a b → GoesOn lanes sinks script output b c → GoesOn lanes sinks script output a c
  on_and_on first next = record {
    may = next.may;
    rises = let one = first.rises in let two = next.rises in omega (arith, one, two);
    app = next.app ∙ first.app;
    silent = λ is. next.silent is ∙ first.silent is;
    to = writes_since first.to next.to;
    reads = λ frames here.
        let some = first.reads frames here in
        let more = next.reads some.0 some.1.come in (
          more.0,
          record {
            come = more.1.come;
            written = λ before w. more.1.written before (some.1.written before w);
            replays = λ bytes r. more.1.replays bytes (some.1.replays bytes r);
          },
        );
  }

  -- what it read was passed over
  pub goes_past : (a b : RunState L O) (left : Option (List ℕ)) → GoesOn lanes sinks script output a b
      → ((frames : List Captured) (bytes : List ℕ) → Replaying bytes b.left b.capture frames → Replaying bytes left b.capture frames)
      → GoesOn lanes sinks script output a (run_at b.lane b.capture b.so_far b.out left)
  goes_past a b left goes past = record {
    may = goes.may;
    rises = goes.rises;
    app = goes.app;
    silent = goes.silent;
    to = goes.to;
    reads = λ frames here.
        let more = goes.reads frames here in
        let come = more.1.come in (
          more.0,
          record {
            come = record { counted = come.counted; latest = come.latest; read = come.read };
            written = more.1.written;
            replays = λ bytes r. past more.0 bytes (more.1.replays bytes r);
          },
        );
  }

  -- by one frame that was read, and then taken: between the two the sink kept what it had taken
  pub one_frame : (a b : RunState L O) (mid : Option (List ℕ)) (frame : Captured) (moment : Moment)
      → MayReadOn lanes script output a.lane a.capture a.so_far → Moves a.capture b.capture frame → IsTrue b.capture.is_live
      → SameLane lanes a.lane b.lane → LaneIsReady lanes script b.lane (a.so_far.packets + 1)
      → b.so_far.packets ≡ a.so_far.packets + 1 → b.so_far.greatest ≡ Some (later_of a.so_far.greatest moment) → moment ≡ record { seconds = frame.seconds; fraction = frame.fraction }
      → (is_forward output ≡ false → b.out ≡ a.out) → Writes sinks a.out b.out ⊥ → Keeps (sinks.taken a.out) mid
      → ((frames : List Captured) → length frames ≡ a.so_far.packets → LaneHasRead lanes script output a.lane frames → LaneHasRead lanes script output b.lane (frames ++ frame ∷ []))
      → ((frames : List Captured) → length frames ≡ a.so_far.packets → LaneHasRead lanes script output a.lane frames
      → Appends mid (sinks.taken b.out) (gained (lanes.app a.lane) script output frames frame))
      → ((rest : List ℕ) → a.left ≡ Some rest → StepTold a.capture b.capture rest b.left frame (Ok Frame))
      → GoesOn lanes sinks script output a b
  one_frame a b mid frame moment may moves live same ready count latest moment_is silent to kept reads writes step = record {
    may = record {
      may = record {
        lawful = subst (λ app. MayRun app script) (sym same.app) may.may.lawful;
        ready = subst (LaneIsReady lanes script b.lane) (sym count) ready;
      };
      keeps = same.keeps ∙ may.keeps;
      live = live;
      count = moves.count ∙ ap (λ n. n + 1) may.count ∙ sym count;
      few = let within = moves.within in let one_more = moves.count in let was = may.count in omega (arith, within, one_more, was, count);
      header = ap length moves.header ∙ may.header;
    };
    rises = omega (arith, count);
    app = same.app;
    silent = silent;
    to = to;
    reads = λ frames here. (
      frames ++ frame ∷ [],
      record {
        come = record {
          counted = length-append frames (frame ∷ []) ∙ ap (λ n. n + 1) here.counted ∙ sym count;
          latest = latest ∙ latest_with a.so_far.greatest moment frames frame moment_is here.latest;
          read = reads frames here.counted here.read;
        };
        written = λ before w.
            subst (λ app. Appends before (sinks.taken b.out) (streamed app script (packets_of script) output b.capture.header (frames ++ frame ∷ []))) (sym same.app)
            (subst (λ h. Appends before (sinks.taken b.out) (streamed (lanes.app a.lane) script (packets_of script) output h (frames ++ frame ∷ []))) (sym moves.header)
            (subst (Appends before (sinks.taken b.out)) (sym (streamed_last (lanes.app a.lane) script output a.capture.header frames frame))
            (Appends-trans before mid (sinks.taken b.out) _ _ (Appends-kept before (sinks.taken a.out) mid _ w kept) (writes frames here.counted here.read))));
        replays = λ bytes r. replayed bytes a.left b.left a.capture b.capture frames frame r (step r.rest r.told) moves.header;
      },
    );
  }

  -- ---- it stops

  pub stops_behind : (a b : RunState L O) (new : O) (e : ReplayError) → GoesOn lanes sinks script output a b → StopsAt lanes sinks script output b new e → StopsAt lanes sinks script output a new e
  stops_behind a b new e goes stops = λ before frames bytes here w r.
      let more = goes.reads frames here in
      subst (λ app. RunsAlone app script output bytes before (sinks.taken new) (Err e)) goes.app
      (stops before more.0 bytes more.1.come (more.1.written before w) (more.1.replays bytes r))

  -- nothing more was written
  pub stops_here : (a : RunState L O) (new : O) (e : ReplayError) → Keeps (sinks.taken a.out) (sinks.taken new)
      → ((frames : List Captured) (bytes : List ℕ) → Replaying bytes a.left a.capture frames → StopsAs (outcome_over (lanes.app a.lane) script (packets_of script) output bytes) e)
      → StopsAt lanes sinks script output a new e
  stops_here a new e kept stops = λ before frames bytes here w r. (
    stops frames bytes r,
    front_so_far (lanes.app a.lane) script output bytes a.left a.capture frames before (sinks.taken new) r (Appends-kept before (sinks.taken a.out) (sinks.taken new) _ w kept),
  )

  -- at a frame that was read, and of which a front was written
  pub stops_taking : (a : RunState L O) (capture : CaptureState) (left mid : Option (List ℕ)) (new : O) (frame : Captured) (e : ReplayError)
      → MayReadOn lanes script output a.lane a.capture a.so_far → Keeps (sinks.taken a.out) mid → ((e ≡ Replay.WriteFault) × (is_forward output ≡ true)) ⊎ (e ≡ Replay.NoMemory)
      → ((frames : List Captured) → length frames ≡ a.so_far.packets → LaneHasRead lanes script output a.lane frames
      → AppendsFront mid (sinks.taken new) (gained (lanes.app a.lane) script output frames frame))
      → ((rest : List ℕ) → a.left ≡ Some rest → StepTold a.capture capture rest left frame (Ok Frame))
      → StopsAt lanes sinks script output a new e
  stops_taking a capture left mid new frame e may kept only part step = λ before frames bytes here w r. (
    stopped_by (lanes.app a.lane) script output bytes a.left a.capture frames e r may.header only,
    front_of_frame (lanes.app a.lane) script output bytes a.left left a.capture capture frames frame before mid (sinks.taken new) r (step r.rest r.told)
        (Appends-kept before (sinks.taken a.out) mid _ w kept) (part frames here.counted here.read),
  )

  module _ {S : Type 0} {sources : Source S} where
    pub runs_on_and_on : {a b c : RunState L O} {s t u : S} → RunsOn lanes sinks script output sources a b s t → RunsOn lanes sinks script output sources b c t u
        → RunsOn lanes sinks script output sources a c s u
    runs_on_and_on first next = record { goes = on_and_on first.goes next.goes; from = reads_since first.from next.from }

    -- what is handed on can't be
    pub broke_handing : (a : RunState L O) (new : O) (s : S) {F : Type 0} → MayReadOn lanes script output a.lane a.capture a.so_far → is_forward output ≡ true
        → Keeps (sinks.taken a.out) (sinks.taken new) → F → Writes sinks a.out new F → BreaksOff lanes sinks script output sources a new s s Replay.WriteFault
    broke_handing a new s may forward kept failed to = record {
      stops = stops_here a new Replay.WriteFault kept (λ frames bytes r. stopped_writing (lanes.app a.lane) script output bytes a.left a.capture frames r forward may.header);
      light = λ is. cc;
      silent = λ silent. absurd (let both = sym forward ∙ silent in cc);
      cut = λ is. absurd (cc);
      from = reads_as (λ is. cc) (reads_nothing s);
      to = writes_as (λ is. failed) to;
    }

    -- the next record can't be read
    pub broke_reading : (a : RunState L O) (new : O) (s t : S) (capture : CaptureState) (frame : Captured) (e : NextError) {T : Type 0} {handed : Result T Failed}
        → Keeps (sinks.taken a.out) (sinks.taken new) → HandsOn sinks output a.out new handed → NextGives a.capture capture a.left (sources.left t) frame (Err e)
        → Reads sources s t (e ≡ Next.ReadFault) → BreaksOff lanes sinks script output sources a new s t (record_refusal e)
    broke_reading a new s t capture frame e kept hands gives from = record {
      stops = stops_here a new (record_refusal e) kept (λ frames bytes r. refused_record (lanes.app a.lane) script output bytes a.left (sources.left t) a.capture capture frames frame e r
          (step_told a.capture capture a.left (sources.left t) r.rest frame (Err e) gives r.told));
      light = no_heavy_record e;
      silent = λ is. ((hands.silent is).1, no_write_fault e);
      cut = λ is frames bytes here r. cut_record bytes a.left (sources.left t) a.capture capture frames frame e r
          (step_told a.capture capture a.left (sources.left t) r.rest frame (Err e) gives r.told) is;
      from = reads_as (is_read_fault e) from;
      to = writes_as (λ is. absurd (no_write_fault e is)) hands.to;
    }

    pub breaks_behind : {a b : RunState L O} {new : O} {s t u : S} {e : ReplayError} → RunsOn lanes sinks script output sources a b s t
        → BreaksOff lanes sinks script output sources b new t u e → BreaksOff lanes sinks script output sources a new s u e
    breaks_behind {a} {b} {new} {s} {t} {u} {e} on broke = record {
      stops = stops_behind a b new e on.goes broke.stops;
      light = broke.light;
      silent = λ is. ((broke.silent is).0 ∙ on.goes.silent is, (broke.silent is).1);
      cut = λ is frames bytes here r none.
          let more = on.goes.reads frames here in
          broke.cut is more.0 bytes more.1.come (more.1.replays bytes r) none;
      from = reads_since on.from broke.from;
      to = writes_since on.goes.to broke.to;
    }

    -- ---- it ends

    module _ {a : RunState L O} (first : HasCome lanes sinks script output a []) where
      -- before its capture does
      pub stopped : {b : RunState L O} {new : O} {s t u : S} {e : ReplayError} → RunsOn lanes sinks script output sources a b s t
          → BreaksOff lanes sinks script output sources b new t u e → Replays lanes sinks script output sources a new s u (Err e)
      stopped {b} {new} {s} {t} {u} {e} on broke =
          let all = breaks_behind on broke in
          record {
            comes_to = λ bytes before w r. all.stops before [] bytes first w r;
            typed = λ report ok. absurd (no_ok (List ℕ) e ok);
            read = λ ok. absurd (no_ok (List ℕ) e ok);
            silent = λ is write memory. (all.silent is).0;
            reads = reads_refused sources output _ _ _ e all.light (λ is. ((all.silent is).0, λ fault. (all.silent is).1 (err_same e Replay.WriteFault fault)))
                (λ is bytes r none. all.cut is [] bytes first r none);
            from = reads_as (err_same e Replay.ReadFault) all.from;
            to = writes_as (err_same e Replay.WriteFault) all.to;
          }

      -- with its capture, behind whose last record are so many bytes
      pub closed : {b : RunState L O} {mid new : O} {s t u : S} {T F : Type 0} {handed : Result T Failed} (n : ℕ) (result : Result (List ℕ) ReplayError)
          → RunsOn lanes sinks script output sources a b s t → Keeps (sinks.taken b.out) (sinks.taken mid) → HandsOn sinks output b.out mid handed
          → Reads sources t u F → sources.ended u
          → ((rest : List ℕ) → b.left ≡ Some rest → (frames_at b.capture rest ≡ ended (tail n)) × (sources.left u ≡ Some []))
          → ((header : List ℕ) (frames : List Captured) (before : Option (List ℕ)) → length frames ≡ b.so_far.packets → b.so_far.greatest ≡ greatest (arrivals 0 frames)
          → LaneHasRead lanes script output b.lane frames → Appends before (sinks.taken mid) (streamed (lanes.app b.lane) script (packets_of script) output header frames)
          → EndsAlone (lanes.app b.lane) script output header frames n before (sinks.taken new) result)
          → (output ≡ Report → IsOk result → (frames : List Captured) → length frames ≡ b.so_far.packets → b.so_far.greatest ≡ greatest (arrivals 0 frames)
          → LaneHasRead lanes script output b.lane frames
          → HaveTypes (shown (lanes.app b.lane) script (packets_of script) frames) (counted (lanes.app b.lane) script (packets_of script) frames n))
          → IfErr result (λ e. e ≢ Replay.WriteFault → e ≢ Replay.NoMemory → new ≡ mid)
          → IfErr result (λ e. (e ≡ Replay.WriteFault) ⊎ (e ≡ Replay.NoMemory) ⊎ (e ≡ Replay.Heavy))
          → Writes sinks mid new (IsErrOf result Replay.WriteFault)
          → Replays lanes sinks script output sources a new s u result
      closed {b} {mid} {new} {s} {t} {u} n result on kept hands from at_end over ends typed silent only to =
          let more = on.goes.reads [] first in
          let come = more.1.come in
          record {
            comes_to = λ bytes before w r.
                let rep = more.1.replays bytes r in
                subst (λ app. RunsAlone app script output bytes before (sinks.taken new) result) on.goes.app
                (subst (λ o. RunsAs o before (sinks.taken new) result) (sym (ended_at (lanes.app b.lane) script output bytes b.left b.capture more.0 n rep (over rep.rest rep.told).0))
                (ends b.capture.header more.0 before come.counted come.latest come.read
                (Appends-kept before (sinks.taken b.out) (sinks.taken mid) _ (more.1.written before w) kept)));
            typed = λ report ok bytes r.
                let rep = more.1.replays bytes r in
                subst (λ app. ReportIsTyped app script (packets_of script) bytes) on.goes.app
                (typed_at (lanes.app b.lane) script (packets_of script) bytes b.left b.capture more.0 n rep (over rep.rest rep.told).0
                (typed report ok more.0 come.counted come.latest come.read));
            read = λ ok bytes r. let rep = more.1.replays bytes r in (over rep.rest rep.told).1;
            silent = λ is. IfErr-weaker result _ _ (λ e same write memory. same write memory ∙ (hands.silent is).1 ∙ on.goes.silent is) silent;
            reads = reads_whole sources output _ _ _ result at_end (no_read_end result only);
            from = reads_as (λ fault. absurd (no_read_end result only fault)) (reads_since on.from from);
            to = writes_since on.goes.to (writes_since hands.to to);
          }
