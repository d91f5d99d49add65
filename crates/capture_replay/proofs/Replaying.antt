-- What a replay keeps while it reads: the frames so far, and what is left, are the capture.
use Rattle.std.proofs.Common.{◌≡◌, ◌≢◌, ℕ, ◌+◌, ◌-◌, Bool, true, false, Option, Some, None, List, [], ◌∷◌, ◌++◌, length, take, drop, Result, Ok, Err, refl, sym, ap, subst, ◌∙◌, arith, append_assoc, append-nil, inl, inr}
use Rattle.std.specs.Prelude.{◌⊎◌, if◌then◌else◌}
use Rattle.std.specs.Io.KnownBytes.{Appends}
use Rattle.app_api.specs.App.{Meaning}
use Rattle.pcap_source.specs.Captured.{Captured}
use Rattle.pcap_source.specs.Capture.{Ending, tail, too_long, too_many, ended, frames_from, frames_by, header_of, capture_of}
use Rattle.pcap_source.specs.Reading.{CaptureState, OpenGives, NextGives, StepsAs, frames_at}
use Rattle.pcap_source.specs.declared.capture.Step.{Step}
use Rattle.pcap_source.specs.declared.capture.Step.TheVariants.{Frame}
use Rattle.pcap_source.specs.declared.errors.NextError.{NextError}
use Rattle.pcap_source.specs.declared.errors.NextError.TheVariants as Next
use Rattle.pcap_source.specs.declared.errors.OpenError.{OpenError}
use Rattle.pcap_source.specs.declared.errors.OpenError.TheVariants as Open
use Rattle.mos_bytes.specs.Writes.{AppendsFront}
use Rattle.mos_bytes.proofs.Writes.{AppendsFront-after, AppendsFront-whole, AppendsFront-more}
use Rattle.control_script.specs.declared.stamped.Stamped.{Stamped}
use Rattle.control_script.specs.Versions.{ceil}
use Rattle.lane_core.specs.Sight.{arrivals}
use Rattle.lane_core.specs.Records.{VersionedPacket, RecordSoFar, added, verdict_on, records_from, versioned}
use Rattle.lane_core.specs.Verdicts.{verdicts_from}
use Rattle.capture_replay.specs.declared.output.Output.{Output}
use Rattle.capture_replay.specs.declared.refusal.ReplayError.{ReplayError}
use Rattle.capture_replay.specs.declared.refusal.ReplayError.TheVariants as Replay
use Rattle.capture_replay.specs.Records.{control_at, packets_of}
use Rattle.run_outcome.specs.Forwarded.{bytes_under as left_by}
use Rattle.run_outcome.specs.Forwarded.{left_by_all}
use Rattle.capture_replay.specs.Forward.{forwarded}
use Rattle.capture_replay.specs.Refusal.{record_refusal, header_refusal}
use Rattle.capture_replay.specs.Outcome.{is_forward, is_heavy, streamed, followed, weighed, refused, outcome_by, outcome_over}
use Rattle.capture_replay.specs.Outcome as Outcomes
use Rattle.capture_replay.specs.Reading.{Replaying, behind, gained, packet_of, records_so_far}
use Rattle.capture_replay.proofs.Reading.{heavy_is_kept}
use Rattle.capture_replay.specs.Runs.{StopsAs}

-- ---- the global header

opened-by : (bytes : List ℕ) (capture : CaptureState) (rest : List ℕ) → header_of bytes ≡ Ok capture.order → rest ≡ drop 24 bytes → capture.count ≡ 0 → capture.offset ≡ 24
    → capture_of bytes ≡ Ok (frames_at capture rest)
opened-by bytes capture rest gives is count offset =
    let all : 1048576 - capture.count ≡ 1048576 = omega (arith, count) in
    let start : frames_at capture rest ≡ frames_from capture.order 1048576 24 (drop 24 bytes) =
    ap (λ n. frames_from capture.order n capture.offset rest) all
    ∙ ap (λ at. frames_from capture.order 1048576 at rest) offset
    ∙ ap (λ l. frames_from capture.order 1048576 24 l) is in
    ap (λ r. frames_by r bytes) gives ∙ ap (λ f. Ok f) (sym start)

pub opened_replay : (old new : Option (List ℕ)) (capture : CaptureState) (bytes : List ℕ) → OpenGives old new (Ok capture) → capture.count ≡ 0
    → capture.offset ≡ 24 → old ≡ Some bytes → Replaying bytes new capture []
opened_replay None new capture bytes gives count offset told = absurd (cc)
opened_replay (Some b) None capture bytes gives count offset told = absurd gives
opened_replay (Some b) (Some after) capture bytes gives count offset told =
    let same : b ≡ bytes = cc in
    subst (λ l. Replaying l (Some after) capture []) same (record {
      rest = after;
      told = refl;
      holds = opened-by b capture after gives.0 gives.2 count offset;
      header = gives.1;
    })

header-refused : (bytes : List ℕ) (e : OpenError) → header_of bytes ≡ Err e → capture_of bytes ≡ Err e
header-refused bytes e is = ap (λ r. frames_by r bytes) is

module _ (app : Meaning) (script : List Stamped) (given : List Captured → List VersionedPacket) (output : Output) where
  header-stops : (b bytes : List ℕ) (e : OpenError) → header_of b ≡ Err e → Some b ≡ Some bytes → StopsAs (outcome_over app script given output bytes) (header_refusal e)
  unfolding outcome_over
  header-stops b bytes e is told =
      let same : b ≡ bytes = cc in
      inl (ap (λ r. (outcome_by app script given output (take 24 bytes) r).ends) (header-refused bytes e (ap header_of (sym same) ∙ is)))

  -- a refused header
  pub refused_header : (old new : Option (List ℕ)) (bytes : List ℕ) (e : OpenError) → OpenGives old new (Err e) → old ≡ Some bytes
      → StopsAs (outcome_over app script given output bytes) (header_refusal e)
  refused_header None new bytes e gives told = absurd (cc)
  refused_header (Some b) None bytes e gives told = absurd gives
  refused_header (Some b) (Some after) bytes Open.ReadFault gives told = inr (inl refl)
  refused_header (Some b) (Some after) bytes Open.BadMagic gives told = header-stops b bytes Open.BadMagic gives told
  refused_header (Some b) (Some after) bytes Open.BadVersion gives told = header-stops b bytes Open.BadVersion gives told
  refused_header (Some b) (Some after) bytes Open.BadLink gives told = header-stops b bytes Open.BadLink gives told
  refused_header (Some b) (Some after) bytes (Open.ShortHeader n) gives told = header-stops b bytes (Open.ShortHeader n) gives told

  -- the outcome by the frames so far and what is left
  pub outcome_is : (bytes : List ℕ) (left : Option (List ℕ)) (capture : CaptureState) (frames : List Captured) → (r : Replaying bytes left capture frames)
      → outcome_over app script given output bytes ≡ followed app script given output capture.header (frames ++ (frames_at capture r.rest).frames) (frames_at capture r.rest).ending
  unfolding outcome_over
  outcome_is bytes left capture frames r =
      ap (λ h. outcome_by app script given output h (capture_of bytes)) (sym r.header) ∙ ap (λ read. outcome_by app script given output capture.header read) r.holds

-- ---- the next record

pub record StepTold (old new : CaptureState) (before : List ℕ) (after : Option (List ℕ)) (frame : Captured) (result : Result Step NextError) : Type 0 where
  pub rest : List ℕ
  pub told : after ≡ Some rest
  pub steps : StepsAs (frames_at old before) (frames_at new rest) rest frame result

pub step_told : (old new : CaptureState) (before after : Option (List ℕ)) (rest : List ℕ) (frame : Captured) (result : Result Step NextError)
    → NextGives old new before after frame result → before ≡ Some rest
    → StepTold old new rest after frame result
step_told old new None after rest frame result gives told = absurd (cc)
step_told old new (Some b) None rest frame result gives told = absurd gives
step_told old new (Some b) (Some a) rest frame result gives told =
    let same : b ≡ rest = cc in
    subst (λ l. StepTold old new l (Some a) frame result) same (record { rest = a; told = refl; steps = gives })

-- one more frame
pub replayed : (bytes : List ℕ) (left after : Option (List ℕ)) (old new : CaptureState) (frames : List Captured) (frame : Captured)
    → (r : Replaying bytes left old frames) → StepTold old new r.rest after frame (Ok Frame) → new.header ≡ old.header → Replaying bytes after new (frames ++ frame ∷ [])
replayed bytes left after old new frames frame r step header =
    let others = frames_at new step.rest in
    record {
      rest = step.rest;
      told = step.told;
      holds = r.holds ∙ ap (λ f. Ok (behind frames f)) step.steps
          ∙ ap (λ l. Ok (record { frames = l; ending = others.ending })) (sym (append_assoc frames (frame ∷ []) others.frames));
      header = header ∙ r.header;
    }

-- ---- what is written while the capture is read

module _ (app : Meaning) (script : List Stamped) where
  -- what frames leave that are numbered from n on, behind these records
  abbrev forwarded_from : ℕ → List RecordSoFar → List Captured → List ℕ
  forwarded_from n so_far frames = left_by_all (verdicts_from app (control_at app script) so_far (versioned (ceil script) (arrivals n frames))) frames

  -- what more frames leave
  forwarded-more : (n : ℕ) (so_far : List RecordSoFar) (frames more : List Captured)
      → forwarded_from n so_far (frames ++ more)
      ≡ forwarded_from n so_far frames ++ forwarded_from (n + length frames) (records_from app (control_at app script) so_far (versioned (ceil script) (arrivals n frames))) more
  unfolding left_by_all verdicts_from records_from
  forwarded-more n so_far [] more = ap (λ k. forwarded_from k so_far more) (let same : n ≡ n + 0 = omega arith in same)
  forwarded-more n so_far (frame ∷ frames) more =
      let later = added app (control_at app script) (packet_of script n frame) so_far in
      let count : (n + 1) + length frames ≡ n + length (frame ∷ frames) = omega arith in
      let here = left_by (verdict_on app (control_at app script) (packet_of script n frame) so_far) frame in
      ap (λ l. here ++ l) (forwarded-more (n + 1) later frames more
      ∙ ap (λ k. forwarded_from (n + 1) later frames ++ forwarded_from k (records_from app (control_at app script) later (versioned (ceil script) (arrivals (n + 1) frames))) more) count)
      ∙ sym (append_assoc here _ _)

  left-alone : (n : ℕ) (so_far : List RecordSoFar) (frame : Captured) → forwarded_from n so_far (frame ∷ []) ≡ left_by (verdict_on app (control_at app script) (packet_of script n frame) so_far) frame
  unfolding left_by_all verdicts_from
  left-alone n so_far frame = append-nil _

  forwarded-last : (frames : List Captured) (frame : Captured)
      → forwarded app script (packets_of script) (frames ++ frame ∷ []) ≡ forwarded app script (packets_of script) frames ++ left_by
      (verdict_on app (control_at app script) (packet_of script (length frames) frame) (records_so_far app script (packets_of script) frames)) frame
  forwarded-last frames frame =
      forwarded-more 0 [] frames (frame ∷ []) ∙ ap (λ l. forwarded app script (packets_of script) frames ++ l)
      (left-alone (0 + length frames) (records_so_far app script (packets_of script) frames) frame)
      ∙ ap (λ n. forwarded app script (packets_of script) frames ++ left_by
      (verdict_on app (control_at app script) (packet_of script n frame) (records_so_far app script (packets_of script) frames)) frame)
      (let same : 0 + length frames ≡ length frames = omega arith in same)

  none-forwarded : forwarded app script (packets_of script) [] ≡ []
  unfolding left_by_all verdicts_from
  none-forwarded = refl

  -- what is written, where packets are or not
  abbrev written_by : Bool → List ℕ → List Captured → List ℕ
  written_by b header frames = if b then header ++ forwarded app script (packets_of script) frames else []

  written-more : (b : Bool) (header : List ℕ) (frames more : List Captured) → (rest : List ℕ) × (written_by b header (frames ++ more) ≡ written_by b header frames ++ rest)
  written-more true header frames more =
      let others = forwarded_from (0 + length frames) (records_so_far app script (packets_of script) frames) more in
      (others, ap (λ l. header ++ l) (forwarded-more 0 [] frames more) ∙ sym (append_assoc header (forwarded app script (packets_of script) frames) others))
  written-more false header frames more = ([], refl)

  written-last : (b : Bool) (header : List ℕ) (frames : List Captured) (frame : Captured)
      → written_by b header (frames ++ frame ∷ []) ≡ written_by b header
      frames ++ (if b then left_by (verdict_on app (control_at app script) (packet_of script (length frames) frame)
      (records_so_far app script (packets_of script) frames)) frame else [])
  written-last true header frames frame = ap (λ l. header ++ l) (forwarded-last frames frame) ∙ sym (append_assoc header (forwarded app script (packets_of script) frames) _)
  written-last false header frames frame = refl

  written-none : (b : Bool) (header : List ℕ) → written_by b header [] ≡ (if b then header else [])
  written-none true header = ap (λ l. header ++ l) none-forwarded ∙ append-nil header
  written-none false header = refl

  module _ (output : Output) (header : List ℕ) where
    pub streamed_last : (frames : List Captured) (frame : Captured) → streamed app script (packets_of script) output header
        (frames ++ frame ∷ []) ≡ streamed app script (packets_of script) output header frames ++ gained app script output frames frame
    streamed_last frames frame = written-last (is_forward output) header frames frame

    pub streamed_none : streamed app script (packets_of script) output header [] ≡ (if is_forward output then header else [])
    streamed_none = written-none (is_forward output) header

    heavy-text : (b : Bool) → is_forward output ≡ b → (frames : List Captured) → is_heavy app script (packets_of script) output frames ≡ true
        → streamed app script (packets_of script) output header frames ≡ []
    heavy-text b is frames heavy = ap (λ c. written_by c header frames) (heavy_is_kept app script output frames heavy)

    weighed-text : (frames : List Captured) (n : ℕ) (b : Bool) → is_heavy app script (packets_of script) output frames ≡ b
        → (rest : List ℕ) × ((if b then refused Replay.Heavy else Outcomes.ended app script (packets_of script) output header frames n).text ≡ streamed
        app script (packets_of script) output header frames ++ rest)
    weighed-text frames n true heavy = ([], sym (append-nil _ ∙ heavy-text (is_forward output) refl frames heavy))
    weighed-text frames n false light = (_, refl)

    text-of : (frames : List Captured) (ending : Ending) → (rest : List ℕ)
        × ((followed app script (packets_of script) output header frames ending).text ≡ streamed app script (packets_of script) output header frames ++ rest)
    text-of frames (tail n) = weighed-text frames n (is_heavy app script (packets_of script) output frames) refl
    text-of frames (too_long offset) = ([], sym (append-nil _))
    text-of frames (too_many offset) = ([], sym (append-nil _))

    -- what is written of some frames is a front of what is written of them and others
    front-of : (frames more : List Captured) (ending : Ending) → (rest : List ℕ)
        × ((followed app script (packets_of script) output header (frames ++ more) ending).text ≡ streamed app script (packets_of script) output header frames ++ rest)
    front-of frames more ending =
        let all = text-of (frames ++ more) ending in
        let some = written-more (is_forward output) header frames more in
        (some.0 ++ all.0, all.1 ∙ ap (λ l. l ++ all.0) some.1 ∙ append_assoc (streamed app script (packets_of script) output header frames) some.0 all.0)

    pub front_whole : (frames more : List Captured) (ending : Ending) (old now : Option (List ℕ)) → Appends old now (streamed app script (packets_of script) output header frames)
        → AppendsFront old now (followed app script (packets_of script) output header (frames ++ more) ending).text
    front_whole frames more ending old now written =
        let front = front-of frames more ending in
        subst (AppendsFront old now) (sym front.1) (AppendsFront-whole old now (streamed app script (packets_of script) output header frames) front.0 written)

    -- and of what is written at the end of the capture
    pub front_at_end : (frames : List Captured) (n : ℕ) (old now : Option (List ℕ)) → Appends old now (streamed app script (packets_of script) output header frames)
        → AppendsFront old now (weighed app script (packets_of script) output header frames n).text
    front_at_end frames n old now written =
        let front = weighed-text frames n (is_heavy app script (packets_of script) output frames) refl in
        subst (AppendsFront old now) (sym front.1) (AppendsFront-whole old now (streamed app script (packets_of script) output header frames) front.0 written)

    pub front_part : (frames more : List Captured) (frame : Captured) (ending : Ending) (old mid now : Option (List ℕ)) → Appends old mid (streamed app script (packets_of script) output header frames)
        → AppendsFront mid now (gained app script output frames frame) → AppendsFront old now (followed app script (packets_of script) output header (frames ++ frame ∷ more) ending).text
    front_part frames more frame ending old mid now written part =
        let front = front-of (frames ++ frame ∷ []) more ending in
        let all : AppendsFront old now (streamed app script (packets_of script) output header frames ++ gained app script output frames frame) = AppendsFront-after old mid now _ _ written part in
        subst (λ fs. AppendsFront old now (followed app script (packets_of script) output header fs ending).text) (append_assoc frames (frame ∷ []) more)
        (subst (AppendsFront old now) (sym front.1) (AppendsFront-more old now _ front.0 (subst (AppendsFront old now) (sym (streamed_last frames frame)) all)))

    front-nonempty : (b : Bool) → b ≡ true → length header ≡ 24 → (frames : List Captured) (rest : List ℕ) → written_by b header frames ++ rest ≢ []
    front-nonempty false is len frames rest = absurd (cc)
    front-nonempty true is len frames rest = nonempty header len
      where
        nonempty : (h : List ℕ) → length h ≡ 24 → (h ++ forwarded app script (packets_of script) frames) ++ rest ≢ []
        nonempty [] l = absurd (omega (arith, l))
        nonempty (x ∷ h) l = λ none. cc

    -- something is written where packets are
    pub writes_something : is_forward output ≡ true → length header ≡ 24 → (frames : List Captured) (ending : Ending)
        → (followed app script (packets_of script) output header frames ending).text ≢ []
    writes_something forward len frames ending none =
        let all = text-of frames ending in
        front-nonempty (is_forward output) forward len frames all.0 (sym all.1 ∙ none)

  -- ---- how the run ends

  module _ (output : Output) where
    -- a record that can't be read
    pub refused_record : (bytes : List ℕ) (left after : Option (List ℕ)) (old new : CaptureState) (frames : List Captured) (frame : Captured) (e : NextError)
        → (r : Replaying bytes left old frames) → StepTold old new r.rest after frame (Err e) → StopsAs (outcome_over app script (packets_of script) output bytes) (record_refusal e)
    refused_record bytes left after old new frames frame (Next.TooLong offset) r step =
        inl (ap (λ o. o.ends) (outcome_is app script (packets_of script) output bytes left old frames r)
        ∙ ap (λ f. (followed app script (packets_of script) output old.header (frames ++ f.frames) f.ending).ends) step.steps)
    refused_record bytes left after old new frames frame (Next.TooMany offset) r step =
        inl (ap (λ o. o.ends) (outcome_is app script (packets_of script) output bytes left old frames r)
        ∙ ap (λ f. (followed app script (packets_of script) output old.header (frames ++ f.frames) f.ending).ends) step.steps)
    refused_record bytes left after old new frames frame Next.ReadFault r step = inr (inl refl)
    refused_record bytes left after old new frames frame Next.NoMemory r step = inr (inr (inl refl))

    -- what was written so far is a front of the whole
    pub front_so_far : (bytes : List ℕ) (left : Option (List ℕ)) (capture : CaptureState) (frames : List Captured) (old now : Option (List ℕ)) → Replaying bytes left capture frames
        → Appends old now (streamed app script (packets_of script) output capture.header frames) → AppendsFront old now (outcome_over app script (packets_of script) output bytes).text
    front_so_far bytes left capture frames old now r written =
        subst (λ o. AppendsFront old now o.text) (sym (outcome_is app script (packets_of script) output bytes left capture frames r))
        (front_whole output capture.header frames (frames_at capture r.rest).frames (frames_at capture r.rest).ending old now written)

    -- and so is what was written of one frame more
    pub front_of_frame : (bytes : List ℕ) (left after : Option (List ℕ)) (before capture : CaptureState) (frames : List Captured) (frame : Captured)
        (old mid now : Option (List ℕ)) → (r : Replaying bytes left before frames)
        → StepTold before capture r.rest after frame (Ok Frame) → Appends old mid (streamed app script (packets_of script) output before.header frames)
        → AppendsFront mid now (gained app script output frames frame) → AppendsFront old now (outcome_over app script (packets_of script) output bytes).text
    front_of_frame bytes left after before capture frames frame old mid now r step written part =
        subst (λ o. AppendsFront old now o.text) (sym (outcome_is app script (packets_of script) output bytes left before frames r
        ∙ ap (λ f. followed app script (packets_of script) output before.header (frames ++ f.frames) f.ending) step.steps))
        (front_part output before.header frames (frames_at capture step.rest).frames frame (frames_at capture step.rest).ending old mid now written part)

    -- a write that failed
    pub stopped_writing : (bytes : List ℕ) (left : Option (List ℕ)) (capture : CaptureState) (frames : List Captured)
        → Replaying bytes left capture frames → is_forward output ≡ true → length capture.header ≡ 24
        → StopsAs (outcome_over app script (packets_of script) output bytes) Replay.WriteFault
    stopped_writing bytes left capture frames r forward len = inr (inr (inr (
      refl,
      λ none. writes_something output capture.header forward len (frames ++ (frames_at capture r.rest).frames) (frames_at capture r.rest).ending
          (sym (ap (λ o. o.text) (outcome_is app script (packets_of script) output bytes left capture frames r)) ∙ none),
    )))

    -- the end of the capture
    pub ended_at : (bytes : List ℕ) (left : Option (List ℕ)) (capture : CaptureState) (frames : List Captured) (n : ℕ)
        → (r : Replaying bytes left capture frames) → frames_at capture r.rest ≡ ended (tail n)
        → outcome_over app script (packets_of script) output bytes ≡ weighed app script (packets_of script) output capture.header frames n
    ended_at bytes left capture frames n r is =
        outcome_is app script (packets_of script) output bytes left capture frames r ∙ ap (λ f. followed app script (packets_of script) output capture.header (frames ++ f.frames) f.ending) is
        ∙ ap (λ fs. followed app script (packets_of script) output capture.header fs (tail n)) (append-nil frames)

    -- a write that failed, or want of memory
    pub stopped_by : (bytes : List ℕ) (left : Option (List ℕ)) (capture : CaptureState) (frames : List Captured) (e : ReplayError) → Replaying bytes left capture frames → length capture.header ≡ 24
        → ((e ≡ Replay.WriteFault) × (is_forward output ≡ true)) ⊎ (e ≡ Replay.NoMemory) → StopsAs (outcome_over app script (packets_of script) output bytes) e
    stopped_by bytes left capture frames e r len (inl w) = subst (λ x. StopsAs (outcome_over app script (packets_of script) output bytes) x) (sym w.0)
        (stopped_writing bytes left capture frames r w.1 len)
    stopped_by bytes left capture frames e r len (inr m) = inr (inr (inl m))

    -- a front of the header
    pub front_of_header : (bytes : List ℕ) (left : Option (List ℕ)) (capture : CaptureState) (old now : Option (List ℕ)) → Replaying bytes left capture []
        → AppendsFront old now (if is_forward output then capture.header else []) → AppendsFront old now (outcome_over app script (packets_of script) output bytes).text
    front_of_header bytes left capture old now r part =
        let front = front-of output capture.header [] (frames_at capture r.rest).frames (frames_at capture r.rest).ending in
        subst (λ o. AppendsFront old now o.text) (sym (outcome_is app script (packets_of script) output bytes left capture [] r))
        (subst (AppendsFront old now) (sym front.1) (AppendsFront-more old now _ front.0 (subst (AppendsFront old now) (sym (streamed_none output capture.header)) part)))

    -- the whole header
    pub header_written : (header : List ℕ) (old now : Option (List ℕ)) → Appends old now (if is_forward output then header else [])
        → Appends old now (streamed app script (packets_of script) output header [])
    header_written header old now written = subst (Appends old now) (sym (streamed_none output header)) written
