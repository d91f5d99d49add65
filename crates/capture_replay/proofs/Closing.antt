-- The end of a run: what a lane ends with, and what is written of it.
use Rattle.std.proofs.Common.{◌≡◌, ◌≢◌, ℕ, ◌<◌, Bool, true, false, Option, Some, None, List, [], ◌∷◌, ◌++◌, length, map, refl, sym, ap, subst, ◌∙◌, inl, inr}
use Rattle.std.proofs.lemmas.List.{length-map}
use Rattle.std.specs.Prelude.{◌⊎◌, not, if◌then◌else◌, Result, Ok, Err}
use Rattle.std.specs.Io.KnownBytes.{Appends}
use Rattle.std.proofs.KnownBytes.{Appends-trans}
use Rattle.mos_bytes.specs.Writes.{AppendsFront}
use Rattle.mos_bytes.proofs.Writes.{AppendsFront-after}
use Rattle.app_api.specs.App.{Meaning}
use Rattle.pcap_source.specs.Captured.{Captured}
use Rattle.report_text.specs.declared.record.Record.{Record}
use Rattle.report_text.specs.declared.record.Totals.{Totals}
use Rattle.report_text.specs.Ranges.{HaveTypes}
use Rattle.report_text.specs.Report.{report_text, records_text}
use Rattle.report_text.specs.Lines.{totals_line}
use Rattle.control_script.specs.declared.stamped.Stamped.{Stamped}
use Rattle.lane_core.specs.declared.errors.LaneError.{LaneError}
use Rattle.lane_core.specs.declared.errors.LaneError.TheVariants as Lane
use Rattle.lane_core.specs.Sight.{Moment, arrivals}
use Rattle.lane_core.specs.Records.{VersionedPacket, RecordSoFar, ended_at}
use Rattle.lane_core.specs.Run.{LaneEvent, ended_run}
use Rattle.lane_core.specs.Shown.{record_of, callbacks_of, weight}
use Rattle.lane_core.specs.declared.end.KeptEnd.{KeptEnd}
use Rattle.lane_core.specs.declared.under_way.RecordUnderWay.{RecordUnderWay}
use Rattle.lane_core.specs.KeptEnd.{IsKeptEnd, shown_as}
use Rattle.lane_core.specs.Lane.{IsHeavyAtEnd, shown as shown_by}
use Rattle.lane_core.specs.Laws.{LaterCommandsChangeNone, WeightNeverFalls}
use Rattle.run_outcome.specs.Greatest.{greatest}
use Rattle.capture_replay.specs.declared.output.Output.{Output}
use Rattle.capture_replay.specs.declared.output.Output.TheVariants.{Report, Forward, Summary}
use Rattle.capture_replay.specs.declared.refusal.ReplayError.{ReplayError}
use Rattle.capture_replay.specs.declared.refusal.ReplayError.TheVariants as Replay
use Rattle.run_outcome.specs.Totals.{totals_of}
use Rattle.capture_replay.specs.Records.{control_at, packets_of, records_of, versions_of}
use Rattle.capture_replay.specs.Outcome.{is_forward, is_heavy, streamed, closing, ended, weighed, refused}
use Rattle.capture_replay.specs.Summary.{summary_text, made_line}
use Rattle.capture_replay.specs.Reading.{Follows, IsRead, records_so_far}
use Rattle.capture_replay.specs.Refusal.{lane_refusal}
use Rattle.capture_replay.specs.Runs.{StopsAs, RunsAs}
use Rattle.capture_replay.proofs.Following.{ended_are}
use Rattle.capture_replay.proofs.Reading.{heavy_at_end, over_at_end, under_at_end}

-- a call that went well was made of a lane that hadn't failed
pub was_good : {V : Type 0} (failed : Option LaneError) (result : Result V LaneError) (v : V) → ((e : LaneError) → failed ≡ Some e → result ≡ Err e) → result ≡ Ok v → failed ≡ None
was_good None result v before ok = refl
was_good (Some e) result v before ok = absurd (let bad = before e refl in cc)

-- without a report the records aren't written
closing-kept : (o : Output) (keep : Bool) → keep ≡ not (is_forward o) → (xs ys : List Record) (totals : Totals) → (keep ≡ true → xs ≡ ys) → closing o xs totals ≡ closing o ys totals
closing-kept Report keep keeps xs ys totals same = ap (λ l. closing Report l totals) (same keeps)
closing-kept Forward keep keeps xs ys totals same = refl
closing-kept (Summary n) keep keeps xs ys totals same = refl

module _ (app : Meaning) (script : List Stamped) (output : Output) (frames : List Captured) where
  abbrev rs : List RecordSoFar
  rs = records_of app script (packets_of script) frames

  module _ (given : ℕ) (failed : Option LaneError) (stands : List LaneEvent
      → Type 0) (keep : Bool) (last : Option Moment) (later : LaterCommandsChangeNone) (is_last : last ≡ greatest (arrivals 0 frames))
      (read : IsRead app script output given failed stands frames) where
    at-end : (f : Follows script given stands (packets_of script frames)) → ended_run app f.events last ≡ rs
    at-end f =
        ended_are app script given stands (packets_of script frames) f later last
        ∙ ap (λ l. map (ended_at app (control_at app script) l) (records_so_far app script (packets_of script) frames)) is_last

    -- the lane ended with these records
    pub ended_with : (end : KeptEnd) → failed ≡ None → ((events : List LaneEvent) → stands events → IsKeptEnd keep app (ended_run app events last) end)
        → IsKeptEnd keep app rs end
    ended_with end good is =
        let f = read.follows good in
        subst (λ so_far. IsKeptEnd keep app so_far end) (at-end f) (is f.events f.stands_for)

    -- they aren't too heavy
    pub end_is_light : failed ≡ None → keep ≡ not (is_forward output)
        → (keep ≡ true → (events : List LaneEvent) → stands events → IsHeavyAtEnd app events last → ⊥) → is_heavy app script (packets_of script) output frames ≡ false
    end_is_light good keeps light =
        let f = read.follows good in
        under_at_end app script output frames
        (λ kept over. light (keeps ∙ kept) f.events f.stands_for (subst (λ so_far. 134217728 < weight so_far) (sym (at-end f)) over))

    -- or they are
    pub end_is_heavy : WeightNeverFalls → keep ≡ not (is_forward output)
        → (failed ≡ None → (keep ≡ true) × ((events : List LaneEvent) → stands events → IsHeavyAtEnd app events last)) → is_heavy app script (packets_of script) output frames ≡ true
    end_is_heavy falls keeps heavy = by failed refl
      where
        by : (why : Option LaneError) → failed ≡ why → is_heavy app script (packets_of script) output frames ≡ true
        by None good =
            let is = heavy good in
            let f = read.follows good in
            over_at_end app script output frames (sym keeps ∙ is.0) (subst (λ so_far. 134217728 < weight so_far) (at-end f) (is.1 f.events f.stands_for))
        by (Some e) bad = heavy_at_end app script falls output frames (read.heavy (λ good. let both = sym bad ∙ good in cc))

  module _ (keep : Bool) (end : KeptEnd) (is : IsKeptEnd keep app rs end) (called : Meaning) (is_app : called ≡ app) (records : List RecordUnderWay) (same : records ≡ end.records)
      (packets tail : ℕ) (count : length frames ≡ packets) where
    abbrev counted : Totals
    counted = record { packets = packets; records = length records; callbacks = end.callbacks; drops = end.drops; tail = tail }

    totals-are : counted ≡ totals_of rs (length frames) tail
    totals-are =
        let lengths : length records ≡ length rs =
        ap length same ∙ sym (length-map end.records (λ r. r.version)) ∙ ap length is.versions_are ∙ length-map rs (λ r. r.version) in
        ap (λ n. record { packets = n; records = length records; callbacks = end.callbacks; drops = end.drops; tail = tail }) (sym count)
        ∙ ap (λ n. record { packets = length frames; records = n; callbacks = end.callbacks; drops = end.drops; tail = tail }) lengths
        ∙ ap (λ n. record { packets = length frames; records = length rs; callbacks = n; drops = end.drops; tail = tail }) is.callbacks_are
        ∙ ap (λ n. record { packets = length frames; records = length rs; callbacks = callbacks_of rs; drops = n; tail = tail }) is.drops_are

    -- they are shown as those of the run, where they are kept
    records-are : keep ≡ true → shown_as called records ≡ map (record_of app) rs
    records-are kept = ap (λ a. shown_as a records) is_app ∙ ap (shown_as app) same ∙ is.records_are ∙ ap (λ b. map (shown_by b app) rs) kept

    -- what is written of them
    pub closing_is : keep ≡ not (is_forward output)
        → closing output (shown_as called records) counted ≡ closing output (map (record_of app) rs) (totals_of rs (length frames) tail)
    closing_is keeps = closing-kept output keep keeps _ _ counted records-are ∙ ap (closing output (map (record_of app) rs)) totals-are

    -- and it has its types
    pub typed_is : keep ≡ true → HaveTypes (shown_as called records) counted → HaveTypes (map (record_of app) rs) (totals_of rs (length frames) tail)
    typed_is kept typed = subst (HaveTypes (map (record_of app) rs)) totals-are (subst (λ shown. HaveTypes shown counted) (records-are kept) typed)

-- ---- how a run ends

pub not-empty : (xs ys : List ℕ) → ys ≢ [] → xs ++ ys ≢ []
not-empty [] ys some = some
not-empty (x ∷ xs) ys some = λ none. cc

-- a report or a summary isn't empty
pub some-closing : (o : Output) (items : List Record) (totals : Totals) → is_forward o ≡ false → closing o items totals ≢ []
unfolding report_text summary_text totals_line
some-closing Report items totals kept = not-empty (records_text items) (totals_line totals) (λ none. cc)
some-closing Forward items totals kept = absurd (cc)
some-closing (Summary n) items totals kept = not-empty (made_line n) (totals_line totals) (λ none. cc)

module _ (app : Meaning) (script : List Stamped) (given : List Captured → List VersionedPacket) (output : Output) (frames : List Captured) where
  abbrev all : List RecordSoFar
  all = records_of app script given frames

  weighed-is : (header : List ℕ) (tail : ℕ) → is_heavy app script given output frames ≡ false → weighed app script given output header frames tail ≡ ended app script given output header frames tail
  weighed-is header tail light = ap (λ b. if b then refused Replay.Heavy else ended app script given output header frames tail) light

  -- all is written
  pub ends_well : (header : List ℕ) (tail : ℕ) (versions : List ℕ) (before mid after : Option (List ℕ)) → is_heavy app script given output frames ≡ false → versions ≡ versions_of all
      → Appends before mid (streamed app script given output header frames)
      → Appends mid after (closing output (map (record_of app) all) (totals_of all (length frames) tail))
      → RunsAs (weighed app script given output header frames tail) before after (Ok versions)
  ends_well header tail versions before mid after light same first last =
      subst (λ o. RunsAs o before after (Ok versions)) (sym (weighed-is header tail light)) (record {
        answered = ap (λ vs. Ok vs) (sym same);
        written = Appends-trans before mid after _ _ first last;
      })

  -- a front of it is written, or memory is refused
  pub ends_badly : (header : List ℕ) (tail : ℕ) (e : ReplayError) (before mid after : Option (List ℕ)) → is_heavy app script given output frames ≡ false
      → ((e ≡ Replay.WriteFault) × (is_forward output ≡ false)) ⊎ (e ≡ Replay.NoMemory)
      → Appends before mid (streamed app script given output header frames)
      → AppendsFront mid after (closing output (map (record_of app) all) (totals_of all (length frames) tail))
      → RunsAs (weighed app script given output header frames tail) before after (Err e)
  ends_badly header tail e before mid after light which first last =
      subst (λ o. RunsAs o before after (Err e)) (sym (weighed-is header tail light)) (by which, AppendsFront-after before mid after _ _ first last)
    where
      by : ((e ≡ Replay.WriteFault) × (is_forward output ≡ false)) ⊎ (e ≡ Replay.NoMemory) → StopsAs (ended app script given output header frames tail) e
      by (inl w) = inr (inr (inr (w.0, not-empty (streamed app script given output header frames) _ (some-closing output _ _ w.1))))
      by (inr m) = inr (inr (inl m))

  -- the lane has no end: nothing is written
  pub ends_not : (header : List ℕ) (tail : ℕ) (e : LaneError) (before now : Option (List ℕ)) → (e ≡ Lane.Heavy → is_heavy app script given output frames ≡ true)
      → AppendsFront before now (weighed app script given output header frames tail).text → RunsAs (weighed app script given output header frames tail) before now (Err (lane_refusal e))
  ends_not header tail Lane.Heavy before now heavy front = (inl (ap (λ b. (if b then refused Replay.Heavy else ended app script given output header frames tail).ends) (heavy refl)), front)
  ends_not header tail Lane.NoMemory before now heavy front = (inr (inr (inl refl)), front)
