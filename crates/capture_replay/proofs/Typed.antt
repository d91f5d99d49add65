-- The report of a run has its types: of one worker, and of several.
use Rattle.std.proofs.Common.{◌≡◌, ℕ, Bool, true, false, Option, Some, List, length, map, take, Result, Ok, Err, refl, sym, ap, subst, append-nil, ◌∙◌}
use Rattle.std.specs.Prelude.{if◌then◌else◌, IsOk}
use Rattle.app_api.specs.App.{Meaning}
use Rattle.pcap_source.specs.Captured.{Captured}
use Rattle.pcap_source.specs.Capture.{Frames, ended as ended_frames, tail, capture_of}
use Rattle.pcap_source.specs.Reading.{CaptureState, frames_at}
use Rattle.report_text.specs.Ranges.{HaveTypes}
use Rattle.control_script.specs.declared.stamped.Stamped.{Stamped}
use Rattle.lane_core.specs.Records.{VersionedPacket}
use Rattle.lane_core.specs.Shown.{record_of}
use Rattle.run_outcome.specs.Totals.{totals_of}
use Rattle.worker_pool.specs.Run.{IsWhole}
use Rattle.worker_pool.specs.declared.job.LanesEnd.{LanesEnd}
use Rattle.capture_replay.specs.declared.output.Output.{Output}
use Rattle.capture_replay.specs.declared.output.Output.TheVariants.{Report}
use Rattle.capture_replay.specs.declared.refusal.ReplayError.{ReplayError}
use Rattle.capture_replay.specs.declared.refusal.ReplayError.TheVariants.{Heavy}
use Rattle.capture_replay.specs.Records.{frames_in, packets_of, packets_with, records_of, versions_of}
use Rattle.capture_replay.specs.Outcome.{ended, followed, is_heavy, outcome_by, outcome_over, refused}
use Rattle.capture_replay.specs.Laws.{CeilingsRecordTheSame}
use Rattle.capture_replay.specs.Reading.{Replaying, behind}
use Rattle.capture_replay.specs.Runs.{RunsAlone}
use Rattle.capture_replay.specs.Typed.{ReportIsTyped, WritesTyped, counted, shown}

module _ (app : Meaning) (script : List Stamped) (given : List Captured → List VersionedPacket) where
  -- the bytes have one capture
  pub typed_over : (bytes : List ℕ) (g : Frames) (n : ℕ) → capture_of bytes ≡ Ok g → g.ending ≡ tail n
      → HaveTypes (shown app script given g.frames) (counted app script given g.frames n) → ReportIsTyped app script given bytes
  typed_over bytes g n holds ending types f rest opened ends =
      let both = sym holds ∙ opened in
      let same : g ≡ f = cc in
      let tails = sym ending ∙ ap (λ x. x.ending) same ∙ ends in
      let last : n ≡ rest = cc in
      subst (λ m. HaveTypes (shown app script given f.frames) (counted app script given f.frames m)) last
      (subst (λ x. HaveTypes (shown app script given x.frames) (counted app script given x.frames n)) same types)

  -- all of the capture was read
  pub typed_at : (bytes : List ℕ) (left : Option (List ℕ)) (capture : CaptureState) (frames : List Captured) (n : ℕ) → (r : Replaying bytes left capture frames)
      → frames_at capture r.rest ≡ ended_frames (tail n)
      → HaveTypes (shown app script given frames) (counted app script given frames n) → ReportIsTyped app script given bytes
  typed_at bytes left capture frames n r is types =
      let holds = r.holds ∙ ap (λ x. Ok (behind frames x)) is ∙ ap {B = Result Frames _} (λ fs. Ok (record { frames = fs; ending = tail n })) (append-nil frames) in
      typed_over bytes (record { frames = frames; ending = tail n }) n holds refl types

-- ---- one worker

module _ (app : Meaning) (script : List Stamped) (frames : List Captured) where
  versions-by : (output : Output) (header : List ℕ) (rest : ℕ) (versions : List ℕ) (heavy : Bool)
      → (if heavy then refused Heavy else ended app script (packets_of script) output header frames rest).ends ≡ Ok versions
      → versions ≡ versions_of (records_of app script (packets_of script) frames)
  versions-by output header rest versions true ends = absurd (cc)
  versions-by output header rest versions false ends = cc

-- the versions that it answers are its ceilings
versions-are : (app : Meaning) (script : List Stamped) (output : Output) (bytes : List ℕ) (f : Frames) (rest : ℕ) (versions : List ℕ) → capture_of bytes ≡ Ok f → f.ending ≡ tail rest
    → (outcome_over app script (packets_of script) output bytes).ends ≡ Ok versions → versions ≡ versions_of (records_of app script (packets_of script) f.frames)
unfolding outcome_over
versions-are app script output bytes f rest versions opened ends answered =
    let at = ap (λ r. (outcome_by app script (packets_of script) output (take 24 bytes) r).ends) opened
    ∙ ap (λ e. (followed app script (packets_of script) output (take 24 bytes) f.frames e).ends) ends in
    versions-by app script f.frames output (take 24 bytes) rest versions (is_heavy app script (packets_of script) output f.frames) (sym at ∙ answered)

pub alone_typed : CeilingsRecordTheSame → (app : Meaning) (script : List Stamped) (output : Output) (left old new : Option (List ℕ)) (result : Result (List ℕ) ReplayError)
    → ((bytes : List ℕ) → left ≡ Some bytes → RunsAlone app script output bytes old new result)
    → (output ≡ Report → IsOk result → (bytes : List ℕ) → left ≡ Some bytes → ReportIsTyped app script (packets_of script) bytes)
    → WritesTyped app script output left result
alone_typed same app script output left old new (Err e) ran typed = λ report. tt
alone_typed same app script output left old new (Ok versions) ran typed = λ report bytes told f rest opened ends.
    let known = versions-are app script output bytes f rest versions opened ends (ran bytes told).answered in
    let ceilings = subst (λ fs. records_of app script (packets_with app script (versions_of (records_of app script (packets_of script) fs))) fs
    ≡ records_of app script (packets_of script) fs) (ap frames_in opened) (same app script bytes) in
    let records = ap (λ vs. records_of app script (packets_with app script vs) f.frames) known ∙ ceilings in
    subst (λ rs. HaveTypes (map (record_of app) rs) (totals_of rs (length f.frames) rest)) (sym records) (typed report refl bytes told f rest opened ends)

-- ---- several

pub pool_typed : (app : Meaning) (script : List Stamped) (lanes : ℕ) (frames : List Captured) (n : ℕ) (end : LanesEnd) → IsWhole app script lanes frames n end
    → HaveTypes end.records end.totals
    → HaveTypes (shown app script (packets_with app script end.versions) frames) (counted app script (packets_with app script end.versions) frames n)
pool_typed app script lanes frames n end whole types =
    subst (HaveTypes (shown app script (packets_with app script end.versions) frames)) whole.totals_are (subst (λ rs. HaveTypes rs end.totals) whole.records_are types)
