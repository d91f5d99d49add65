-- The versions of one worker: any number of workers may have them, and under them all make the same records and verdicts.
use Rattle.std.proofs.Common.{◌≡◌, ℕ, ◌≤◌, List, [], map, refl, sym, ap, subst, ◌∙◌, le_refl, Result, Ok, Err}
use Rattle.std.specs.Prelude.{◌&&◌, not, nat_lt, if◌then◌else◌, ◌++◌, length, take}
use Rattle.flow_table.specs.Key.{EndpointPair}
use Rattle.flow_table.specs.Lane.{lane_of_key}
use Rattle.app_api.specs.App.{Meaning}
use Rattle.app_api.specs.declared.reaction.Verdict.{Verdict}
use Rattle.forest_versions.specs.declared.command.Command.{Command}
use Rattle.pcap_source.specs.Captured.{Captured}
use Rattle.pcap_source.specs.Capture.{Frames, Ending, tail, too_long, too_many, capture_of}
use Rattle.pcap_source.specs.declared.errors.OpenError.{OpenError}
use Rattle.pcap_source.specs.declared.errors.CaptureFault.TheVariants as Fault
use Rattle.control_script.specs.declared.stamped.Stamped.{Stamped}
use Rattle.control_script.specs.Order.{commands_of}
use Rattle.control_script.specs.Versions.{floor, ceil}
use Rattle.lane_core.specs.Sight.{Arrival, arrivals}
use Rattle.lane_core.specs.Records.{VersionedPacket, RecordSoFar, ended_at, records, versioned}
use Rattle.lane_core.specs.Shown.{record_of, weight}
use Rattle.run_outcome.specs.Greatest.{greatest}
use Rattle.run_outcome.specs.Rising.{Rises}
use Rattle.lane_core.specs.Verdicts.{verdicts_from}
use Rattle.lane_core.specs.Versions.{versions_in}
use Rattle.run_outcome.specs.Whole.{in_force, run_under, verdicts_under, IsAllowedRun}
use Rattle.run_outcome.specs.Allowed.{MayHave}
use Rattle.run_outcome.specs.Totals.{totals_of}
use Rattle.capture_replay.specs.declared.output.Output.{Output}
use Rattle.capture_replay.specs.declared.refusal.ReplayError.TheVariants.{Heavy, Capture, TooMany}
use Rattle.capture_replay.specs.Records.{packets_of, packets_with, records_of, versions_of, frames_in}
use Rattle.capture_replay.specs.Passed.{verdicts_of}
use Rattle.run_outcome.specs.Forwarded.{left_by_all}
use Rattle.capture_replay.specs.Outcome.{Outcome, refused, is_forward, closing, followed, outcome_by, outcome_over}
use Rattle.capture_replay.specs.declared.refusal.ReplayError.{ReplayError}
use Rattle.capture_replay.specs.Forward.{forwarded}
use Rattle.capture_replay.specs.Laws.{ceilings_of}

-- ---- what is said of all lists

abbrev pub CeilingsAllowed : Type 0
CeilingsAllowed = (app : Meaning) (commands : List Command) (least most : ℕ → ℕ) (lane : EndpointPair → ℕ) (packets : List Arrival) → ((n : ℕ) → least n ≤ most n)
    → ((n m : ℕ) → n ≤ m → most n ≤ most m) → Rises (map (λ a. a.number) packets)
    → IsAllowedRun app commands least most lane packets (versions_in (records app (in_force app commands) (versioned most packets)))

abbrev pub CeilingsRise : Type 0
CeilingsRise = (script : List Stamped) (n m : ℕ) → n ≤ m → ceil script n ≤ ceil script m

abbrev pub NumbersRise : Type 0
NumbersRise = (frames : List Captured) → Rises (map (λ a. a.number) (arrivals 0 frames))

abbrev pub HasVersions : Type 0
HasVersions = (app : Meaning) (commands : List Command) (least most : ℕ → ℕ) (lane : EndpointPair → ℕ) (packets : List Arrival) (vs : List ℕ)
    → IsAllowedRun app commands least most lane packets vs → map (λ r. r.version) (run_under app commands vs packets) ≡ vs

abbrev pub OneRun : Type 0
OneRun = (app : Meaning) (commands : List Command) (least most : ℕ → ℕ) (lane : EndpointPair → ℕ) (packets : List Arrival) (vs : List ℕ)
    → ((n : ℕ) → least n ≡ most n) → IsAllowedRun app commands least most lane packets vs
    → run_under app commands vs packets ≡ map (ended_at app (in_force app commands) (greatest packets)) (records app (in_force app commands) (versioned most packets))

abbrev pub OneJudged : Type 0
OneJudged = (app : Meaning) (commands : List Command) (least most : ℕ → ℕ) (lane : EndpointPair → ℕ) (packets : List Arrival) (vs : List ℕ)
    → ((n : ℕ) → least n ≡ most n) → IsAllowedRun app commands least most lane packets vs
    → verdicts_under app commands vs packets ≡ verdicts_from app (in_force app commands) [] (versioned most packets)

-- ---- of the frames of a capture

module _ (app : Meaning) (script : List Stamped) (frames : List Captured) (allowed : CeilingsAllowed) (rises : CeilingsRise) (numbers : NumbersRise) (has : HasVersions) (one : OneRun) where
  abbrev packets : List Arrival
  packets = arrivals 0 frames

  abbrev low : List ℕ
  low = versions_in (records app (in_force app (commands_of script)) (versioned (ceil script) packets))

  -- where each packet's floor is its ceiling
  alone : IsAllowedRun app (commands_of script) (ceil script) (ceil script) (λ key. 0) packets low
  alone = allowed app (commands_of script) (ceil script) (ceil script) (λ key. 0) packets (λ n. le_refl (ceil script n)) (rises script) (numbers frames)

  low-records : run_under app (commands_of script) low packets ≡ records_of app script (packets_of script) frames
  low-records = one app (commands_of script) (ceil script) (ceil script) (λ key. 0) packets low (λ n. refl) alone

  low-is : low ≡ versions_of (records_of app script (packets_of script) frames)
  low-is = sym (has app (commands_of script) (ceil script) (ceil script) (λ key. 0) packets low alone) ∙ ap versions_of low-records

  pub ceilings_allowed : (lanes : ℕ) → ((n : ℕ) → floor script n ≤ ceil script n) → MayHave app script lanes frames (versions_of (records_of app script (packets_of script) frames))
  ceilings_allowed lanes within =
      subst (MayHave app script lanes frames) low-is
      (allowed app (commands_of script) (floor script) (ceil script) (λ key. lane_of_key key lanes) packets within (rises script) (numbers frames))

  abbrev pub ceilings : List ℕ
  ceilings = versions_of (records_of app script (packets_of script) frames)

  pub same_records : records_of app script (packets_with app script ceilings) frames ≡ records_of app script (packets_of script) frames
  same_records = ap (λ vs. run_under app (commands_of script) vs packets) (sym low-is) ∙ low-records

  pub same_verdicts : OneJudged → verdicts_of app script (packets_with app script ceilings) frames ≡ verdicts_of app script (packets_of script) frames
  same_verdicts judged =
      ap (λ vs. verdicts_under app (commands_of script) vs packets) (sym low-is)
      ∙ judged app (commands_of script) (ceil script) (ceil script) (λ key. 0) packets low (λ n. refl) alone

-- ---- the outcome goes by records and verdicts

module _ (app : Meaning) (output : Output) (header : List ℕ) (frames : List Captured) where
  abbrev streamed_by : List (Arrival × Verdict) → List ℕ
  streamed_by js = if is_forward output then header ++ left_by_all js frames else []

  abbrev followed_by : Ending → List RecordSoFar → List (Arrival × Verdict) → Outcome ReplayError
  followed_by (tail n) rs js = if not (is_forward output) && nat_lt 134217728 (weight rs) then refused Heavy else record {
    text = streamed_by js ++ closing output (map (record_of app) rs) (totals_of rs (length frames) n);
    ends = Ok (versions_of rs);
  }
  followed_by (too_long offset) rs js = record { text = streamed_by js; ends = Err (Capture Fault.TooLong offset) }
  followed_by (too_many offset) rs js = record { text = streamed_by js; ends = Err (TooMany offset) }

  followed-is : (script : List Stamped) (given : List Captured → List VersionedPacket) (ending : Ending)
      → followed app script given output header frames ending ≡ followed_by ending (records_of app script given frames) (verdicts_of app script given frames)
  followed-is script given (tail n) = refl
  followed-is script given (too_long offset) = refl
  followed-is script given (too_many offset) = refl

  followed-same : (script : List Stamped) (one two : List Captured → List VersionedPacket) (ending : Ending)
      → records_of app script one frames ≡ records_of app script two frames
      → verdicts_of app script one frames ≡ verdicts_of app script two frames → followed app script one output header frames ending ≡ followed app script two output header frames ending
  followed-same script one two ending rs js =
      followed-is script one ending ∙ ap (λ r. followed_by ending r (verdicts_of app script one frames)) rs
      ∙ ap (followed_by ending (records_of app script two frames)) js ∙ sym (followed-is script two ending)

outcome-by : (app : Meaning) (script : List Stamped) (one two : List Captured → List VersionedPacket) (output : Output) (header : List ℕ) (capture : Result Frames OpenError)
    → records_of app script one (frames_in capture) ≡ records_of app script two (frames_in capture)
    → verdicts_of app script one (frames_in capture) ≡ verdicts_of app script two (frames_in capture)
    → outcome_by app script one output header capture ≡ outcome_by app script two output header capture
outcome-by app script one two output header (Ok f) rs js = followed-same app output header f.frames script one two f.ending rs js
outcome-by app script one two output header (Err e) rs js = refl

-- a run under the ceilings is that of one worker
pub same_outcome : CeilingsAllowed → CeilingsRise → NumbersRise → HasVersions → OneRun → OneJudged → (app : Meaning) (script : List Stamped) (output : Output) (bytes : List ℕ)
    → outcome_over app script (packets_with app script (ceilings_of app script bytes)) output bytes ≡ outcome_over app script (packets_of script) output bytes
unfolding outcome_over
same_outcome allowed rises numbers has one judged app script output bytes =
    let frames = frames_in (capture_of bytes) in
    outcome-by app script (packets_with app script (ceilings_of app script bytes)) (packets_of script) output (take 24 bytes) (capture_of bytes)
    (same_records app script frames allowed rises numbers has one) (same_verdicts app script frames allowed rises numbers has one judged)

-- and the same packets are forwarded
pub same_forwarded : CeilingsAllowed → CeilingsRise → NumbersRise → HasVersions → OneRun → OneJudged → (app : Meaning) (script : List Stamped) (bytes : List ℕ)
    → forwarded app script (packets_with app script (ceilings_of app script bytes)) (frames_in (capture_of bytes)) ≡ forwarded app script (packets_of script) (frames_in (capture_of bytes))
same_forwarded allowed rises numbers has one judged app script bytes =
    let frames = frames_in (capture_of bytes) in
    ap (λ js. left_by_all js frames) (same_verdicts app script frames allowed rises numbers has one judged)

-- where each floor is its ceiling, no other list is allowed
pub known_versions : HasVersions → OneRun → (app : Meaning) (script : List Stamped) (workers : ℕ) (frames : List Captured) (vs : List ℕ) → ((n : ℕ) → floor script n ≡ ceil script n)
    → MayHave app script workers frames vs → vs ≡ versions_of (records_of app script (packets_of script) frames)
known_versions has one app script workers frames vs equal may =
    sym (has app (commands_of script) (floor script) (ceil script) (λ key. lane_of_key key workers) (arrivals 0 frames) vs may)
    ∙ ap versions_of (one app (commands_of script) (floor script) (ceil script) (λ key. lane_of_key key workers) (arrivals 0 frames) vs equal may)
