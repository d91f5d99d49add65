-- The report of a run that ended well, read back.
use Rattle.std.proofs.Common.{◌≡◌, ℕ, Bool, true, false, Some, None, Option, List, take, Result, Ok, Err, refl, ap, subst}
use Rattle.std.specs.Prelude.{if◌then◌else◌}
use Rattle.std.specs.Io.KnownBytes.{Appends}
use Rattle.app_api.specs.App.{Meaning}
use Rattle.pcap_source.specs.Captured.{Captured}
use Rattle.pcap_source.specs.Capture.{Frames, Ending, tail, too_long, too_many, capture_of}
use Rattle.pcap_source.specs.declared.errors.OpenError.{OpenError}
use Rattle.pcapng_source.specs.Given.{Given}
use Rattle.pcapng_source.specs.declared.fault.NgFault.{NgFault}
use Rattle.control_script.specs.declared.stamped.Stamped.{Stamped}
use Rattle.lane_core.specs.Records.{VersionedPacket}
use Rattle.capture_replay.specs.declared.output.Output.{Output}
use Rattle.capture_replay.specs.declared.output.Output.TheVariants.{Report}
use Rattle.capture_replay.specs.declared.refusal.ReplayError.TheVariants as Replay
use Rattle.capture_replay.specs.Records.{packets_with, records_of, versions_of}
use Rattle.capture_replay.specs.Outcome.{ended, followed, is_heavy, outcome_by, outcome_over, refused}
use Rattle.capture_replay.specs.ReadBack.{ReportIsReadBack}
use Rattle.capture_replay.specs.Runs.{Finishes}
use Rattle.std.specs.Result.{result_map_both}
use Rattle.mos_run.specs.Refusal.{replay_refusal}
use Rattle.mos_run.specs.Outcome.{followed_in_file, outcome, outcome_in_file}
use Rattle.mos_run.specs.ReadBack.{ReportOfRunIsReadBack}
use Rattle.mos_run.specs.Request.{Wanted}

-- ---- a run over a file that ended well came to the end of a capture

module _ (app : Meaning) (script : List Stamped) (given : List Captured → List VersionedPacket) (output : Output) (header versions : List ℕ) where
  weighed-ends : (frames : List Captured) (n : ℕ) (heavy : Bool) → result_map_both (λ versions. versions) replay_refusal (if heavy then refused Replay.Heavy else ended app script given output header frames n).ends ≡ Ok versions
      → (if heavy then refused Replay.Heavy else ended app script given output header frames n).ends ≡ Ok versions
  weighed-ends frames n true ends = absurd (cc)
  weighed-ends frames n false ends = let same : versions_of (records_of app script given frames) ≡ versions = cc in ap (λ vs. Ok vs) same

  abbrev EndsInTail : List Captured → Ending → Type 0
  EndsInTail frames ending = (n : ℕ) × (ending ≡ tail n) × ((followed app script given output header frames ending).ends ≡ Ok versions)

  told-ending : (frames : List Captured) (ending : Ending) → result_map_both (λ versions. versions) replay_refusal (followed app script given output header frames ending).ends ≡ Ok versions → EndsInTail frames ending
  told-ending frames (tail n) ends = (n, refl, weighed-ends frames n (is_heavy app script given output frames) ends)
  told-ending frames (too_long offset) ends = absurd (cc)
  told-ending frames (too_many offset) ends = absurd (cc)

  refused-ending : (frames : List Captured) (ending : Ending) (fault : NgFault) → (followed_in_file app script given output header frames ending fault).ends ≡ Ok versions → ⊥
  refused-ending frames (tail n) fault ends = cc
  refused-ending frames (too_long offset) fault ends = cc
  refused-ending frames (too_many offset) fault ends = cc

  -- and it is no run over a file that is refused
  abbrev IsToEnd : Result Frames OpenError → Option NgFault → Type 0
  IsToEnd capture refusal = (f : Frames) × (n : ℕ) × (capture ≡ Ok f) × (f.ending ≡ tail n) × ((outcome_by app script given output header capture).ends ≡ Ok versions)
      × ((outcome_in_file app script given output header capture refusal).text ≡ (outcome_by app script given output header capture).text)

  to-end : (capture : Result Frames OpenError) (refusal : Option NgFault) → (outcome_in_file app script given output header capture refusal).ends ≡ Ok versions → IsToEnd capture refusal
  to-end (Ok f) None ends = let at = told-ending f.frames f.ending ends in (f, at.0, refl, at.1, at.2, refl)
  to-end (Err e) None ends = absurd (cc)
  to-end (Ok f) (Some fault) ends = absurd (refused-ending f.frames f.ending fault ends)
  to-end (Err e) (Some fault) ends = absurd (cc)

-- it came to what the replay came to over the bytes that the file gives
module _ (w : Wanted) (file : Given) (versions : List ℕ) where
  abbrev given : List Captured → List VersionedPacket
  given = packets_with w.app w.commands versions

  over-bytes : (old new : Option (List ℕ)) → Finishes (outcome w.app w.commands given w.output file) versions old new
      → (f : Frames) × (n : ℕ) × (capture_of file.bytes ≡ Ok f) × (f.ending ≡ tail n) × Finishes (outcome_over w.app w.commands given w.output file.bytes) versions old new
  unfolding outcome outcome_over
  over-bytes old new done =
      let at = to-end w.app w.commands given w.output (take 24 file.bytes) versions (capture_of file.bytes) file.refusal done.answered in
      (at.0, at.1, at.2, at.3, record { answered = at.4; written = subst (Appends old new) at.5 done.written })

pub report_of_run : ReportIsReadBack → ReportOfRunIsReadBack
report_of_run law w file versions before after lawful may report done read back =
    let at = over-bytes w file versions (Some before) (Some after) done.finishes in
    let finishes = subst (λ o. Finishes (outcome_over w.app w.commands (packets_with w.app w.commands versions) o file.bytes) versions (Some before) (Some after)) report at.4 in
    record {
      capture = at.0;
      rest = at.1;
      of_file = at.2;
      to_end = at.3;
      read_as = law w.app w.commands versions file.bytes at.0 at.1 lawful may at.2 at.3 (done.typed report) versions before after finishes read back;
    }
