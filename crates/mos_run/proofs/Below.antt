-- A run whose output is gathered: from the sink that gathers to the one below it.
use Rattle.std.proofs.Common.{◌≡◌, ◌≢◌, ℕ, ◌≤◌, Bool, true, false, Option, None, Some, List, [], ◌∷◌, ◌++◌, length, map, take, Result, Ok, Err, refl, sym, subst, arith, inl, inr}
use Rattle.std.specs.Prelude.{◌⊎◌, if◌then◌else◌}
use Rattle.std.specs.Io.KnownBytes.{Appends, Keeps}
use Rattle.std.proofs.KnownBytes.{Appends-kept}
use Rattle.mos_bytes.specs.Causes.{Rose}
use Rattle.mos_bytes.specs.Gathers.{IsBetween}
use Rattle.mos_bytes.specs.Writes.{AppendsFront}
use Rattle.mos_bytes.proofs.Writes.{AppendsFront-between}
use Rattle.app_api.specs.App.{Meaning}
use Rattle.pcap_source.specs.Captured.{Captured}
use Rattle.pcap_source.specs.Capture.{Frames, Ending, tail, too_long, too_many, capture_of}
use Rattle.pcap_source.specs.declared.errors.OpenError.{OpenError}
use Rattle.pcapng_source.specs.declared.fault.NgFault.{NgFault}
use Rattle.control_script.specs.declared.stamped.Stamped.{Stamped}
use Rattle.lane_core.specs.Records.{VersionedPacket}
use Rattle.lane_core.specs.Shown.{record_of}
use Rattle.run_outcome.specs.Totals.{totals_of}
use Rattle.capture_replay.specs.declared.output.Output.{Output}
use Rattle.capture_replay.specs.declared.output.Output.TheVariants.{Report, Forward, Summary}
use Rattle.capture_replay.specs.declared.refusal.ReplayError.{ReplayError}
use Rattle.capture_replay.specs.declared.refusal.ReplayError.TheVariants as Replay
use Rattle.mos_run.specs.declared.refusal.RunError.{RunError}
use Rattle.mos_run.specs.declared.refusal.RunError.TheVariants as Run
use Rattle.capture_replay.specs.Records.{packets_with, records_of}
use Rattle.capture_replay.specs.Forward.{forwarded}
use Rattle.capture_replay.specs.Outcome.{is_heavy, refused, outcome_by, followed, weighed, ended}
use Rattle.std.specs.Result.{result_map_both}
use Rattle.mos_run.specs.Refusal.{replay_refusal}
use Rattle.mos_run.specs.Outcome.{StopsAs, followed_in_file, outcome, outcome_in_file}
use Rattle.mos_run.specs.Request.{Request, Refused, Asked, outcome_under}
use Rattle.mos_run.specs.Run.{FinishesUnder, UnderSome}
use Rattle.capture_replay.proofs.Closing.{some-closing}

-- ---- what ends well writes something

front-not-empty : (xs ys zs : List ℕ) → xs ≢ [] → (xs ++ ys) ++ zs ≢ []
front-not-empty [] ys zs some = absurd (some refl)
front-not-empty (x ∷ xs) ys zs some = λ none. cc

module _ (app : Meaning) (script : List Stamped) (given : List Captured → List VersionedPacket) where
  -- a forwarded capture has its header, and a report or a summary its last line
  some-ended : (output : Output) (header : List ℕ) (frames : List Captured) (n : ℕ) → header ≢ [] → (ended app script given output header frames n).text ≢ []
  some-ended Report header frames n some =
      some-closing Report (map (record_of app) (records_of app script given frames)) (totals_of (records_of app script given frames) (length frames) n) refl
  some-ended Forward header frames n some = front-not-empty header (forwarded app script given frames) [] some
  some-ended (Summary m) header frames n some =
      some-closing (Summary m) (map (record_of app) (records_of app script given frames)) (totals_of (records_of app script given frames) (length frames) n) refl

module _ (app : Meaning) (script : List Stamped) (given : List Captured → List VersionedPacket) (output : Output) (versions : List ℕ) where
  some_weighed : (header : List ℕ) (frames : List Captured) (n : ℕ) (heavy : Bool) → header ≢ [] → is_heavy app script given output frames ≡ heavy
      → (weighed app script given output header frames n).ends ≡ Ok versions → (weighed app script given output header frames n).text ≢ []
  some_weighed header frames n true some is ends = absurd (cc)
  some_weighed header frames n false some is ends =
      subst (λ b. (if b then refused Replay.Heavy else ended app script given output header frames n).text ≢ []) (sym is)
      (some-ended app script given output header frames n some)

  some_followed : (header : List ℕ) (frames : List Captured) (ending : Ending) → header ≢ []
      → (followed app script given output header frames ending).ends ≡ Ok versions → (followed app script given output header frames ending).text ≢ []
  some_followed header frames (tail n) some ends = some_weighed header frames n (is_heavy app script given output frames) some refl ends
  some_followed header frames (too_long offset) some ends = absurd (cc)
  some_followed header frames (too_many offset) some ends = absurd (cc)

  some_by : (header : List ℕ) (read : Result Frames OpenError) → header ≢ []
      → (outcome_by app script given output header read).ends ≡ Ok versions → (outcome_by app script given output header read).text ≢ []
  some_by header (Ok f) some ends = some_followed header f.frames f.ending some ends
  some_by header (Err e) some ends = absurd (cc)

  told-well : (ends : Result (List ℕ) ReplayError) → result_map_both (λ versions. versions) replay_refusal ends ≡ Ok versions → ends ≡ Ok versions
  told-well (Ok vs) is = cc
  told-well (Err e) is = absurd (cc)

  none-behind : (header : List ℕ) (frames : List Captured) (ending : Ending) (fault : NgFault) → (followed_in_file app script given output header frames ending fault).ends ≢ Ok versions
  none-behind header frames (tail n) fault ends = cc
  none-behind header frames (too_long offset) fault ends = cc
  none-behind header frames (too_many offset) fault ends = cc

  some_in_file : (header : List ℕ) (read : Result Frames OpenError) (behind : Option NgFault) → header ≢ []
      → (outcome_in_file app script given output header read behind).ends ≡ Ok versions → (outcome_in_file app script given output header read behind).text ≢ []
  some_in_file header read None some ends = some_by header read some (told-well (outcome_by app script given output header read).ends ends)
  some_in_file header (Ok f) (Some fault) some ends = absurd (none-behind header f.frames f.ending fault ends)
  some_in_file header (Err e) (Some fault) some ends = absurd (cc)

  no-bytes : (behind : Option NgFault) → (outcome app script given output (record { bytes = []; refusal = behind })).ends ≢ Ok versions
  unfolding outcome
  no-bytes None ends = cc
  no-bytes (Some fault) ends = cc

  some_text : (bytes : List ℕ) (behind : Option NgFault) → (outcome app script given output (record { bytes = bytes; refusal = behind })).ends ≡ Ok versions
      → (outcome app script given output (record { bytes = bytes; refusal = behind })).text ≢ []
  unfolding outcome
  some_text [] behind ends = absurd (no-bytes behind ends)
  some_text (b ∷ bytes) behind ends = some_in_file (take 24 (b ∷ bytes)) (capture_of (b ∷ bytes)) behind (λ none. cc) ends

-- what ends well isn't empty
pub writes_some : (t : Request) (vs versions : List ℕ) → (outcome_under vs t).ends ≡ Ok versions → (outcome_under vs t).text ≢ []
writes_some (Refused e) vs versions ends = absurd (cc)
writes_some (Asked w file) vs versions ends =
    some_text w.app w.commands (packets_with w.app w.commands vs) w.output versions file.bytes file.refusal ends

-- so it may end by a fault of writing
pub may_fail : (t : Request) (e : RunError) (versions : List ℕ) (old new : Option (List ℕ)) → FinishesUnder t versions old new
    → (e ≡ Run.WriteFault) ⊎ (e ≡ Run.NoMemory) → UnderSome t (λ o. StopsAs o e)
may_fail t e versions old new done (inl fault) = record {
  versions = versions;
  allowed = done.allowed;
  holds = inr (inr (inr (fault, writes_some t versions versions done.finishes.answered)));
}
may_fail t e versions old new done (inr memory) = record { versions = versions; allowed = done.allowed; holds = inr (inr (inl memory)) }

-- ---- what the sink below took

-- a front of the text
pub front_below : {S : Type 0} (taken : S → Option (List ℕ)) (out start : S) (first given handed now : Option (List ℕ)) (text : List ℕ) → start ≡ out → first ≡ taken out
    → AppendsFront first given text → Keeps given handed → IsBetween (taken start) now handed → AppendsFront (taken out) now text
front_below taken out start first given handed now text same none part kept between =
    let more : AppendsFront (taken out) handed text = record {
      front = part.front;
      rest = part.rest;
      added = Appends-kept (taken out) given handed part.front (subst (λ a. Appends a given part.front) none part.added) kept;
      whole = part.whole;
    } in
    AppendsFront-between (taken out) now handed text more (subst (λ s. IsBetween (taken s) now handed) same between)

-- all of it, once nothing is held
pub done_below : (t : Request) (versions : List ℕ) (start first given handed now : Option (List ℕ)) → first ≡ start → FinishesUnder t versions first given → Keeps given handed → now ≡ handed
    → FinishesUnder t versions start now
done_below t versions start first given handed now none done kept same = record {
  allowed = done.allowed;
  finishes = record {
    answered = done.finishes.answered;
    written = subst (λ x. Appends start x (outcome_under versions t).text) (sym same)
        (Appends-kept start given handed _ (subst (λ a. Appends a given (outcome_under versions t).text) none done.finishes.written) kept);
  };
  typed = done.typed;
}

-- ---- its faults

rose-later : (base first run handed : ℕ) → first ≡ base → run ≤ handed → Rose first run → Rose base handed
rose-later base first run handed none later (inl less) = inl (omega (arith, none, later, less))
rose-later base first run handed none later (inr full) = inr (omega (arith, later, full))

-- where the sink that gathers counts a fault, the sink below has counted one
pub rose_below : {S : Type 0} (faults : S → ℕ) (out start : S) (first run handed now : ℕ) → start ≡ out → first ≡ faults out → run ≤ handed
    → (Rose (faults start) handed → Rose (faults start) now) → Rose first run → Rose (faults out) now
rose_below faults out start first run handed now same none later cause rose =
    subst (λ s. Rose (faults s) now) same (cause (subst (λ s. Rose (faults s) handed) (sym same) (rose-later (faults out) first run handed none later rose)))
