-- What a run comes to, and what it does to its source and its sink.
use Rattle.std.specs.Prelude.{◌≡◌, ◌≢◌, ◌⊎◌, ℕ, ◌<◌, ◌≤◌, false, List, [], length, Option, None, Some, Result, Ok, Err, IsOk, IfErr, IsErrOf, IsTrue}
use Rattle.std.specs.Io.KnownBytes.{Appends}
use Rattle.mos_bytes.specs.declared.source.Source.{Ghosts as Source}
use Rattle.mos_bytes.specs.declared.sink.Sink.{Ghosts as Sink}
use Rattle.mos_bytes.specs.Writes.{AppendsFront}
use Rattle.capture_maker.specs.Made.{made}
use Rattle.app_api.specs.App.{Meaning}
use Rattle.pcap_source.specs.Captured.{Captured}
use Rattle.pcap_source.specs.Capture.{Frames, capture_of}
use Rattle.forest_versions.specs.Lawful.{are_lawful}
use Rattle.forest_versions.specs.State.{start}
use Rattle.control_script.specs.declared.stamped.Stamped.{Stamped}
use Rattle.control_script.specs.Order.{commands_of}
use Rattle.worker_pool.specs.Source.{EndsInTail}
use Rattle.words.specs.declared.settings.Settings.{Settings}
use Rattle.capture_replay.specs.declared.output.Output.{Output}
use Rattle.capture_replay.specs.declared.refusal.ReplayError.{ReplayError}
use Rattle.capture_replay.specs.declared.refusal.ReplayError.TheVariants.{Heavy, ReadFault, WriteFault, NoMemory}
use Rattle.capture_replay.specs.Records.{packets_of}
use Rattle.capture_replay.specs.Outcome.{Outcome, is_forward, outcome_over, output_of, weighed}
use Rattle.mos_bytes.specs.Outside.{Reads, Writes}

-- an application may run under a script
abbrev pub MayRun : Meaning → List Stamped → Type 0
MayRun app script = IsTrue (are_lawful (start app.presets) (commands_of script))

-- and so many workers may run it
pub record IsJob (app : Meaning) (script : List Stamped) (workers : ℕ) : Type 0 where
  pub some : 1 ≤ workers
  pub most : workers ≤ 16
  pub lawful : MayRun app script

-- the run ends well, under these versions, and all of its text was written, and nothing else
pub record Finishes {E : Type 0} (o : Outcome E) (versions : List ℕ) (old new : Option (List ℕ)) : Type 0 where
  pub answered : o.ends ≡ Ok versions
  pub written : Appends old new o.text

-- why a run with this outcome stopped: its refusal, or a fault or want of memory before; a fault of writing only where
-- something is written
abbrev pub StopsAs : Outcome ReplayError → ReplayError → Type 0
StopsAs o e = (o.ends ≡ Err e) ⊎ (e ≡ ReadFault) ⊎ (e ≡ NoMemory) ⊎ ((e ≡ WriteFault) × (o.text ≢ []))

-- a run that answers versions, or why it stopped, with a front of its text
abbrev pub RunsAs : Outcome ReplayError → Option (List ℕ) → Option (List ℕ) → Result (List ℕ) ReplayError → Type 0
RunsAs o old new (Ok versions) = Finishes o versions old new
RunsAs o old new (Err e) = StopsAs o e × AppendsFront old new o.text

module _ (app : Meaning) (script : List Stamped) (output : Output) where
  -- what one worker comes to over these bytes
  abbrev pub RunsAlone : List ℕ → Option (List ℕ) → Option (List ℕ) → Result (List ℕ) ReplayError → Type 0
  RunsAlone bytes = RunsAs (outcome_over app script (packets_of script) output bytes)

  -- and at the end of a capture of these frames
  abbrev pub EndsAlone : List ℕ → List Captured → ℕ → Option (List ℕ) → Option (List ℕ) → Result (List ℕ) ReplayError → Type 0
  EndsAlone header frames tail = RunsAs (weighed app script (packets_of script) output header frames tail)

-- these bytes have no refusal of their own: they are a part of a global header, or whole records and a tail
abbrev pub AreUnrefused : List ℕ → Type 0
AreUnrefused bytes = (length bytes < 24) ⊎ ((f : Frames) × (capture_of bytes ≡ Ok f) × EndsInTail f)

-- nothing was written, and no fault of writing is told
abbrev pub IsIdle : {O : Type 0} → O → O → Result (List ℕ) ReplayError → Type 0
IsIdle o p result = (p ≡ o) × (IsErrOf result WriteFault → ⊥)

-- How far a run read its source, in which these bytes were left before. `idle` says that nothing was written, and no fault of writing
-- is told.
pub record ReadsFile {S : Type 0} (source : Source S) (output : Output) (were : List ℕ → Type 0) (t : S) (idle : Type 0) (result : Result (List ℕ) ReplayError) : Type 0 where
  -- that it ends well, and that the callbacks weigh too much, is told only where the source has ended
  pub ended : IsOk result ⊎ IsErrOf result Heavy → source.ended t
  -- a report and a summary are begun only there
  pub begun : is_forward output ≡ false → idle ⊎ source.ended t
  -- where a fault of the source is told and nothing is left, the bytes that were there have no refusal of their own
  pub cut : IsErrOf result ReadFault → (bytes : List ℕ) → were bytes → source.left t ≡ Some [] → AreUnrefused bytes

-- the bytes of a capture: those of the one that is made, else what the source tells
abbrev pub bytes_under : Option ℕ → Option (List ℕ) → Option (List ℕ)
bytes_under None left = left
bytes_under (Some n) left = Some (made n)

module _ {S O : Type 0} (source : Source S) (sink : Sink O) where
  -- A run over what is left in a source, where that is told. `comes` says what it comes to over these bytes, where this was taken before
  -- and that after it.
  pub record Runs (output : Output) (comes : List ℕ → Option (List ℕ) → Option (List ℕ) → Result (List ℕ) ReplayError → Type 0)
      (s t : S) (o p : O) (result : Result (List ℕ) ReplayError) : Type 0 where
    pub comes_to : (bytes : List ℕ) → source.left s ≡ Some bytes → comes bytes (sink.taken o) (sink.taken p) result
    pub read : IsOk result → (bytes : List ℕ) → source.left s ≡ Some bytes → source.left t ≡ Some []
    pub silent : is_forward output ≡ false → IfErr result (λ e. e ≢ WriteFault → e ≢ NoMemory → p ≡ o)
    pub reads : ReadsFile source output (λ bytes. source.left s ≡ Some bytes) t (IsIdle o p result) result
    pub from : Reads source s t (IsErrOf result ReadFault)
    pub to : Writes sink o p (IsErrOf result WriteFault)

  -- the same where the capture may be made: then the source isn't touched
  pub record RunsFor (make : Option ℕ) (output : Output) (comes : List ℕ → Option (List ℕ) → Option (List ℕ) → Result (List ℕ) ReplayError → Type 0)
      (s t : S) (o p : O) (result : Result (List ℕ) ReplayError) : Type 0 where
    pub comes_to : (bytes : List ℕ) → bytes_under make (source.left s) ≡ Some bytes → comes bytes (sink.taken o) (sink.taken p) result
    pub read : IsOk result → make ≡ None → (bytes : List ℕ) → source.left s ≡ Some bytes → source.left t ≡ Some []
    pub made : make ≢ None → t ≡ s
    pub silent : is_forward output ≡ false → IfErr result (λ e. e ≢ WriteFault → e ≢ NoMemory → p ≡ o)
    pub reads : make ≡ None → ReadsFile source output (λ bytes. source.left s ≡ Some bytes) t (IsIdle o p result) result
    pub from : Reads source s t (IsErrOf result ReadFault)
    pub to : Writes sink o p (IsErrOf result WriteFault)

  -- and under settings
  abbrev pub RunsUnderSettings : Settings → (List ℕ → Option (List ℕ) → Option (List ℕ) → Result (List ℕ) ReplayError → Type 0)
      → S → S → O → O → Result (List ℕ) ReplayError → Type 0
  RunsUnderSettings settings = RunsFor settings.make (output_of settings)
