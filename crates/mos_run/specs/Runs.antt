-- Only for proofs. What a replay comes to under versions that it may have, a run over a file, and one under words: what the calls below the top one
-- promise.
use Rattle.std.specs.Prelude.{◌≡◌, ◌≢◌, ◌⊎◌, ℕ, ◌<◌, ◌≤◌, false, List, [], Option, None, Some, Result, Ok, Err, IsOk, IsErr, IfErr, IsErrOf}
use Rattle.mos_bytes.specs.Causes.{Rose}
use Rattle.mos_bytes.specs.Outside.{Reads, Writes}
use Rattle.mos_bytes.specs.Writes.{AppendsFront}
use Rattle.mos_bytes.specs.declared.source.Source.{Ghosts as Source}
use Rattle.mos_bytes.specs.declared.shelf.Shelf.{Ghosts as Shelf}
use Rattle.mos_bytes.specs.declared.sink.Sink.{Ghosts as Sink}
use Rattle.pcapng_source.specs.Given.{Given}
use Rattle.words.specs.declared.settings.Settings.{Settings}
use Rattle.capture_replay.specs.declared.plan.Task.{Task}
use Rattle.mos_run.specs.declared.refusal.RunError.{RunError}
use Rattle.mos_run.specs.declared.refusal.RunError.TheVariants.{Usage, ReadFault, WriteFault, NoMemory}
use Rattle.capture_replay.specs.declared.refusal.ReplayError.{ReplayError}
use Rattle.app_api.specs.App.{Meaning}
use Rattle.capture_replay.specs.declared.output.Output.TheVariants.{Report}
use Rattle.capture_replay.specs.Records.{packets_with}
use Rattle.capture_replay.specs.Outcome.{Outcome, is_forward, made_for, outcome_over}
use Rattle.capture_replay.specs.Runs.{Finishes, StopsAs}
use Rattle.capture_replay.specs.Typed.{ReportIsTyped}
use Rattle.mos_run.specs.Refusal.{status_of}
use Rattle.mos_run.specs.Request.{AreAllowed, Asked, Refused, Wanted, given_under, requested}
use Rattle.mos_run.specs.Run.{RunsUnder, ReadsCapture, NamesNone, forwards}

-- what a task asks, for the meaning of its application
abbrev pub wanted_by : {A : Type 0} → (A → Meaning) → Task A → Wanted
wanted_by meaning task = record { app = meaning task.app; commands = task.script.now; workers = task.workers; output = task.output }

module _ (w : Wanted) (bytes : List ℕ) where
  -- the outcome of a replay whose records have these versions
  abbrev pub outcome_with : List ℕ → Outcome ReplayError
  outcome_with vs = outcome_over w.app w.commands (packets_with w.app w.commands vs) w.output bytes

  -- it ends well under these versions, which it may have
  pub record ReplayFinishes (versions : List ℕ) (old new : Option (List ℕ)) : Type 0 where
    pub allowed : AreAllowed w bytes versions
    pub finishes : Finishes (outcome_with versions) versions old new
    pub typed : w.output ≡ Report → ReportIsTyped w.app w.commands (packets_with w.app w.commands versions) bytes

  -- it stops so under versions that it may have, with a front of its text
  pub record ReplayStops (e : ReplayError) (old new : Option (List ℕ)) : Type 0 where
    pub versions : List ℕ
    pub allowed : AreAllowed w bytes versions
    pub stops : StopsAs (outcome_with versions) e
    pub front : AppendsFront old new (outcome_with versions).text

  -- it answers versions, or why it stopped
  abbrev pub Replays : Option (List ℕ) → Option (List ℕ) → Result (List ℕ) ReplayError → Type 0
  Replays old new (Ok versions) = ReplayFinishes versions old new
  Replays old new (Err e) = ReplayStops e old new

module _ {S O : Type 0} (source : Source S) (sink : Sink O) where
  -- A run over a file of either form. The capture may be made: then the source isn't touched.
  pub record RunsOverFile (w : Wanted) (s t : S) (o p : O) (result : Result (List ℕ) RunError) : Type 0 where
    pub comes_to : (file : Given) → given_under (made_for w.output) (source.left s) ≡ Some file
        → RunsUnder (Asked w file) (sink.taken o) (sink.taken p) result
    pub read : IsOk result → made_for w.output ≡ None → (bytes : List ℕ) → source.left s ≡ Some bytes → source.left t ≡ Some []
    pub made : made_for w.output ≢ None → t ≡ s
    pub silent : is_forward w.output ≡ false → IfErr result (λ e. e ≢ WriteFault → e ≢ NoMemory → p ≡ o)
    pub late : IfErr result (λ e. 2 < status_of e)
    pub from : Reads source s t (IsErrOf result ReadFault)
    pub to : Writes sink o p (IsErrOf result WriteFault)

-- a run of an application under settings, or of refused words, up to the versions that it answers or to why it stopped
module _ {S H O : Type 0} (source : Source S) (shelf : Shelf H) (sink : Sink O) where
  pub record RunsUnderSettings (app : Meaning) (settings : Option Settings) (s t : S) (h i : H) (o p : O) (result : Result (List ℕ) RunError) : Type 0 where
    pub read : IsOk result → ReadsCapture settings (source.left s) (source.left t)
    pub usage : settings ≡ None → IfErr result (λ e. (e ≡ Usage) ⊎ (e ≡ NoMemory)) × IsErr result × (t ≡ s) × (i ≡ h) × (p ≡ o)
    pub only_usage : IsErrOf result Usage → settings ≡ None
    pub unread : IfErr result (λ e. status_of e < 3 → t ≡ s)
    pub refused : (e : RunError) → requested app settings (shelf.content h) (source.left s) ≡ Some (Refused e) → (t ≡ s) × (p ≡ o)
    pub made : (x : Settings) → settings ≡ Some x → x.make ≢ None → t ≡ s
    pub unasked : NamesNone settings → (i ≡ h) × IfErr result (λ e. status_of e ≢ 2)
    pub silent : forwards settings ≡ false → IfErr result (λ e. e ≢ WriteFault → e ≢ NoMemory → p ≡ o)
    pub shelf_faultless : IsOk result → shelf.faults i ≡ shelf.faults h
    pub read_fault : IsErrOf result ReadFault → Rose (source.faults s) (source.faults t) ⊎ Rose (shelf.faults h) (shelf.faults i)
    pub capture_counts : source.faults s ≤ source.faults t
    pub shelf_counts : shelf.faults h ≤ shelf.faults i
    pub capture_lasts : source.lasting t ≡ source.lasting s
    pub shelf_lasts : shelf.lasting i ≡ shelf.lasting h
    pub to : Writes sink o p (IsErrOf result WriteFault)
