-- What the top call promises.
use Rattle.std.specs.Prelude.{◌≡◌, ◌≢◌, ◌⊎◌, ◌≤◌, ℕ, Bool, false, not, List, [], Option, Some, None, Result, Ok, Err, IsOk, IsTrue, ⊤}
use Rattle.std.specs.List.{list_all}
use Rattle.std.specs.Option.{option_map_or}
use Rattle.mos_bytes.specs.Causes.{Rose, HasCauseOf}
use Rattle.mos_bytes.specs.declared.source.Source.{Ghosts as Source}
use Rattle.mos_bytes.specs.declared.shelf.Shelf.{Ghosts as Shelf}
use Rattle.mos_bytes.specs.declared.sink.Sink.{Ghosts as Sink}
use Rattle.mos_bytes.specs.Writes.{AppendsFront}
use Rattle.pcapng_source.specs.Given.{Given}
use Rattle.control_script.specs.Versions.{is_live}
use Rattle.words.specs.Words.{words_settings}
use Rattle.words.specs.declared.settings.Settings.{Settings}
use Rattle.mos_run.specs.declared.ended.Ended.{Ended}
use Rattle.mos_run.specs.declared.refusal.RunError.{RunError}
use Rattle.mos_run.specs.declared.refusal.RunError.TheVariants.{NoMemory, Usage}
use Rattle.capture_replay.specs.declared.output.Output.TheVariants.{Report}
use Rattle.capture_replay.specs.Records.{packets_of, packets_with}
use Rattle.capture_replay.specs.Outcome.{Outcome, is_forward, output_of}
use Rattle.mos_run.specs.Refusal.{WritesText, status_of, refusal_text}
use Rattle.capture_replay.specs.Runs.{Finishes}
use Rattle.capture_replay.specs.Typed.{ReportIsTyped}
use Rattle.mos_run.specs.Outcome.{StopsAs, outcome}
use Rattle.app_api.specs.App.{Meaning}
use Rattle.mos_run.specs.Request.{Request, Refused, Asked, Wanted, Allows, app_in, outcome_under, requested}

-- the status of a run with this outcome
abbrev pub EndsAs : Outcome RunError → ℕ → Type 0
EndsAs o status = (IsOk o.ends × (status ≡ 0)) ⊎ ((e : RunError) × StopsAs o e × (status ≡ status_of e))

-- something holds of the outcome of a run under versions that it may have
pub record UnderSome (request : Request) (P : Outcome RunError → Type 0) : Type 0 where
  pub versions : List ℕ
  pub allowed : Allows request versions
  pub holds : P (outcome_under versions request)

-- where a run is asked for a report, the numbers and bytes of its records and totals under these versions have their types
abbrev pub HasTypes : Request → List ℕ → Type 0
HasTypes (Refused e) versions = ⊤
HasTypes (Asked w file) versions = w.output ≡ Report → ReportIsTyped w.app w.commands (packets_with w.app w.commands versions) file.bytes

-- the run ends well under these versions, which it may have
pub record FinishesUnder (request : Request) (versions : List ℕ) (old new : Option (List ℕ)) : Type 0 where
  pub allowed : Allows request versions
  pub finishes : Finishes (outcome_under versions request) versions old new
  pub typed : HasTypes request versions

-- a run ends well under all versions that it may have
abbrev pub EndsWell : Request → Type 0
EndsWell request = (versions : List ℕ) → Allows request versions → IsOk (outcome_under versions request).ends

-- a run that answers versions, or why it stopped, with a front of its text
abbrev pub RunsUnder : Request → Option (List ℕ) → Option (List ℕ) → Result (List ℕ) RunError → Type 0
RunsUnder request old new (Ok versions) = FinishesUnder request versions old new
RunsUnder request old new (Err e) = UnderSome request (λ o. StopsAs o e × AppendsFront old new o.text)

-- the refusal of this status was told on err: one that stops a run as it was told, where that is known
pub record Tells (request : Option Request) (status : ℕ) (old new : Option (List ℕ)) (before now : ℕ) : Type 0 where
  pub refusal : RunError
  pub status_is : status ≡ status_of refusal
  pub of_run : (t : Request) → request ≡ Some t → UnderSome t (λ o. StopsAs o refusal)
  pub text : WritesText old new before now (refusal_text refusal)

-- a refusal was told on err with its status, or want of memory for its line in its place
pub record TellsOf (error : RunError) (status : ℕ) (old new : Option (List ℕ)) (before now : ℕ) : Type 0 where
  pub refusal : RunError
  pub which : (refusal ≡ error) ⊎ (refusal ≡ NoMemory)
  pub status_is : status ≡ status_of refusal
  pub text : WritesText old new before now (refusal_text refusal)

-- the statuses of refusals before the output of a report or a summary begins
abbrev pub ComesBefore : ℕ → Type 0
ComesBefore status = (status ≡ 1) ⊎ (status ≡ 2) ⊎ (status ≡ 3) ⊎ (status ≡ 4) ⊎ (status ≡ 7)

-- whether settings ask for a forwarded capture
abbrev pub forwards : Option Settings → Bool
forwards settings = option_map_or (λ s. is_forward (output_of s)) settings false

-- they name no script
abbrev pub NamesNone : Option Settings → Type 0
NamesNone settings = (s : Settings) → settings ≡ Some s → s.script ≡ None

-- the capture was read whole, where none is made
abbrev pub ReadsCapture : Option Settings → Option (List ℕ) → Option (List ℕ) → Type 0
ReadsCapture settings old new = (s : Settings) → settings ≡ Some s → s.make ≡ None → (bytes : List ℕ) → old ≡ Some bytes → new ≡ Some []

-- what a run works on: the capture, the shelf of scripts, the output, and where a refusal is told
pub record Outside (S H O E : Type 0) : Type 0 where
  pub capture : S
  pub shelf : H
  pub out : O
  pub err : E

abbrev pub outside : {S H O E : Type 0} → S → H → O → E → Outside S H O E
outside capture shelf out err = record { capture = capture; shelf = shelf; out = out; err = err }

-- How a run of an application under settings, or of refused words, ended, and what it did to the outside.
module _ {S H O E : Type 0} (source : Source S) (shelf : Shelf H) (sink : Sink O) (err : Sink E) where
  -- what is asked of it, where all is told
  abbrev pub IsAsked : Meaning → Option Settings → Outside S H O E → Request → Type 0
  IsAsked app settings old x = requested app settings (shelf.content old.shelf) (source.left old.capture) ≡ Some x

  pub record RanUnder (app : Meaning) (settings : Option Settings) (old new : Outside S H O E) (ended : Ended) : Type 0 where
    -- where all was written, the capture was read whole
    pub read : ended.status ≡ 0 → ReadsCapture settings (source.left old.capture) (source.left new.capture)
    -- every other status has its cause; only want of memory has none
    pub ends : (x : Request) → IsAsked app settings old x → UnderSome x (λ outcome. EndsAs outcome ended.status)
    pub usage : settings ≡ None → ((ended.status ≡ 1) ⊎ (ended.status ≡ 6)) × (new.capture ≡ old.capture) × (new.shelf ≡ old.shelf) × (new.out ≡ old.out)
    pub only_usage : ended.status ≡ 1 → settings ≡ None
    pub read_fault : ended.status ≡ 4 → Rose (source.faults old.capture) (source.faults new.capture) ⊎ Rose (shelf.faults old.shelf) (shelf.faults new.shelf)
    pub write_fault : HasCauseOf (sink.faults old.out) (sink.faults new.out) (ended.status ≡ 5)
    -- where all was written, the shelf failed in no call
    pub shelf_faultless : ended.status ≡ 0 → shelf.faults new.shelf ≡ shelf.faults old.shelf
    pub capture_counts : source.faults old.capture ≤ source.faults new.capture
    pub shelf_counts : shelf.faults old.shelf ≤ shelf.faults new.shelf
    -- what isn't touched
    pub unread : (ended.status ≡ 1) ⊎ (ended.status ≡ 2) → new.capture ≡ old.capture
    -- refused words and a refused script, whatever the status that tells it
    pub refused : (e : RunError) → IsAsked app settings old (Refused e) → (new.capture ≡ old.capture) × (new.out ≡ old.out)
    pub made : (s : Settings) → settings ≡ Some s → s.make ≢ None → new.capture ≡ old.capture
    pub unasked : NamesNone settings → (new.shelf ≡ old.shelf) × (ended.status ≢ 2)
    -- what is written where the output isn't whole
    pub silent : forwards settings ≡ false → ComesBefore ended.status → new.out ≡ old.out
    pub front : (x : Request) → IsAsked app settings old x
        → UnderSome x (λ outcome. AppendsFront (sink.taken old.out) (sink.taken new.out) outcome.text)
    pub no_versions : ended.status ≢ 0 → ended.versions ≡ []
    -- what is told on err
    pub told_nothing : ended.status ≡ 0 → new.err ≡ old.err
    pub told : ended.status ≢ 0 → Tells (requested app settings (shelf.content old.shelf) (source.left old.capture)) ended.status
        (err.taken old.err) (err.taken new.err) (err.faults old.err) (err.faults new.err)
    -- what ends well under all versions that it may have is written whole, or memory is refused, unless the outside fails
    pub complete : (x : Request) → IsAsked app settings old x → EndsWell x
        → ¬ Rose (source.faults old.capture) (source.faults new.capture) → ¬ Rose (shelf.faults old.shelf) (shelf.faults new.shelf) → ¬ Rose (sink.faults old.out) (sink.faults new.out)
        → (ended.status ≡ 0) ⊎ (ended.status ≡ 6)
    -- what no call of the outside changes stays
    pub capture_lasts : source.lasting new.capture ≡ source.lasting old.capture
    pub shelf_lasts : shelf.lasting new.shelf ≡ shelf.lasting old.shelf
    pub out_lasts : sink.lasting new.out ≡ sink.lasting old.out
    pub err_lasts : err.lasting new.err ≡ err.lasting old.err

  -- all that a run promises
  pub record Promised (app : Meaning) (settings : Option Settings) (old new : Outside S H O E) (ended : Ended) : Type 0 where
    -- with status 0 exactly the text of the run's outcome was added to the output, under the versions answered, which it may have
    pub done : ended.status ≡ 0 → (x : Request) → IsAsked app settings old x → FinishesUnder x ended.versions (sink.taken old.out) (sink.taken new.out)
    -- without live commands that is the outcome of one worker, however many there are: each record has the ceiling of its first packet
    pub alone : ended.status ≡ 0 → (w : Wanted) (file : Given) → IsAsked app settings old (Asked w file) → IsTrue (list_all (λ s. not (is_live s.stamp)) w.commands)
        → Finishes (outcome w.app w.commands (packets_of w.commands) w.output file) ended.versions (sink.taken old.out) (sink.taken new.out)
    pub rest : RanUnder app settings old new ended

  -- what a run of mos under these words promises: they choose the application, too
  abbrev pub MosRun : List (List ℕ) → Outside S H O E → Outside S H O E → Ended → Type 0
  MosRun words = Promised (app_in (words_settings words)) (words_settings words)

  -- Words that can't be read are refused, or memory is, and nothing but err is touched.
  pub record RefusesWords (old new : Outside S H O E) (status : ℕ) : Type 0 where
    pub which : (status ≡ 1) ⊎ (status ≡ 6)
    pub untouched : (new.capture ≡ old.capture) × (new.shelf ≡ old.shelf) × (new.out ≡ old.out)
    pub told : (e : RunError) × ((e ≡ Usage) ⊎ (e ≡ NoMemory))
        × TellsOf e status (err.taken old.err) (err.taken new.err) (err.faults old.err) (err.faults new.err)
