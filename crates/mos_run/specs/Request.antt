-- What the words, the shelf and the capture come to.
use Rattle.std.specs.Prelude.{◌≡◌, ℕ, List, [], Option, Some, None, option_map, option_and_then, Result, Ok, Err, ⊤}
use Rattle.std.specs.Option.{option_map_or}
use Rattle.capture_maker.specs.Made.{made}
use Rattle.app_api.specs.App.{Meaning}
use Rattle.app_api.specs.Log.{log}
use Rattle.pcap_source.specs.Capture.{capture_of}
use Rattle.pcapng_source.specs.Given.{Given, whole}
use Rattle.pcapng_source.specs.Blocks.{any}
use Rattle.control_script.specs.declared.stamped.Stamped.{Stamped}
use Rattle.words.specs.declared.settings.Settings.{Settings}
use Rattle.words.specs.Words.{words_settings}
use Rattle.words.specs.Own.{own_settings}
use Rattle.run_outcome.specs.Allowed.{MayHave}
use Rattle.mos_run.specs.declared.refusal.RunError.{RunError}
use Rattle.mos_run.specs.declared.refusal.RunError.TheVariants.{Usage}
use Rattle.applications.specs.Apps.{meaning_of}
use Rattle.capture_replay.specs.Records.{frames_in, packets_of, packets_with, records_of, versions_of}
use Rattle.capture_replay.specs.declared.output.Output.{Output}
use Rattle.capture_replay.specs.Outcome.{Outcome, output_of, refused}
use Rattle.mos_run.specs.Outcome.{outcome}
use Rattle.mos_run.specs.Script.{commands_in}

-- what a run is asked to do: which application it calls, under which commands, with how many workers, and what it writes
pub record Wanted : Type 0 where
  pub app : Meaning
  pub commands : List Stamped
  pub workers : ℕ
  pub output : Output

-- what a run is told: it is refused before a packet is read, or this is asked of what this file gives
pub data Request : Type 0 where
  Refused : RunError → Request
  Asked : Wanted → Given → Request

-- What the capture gives: the one that is made; else what the file gives whose bytes the source tells. A pcapng file gives a
-- classic capture, up to the first block that is refused.
abbrev pub given_under : Option ℕ → Option (List ℕ) → Option Given
given_under None left = option_map any left
given_under (Some n) left = Some (whole (made n))

module _ (app : Meaning) where
  abbrev pub wanted : Settings → List Stamped → Wanted
  wanted s commands = record { app = app; commands = commands; workers = s.workers; output = output_of s }

  abbrev pub asked : Settings → Option (List ℕ) → Result (List Stamped) RunError → Option Request
  asked s left (Err e) = Some (Refused e)
  asked s left (Ok commands) = option_map (Asked (wanted s commands)) (given_under s.make left)

  -- What a run under these settings, or refused words, is told, where the shelf has this content and the capture these bytes. There is
  -- none where something that it needs isn't told. Where no script is named, its text is the empty one.
  unfoldable pub requested : Option Settings → (List ℕ → Option (List ℕ)) → Option (List ℕ) → Option Request
  requested None content left = Some (Refused Usage)
  requested (Some s) content left = option_and_then (λ text. asked s left (commands_in app text)) (option_map_or content s.script (Some []))

-- the application that settings choose
abbrev pub app_in : Option Settings → Meaning
app_in settings = option_map_or (λ s. meaning_of s.app) settings log

-- what the words of the program tell
abbrev pub request_of : List (List ℕ) → (List ℕ → Option (List ℕ)) → Option (List ℕ) → Option Request
request_of words content left = requested (app_in (words_settings words)) (words_settings words) content left

-- and those of a program whose application is its own
abbrev pub request_for : Meaning → List (List ℕ) → (List ℕ → Option (List ℕ)) → Option (List ℕ) → Option Request
request_for app words content left = requested app (own_settings words) content left

-- ---- the versions that a run may have, and its outcome under them

-- The versions of records that a run of so many workers may have: each at least the floor of the record's first packet and at most
-- its ceiling, and never falling along the records of one worker's lane. With one worker each is the ceiling.
pub record AreAllowed (w : Wanted) (bytes : List ℕ) (vs : List ℕ) : Type 0 where
  pub may_have : MayHave w.app w.commands w.workers (frames_in (capture_of bytes)) vs
  pub with_one : w.workers ≡ 1 → vs ≡ versions_of (records_of w.app w.commands (packets_of w.commands) (frames_in (capture_of bytes)))

abbrev pub Allows : Request → List ℕ → Type 0
Allows (Refused e) vs = ⊤
Allows (Asked w file) vs = AreAllowed w file.bytes vs

-- how a run ends, and what it writes, where its records have these versions
abbrev pub outcome_under : List ℕ → Request → Outcome RunError
outcome_under vs (Refused e) = refused e
outcome_under vs (Asked w file) = outcome w.app w.commands (packets_with w.app w.commands vs) w.output file
