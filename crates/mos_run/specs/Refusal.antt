-- Why a run ends before its output is whole: the status and the line that tell it.
use Rattle.std.specs.Prelude.{◌⊎◌, ℕ, List, ◌++◌, codes, Option}
use Rattle.std.specs.Io.KnownBytes.{Appends}
use Rattle.std.specs.Fmt.{decimal}
use Rattle.words.specs.Usage.{usage_text}
use Rattle.words.specs.declared.settings.WordsError.{WordsError}
use Rattle.words.specs.declared.settings.WordsError.TheVariants as Words
use Rattle.mos_bytes.specs.Causes.{Rose}
use Rattle.mos_bytes.specs.Writes.{AppendsFront}
use Rattle.mos_bytes.specs.declared.shelf.FetchError.{FetchError}
use Rattle.mos_bytes.specs.declared.shelf.FetchError.TheVariants as Fetch
use Rattle.control_script.specs.declared.error.ScriptError.{ScriptError}
use Rattle.control_script.specs.declared.error.ScriptError.TheVariants as Text
use Rattle.pcap_source.specs.declared.errors.CaptureFault.{CaptureFault}
use Rattle.pcap_source.specs.declared.errors.CaptureFault.TheVariants as Fault
use Rattle.pcapng_source.specs.declared.fault.NgFault.{NgFault}
use Rattle.pcapng_source.specs.declared.fault.NgFault.TheVariants as Ng
use Rattle.capture_replay.specs.declared.refusal.ReplayError.{ReplayError}
use Rattle.capture_replay.specs.declared.refusal.ReplayError.TheVariants as Replay
use Rattle.mos_run.specs.declared.refusal.RunError.{RunError}
use Rattle.mos_run.specs.declared.refusal.RunError.TheVariants.{Usage, ScriptTooLong, Script, Capture, BadBlock, TooMany, TooManyBlocks, TooManyInterfaces, Heavy, ReadFault, WriteFault, NoMemory}
use Rattle.mos_run.specs.declared.refusal.ScriptFault.{ScriptFault}
use Rattle.mos_run.specs.declared.refusal.ScriptFault.TheVariants as Line

abbrev pub status_of : RunError → ℕ
status_of Usage = 1
status_of ScriptTooLong = 2
status_of (Script fault line) = 2
status_of (Capture fault offset) = 3
status_of (BadBlock offset) = 3
status_of ReadFault = 4
status_of WriteFault = 5
status_of NoMemory = 6
-- more than is allowed
status_of _ = 7

abbrev pub fault_text : CaptureFault → List ℕ
fault_text Fault.BadMagic = codes "bad magic"
fault_text Fault.BadVersion = codes "bad version"
fault_text Fault.BadLink = codes "bad link type"
fault_text Fault.ShortHeader = codes "short header"
fault_text Fault.TooLong = codes "record too long"

abbrev pub error_text : ScriptFault → List ℕ
error_text Line.Syntax = codes "Syntax"
error_text Line.UnknownName = codes "UnknownName"
error_text Line.Duplicate = codes "Duplicate"
error_text Line.NoSuchNumber = codes "NoSuchNumber"
error_text Line.TooDeep = codes "TooDeep"
error_text Line.TooMany = codes "TooMany"
error_text Line.StampOrder = codes "StampOrder"

unfoldable pub refusal_text : RunError → List ℕ
refusal_text Usage = usage_text
refusal_text ScriptTooLong = codes "mos: script: too long\n"
refusal_text (Script fault line) = codes "mos: script: line " ++ (decimal line ++ (codes ": " ++ (error_text fault ++ codes "\n")))
refusal_text (Capture fault offset) = codes "mos: capture: " ++ (fault_text fault ++ (codes " at " ++ (decimal offset ++ codes "\n")))
refusal_text (BadBlock offset) = codes "mos: capture: bad block at " ++ (decimal offset ++ codes "\n")
refusal_text (TooMany offset) = codes "mos: too many packets at " ++ (decimal offset ++ codes "\n")
refusal_text (TooManyBlocks offset) = codes "mos: too many blocks at " ++ (decimal offset ++ codes "\n")
refusal_text (TooManyInterfaces offset) = codes "mos: too many interfaces at " ++ (decimal offset ++ codes "\n")
refusal_text Heavy = codes "mos: log too large\n"
refusal_text ReadFault = codes "mos: read fault\n"
refusal_text WriteFault = codes "mos: write fault\n"
refusal_text NoMemory = codes "mos: no memory\n"

-- words that choose nothing
abbrev pub words_refusal : WordsError → RunError
words_refusal Words.Usage = Usage
words_refusal Words.NoMemory = NoMemory

-- a script that can't be fetched
abbrev pub fetch_refusal : FetchError → RunError
fetch_refusal Fetch.TooLong = ScriptTooLong
fetch_refusal Fetch.Failed = ReadFault
fetch_refusal Fetch.NoMemory = NoMemory

-- a text that is no script
abbrev pub script_refusal : ScriptError → RunError
script_refusal (Text.Syntax line) = Script Line.Syntax line
script_refusal (Text.UnknownName line) = Script Line.UnknownName line
script_refusal (Text.Duplicate line) = Script Line.Duplicate line
script_refusal (Text.NoSuchNumber line) = Script Line.NoSuchNumber line
script_refusal (Text.TooDeep line) = Script Line.TooDeep line
script_refusal (Text.TooMany line) = Script Line.TooMany line
script_refusal (Text.StampOrder line) = Script Line.StampOrder line
script_refusal Text.NoMemory = NoMemory

-- what ends a replay, as a run tells it
abbrev pub replay_refusal : ReplayError → RunError
replay_refusal (Replay.Capture fault offset) = Capture fault offset
replay_refusal (Replay.TooMany offset) = TooMany offset
replay_refusal Replay.Heavy = Heavy
replay_refusal Replay.ReadFault = ReadFault
replay_refusal Replay.WriteFault = WriteFault
replay_refusal Replay.NoMemory = NoMemory

-- a refused block of a pcapng file
abbrev pub file_refusal : NgFault → RunError
file_refusal (Ng.TooManyBlocks offset) = TooManyBlocks offset
file_refusal (Ng.BadBlock offset) = BadBlock offset
file_refusal (Ng.BadVersion offset) = Capture Fault.BadVersion offset
file_refusal (Ng.TooManyInterfaces offset) = TooManyInterfaces offset
file_refusal (Ng.BadLink offset) = Capture Fault.BadLink offset
file_refusal (Ng.TooLong offset) = Capture Fault.TooLong offset

-- a text was added, or a front of it where the sink failed
abbrev pub WritesText : Option (List ℕ) → Option (List ℕ) → ℕ → ℕ → List ℕ → Type 0
WritesText old new before now text = Appends old new text ⊎ (Rose before now × AppendsFront old new text)
