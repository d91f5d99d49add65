-- The form of a line, as what may stand at each place of it:
--
--     line    = [ "at" number | "live" ] command
--     command = "event" number "under" event filter | "reg" number event hook [ "off" ] [ peek ] [ "do" action .. ]
--             | "unreg" number | "rbuf" number | "policy" ( "first" | "last" )
--             | "rule" number ( "allow" | "deny" ) net net ports | "unrule" number | "idle" number
--     hook    = "snd" | "rcv"      peek = "peek" number | "peekat" number number
--     action  = "drop" | "on" number | "off" number
--
-- For each place and word, `after_word` says what stands next, or why the word can't stand there. The filter of an event is
-- the text behind the event's word.
use Rattle.std.specs.Prelude.{ℕ, ◌==◌, ◌++◌, Bool, true, false, if◌then◌else◌, nat_lt, List, [], ◌∷◌, length, slice_index, codes, Option, Some, None, Result, Ok, Err}
use Rattle.std.specs.Option.{option_map, option_or, unwrap_or}
use Rattle.std.specs.Str.{bytes_eq}
use Rattle.std.specs.Char.{is_ascii_alphabetic}
use Rattle.number_text.specs.Numbers.{number_between}
use Rattle.native_filters.specs.declared.facts.Hook.TheVariants.{Snd, Rcv}
use Rattle.reassembly.specs.declared.answers.Policy.TheVariants.{First, Last}
use Rattle.app_api.specs.Names.{event_named}
use Rattle.app_api.specs.Reg.{preset_reg}
use Rattle.app_api.specs.declared.registration.PeekSpec.TheVariants.{Next as NextBytes, At as BytesAt}
use Rattle.app_api.specs.declared.registration.Reg.{Reg}
use Rattle.filter_lang.specs.declared.error.FilterError.{FilterError}
use Rattle.filter_lang.specs.declared.error.FilterError.TheVariants.{UnknownName as BadName, TooDeep as BadDepth, NoMemory as OutOfMemory}
use Rattle.filter_lang.specs.Grammar.{filter}
use Rattle.filter_lang.specs.Shape.{Shape}
use Rattle.forest_versions.specs.declared.command.Command.{Command}
use Rattle.forest_versions.specs.declared.command.Command.TheVariants.{Event, Register, Unregister, Buffer, Overlap, AddRule, RemoveRule, Idle}
use Rattle.forest_versions.specs.declared.command.Stamp.{Stamp}
use Rattle.forest_versions.specs.declared.command.Stamp.TheVariants.{At, Live}
use Rattle.control_script.specs.declared.error.ScriptError.{ScriptError}
use Rattle.control_script.specs.declared.error.ScriptError.TheVariants.{Syntax, UnknownName, TooDeep, NoMemory}
use Rattle.control_script.specs.declared.nets.Net.{Net}
use Rattle.control_script.specs.declared.nets.Ports.{Ports}
use Rattle.control_script.specs.declared.stamped.Stamped.{Stamped}
use Rattle.control_script.specs.Nets.{net_of, ports_of}
use Rattle.control_script.specs.Words.{Word}

abbrev pub stamped : Stamp → Command → Stamped
stamped st c = record { stamp = st; command = c }

abbrev pub dropping : Reg → Reg
dropping r = record r { action = record { drop = true; changes = r.action.changes } }

abbrev pub changing : Reg → ℕ → Bool → Reg
changing r number on = record r { action = record { drop = r.action.drop; changes = r.action.changes ++ record { reg = number; on = on } ∷ [] } }

abbrev pub rule : Stamp → ℕ → Bool → Net → Net → Ports → Stamped
rule st number allow src dst ports = stamped st (AddRule (record {
  number = number;
  allow = allow;
  src = src.address;
  src_len = src.len;
  dst = dst.address;
  dst_len = dst.len;
  low = ports.low;
  high = ports.high;
}))

pub data WordPlace : Type 0 where
  line_place : WordPlace
  command_place : Stamp → WordPlace
  -- a number in a range, and what stands behind it
  number_place : ℕ → ℕ → (ℕ → WordPlace) → WordPlace
  -- the event of a definition, with the number of the new one
  under_place : Stamp → ℕ → WordPlace
  parent_place : Stamp → ℕ → WordPlace
  -- the event and the hook of a registration, with its number
  event_place : Stamp → ℕ → WordPlace
  hook_place : Stamp → ℕ → ℕ → WordPlace
  -- behind a registration's hook, its `off`, its peek, its `do` and each action
  hooked_place : Stamp → Reg → WordPlace
  switched_place : Stamp → Reg → WordPlace
  peeked_place : Stamp → Reg → WordPlace
  action_place : Stamp → Reg → WordPlace
  acting_place : Stamp → Reg → WordPlace
  policy_place : Stamp → WordPlace
  -- `allow` or `deny`, with the number of a rule
  verb_place : Stamp → ℕ → WordPlace
  net_place : (Net → WordPlace) → WordPlace
  ports_place : (Ports → WordPlace) → WordPlace
  end_place : Stamped → WordPlace

-- what follows a word: a place, the text behind it as a filter, the end of the line, or a refusal
pub data AfterWord : Type 0 where
  go : WordPlace → AfterWord
  rest : (Shape → Stamped) → AfterWord
  done : Stamped → AfterWord
  stop : (ℕ → ScriptError) → AfterWord

-- a word of a table, each with what follows it; else what another form says
abbrev pub word_or : List (List ℕ × AfterWord) → AfterWord → List ℕ → AfterWord
word_or [] other w = other
word_or (row ∷ rows) other w = if bytes_eq w row.0 then row.1 else word_or rows other w

abbrev pub word_of : List (List ℕ × AfterWord) → List ℕ → AfterWord
word_of rows w = word_or rows (stop Syntax) w

-- goes on with what a word is, where it is that
abbrev pub go_with : {A : Type 0} → (A → WordPlace) → Option A → AfterWord
go_with k None = stop Syntax
go_with k (Some a) = go (k a)

-- a word that is no event: a name that isn't known, or none
abbrev pub unknown_event : List ℕ → AfterWord
unknown_event w = if is_ascii_alphabetic (slice_index w 0) then stop UnknownName else stop Syntax

-- an event: a built-in one by its name, or one of a number
abbrev pub next_event : (ℕ → AfterWord) → List ℕ → AfterWord
next_event k w = unwrap_or (option_map k (option_or (event_named w) (number_between 1 255 w))) (unknown_event w)

abbrev pub next_end : Stamped → List ℕ → AfterWord
next_end s w = if length w == 0 then done s else stop Syntax

-- behind `on` or `off`: four changes at most
abbrev pub next_change : Stamp → Reg → Bool → AfterWord
next_change st r on = if nat_lt (length r.action.changes) 4 then go (number_place 1 255 (λ n. acting_place st (changing r n on))) else stop Syntax

-- an action of a registration: one drop at most, or a change
abbrev pub next_action : Stamp → Reg → List ℕ → AfterWord
next_action st r =
    word_of ((codes "drop", if r.action.drop then stop Syntax else go (acting_place st (dropping r)))
    ∷ (codes "on", next_change st r true) ∷ (codes "off", next_change st r false) ∷ [])

abbrev pub next_peeked : Stamp → Reg → List ℕ → AfterWord
next_peeked st r w = word_or ((codes "do", go (action_place st r)) ∷ []) (next_end (stamped st (Register r)) w) w

abbrev pub next_switched : Stamp → Reg → List ℕ → AfterWord
next_switched st r w =
    word_or ((codes "peek", go (number_place 1 256 (λ n. peeked_place st (record r { peek = NextBytes n }))))
    ∷ (codes "peekat", go (number_place 0 1099511627775 (λ off. number_place 1 256 (λ n. peeked_place st (record r { peek = BytesAt off n })))))
    ∷ []) (next_peeked st r w) w

abbrev pub rule_place : Stamp → ℕ → Bool → WordPlace
rule_place st number allow = net_place (λ src. net_place (λ dst. ports_place (λ ports. end_place (rule st number allow src dst ports))))

-- a command of one number in a range
abbrev pub of_number : Stamp → ℕ → ℕ → (ℕ → Command) → AfterWord
of_number st low high make = go (number_place low high (λ n. end_place (stamped st (make n))))

-- the commands of one number, and `policy`
abbrev pub settings : Stamp → List (List ℕ × AfterWord)
settings st =
    (codes "unreg", of_number st 1 255 Unregister) ∷ (codes "rbuf", of_number st 1 1048576 Buffer)
    ∷ (codes "unrule", of_number st 1 255 RemoveRule) ∷ (codes "idle", of_number st 1 4294967295 Idle)
    ∷ (codes "policy", go (policy_place st)) ∷ []

-- all commands
abbrev pub commands : Stamp → List (List ℕ × AfterWord)
commands st =
    (codes "event", go (number_place 1 255 (under_place st))) ∷ (codes "reg", go (number_place 16 255 (event_place st)))
    ∷ (codes "rule", go (number_place 1 255 (verb_place st))) ∷ settings st

abbrev pub after_word : WordPlace → List ℕ → AfterWord
-- a line without a stamp is `at 0`
after_word line_place w =
    word_or ((codes "at", go (number_place 0 4294967295 (λ k. command_place (At k)))) ∷ (codes "live", go (command_place Live)) ∷ [])
    (word_of (commands (At 0)) w) w
after_word (command_place st) w = word_of (commands st) w
after_word (number_place low high k) w = go_with k (number_between low high w)
after_word (under_place st number) w = word_of ((codes "under", go (parent_place st number)) ∷ []) w
after_word (parent_place st number) w = next_event (λ e. rest (λ f. stamped st (Event (record { number = number; parent = e; filter = f })))) w
after_word (event_place st number) w = next_event (λ e. go (hook_place st number e)) w
after_word (hook_place st number event) w =
    word_of ((codes "snd", go (hooked_place st (preset_reg number event Snd true))) ∷ (codes "rcv", go (hooked_place st (preset_reg number event Rcv true))) ∷ []) w
after_word (hooked_place st r) w = word_or ((codes "off", go (switched_place st (record r { on = false }))) ∷ []) (next_switched st r w) w
after_word (switched_place st r) w = next_switched st r w
after_word (peeked_place st r) w = next_peeked st r w
after_word (action_place st r) w = next_action st r w
after_word (acting_place st r) w = if length w == 0 then done (stamped st (Register r)) else next_action st r w
after_word (policy_place st) w =
    word_of ((codes "first", go (end_place (stamped st (Overlap First)))) ∷ (codes "last", go (end_place (stamped st (Overlap Last)))) ∷ []) w
after_word (verb_place st number) w =
    word_of ((codes "allow", go (rule_place st number true)) ∷ (codes "deny", go (rule_place st number false)) ∷ []) w
after_word (net_place k) w = go_with k (net_of w)
after_word (ports_place k) w = go_with k (ports_of w)
after_word (end_place s) w = next_end s w

-- a filter's refusal as the line's
abbrev pub filter_fault : FilterError → ℕ → ScriptError
filter_fault (BadName at) n = UnknownName n
filter_fault (BadDepth at) n = TooDeep n
filter_fault OutOfMemory n = NoMemory
filter_fault _ n = Syntax n

abbrev pub with_filter : ℕ → (Shape → Stamped) → Result Shape FilterError → Result Stamped ScriptError
with_filter n make (Ok f) = Ok (make f)
with_filter n make (Err e) = Err (filter_fault e n)

-- goes on at a place, or ends; a refusal is told with the line's number
abbrev pub continued : (WordPlace → Result Stamped ScriptError) → ℕ → List ℕ → AfterWord → Result Stamped ScriptError
continued k n behind (go p) = k p
continued k n behind (rest make) = with_filter n make (filter behind)
continued k n behind (done s) = Ok s
continued k n behind (stop refusal) = Err (refusal n)

-- what the words of line n are from a place on
abbrev pub line_from : ℕ → List Word → WordPlace → Result Stamped ScriptError
line_from n [] p = Err (Syntax n)
line_from n (w ∷ ws) p = continued (line_from n ws) n w.behind (after_word p w.text)
