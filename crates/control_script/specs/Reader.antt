-- Only for proofs. What each function of the reader reads, as an equation between what the grammar says of the words before it and of
-- those behind it.
use Rattle.std.specs.Prelude.{◌≡◌, ◌≤◌, ℕ, ◌+◌, Bool, true, IsTrue, List, [], ◌∷◌, length, Option, IfSome, Result, Ok, Err, IfOk, IfErr}
use Rattle.app_api.specs.declared.registration.Reg.{Reg}
use Rattle.native_filters.specs.declared.facts.Hook.{Hook}
use Rattle.reassembly.specs.declared.answers.Policy.{Policy}
use Rattle.forest_versions.specs.declared.command.Command.TheVariants.{Register, Overlap}
use Rattle.forest_versions.specs.declared.command.Stamp.{Stamp}
use Rattle.forest_versions.specs.Lawful.{is_within}
use Rattle.control_script.specs.declared.error.ScriptError.{ScriptError}
use Rattle.control_script.specs.declared.nets.Net.{Net}
use Rattle.control_script.specs.declared.nets.Ports.{Ports}
use Rattle.control_script.specs.declared.stamped.Stamped.{Stamped}
use Rattle.control_script.specs.declared.words.Words.{Words}
use Rattle.app_api.specs.Reg.{preset_reg}
use Rattle.control_script.specs.Grammar.{WordPlace, AfterWord, number_place, net_place, ports_place, parent_place, event_place, hook_place, hooked_place, switched_place, peeked_place, acting_place, action_place, policy_place, verb_place, rule_place, end_place, stamped, next_change, next_event, continued, line_from}
use Rattle.control_script.specs.Words.{Word, words}

-- nothing comes behind the end
abbrev pub behind : List ℕ → List Word → List Word
behind [] ws = []
behind (b ∷ bs) ws = ws

-- the words behind the one that is looked at
abbrev pub later : Words → List Word
later w = behind w.word.now (words w.rest.now)

-- the words from the one that is looked at on
abbrev pub ahead : Words → List Word
ahead w = record { text = w.word.now; behind = w.rest.now } ∷ later w

-- how many bytes there are to read
abbrev pub left : Words → ℕ
left w = length w.word.now + length w.rest.now

-- what the words from the one that is looked at on are at a place
abbrev pub reads : Words → WordPlace → Result Stamped ScriptError
reads w p = line_from w.line (ahead w) p

-- what the words behind the one that is looked at are after a step
abbrev pub takes : Words → AfterWord → Result Stamped ScriptError
takes w n = continued (line_from w.line (later w)) w.line w.rest.now n

-- the command that a line, or the rest of one, says, with its numbers in their ranges; else the line's refusal
pub record Says (line result : Result Stamped ScriptError) : Type 0 where
  pub ok : IfOk result (λ s. line ≡ Ok s)
  pub within : IfOk result (λ s. IsTrue (is_within s.command))
  pub err : IfErr result (λ e. line ≡ Err e)

-- the ports that a word names, from one to another that isn't less
pub record FindsPorts (wanted found : Option Ports) : Type 0 where
  pub ports : found ≡ wanted
  pub rise : IfSome found (λ p. p.low ≤ p.high)
  pub most : IfSome found (λ p. p.high ≤ 65535)

pub record ReadsNumber (low high : ℕ) (old new : Words) (n : ℕ) : Type 0 where
  pub same : (k : ℕ → WordPlace) → reads old (number_place low high k) ≡ reads new (k n)

pub record RefusesNumber (low high : ℕ) (old : Words) (e : ScriptError) : Type 0 where
  pub same : (k : ℕ → WordPlace) → reads old (number_place low high k) ≡ Err e

pub record ReadsNet (old new : Words) (net : Net) : Type 0 where
  pub same : (k : Net → WordPlace) → reads old (net_place k) ≡ reads new (k net)

pub record RefusesNet (old : Words) (e : ScriptError) : Type 0 where
  pub same : (k : Net → WordPlace) → reads old (net_place k) ≡ Err e

pub record ReadsPorts (old new : Words) (ports : Ports) : Type 0 where
  pub same : (k : Ports → WordPlace) → reads old (ports_place k) ≡ reads new (k ports)

pub record RefusesPorts (old : Words) (e : ScriptError) : Type 0 where
  pub same : (k : Ports → WordPlace) → reads old (ports_place k) ≡ Err e

pub record ReadsEvent (old : Words) (event : ℕ) : Type 0 where
  pub same : (k : ℕ → AfterWord) → next_event k old.word.now ≡ k event

pub record RefusesEvent (old : Words) (e : ScriptError) : Type 0 where
  pub parent : (st : Stamp) (number : ℕ) → reads old (parent_place st number) ≡ Err e
  pub own : (st : Stamp) (number : ℕ) → reads old (event_place st number) ≡ Err e

pub record ReadsHook (old new : Words) (hook : Hook) : Type 0 where
  pub same : (st : Stamp) (number event : ℕ) → reads old (hook_place st number event) ≡ reads new (hooked_place st (preset_reg number event hook true))

pub record RefusesHook (old : Words) (e : ScriptError) : Type 0 where
  pub same : (st : Stamp) (number event : ℕ) → reads old (hook_place st number event) ≡ Err e

pub record ReadsOff (old new : Words) (before after : Reg) : Type 0 where
  pub same : (st : Stamp) → reads old (hooked_place st before) ≡ reads new (switched_place st after)

pub record ReadsPeek (old new : Words) (before after : Reg) : Type 0 where
  pub same : (st : Stamp) → reads old (switched_place st before) ≡ reads new (peeked_place st after)

pub record RefusesPeek (old : Words) (before : Reg) (e : ScriptError) : Type 0 where
  pub same : (st : Stamp) → reads old (switched_place st before) ≡ Err e

pub record ReadsAction (old new : Words) (before after : Reg) : Type 0 where
  pub same : (st : Stamp) → reads old (action_place st before) ≡ reads new (acting_place st after)

pub record RefusesAction (old : Words) (before : Reg) (e : ScriptError) : Type 0 where
  pub same : (st : Stamp) → reads old (action_place st before) ≡ Err e

pub record ReadsChange (on : Bool) (old new : Words) (before after : Reg) : Type 0 where
  pub same : (st : Stamp) → takes old (next_change st before on) ≡ reads new (acting_place st after)

pub record RefusesChange (on : Bool) (old : Words) (before : Reg) (e : ScriptError) : Type 0 where
  pub same : (st : Stamp) → takes old (next_change st before on) ≡ Err e

-- behind a peek, to the end of the line
pub record ReadsActions (old : Words) (before after : Reg) : Type 0 where
  pub same : (st : Stamp) → reads old (peeked_place st before) ≡ Ok (stamped st (Register after))

pub record RefusesActions (old : Words) (before : Reg) (e : ScriptError) : Type 0 where
  pub same : (st : Stamp) → reads old (peeked_place st before) ≡ Err e

pub record Ends (old : Words) : Type 0 where
  pub same : (s : Stamped) → reads old (end_place s) ≡ Ok s

pub record RefusesEnd (old : Words) (e : ScriptError) : Type 0 where
  pub same : (s : Stamped) → reads old (end_place s) ≡ Err e

pub record ReadsPolicy (old new : Words) (policy : Policy) : Type 0 where
  pub same : (st : Stamp) → reads old (policy_place st) ≡ reads new (end_place (stamped st (Overlap policy)))

pub record RefusesPolicy (old : Words) (e : ScriptError) : Type 0 where
  pub same : (st : Stamp) → reads old (policy_place st) ≡ Err e

pub record ReadsVerb (old new : Words) (allow : Bool) : Type 0 where
  pub same : (st : Stamp) (number : ℕ) → reads old (verb_place st number) ≡ reads new (rule_place st number allow)

pub record RefusesVerb (old : Words) (e : ScriptError) : Type 0 where
  pub same : (st : Stamp) (number : ℕ) → reads old (verb_place st number) ≡ Err e
