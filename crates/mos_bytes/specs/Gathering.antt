-- Not of the headline. What a sink that gathers tells.
use Rattle.std.specs.Prelude.{◌≡◌, ◌≢◌, ◌↔◌, ℕ, ◌+◌, List, [], Result, IsOk, IsErr, OnOk}
use Rattle.std.specs.declared.option.Option.{Option}
use Rattle.std.specs.Io.KnownBytes.{Keeps, append_known}
use Rattle.mos_bytes.specs.Causes.{HasCause}
use Rattle.mos_bytes.specs.declared.failed.Failed.{Failed}
use Rattle.mos_bytes.specs.declared.sink.Sink.{Ghosts}
use Rattle.mos_bytes.specs.declared.gathering_sink.GatheringSink.{GatheringSink}

-- the sink below
abbrev pub inner_of : {S : Type 0} {sink : Ghosts S} → GatheringSink S sink → S
inner_of g = g.inner

-- that sink as it was handed in
abbrev pub start_of : {S : Type 0} {sink : Ghosts S} → GatheringSink S sink → S
start_of g = g.start.value

-- the bytes that are held back
abbrev pub held_of : {S : Type 0} {sink : Ghosts S} → GatheringSink S sink → List ℕ
held_of g = g.held.items

-- how many calls have failed
abbrev pub failures_of : {S : Type 0} {sink : Ghosts S} → GatheringSink S sink → ℕ
failures_of g = g.failures

-- what was given so far: what the sink below took before what is held, and then that
abbrev pub given_to : {S : Type 0} {sink : Ghosts S} → GatheringSink S sink → Option (List ℕ)
given_to {sink = sink} g = append_known (sink.taken g.before.value) g.held.items

-- the faults of the sink below, and the calls that have failed
abbrev pub gathering_faults : {S : Type 0} {sink : Ghosts S} → GatheringSink S sink → ℕ
gathering_faults {sink = sink} g = sink.faults g.inner + g.failures

-- a fault that a call tells is one of the sink below
abbrev pub IsCausedBelow : {S T : Type 0} {sink : Ghosts S} → GatheringSink S sink → GatheringSink S sink → Result T Failed → Type 0
IsCausedBelow {sink = sink} old new result = HasCause (sink.faults (inner_of old)) (sink.faults (inner_of new)) result

-- a call answers `Ok` and changes nothing
abbrev pub DoesNothing : {S T E : Type 0} → S → S → Result T E → Type 0
DoesNothing old new result = IsOk result × (new ≡ old)

-- what no call changes: which sink was handed in, and what no call of that one changes
abbrev pub gathering_lasting : {S : Type 0} {sink : Ghosts S} → GatheringSink S sink → S × sink.Lasting
gathering_lasting {sink = sink} g = (g.start.value, sink.lasting g.inner)

-- What a call told: it fails where the sink below does, and where a call before has failed. That one isn't called then.
pub record Tells {S T : Type 0} {sink : Ghosts S} (old new : GatheringSink S sink) (result : Result T Failed) : Type 0 where
  pub sound : IsOk result ↔ (failures_of new ≡ 0)
  pub cause : HasCause (gathering_faults old) (gathering_faults new) result
  pub still : OnOk result (gathering_faults new ≡ gathering_faults old)
  pub lasts : gathering_lasting new ≡ gathering_lasting old
  pub below : failures_of old ≡ 0 → IsCausedBelow old new result
  pub stopped : failures_of old ≢ 0 → IsErr result × (inner_of new ≡ inner_of old)

-- such a call, which was given nothing
pub record HandsOn {S T : Type 0} {sink : Ghosts S} (old new : GatheringSink S sink) (result : Result T Failed) : Type 0 where
  pub given : Keeps (given_to old) (given_to new)
  pub told : Tells old new result

-- a sink over this one, to which nothing was given yet
pub record IsNew {S : Type 0} {sink : Ghosts S} (g : GatheringSink S sink) (inner : S) : Type 0 where
  pub over : inner_of g ≡ inner
  pub start : start_of g ≡ inner
  pub empty : held_of g ≡ []
  pub sound : failures_of g ≡ 0
  pub given : given_to g ≡ sink.taken inner

-- all that was given was taken, and nothing is held back
pub record IsFinished {S : Type 0} {sink : Ghosts S} (g : GatheringSink S sink) : Type 0 where
  pub taken : sink.taken (inner_of g) ≡ given_to g
  pub empty : held_of g ≡ []

-- all that is held is handed on; the sink below isn't called where nothing is held
pub record Finishes {S T : Type 0} {sink : Ghosts S} (old new : GatheringSink S sink) (result : Result T Failed) : Type 0 where
  pub given : Keeps (given_to old) (given_to new)
  pub told : Tells old new result
  pub finished : OnOk result (IsFinished new)
  pub idle : failures_of old ≡ 0 → held_of old ≡ [] → DoesNothing old new result
