-- Not of the headline. What a source over a file of either form tells.
use Rattle.std.specs.Prelude.{◌≡◌, ℕ, ◌+◌, ◌≤◌, ⊤, List, [], Option, None, Some, Result, IfOk, OnOk, OnErr}
use Rattle.std.specs.Io.{ReadsAtMost}
use Rattle.std.specs.Io.KnownBytes.{IsAtEnd, ReadConsumes}
use Rattle.mos_bytes.specs.Causes.{HasCause}
use Rattle.mos_bytes.specs.declared.failed.Failed.{Failed}
use Rattle.mos_bytes.specs.declared.source.Source.{Ghosts}
use Rattle.pcapng_source.specs.Blocks.{any}
use Rattle.pcapng_source.specs.Outlooks.{IsOver, MeetsOrFails, bytes_left, outlook}
use Rattle.pcapng_source.specs.Reading.{fault_at, met_at}
use Rattle.pcapng_source.specs.declared.fault.NgFault.{NgFault}
use Rattle.pcapng_source.specs.declared.any_source.AnySource.{AnySource}

-- the bytes that it gives from here on, where the source below tells its bytes
abbrev pub any_left : {S : Type 0} {source : Ghosts S} → AnySource S source → Option (List ℕ)
any_left {source = source} a = bytes_left (outlook a.reader (source.left a.source.now))

-- how many reads have met the refusal of the file
abbrev pub refusals_met : {S : Type 0} {source : Ghosts S} → AnySource S source → ℕ
refusals_met a = met_at a.reader.stage

-- how often the source below has failed
abbrev pub faults_below : {S : Type 0} {source : Ghosts S} → AnySource S source → ℕ
faults_below {source = source} a = source.faults a.source.now

-- both
abbrev pub any_faults : {S : Type 0} {source : Ghosts S} → AnySource S source → ℕ
any_faults a = faults_below a + refusals_met a

-- the source below
abbrev pub any_source : {S : Type 0} {source : Ghosts S} → AnySource S source → S
any_source a = a.source.now

-- the source below as it was handed in
abbrev pub any_start : {S : Type 0} {source : Ghosts S} → AnySource S source → S
any_start a = a.start.value

-- what no call changes: which source is borrowed, how it was handed in, and what no call of it changes
abbrev pub any_lasting : {S : Type 0} {source : Ghosts S} → AnySource S source → ℕ × S × source.Lasting
any_lasting {source = source} a = (a.source.ghost_name, a.start.value, source.lasting a.source.now)

-- the source below has ended, where it tells its bytes none is left, and neither a byte nor a refusal waits
abbrev pub any_ended : {S : Type 0} {source : Ghosts S} → AnySource S source → Type 0
any_ended {source = source} a = IsAtEnd (source.left a.source.now) × source.ended a.source.now × IsOver a.reader

-- the refusal that a read has met
abbrev pub met_fault : {S : Type 0} {source : Ghosts S} → AnySource S source → Option NgFault
met_fault a = fault_at a.reader.stage

-- a file of these bytes is refused so, and all in front of that was given, where they are told
abbrev pub MeetsRefusal : Option (List ℕ) → Option (List ℕ) → NgFault → Type 0
MeetsRefusal None given fault = ⊤
MeetsRefusal (Some file) given fault = ((any file).refusal ≡ Some fault) × (given ≡ Some [])

-- a file of these bytes was read to its end and isn't refused, where they are told
abbrev pub IsReadWhole : Option (List ℕ) → Option (List ℕ) → Type 0
IsReadWhole None left = ⊤
IsReadWhole (Some file) left = ((any file).refusal ≡ None) × (left ≡ Some [])

-- what stands of a source over a file, whatever was read of it
pub record Stands {S : Type 0} {source : Ghosts S} (a : AnySource S source) : Type 0 where
  -- a refusal that was met is that of the whole file
  pub met : (fault : NgFault) → met_fault a ≡ Some fault → MeetsRefusal (source.left (any_start a)) (any_left a) fault
  -- where none was met, each fault is one of the source below
  pub unmet : met_fault a ≡ None → any_faults a ≡ source.faults (any_source a)
  -- where it has ended, so has the source below, and the file isn't refused
  pub ends : any_ended a → source.ended (any_source a) × IsReadWhole (source.left (any_start a)) (source.left (any_source a))
  pub later : source.faults (any_start a) ≤ source.faults (any_source a)

-- a read of it into a buffer that has room
pub record AnyReads {S : Type 0} {source : Ghosts S} (a b : AnySource S source) (result : Result ℕ Failed) (buf : List ℕ) : Type 0 where
  pub bound : ReadsAtMost result buf
  pub bytes : ReadConsumes (any_left a) (any_left b) result buf
  pub ended : IfOk result (λ count. count ≡ 0 → any_ended b)
  pub cause : HasCause (any_faults a) (any_faults b) result
  pub met : OnOk result (refusals_met b ≡ refusals_met a)
  pub failed : OnErr result (MeetsOrFails (refusals_met a) (refusals_met b) (faults_below a) (faults_below b))
  pub lasts : any_lasting b ≡ any_lasting a
