-- Only for proofs. What a call did to a source and to the reader over it.
use Rattle.std.specs.Prelude.{◌≡◌, ℕ, ◌≤◌, List, [], Option, Result, IfOk, OnOk, OnErr}
use Rattle.std.specs.Io.{ReadsAtMost}
use Rattle.std.specs.Io.KnownBytes.{IsAtEnd}
use Rattle.mos_bytes.specs.Causes.{HasCause, Rose}
use Rattle.mos_bytes.specs.declared.failed.Failed.{Failed}
use Rattle.mos_bytes.specs.declared.source.Source.{Ghosts}
use Rattle.pcapng_source.specs.Outlooks.{Gives, IsOver, MeetsOrFails, ReadGives, StepEnds, StepFalls, StepFits, StepGives, faults_with, outlook}
use Rattle.pcapng_source.specs.Reading.{IsFitting, IsSpent, met_at}
use Rattle.pcapng_source.specs.declared.reader.Reader.{Reader}

-- what each call leaves: the source lasts and its faults have not fallen, and the reader may read on
pub record Leaves {S : Type 0} (source : Ghosts S) (old new : S) (s : Reader) : Type 0 where
  pub lasts : source.lasting new ≡ source.lasting old
  pub fits : IsFitting s
  pub spent : IsSpent s
  pub source_faults : source.faults old ≤ source.faults new

-- it gave nothing, and the faults have not fallen
pub record Going {S : Type 0} (source : Ghosts S) (old new : S) (r s : Reader) : Type 0 where
  pub gives : Gives (outlook r (source.left old)) (outlook s (source.left new)) []
  pub later : faults_with r (source.faults old) ≤ faults_with s (source.faults new)
  pub met : met_at s.stage ≡ met_at r.stage
  pub leaves : Leaves source old new s

-- a step of a read that gives nothing, and meets no refusal
pub record Passes {S : Type 0} (source : Ghosts S) (old new : S) (r s : Reader) (result : Result (Option ℕ) Failed) : Type 0 where
  pub gives : StepGives (outlook r (source.left old)) (outlook s (source.left new)) result []
  pub room : StepFits result []
  pub ends : StepEnds s (source.left new) result (source.ended new)
  pub falls : StepFalls r s result
  pub cause : HasCause (faults_with r (source.faults old)) (faults_with s (source.faults new)) result
  pub met : met_at s.stage ≡ met_at r.stage
  pub failed : OnErr result (Rose (source.faults old) (source.faults new))
  pub leaves : Leaves source old new s

-- a read into this buffer
pub record Reads {S : Type 0} (source : Ghosts S) (old new : S) (r s : Reader) (result : Result ℕ Failed) (buf : List ℕ) : Type 0 where
  pub bound : ReadsAtMost result buf
  pub gives : ReadGives (outlook r (source.left old)) (outlook s (source.left new)) result buf
  pub ends : IfOk result (λ count. count ≡ 0 → IsAtEnd (source.left new) × source.ended new × IsOver s)
  pub cause : HasCause (faults_with r (source.faults old)) (faults_with s (source.faults new)) result
  pub met : OnOk result (met_at s.stage ≡ met_at r.stage)
  pub failed : OnErr result (MeetsOrFails (met_at r.stage) (met_at s.stage) (source.faults old) (source.faults new))
  pub leaves : Leaves source old new s
