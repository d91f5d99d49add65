-- What calls one after another did to the source of an opened capture.
use Rattle.std.proofs.Common.{◌≡◌, ◌≤◌, ⊎_elim, ◌⊎◌, ℕ, List, [], Some, Result, Ok, Err, sym, ap, subst, ◌∙◌, le_refl}
use Rattle.std.specs.Prelude.{IsOk, IsErrOf}
use Rattle.mos_bytes.specs.Causes.{HasCauseOf}
use Rattle.mos_bytes.specs.declared.source.Source.{Ghosts as Source}
use Rattle.pcap_source.specs.Reading.{CaptureState, frames_at}
use Rattle.worker_pool.specs.Source.{EndsInTail, ReadsOn}
use Rattle.worker_pool.specs.declared.job.PoolError.{PoolError}
use Rattle.worker_pool.specs.declared.job.PoolError.TheVariants.{ReadFault, WriteFault, Heavy, NoMemory}
use Rattle.worker_pool.proofs.Reading.{HasCause-since}

-- an error is no value
pub no_value : {T E : Type 0} (e : E) (result : Result T E) → result ≡ Err e → IsOk result → ⊥
no_value e (Ok value) is ok = cc
no_value e (Err error) is ok = cc

-- a value is no error
pub no_error : {T E : Type 0} (value : T) (e : E) → IsErrOf (Ok value) e → ⊥
no_error value e is = cc

module _ {S : Type 0} (source : Source S) (capture : CaptureState) (first now : S) where
  -- no fault of the source is told
  pub reads_well : {whole fault : Type 0} → source.faults first ≤ source.faults now → source.lasting now ≡ source.lasting first → (whole → source.ended now) → (fault → ⊥)
      → ReadsOn source capture first now whole fault
  reads_well later lasts ended none = record {
    reads = record { cause = record { later = later; cause = λ fault. absurd (none fault) }; lasts = lasts };
    ended = ended;
    cut = λ fault. absurd (none fault);
  }

  -- the last call told a fault of the source
  pub reads_ill : {whole told fault : Type 0} (before : S) → source.faults first ≤ source.faults before → source.lasting before ≡ source.lasting first
      → HasCauseOf (source.faults before) (source.faults now) told → source.lasting now ≡ source.lasting before → (whole → ⊥) → (fault → told)
      → (fault → (bytes : List ℕ) → source.left first ≡ Some bytes → source.left now ≡ Some [] → EndsInTail (frames_at capture bytes))
      → ReadsOn source capture first now whole fault
  reads_ill before later lasts call kept not same cut = record {
    reads = record { cause = HasCause-since (source.faults first) (source.faults before) (source.faults now) later call same; lasts = kept ∙ lasts };
    ended = λ whole. absurd (not whole);
    cut = cut;
  }

  -- the same of less that is told
  pub reads_less : {whole fault more ill : Type 0} → (more → whole) → (ill → fault) → ReadsOn source capture first now whole fault → ReadsOn source capture first now more ill
  reads_less all same on = record {
    reads = record { cause = record { later = on.reads.cause.later; cause = λ ill. on.reads.cause.cause (same ill) }; lasts = on.reads.lasts };
    ended = λ more. on.ended (all more);
    cut = λ ill. on.cut (same ill);
  }

  -- memory was refused before anything was read
  pub reads_nothing : {T : Type 0} (result : Result T PoolError) → result ≡ Err NoMemory → first ≡ now
      → ReadsOn source capture first now (IsOk result ⊎ IsErrOf result Heavy) (IsErrOf result ReadFault)
  reads_nothing result is same = reads_well (subst (λ s. source.faults first ≤ source.faults s) same (le_refl _)) (ap source.lasting (sym same))
      (λ told. absurd (⊎_elim (no_value NoMemory result is) (λ heavy. cc) told))
      (λ fault. cc)

-- an error of writing or of memory is none of the source
pub none_read : {T : Type 0} (e : PoolError) (result : Result T PoolError) → result ≡ Err e → (e ≡ WriteFault) ⊎ (e ≡ NoMemory) → IsErrOf result ReadFault → ⊥
none_read e result is only fault = ⊎_elim (λ w. cc) (λ m. cc) only
