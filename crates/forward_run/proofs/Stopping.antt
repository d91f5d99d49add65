-- What a forward run that stopped says of its capture.
use Rattle.std.proofs.Common.{◌≡◌, ◌⊎◌, inl, inr, ℕ, Option, List, [], Result, Ok, Err, IfErr, ap, ◌∙◌, ⊎_elim}
use Rattle.pcap_source.specs.Reading.{CaptureState}
use Rattle.worker_pool.specs.declared.job.PoolError.{PoolError}
use Rattle.worker_pool.specs.declared.job.PoolError.TheVariants.{WriteFault, NoMemory}
use Rattle.worker_pool.specs.GoesOn.{GoesOn}
use Rattle.worker_pool.proofs.Reading.{read_none}

-- a capture of which nothing was read
pub unread : (capture : CaptureState) (left : Option (List ℕ)) → capture.count ≡ 0 → GoesOn capture capture left left
unread capture left none = record { frames = []; count = none; read = λ bytes told. read_none capture bytes left told }

-- the dispatcher's error is told
pub told_last : {T U : Type 0} (read : Result T PoolError) (result : Result U PoolError) → (read ≡ Err WriteFault) ⊎ (read ≡ Err NoMemory)
    → IfErr read (λ e. result ≡ Err e) → (result ≡ Err WriteFault) ⊎ (result ≡ Err NoMemory)
told_last (Ok whole) result is told = ⊎_elim (λ e. absurd (cc)) (λ e. absurd (cc)) is
told_last (Err e) result is told =
    ⊎_elim
    (λ writes. inl (told ∙ ap Err (let value : e ≡ WriteFault = cc in value)))
    (λ lacks. inr (told ∙ ap Err (let value : e ≡ NoMemory = cc in value))) is
