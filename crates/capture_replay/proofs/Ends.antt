-- How far a run has read its source: what is told only at its end, and what a fault of it leaves.
use Rattle.std.proofs.Common.{◌≡◌, ◌≢◌, ℕ, ◌<◌, Bool, true, false, Option, Some, None, List, [], length, Result, Ok, Err, refl, sym, ap, subst, ◌∙◌, inl, inr}
use Rattle.std.specs.Prelude.{◌⊎◌, IsOk, IfErr, IsErrOf}
use Rattle.mos_bytes.specs.declared.source.Source.{Ghosts as Source}
use Rattle.pcap_source.specs.Captured.{Captured}
use Rattle.pcap_source.specs.Reading.{CaptureState, OpenGives, frames_at}
use Rattle.pcap_source.specs.declared.errors.NextError.{NextError}
use Rattle.pcap_source.specs.declared.errors.NextError.TheVariants as Next
use Rattle.pcap_source.specs.declared.errors.OpenError.{OpenError}
use Rattle.pcap_source.specs.declared.errors.OpenError.TheVariants as Open
use Rattle.worker_pool.specs.Source.{EndsInTail, ReadsOn}
use Rattle.worker_pool.specs.declared.job.PoolError.{PoolError}
use Rattle.worker_pool.specs.declared.job.PoolError.TheVariants as Pool
use Rattle.capture_replay.specs.declared.output.Output.{Output}
use Rattle.capture_replay.specs.declared.refusal.ReplayError.{ReplayError}
use Rattle.capture_replay.specs.declared.refusal.ReplayError.TheVariants as Replay
use Rattle.capture_replay.specs.Outcome.{is_forward}
use Rattle.capture_replay.specs.Reading.{Replaying, behind}
use Rattle.capture_replay.specs.Refusal.{header_refusal, pool_refusal, record_refusal}
use Rattle.capture_replay.specs.Runs.{AreUnrefused, IsIdle, ReadsFile}
use Rattle.capture_replay.proofs.Replaying.{StepTold}

pub err_same : {T : Type 0} (a b : ReplayError) → IsErrOf {T = T} (Err a) b → a ≡ b
err_same a b is = cc

pub no_ok : (T : Type 0) (e : ReplayError) → IsOk {T = T} (Err e) → ⊥
no_ok T e is = cc

module _ {S : Type 0} (source : Source S) (output : Output) (were : List ℕ → Type 0) (t : S) (idle : Type 0) where
  -- it stopped before anything was written that comes at the end
  pub reads_refused : (e : ReplayError) → e ≢ Replay.Heavy → (is_forward output ≡ false → idle)
      → (e ≡ Replay.ReadFault → (bytes : List ℕ) → were bytes → source.left t ≡ Some [] → AreUnrefused bytes) → ReadsFile source output were t idle (Err e)
  reads_refused e light still cut = record {
    ended = λ which. absurd (neither which);
    begun = λ kept. inl (still kept);
    cut = λ fault. cut (err_same e Replay.ReadFault fault);
  }
    where
      neither : IsOk {T = List ℕ} (Err e) ⊎ IsErrOf {T = List ℕ} (Err e) Replay.Heavy → ⊥
      neither (inl ok) = no_ok (List ℕ) e ok
      neither (inr heavy) = light (err_same e Replay.Heavy heavy)

  -- it read its source to the end
  pub reads_whole : (result : Result (List ℕ) ReplayError) → source.ended t → (IsErrOf result Replay.ReadFault → ⊥) → ReadsFile source output were t idle result
  reads_whole result ended never = record {
    ended = λ which. ended;
    begun = λ kept. inr ended;
    cut = λ fault. absurd (never fault);
  }

-- the same of a run on lanes that stopped
pub heavy_of : (T : Type 0) (e : ReplayError) → IsOk {T = T} (Err e) ⊎ IsErrOf {T = T} (Err e) Replay.Heavy → e ≡ Replay.Heavy
heavy_of T e (inl ok) = absurd (no_ok T e ok)
heavy_of T e (inr heavy) = err_same e Replay.Heavy heavy

-- ---- which refusals there are

pub no_heavy_header : (e : OpenError) → header_refusal e ≢ Replay.Heavy
no_heavy_header Open.BadMagic is = cc
no_heavy_header Open.BadVersion is = cc
no_heavy_header Open.BadLink is = cc
no_heavy_header (Open.ShortHeader n) is = cc
no_heavy_header Open.ReadFault is = cc

pub no_write_header : (e : OpenError) → header_refusal e ≢ Replay.WriteFault
no_write_header Open.BadMagic is = cc
no_write_header Open.BadVersion is = cc
no_write_header Open.BadLink is = cc
no_write_header (Open.ShortHeader n) is = cc
no_write_header Open.ReadFault is = cc

pub no_heavy_record : (e : NextError) → record_refusal e ≢ Replay.Heavy
no_heavy_record (Next.TooLong offset) is = cc
no_heavy_record (Next.TooMany offset) is = cc
no_heavy_record Next.ReadFault is = cc
no_heavy_record Next.NoMemory is = cc

pub pool_read_fault : (e : PoolError) → pool_refusal e ≡ Replay.ReadFault → e ≡ Pool.ReadFault
pool_read_fault (Pool.TooLong offset) is = absurd (cc)
pool_read_fault (Pool.TooMany offset) is = absurd (cc)
pool_read_fault Pool.ReadFault is = refl
pool_read_fault Pool.WriteFault is = absurd (cc)
pool_read_fault Pool.Heavy is = absurd (cc)
pool_read_fault Pool.NoMemory is = absurd (cc)

pub pool_heavy : (e : PoolError) → pool_refusal e ≡ Replay.Heavy → e ≡ Pool.Heavy
pool_heavy (Pool.TooLong offset) is = absurd (cc)
pool_heavy (Pool.TooMany offset) is = absurd (cc)
pool_heavy Pool.ReadFault is = absurd (cc)
pool_heavy Pool.WriteFault is = absurd (cc)
pool_heavy Pool.Heavy is = refl
pool_heavy Pool.NoMemory is = absurd (cc)

-- a packet that stops a run
pub no_heavy_packet : {P : Type 0} (e : ReplayError) → ((e ≡ Replay.WriteFault) × P) ⊎ (e ≡ Replay.NoMemory) → e ≢ Replay.Heavy
no_heavy_packet e (inl w) heavy = let same : Replay.WriteFault ≡ Replay.Heavy = sym w.0 ∙ heavy in cc
no_heavy_packet e (inr m) heavy = let same : Replay.NoMemory ≡ Replay.Heavy = sym m ∙ heavy in cc

-- writes nothing where packets aren't written
pub no_write_packet : (b : Bool) (e : ReplayError) → ((e ≡ Replay.WriteFault) × (b ≡ true)) ⊎ (e ≡ Replay.NoMemory) → b ≡ false → e ≢ Replay.WriteFault
no_write_packet b e (inl w) kept bad = let both : true ≡ false = sym w.1 ∙ kept in cc
no_write_packet b e (inr m) kept bad = let same : Replay.NoMemory ≡ Replay.WriteFault = sym m ∙ bad in cc

-- the end of a run meets no fault of the source
pub no_read_end : {T : Type 0} (result : Result T ReplayError) → IfErr result (λ e. (e ≡ Replay.WriteFault) ⊎ (e ≡ Replay.NoMemory) ⊎ (e ≡ Replay.Heavy)) → IsErrOf result Replay.ReadFault → ⊥
no_read_end (Ok t) only is = cc
no_read_end (Err e) (inl w) is = let same : Replay.WriteFault ≡ Replay.ReadFault = sym w ∙ err_same e Replay.ReadFault is in cc
no_read_end (Err e) (inr (inl m)) is = let same : Replay.NoMemory ≡ Replay.ReadFault = sym m ∙ err_same e Replay.ReadFault is in cc
no_read_end (Err e) (inr (inr h)) is = let same : Replay.Heavy ≡ Replay.ReadFault = sym h ∙ err_same e Replay.ReadFault is in cc

-- ---- what a fault of the source leaves

-- in the global header
pub cut_header : (old new : Option (List ℕ)) (bytes : List ℕ) (e : OpenError) → OpenGives old new (Err e) → header_refusal e ≡ Replay.ReadFault → old ≡ Some bytes → new ≡ Some [] → AreUnrefused bytes
cut_header None new bytes e gives is told none = absurd (cc)
cut_header (Some b) None bytes e gives is told none = absurd gives
cut_header (Some b) (Some after) bytes Open.ReadFault gives is told none =
    let same : b ≡ bytes = cc in
    let empty : after ≡ [] = cc in
    inl (subst (λ l. length l < 24) same (gives empty))
cut_header (Some b) (Some after) bytes Open.BadMagic gives is told none = absurd (cc)
cut_header (Some b) (Some after) bytes Open.BadVersion gives is told none = absurd (cc)
cut_header (Some b) (Some after) bytes Open.BadLink gives is told none = absurd (cc)
cut_header (Some b) (Some after) bytes (Open.ShortHeader n) gives is told none = absurd (cc)

-- in a record
pub cut_record : (bytes : List ℕ) (left after : Option (List ℕ)) (old new : CaptureState) (frames : List Captured) (frame : Captured) (e : NextError)
    → (r : Replaying bytes left old frames) → StepTold old new r.rest after frame (Err e) → record_refusal e ≡ Replay.ReadFault → after ≡ Some [] → AreUnrefused bytes
cut_record bytes left after old new frames frame (Next.TooLong offset) r step is none = absurd (cc)
cut_record bytes left after old new frames frame (Next.TooMany offset) r step is none = absurd (cc)
cut_record bytes left after old new frames frame Next.ReadFault r step is none =
    let told = step.told in
    let empty : step.rest ≡ [] = cc in
    let tail = step.steps empty in
    inr (behind frames (frames_at old r.rest), r.holds, (tail.0, ap (λ f. f.ending) tail.1))
cut_record bytes left after old new frames frame Next.NoMemory r step is none = absurd (cc)

-- in a run on lanes
pub cut_lanes : (bytes : List ℕ) (left : Option (List ℕ)) (capture : CaptureState) → (r : Replaying bytes left capture []) → EndsInTail (frames_at capture r.rest) → AreUnrefused bytes
cut_lanes bytes left capture r tail = inr (behind [] (frames_at capture r.rest), r.holds, tail)

-- ---- how far a run has read that stopped

-- at the global header
pub reads_header : {S O : Type 0} (source : Source S) (output : Output) (s t : S) (o : O) (e : OpenError) → OpenGives (source.left s) (source.left t) (Err e)
    → ReadsFile source output (λ bytes. source.left s ≡ Some bytes) t (IsIdle o o (Err (header_refusal e))) (Err (header_refusal e))
reads_header source output s t o e gives =
    reads_refused source output _ t _ (header_refusal e) (no_heavy_header e) (λ kept. (refl, λ fault. no_write_header e (err_same (header_refusal e) Replay.WriteFault fault)))
    (λ is bytes told none. cut_header (source.left s) (source.left t) bytes e gives is told none)

-- on lanes
pub reads_lanes : {S whole fault : Type 0} (source : Source S) (output : Output) (s t u : S) (capture : CaptureState) (idle : Type 0) (e : PoolError)
    → ReadsOn source capture t u whole fault → (e ≡ Pool.Heavy → whole) → (e ≡ Pool.ReadFault → fault) → (is_forward output ≡ false → idle)
    → ((bytes : List ℕ) → source.left s ≡ Some bytes → Replaying bytes (source.left t) capture [])
    → ReadsFile source output (λ bytes. source.left s ≡ Some bytes) u idle (Err (pool_refusal e))
reads_lanes source output s t u capture idle e reads heavy fault still replays = record {
  ended = λ which. reads.ended (heavy (pool_heavy e (heavy_of _ (pool_refusal e) which)));
  begun = λ kept. inl (still kept);
  cut = λ is bytes told none.
      let rep = replays bytes told in
      cut_lanes bytes (source.left t) capture rep (reads.cut (fault (pool_read_fault e (err_same (pool_refusal e) Replay.ReadFault is))) rep.rest rep.told none);
}
