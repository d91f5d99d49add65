-- What a record that can't be read is refused as.
use Rattle.std.proofs.Common.{◌≡◌, Result, Err, refl, sym, ◌∙◌, inl, inr}
use Rattle.std.specs.Prelude.{◌⊎◌}
use Rattle.pcap_source.specs.declared.errors.NextError.{NextError}
use Rattle.pcap_source.specs.declared.errors.NextError.TheVariants as Next
use Rattle.capture_replay.specs.declared.refusal.ReplayError.{ReplayError}
use Rattle.capture_replay.specs.declared.refusal.ReplayError.TheVariants as Replay
use Rattle.capture_replay.specs.Refusal.{record_refusal}

pub is_read_fault : (e : NextError) → record_refusal e ≡ Replay.ReadFault → e ≡ Next.ReadFault
is_read_fault (Next.TooLong offset) is = absurd (cc)
is_read_fault (Next.TooMany offset) is = absurd (cc)
is_read_fault Next.ReadFault is = refl
is_read_fault Next.NoMemory is = absurd (cc)

pub no_write_fault : (e : NextError) → record_refusal e ≡ Replay.WriteFault → ⊥
no_write_fault (Next.TooLong offset) is = cc
no_write_fault (Next.TooMany offset) is = cc
no_write_fault Next.ReadFault is = cc
no_write_fault Next.NoMemory is = cc

pub same_error : {T : Type 0} (a b : ReplayError) (r : Result T ReplayError) → r ≡ Err a → r ≡ Err b → a ≡ b
same_error a b r one two = cc

-- ---- what stops a packet

pub no_read_fault : {P : Type 0} (e : ReplayError) → ((e ≡ Replay.WriteFault) × P) ⊎ (e ≡ Replay.NoMemory) → e ≡ Replay.ReadFault → ⊥
no_read_fault e (inl w) bad = let same : Replay.WriteFault ≡ Replay.ReadFault = sym w.0 ∙ bad in cc
no_read_fault e (inr m) bad = let same : Replay.NoMemory ≡ Replay.ReadFault = sym m ∙ bad in cc
