-- Not of the headline. A record that is taken where it stands.
use Rattle.std.specs.Prelude.{◌≡◌, ◌≢◌, ℕ, ◌+◌, ◌≤◌, List, [], length, take, drop, Option, None, Some, IsTrue}
use Rattle.std.specs.Io.{StartsWith}
use Rattle.pcap_source.specs.Captured.{record_bytes}
use Rattle.pcap_source.specs.Capture.{record_at, with_frame}
use Rattle.pcap_source.specs.Order.{number_in}
use Rattle.pcap_source.specs.Reading.{CaptureState, IsRecord, Moves, frames_at}
use Rattle.pcap_source.specs.declared.order.Order.{Order}
use Rattle.pcap_source.specs.declared.capture.WholeRecord.{WholeRecord}

-- what a head says of its packet and of the length of its record
pub record Tells (order : Order) (head : List ℕ) (whole : WholeRecord) : Type 0 where
  pub seconds : whole.seconds ≡ number_in order 4 head
  pub fraction : whole.fraction ≡ number_in order 4 (drop 4 head)
  pub original : whole.original ≡ number_in order 4 (drop 12 head)
  pub len : whole.len ≡ 16 + number_in order 4 (drop 8 head)

-- the record at the front of these bytes was taken where it stands
pub record TakesInPlace (old new : CaptureState) (front : List ℕ) (whole : WholeRecord) : Type 0 where
  pub seconds : whole.seconds ≡ (record_at old.order front).seconds
  pub fraction : whole.fraction ≡ (record_at old.order front).fraction
  pub original : whole.original ≡ (record_at old.order front).original
  pub within : whole.len ≤ length front
  pub bytes : record_bytes (record_at old.order front) ≡ take whole.len front
  pub captured : (record_at old.order front).bytes ≡ drop 16 (take whole.len front)
  pub is_record : IsRecord old.order (record_at old.order front)
  pub moves : Moves old new (record_at old.order front)
  pub live : IsTrue new.is_live
  -- in bytes that begin so, it is the next record
  pub gives : (left : List ℕ) → StartsWith left front
      → frames_at old left ≡ with_frame (record_at old.order front) (frames_at new (drop whole.len left))

-- what bytes are left behind so many, where they are told
abbrev pub left_behind : ℕ → Option (List ℕ) → Option (List ℕ)
left_behind n None = None
left_behind n (Some left) = Some (drop n left)

-- so many bytes were passed over, where they were told
abbrev pub IsPassed : Option (List ℕ) → Option (List ℕ) → ℕ → Type 0
IsPassed old new count = (left : List ℕ) → old ≡ Some left → count ≤ length left → new ≡ Some (drop count left)

-- fewer than so many bytes were passed over, where they were told: some are left
abbrev pub StopsWithin : Option (List ℕ) → Option (List ℕ) → ℕ → Type 0
StopsWithin old new count = (left : List ℕ) → old ≡ Some left → count ≤ length left → new ≢ Some []
