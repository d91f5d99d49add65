-- Not of the headline. What the definition of a capture means, in the words of the subject.
use Rattle.std.specs.Prelude.{◌≡◌, ℕ, ◌+◌, ◌-◌, ◌<◌, ◌≤◌, Bool, if◌then◌else◌, List, [], ◌∷◌, ◌++◌, length, take, false, All, Ok}
use Rattle.pcap_source.specs.Captured.{Captured}
use Rattle.pcap_source.specs.Capture.{Frames, ending_of, is_whole, tail, capture_of}
use Rattle.pcap_source.specs.Reading.{IsRecord}
use Rattle.pcap_source.specs.declared.order.Order.{Order}

-- records as they stand in a capture, one after another
abbrev pub written : List Captured → List ℕ
written [] = []
written (frame ∷ frames) = frame.head ++ (frame.bytes ++ written frames)

-- these bytes, of which n records are allowed, are the records and a rest: each record is whole, no further one stands
-- at the front of the rest where one more is allowed, and it is the rest that says how the capture ends
pub record IsLongestFront (order : Order) (n offset : ℕ) (bytes : List ℕ) (cut : Frames) : Type 0 where
  pub rest : List ℕ
  pub parts : bytes ≡ written cut.frames ++ rest
  pub whole : All (IsRecord order) cut.frames
  pub few : length cut.frames ≤ n
  pub longest : length cut.frames < n → is_whole order rest ≡ false
  pub ending : cut.ending ≡ ending_of order (n - length cut.frames) (offset + length (written cut.frames)) rest

-- the records at which a list of marks is true, in order; none behind the list's end
unfoldable pub marked : List Bool → List Captured → List Captured
marked [] frames = []
marked (mark ∷ marks) [] = []
marked (mark ∷ marks) (frame ∷ frames) = if mark then frame ∷ marked marks frames else marked marks frames

-- the header of a capture and some of its records, in their order, are a capture of these records without a tail
abbrev pub SomeRecordsAreACapture : Type 0
SomeRecordsAreACapture = (bytes : List ℕ) (f : Frames) (marks : List Bool) → capture_of bytes ≡ Ok f
    → capture_of (take 24 bytes ++ written (marked marks f.frames)) ≡ Ok (record { frames = marked marks f.frames; ending = tail 0 })
