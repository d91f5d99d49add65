-- Not of the headline. How far a capture was read, and where it may be read on.
use Rattle.std.specs.Prelude.{◌≡◌, ℕ, Option, Some, List, ◌++◌, length}
use Rattle.pcap_source.specs.Captured.{Captured}
use Rattle.pcap_source.specs.Capture.{Frames}
use Rattle.pcap_source.specs.Reading.{CaptureState, frames_at}

-- these frames, and then others
abbrev pub behind : List Captured → Frames → Frames
behind frames f = record { frames = frames ++ f.frames; ending = f.ending }

-- of the bytes that a capture said at first these are left, and the frames so far and what is left are all of it
pub record IsReadTo (start : CaptureState) (bytes : List ℕ) (frames : List Captured) (capture : CaptureState) (left : Option (List ℕ)) : Type 0 where
  pub rest : List ℕ
  pub told : left ≡ Some rest
  pub holds : frames_at start bytes ≡ behind frames (frames_at capture rest)

-- a capture goes on behind the first of its records, which were read
pub record GoesOn (start capture : CaptureState) (old new : Option (List ℕ)) : Type 0 where
  pub frames : List Captured
  pub count : capture.count ≡ length frames
  pub read : (bytes : List ℕ) → old ≡ Some bytes → IsReadTo start bytes frames capture new
