-- Not of the headline. What a run did to the source of an opened capture.
use Rattle.std.specs.Prelude.{◌≡◌, ℕ, List, [], Option, Some}
use Rattle.mos_bytes.specs.declared.source.Source.{Ghosts as Source}
use Rattle.mos_bytes.specs.Outside.{Reads}
use Rattle.pcap_source.specs.Capture.{Frames, tail}
use Rattle.pcap_source.specs.Reading.{CaptureState, frames_at}

-- the whole records of a capture end in a tail, which is no refusal
abbrev pub EndsInTail : Frames → Type 0
EndsInTail f = (n : ℕ) × (f.ending ≡ tail n)

-- An opened capture was read on. `whole` says that all of it was read, which is told only where the source has ended; `fault` that
-- a fault of the source is told: where nothing is left then, the bytes that were there have no refusal of their own.
pub record ReadsOn {S : Type 0} (source : Source S) (capture : CaptureState) (old new : S) (whole fault : Type 0) : Type 0 where
  pub reads : Reads source old new fault
  pub ended : whole → source.ended new
  pub cut : fault → (bytes : List ℕ) → source.left old ≡ Some bytes → source.left new ≡ Some [] → EndsInTail (frames_at capture bytes)

-- a source that told its bytes has none left
abbrev pub IsReadWhole : Option (List ℕ) → Option (List ℕ) → Type 0
IsReadWhole old new = (rest : List ℕ) → old ≡ Some rest → new ≡ Some []
