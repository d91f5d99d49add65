-- Not of the headline. What the generated capture is, in the words of captures.
use Rattle.std.specs.Prelude.{◌≡◌, ℕ, ◌*◌, length, map, Ok}
use Rattle.pcap_source.specs.Capture.{Frames, capture_of, tail}
use Rattle.capture_maker.specs.Frames.{frame_of}
use Rattle.capture_maker.specs.Made.{made}
use Rattle.capture_maker.specs.Table.{step_segment}
use Rattle.capture_maker.specs.Turns.{turns_of}

-- the reader of captures takes all 10 n packets, whose bytes are the frames of the table in order, and no byte is left
pub record IsTaken (n : ℕ) : Type 0 where
  pub taken : Frames
  pub accepted : capture_of (made n) ≡ Ok taken
  pub packets : length taken.frames ≡ 10 * n
  pub frames : map (λ f. f.bytes) taken.frames ≡ map (λ t. frame_of t.connection (step_segment t.step t.connection)) (turns_of n)
  pub no_tail : taken.ending ≡ tail 0
