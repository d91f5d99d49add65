-- A captured packet, as contracts see a frame.
use Rattle.std.specs.Prelude.{ℕ, List, ◌++◌}

-- its time in seconds and a fraction, its length on the wire, its record header of 16 bytes, its captured bytes
pub record Captured : Type 0 where
  pub seconds : ℕ
  pub fraction : ℕ
  pub original : ℕ
  pub head : List ℕ
  pub bytes : List ℕ

-- the bytes of its record: the header and what was captured
abbrev pub record_bytes : Captured → List ℕ
record_bytes frame = frame.head ++ frame.bytes
