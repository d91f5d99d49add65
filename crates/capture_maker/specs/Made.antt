-- The generated capture of n connections.
use Rattle.std.specs.Prelude.{ℕ, ◌+◌, List, [], ◌∷◌, ◌++◌}
use Rattle.capture_maker.specs.Frames.{packet_record}
use Rattle.capture_maker.specs.Turns.{turns_of}
use Rattle.capture_maker.specs.declared.turns.Turn.{Turn}

-- the global header: microseconds, version 2.4, zone and accuracy 0, records of up to 65,535 bytes, Ethernet
unfoldable pub global_header : List ℕ
global_header = 0xa1 ∷ 0xb2 ∷ 0xc3 ∷ 0xd4 ∷ 0 ∷ 2 ∷ 0 ∷ 4 ∷ 0 ∷ 0 ∷ 0 ∷ 0 ∷ 0 ∷ 0 ∷ 0 ∷ 0 ∷ 0 ∷ 0 ∷ 0xff ∷ 0xff ∷ 0 ∷ 0 ∷ 0 ∷ 1 ∷ []

-- the records of these turns, which are packets from this index on
abbrev pub packet_records : ℕ → List Turn → List ℕ
packet_records index [] = []
packet_records index (t ∷ ts) = packet_record index t ++ packet_records (index + 1) ts

-- the bytes of the capture
unfoldable pub made : ℕ → List ℕ
made n = global_header ++ packet_records 0 (turns_of n)

-- a maker: how many connections it makes, and the bytes that are left
pub record MakerState : Type 0 where
  pub count : ℕ
  pub left : List ℕ
