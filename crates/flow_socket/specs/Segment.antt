-- A segment at a receiver: its payload first, then its FIN (RFC 9293, section 3.10.7.4). The segment begins at a signed distance from next.
use Rattle.std.specs.Prelude.{ℕ, ◌+◌, ◌≤◌, ◌^◌, ℤ, pos, ◌+ℤ◌, ◌-ℤ◌, ◌≤ℤ◌, ◌<ℤ◌, Bool, true, false, ◌&&◌, List, length, if◌then◌else◌, ◌≡◌, Result, OnOk, OnErr}
use Rattle.reassembly.specs.declared.answers.Policy.{Policy}
use Rattle.reassembly.specs.declared.answers.Placed.{Placed}
use Rattle.reassembly.specs.declared.answers.FinNote.{FinNote}
use Rattle.reassembly.specs.declared.answers.FinNote.TheVariants.{Refused}
use Rattle.reassembly.specs.Receiver.{Receiver, next_of, wide_of}
use Rattle.reassembly.specs.Segment.{accept, counts}
use Rattle.reassembly.specs.Fin.{note_of, noted}
use Rattle.reassembly.specs.View.{StreamView}

-- the position of the first payload byte
abbrev pub start_at : ℤ → Receiver → ℤ
start_at distance r = pos (next_of r.cells) +ℤ distance

-- the receiver after the payload
unfoldable pub with_payload : ℕ → Policy → ℤ → List ℕ → Receiver → Receiver
with_payload rbuf policy distance payload r = accept r (start_at distance r) payload policy rbuf

-- how the bytes of the payload are judged
unfoldable pub placed_at : ℕ → ℤ → List ℕ → Receiver → Placed
placed_at rbuf distance payload r = counts r (start_at distance r) payload rbuf

abbrev pub nothing_placed : Placed
nothing_placed = record { new = 0; old = 0; differ = 0; over = 0 }

-- a FIN stands after the payload, at most at the end of the receive window from before the segment
abbrev pub fin_position : ℤ → List ℕ → Receiver → ℤ
fin_position distance payload r = start_at distance r +ℤ pos (length payload)

abbrev pub fin_edge : ℕ → Receiver → ℕ
fin_edge rbuf r = next_of r.cells + wide_of r rbuf

-- what becomes of the FIN, judged after the payload
unfoldable pub note_at : ℕ → Policy → ℤ → List ℕ → Receiver → FinNote
note_at rbuf policy distance payload r =
    note_of (with_payload rbuf policy distance payload r) (fin_position distance payload r) (fin_edge rbuf r)

abbrev pub is_refusal : FinNote → Bool
is_refusal Refused = true
is_refusal _ = false

-- the segment has a FIN, and it was refused
abbrev pub is_refused : ℕ → Policy → Bool → ℤ → List ℕ → Receiver → Bool
is_refused rbuf policy has_fin distance payload r = has_fin && is_refusal (note_at rbuf policy distance payload r)

-- the receiver after the payload and then the FIN, where the segment has one
unfoldable pub with_fin : ℕ → Policy → ℤ → List ℕ → Receiver → Receiver
with_fin rbuf policy distance payload r =
    noted (with_payload rbuf policy distance payload r) (fin_position distance payload r) (fin_edge rbuf r)

abbrev pub with_segment : ℕ → Policy → Bool → ℤ → List ℕ → Receiver → Receiver
with_segment rbuf policy has_fin distance payload r =
    if has_fin then with_fin rbuf policy distance payload r else with_payload rbuf policy distance payload r

-- what a stream asks of a segment and of the window that it has
pub record CanTake (s : StreamView) (distance : ℤ) (payload : List ℕ) (wide : ℕ) : Type 0 where
  pub low : (pos 0 -ℤ pos (2 ^ 31)) ≤ℤ distance
  pub high : distance <ℤ pos (2 ^ 31)
  pub bytes : length payload ≤ 65535
  pub next : s.next ≤ 2 ^ 62
  pub within : wide ≤ s.rbuf

-- the buffer stays, next rises by it at most, and nothing changes where memory is refused
pub record RisesByBuffer {T E : Type 0} (old new : StreamView) (result : Result T E) : Type 0 where
  pub rbuf : new.rbuf ≡ old.rbuf
  pub rise : OnOk result (new.next ≤ old.next + old.rbuf)
  pub err : OnErr result (new ≡ old)
