-- Only for proofs. The buffer of a stream and what it holds.
use Rattle.std.specs.Prelude.{◌≡◌, ℕ, ◌+◌, ◌-◌, ◌<◌, ◌≤◌, ◌^◌, Bool, max, not, ◌&&◌, nat_le, nat_eq, true, List, [], ◌∷◌, length, map, Option, Some, None, is_some, slice_index, if◌then◌else◌}
use Rattle.std.specs.List.{range_with_len}
use Rattle.reassembly.specs.declared.answers.Policy.{Policy}
use Rattle.reassembly.specs.declared.laying.Judged.{Judged}
use Rattle.reassembly.specs.declared.runs.Run.{Run}
use Rattle.reassembly.specs.declared.window.Window.{Window}
use Rattle.reassembly.specs.Segment.{is_last, has_byte, count_below}
use Rattle.reassembly.specs.Runs.{is_accepted, is_covered, AreOrdered, AreAbove, AreWithin}
use Rattle.reassembly.specs.Pages.{byte_of, IsHeld, IsKeyed, tally_in}
use Rattle.reassembly.specs.Waiting.{runs_of}
use Rattle.reassembly.specs.View.{StreamView}

-- the greatest of a position and of where the runs end
abbrev pub last_end : ℕ → List Run → ℕ
last_end end [] = end
last_end end (run ∷ runs) = last_end (max end run.end) runs

-- where the accepted positions end
abbrev pub end_of : Window → ℕ
end_of w = last_end w.next (runs_of w.runs)

-- the byte in the buffer that stands at a position
abbrev pub byte_at : Window → ℕ → ℕ
byte_at w p = byte_of w.bytes p

-- the position is accepted: it lies below next, or in a run
abbrev pub accepts : Window → ℕ → Bool
accepts w p = is_accepted w.next (runs_of w.runs) p

-- the cell at a position that the buffer still has
abbrev pub cell_at : Window → ℕ → Option ℕ
cell_at w p = if accepts w p then Some (byte_at w p) else None

-- the kept cells: those from rbuf below next upward
abbrev pub kept_at : Window → ℕ → ℕ → Option ℕ
kept_at w rbuf p = if nat_le (w.next - rbuf) p then cell_at w p else None

abbrev pub view_of : Window → Option ℕ → ℕ → StreamView
view_of w fin rbuf = record { next = w.next; kept = map (kept_at w rbuf) (range_with_len 0 (end_of w)); fin = fin; rbuf = rbuf }

-- the buffer holds what is accepted, and the runs are in order and lie above next
pub record IsLaid (w : Window) : Type 0 where
  pub keyed : IsKeyed w.bytes
  pub held : (p : ℕ) → w.bytes.base ≤ p → is_accepted w.next (runs_of w.runs) p ≡ true → IsHeld w.bytes p
  pub ordered : AreOrdered (runs_of w.runs)
  pub above : AreAbove (runs_of w.runs) w.next

-- the buffer has the kept range and no page below it, and what is accepted lies in the window
pub record IsSized (w : Window) (rbuf : ℕ) : Type 0 where
  pub kept : w.bytes.base ≤ w.next - rbuf
  pub stale : w.next - rbuf < w.bytes.base + 2048
  pub span : AreWithin (runs_of w.runs) (w.next + rbuf)

-- what is kept of it can be found
pub record IsKept (w : Window) (rbuf : ℕ) : Type 0 where
  pub laid : IsLaid w
  pub least : 1 ≤ rbuf

-- it has all of the n positions from p on
pub record CanCopy (w : Window) (p n : ℕ) : Type 0 where
  pub laid : IsLaid w
  pub from : w.bytes.base ≤ p
  pub some : 0 < n
  pub accepted : (q : ℕ) → p ≤ q → q < p + n → accepts w q ≡ true
  pub reach : p + n < 2 ^ 64

-- a part of a segment can be laid from low on
pub record HasRoomFor (w : Window) (low : ℕ) (bytes : List ℕ) : Type 0 where
  pub laid : IsLaid w
  pub short : length bytes ≤ 65535
  pub reach : low + length bytes < 2 ^ 63

-- a segment from q on can be placed
pub record IsReadyFor (w : Window) (q : ℕ) (segment : List ℕ) (rbuf : ℕ) : Type 0 where
  pub laid : IsLaid w
  pub sized : IsSized w rbuf
  pub short : length segment ≤ 65535
  pub start : q + 65535 < 2 ^ 63
  pub end : w.next + rbuf < 2 ^ 63

-- nothing is accepted at the limit or past it
pub record IsBounded (w : Window) (limit : ℕ) : Type 0 where
  pub next : w.next ≤ limit
  pub runs : AreWithin (runs_of w.runs) limit

-- what is true of every stream: nothing is accepted at a noted FIN or past it
pub record IsWhole (w : Window) (noted : Option ℕ) (rbuf : ℕ) : Type 0 where
  pub laid : IsLaid w
  pub sized : IsSized w rbuf
  pub least : 1 ≤ rbuf
  pub most : rbuf ≤ 1048576
  pub fin : (f : ℕ) → noted ≡ Some f → IsBounded w f

-- the content is the same; the pages may reach further
pub record IsSameWindow (old new : Window) : Type 0 where
  pub base : new.bytes.base ≡ old.bytes.base
  pub next : new.next ≡ old.next
  pub runs : runs_of new.runs ≡ runs_of old.runs
  pub keyed : IsKeyed new.bytes
  pub bytes : (p : ℕ) → byte_at new p ≡ byte_at old p
  pub held : (p : ℕ) → IsHeld old.bytes p → IsHeld new.bytes p

-- the cell at p after bytes were taken that stand from low on, at or above next and below the limit
abbrev pub taken_cell : Policy → ℕ → List ℕ → ℕ → Option ℕ → Option ℕ
taken_cell policy low bytes p c = if has_byte low bytes p && not (is_some c && not (is_last policy)) then Some (slice_index bytes (p - low)) else c

-- each cell is so after them
abbrev pub AreTaken : Policy → ℕ → List ℕ → Window → Window → Type 0
AreTaken policy low bytes old new =
    (p : ℕ) → old.bytes.base ≤ p → cell_at new p ≡ taken_cell policy low bytes p (cell_at old p)

-- the cell at p after bytes came again that stand from low on: none is accepted anew, and an old one is replaced where
-- the last one stays
abbrev pub again_cell : Policy → ℕ → List ℕ → ℕ → Option ℕ → Option ℕ
again_cell policy low bytes p c =
    if has_byte low bytes p && (is_some c && is_last policy) then Some (slice_index bytes (p - low)) else c

-- each cell is so after them
abbrev pub AreAgain : Policy → ℕ → List ℕ → Window → Window → Type 0
AreAgain policy low bytes old new =
    (p : ℕ) → old.bytes.base ≤ p → cell_at new p ≡ again_cell policy low bytes p (cell_at old p)

-- from low to below high the runs have what is accepted, and nothing else
abbrev pub HaveAccepted : Window → List Run → ℕ → ℕ → Type 0
HaveAccepted w met low high = (p : ℕ) → low ≤ p → p < high → is_covered met p ≡ accepts w p

-- how those bytes are judged
abbrev pub taken_tally : Window → ℕ → List ℕ → Judged
taken_tally w low bytes = tally_in w.bytes (runs_of w.runs) low bytes (length bytes)

-- how many bytes of a segment from q on, all of them below next, differ from the kept ones
abbrev pub differing_below : Window → ℕ → ℕ → List ℕ → ℕ
differing_below w rbuf q bytes = count_below (λ i. nat_le (w.next - rbuf) (q + i) && not (nat_eq (byte_at w (q + i)) (slice_index bytes i))) (length bytes)
