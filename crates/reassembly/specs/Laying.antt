-- Only for proofs. Laying a segment's bytes over cells of which some are accepted.
use Rattle.std.specs.Prelude.{◌≡◌, ℕ, ◌+◌, ◌<◌, ◌≤◌, Bool, not, ◌&&◌, nat_eq, List, length, slice_index, if◌then◌else◌}
use Rattle.reassembly.specs.declared.answers.Policy.{Policy}
use Rattle.reassembly.specs.declared.runs.Run.{Run}
use Rattle.reassembly.specs.declared.laying.Judged.{Judged}
use Rattle.reassembly.specs.declared.laying.Stretch.{Stretch}
use Rattle.reassembly.specs.Segment.{is_last, count_below}
use Rattle.reassembly.specs.Runs.{is_covered, IsCursor}

-- the bytes at the indices below n are these
abbrev pub HasBytes : List ℕ → ℕ → (ℕ → ℕ) → Type 0
HasBytes bytes n byte = (i : ℕ) → i < n → slice_index bytes i ≡ byte i

-- each index has the byte that it had; past the end it has 0
abbrev pub HasSameBytes : List ℕ → List ℕ → Type 0
HasSameBytes old new = (i : ℕ) → slice_index new i ≡ slice_index old i

-- each byte of a segment has its cell
pub record AreBeside (cells segment : List ℕ) : Type 0 where
  pub long : length cells ≡ length segment
  pub short : length segment ≤ 65535

-- how many of the first n bytes of two texts differ
abbrev pub differing_of : List ℕ → List ℕ → ℕ → ℕ
differing_of kept segment n = count_below (λ i. not (nat_eq (slice_index kept i) (slice_index segment i))) n

-- the byte at index i after the segment was laid: an accepted one stays, unless the last one does
abbrev pub laid_byte : List Run → ℕ → Policy → List ℕ → List ℕ → ℕ → ℕ
laid_byte runs start policy cells segment i = if is_covered runs (start + i) && not (is_last policy) then slice_index cells i else slice_index segment i

-- how the first n bytes of the segment are judged, where none lies below next or past the limit
abbrev pub tally_of : List Run → ℕ → List ℕ → List ℕ → ℕ → Judged
tally_of runs start cells segment n = record {
  new = count_below (λ i. not (is_covered runs (start + i))) n;
  old = count_below (λ i. is_covered runs (start + i)) n;
  differ = count_below (λ i. is_covered runs (start + i) && not (nat_eq (slice_index cells i) (slice_index segment i))) n;
}

-- how a stretch of n bytes is judged that is accepted as a whole, or not at all
abbrev pub tally_of_stretch : Bool → List ℕ → List ℕ → Judged
tally_of_stretch is_old cells segment = record {
  new = if is_old then 0 else length segment;
  old = if is_old then length segment else 0;
  differ = if is_old then differing_of cells segment (length segment) else 0;
}

abbrev pub tally_sum : Judged → Judged → Judged
tally_sum a b = record { new = a.new + b.new; old = a.old + b.old; differ = a.differ + b.differ }

-- the positions from `from` to below the stretch's end are all covered or all not, and its cursor stands there
pub record IsStretch (runs : List Run) (from stop : ℕ) (s : Stretch) : Type 0 where
  pub some : from < s.end
  pub within : s.end ≤ stop
  pub cursor : IsCursor runs s.cursor s.end
  pub alike : (p : ℕ) → from ≤ p → p < s.end → is_covered runs p ≡ s.is_old
