-- Only for proofs. The pages of a stream and the bytes in them.
use Rattle.std.specs.Prelude.{◌≡◌, ℕ, ◌+◌, ◌-◌, ◌/◌, ◌%◌, ◌<◌, ◌≤◌, ◌^◌, not, ◌&&◌, nat_le, nat_lt, nat_eq, List, [], length, vec_len, Option, Some, None, slice_index, if◌then◌else◌}
use Rattle.std.specs.declared.vec.Vec.{Vec}
use Rattle.slab.specs.Slab.{get, ContainsKey}
use Rattle.reassembly.specs.declared.answers.Policy.{Policy}
use Rattle.reassembly.specs.declared.laying.Judged.{Judged}
use Rattle.reassembly.specs.declared.runs.Run.{Run}
use Rattle.reassembly.specs.declared.pages.Pages.{Pages}
use Rattle.reassembly.specs.Segment.{is_last, count_below}
use Rattle.reassembly.specs.Runs.{is_covered, AreOrdered}

-- the bytes of a page, none where there is no page
abbrev pub bytes_of : {A : Type 0} → Option (Vec ℕ A) → List ℕ
bytes_of None = []
bytes_of (Some page) = page.items

-- the bytes of the k-th page: none where there is no such page
abbrev pub page_at : Pages → ℕ → List ℕ
page_at s k = if nat_lt k (length s.keys.items) then bytes_of (get s.slab (slice_index s.keys.items k)) else []

-- the byte at a position: 0 past the end of its page
abbrev pub byte_of : Pages → ℕ → ℕ
byte_of s p = slice_index (page_at s ((p - s.base) / 2048)) ((p - s.base) % 2048)

-- the position's page reaches over it
abbrev pub IsHeld : Pages → ℕ → Type 0
IsHeld s p = (p - s.base) % 2048 < length (page_at s ((p - s.base) / 2048))

abbrev pub IsReady : Pages → ℕ → ℕ → Type 0
IsReady s low high = (p : ℕ) → low ≤ p → p < high → IsHeld s p

-- each key has a page, and two places have two keys
pub record IsKeyed (s : Pages) : Type 0 where
  pub present : (k : ℕ) → k < length s.keys.items → ContainsKey s.slab (slice_index s.keys.items k)
  pub apart : (j k : ℕ) → j < length s.keys.items → k < length s.keys.items → slice_index s.keys.items j ≡ slice_index s.keys.items k → j ≡ k

-- there is no page
pub record HasNoPages (s : Pages) : Type 0 where
  pub keyed : IsKeyed s
  pub none : vec_len s.keys ≡ 0

-- there is a k-th page
pub record HasPage (s : Pages) (k : ℕ) : Type 0 where
  pub keyed : IsKeyed s
  pub within : k < vec_len s.keys

-- low lies in the pages, or where they end
pub record ReachTo (s : Pages) (low : ℕ) : Type 0 where
  pub keyed : IsKeyed s
  pub from : s.base ≤ low
  pub within : (low - s.base) / 2048 ≤ vec_len s.keys

-- the n positions from low on are held
pub record HasPlaces (s : Pages) (low n : ℕ) : Type 0 where
  pub keyed : IsKeyed s
  pub from : s.base ≤ low
  pub ready : IsReady s low (low + n)
  pub reach : low + n < 2 ^ 64

-- they lie in one page
pub record AreInPage (s : Pages) (low n : ℕ) : Type 0 where
  pub some : 1 ≤ n
  pub within : (low - s.base) % 2048 + n ≤ 2048

-- the positions from low to below high, one at least, lie in the pages or behind them
pub record CanReach (s : Pages) (low high : ℕ) : Type 0 where
  pub keyed : IsKeyed s
  pub from : s.base ≤ low
  pub some : low < high

-- empty pages were added
pub record IsExtended (old new : Pages) : Type 0 where
  pub keyed : IsKeyed new
  pub base : new.base ≡ old.base
  pub pages : (k : ℕ) → page_at new k ≡ page_at old k

-- the k-th page alone may have changed
pub record IsChangedAt (old new : Pages) (k : ℕ) : Type 0 where
  pub base : new.base ≡ old.base
  pub keys : new.keys.items ≡ old.keys.items
  pub keyed : IsKeyed new
  pub others : (j : ℕ) → (j ≡ k → ⊥) → page_at new j ≡ page_at old j

-- there is more room, and no byte changed
pub record IsGrown (old new : Pages) : Type 0 where
  pub base : new.base ≡ old.base
  pub keyed : IsKeyed new
  pub bytes : (p : ℕ) → byte_of new p ≡ byte_of old p
  pub held : (p : ℕ) → IsHeld old p → IsHeld new p

-- bytes may have changed, and what is held hasn't
pub record IsSamePlace (old new : Pages) : Type 0 where
  pub base : new.base ≡ old.base
  pub keyed : IsKeyed new
  pub held : (p : ℕ) → IsHeld old p → IsHeld new p

-- the byte at p after the first n bytes were laid that stand from low on: at an accepted position the old one stays, unless
-- the last one does
abbrev pub laid_in : Pages → List Run → ℕ → Policy → List ℕ → ℕ → ℕ → ℕ
laid_in s runs low policy bytes n p = if (nat_le low p && nat_lt p (low + n)) && not (is_covered runs p && not (is_last policy)) then slice_index bytes (p - low) else byte_of s p

-- from the base on, the bytes are the old ones with these laid over them
abbrev pub AreLaid : Pages → Pages → List Run → ℕ → Policy → List ℕ → Type 0
AreLaid old new runs low policy bytes =
    (p : ℕ) → old.base ≤ p → byte_of new p ≡ laid_in old runs low policy bytes (length bytes) p

-- the bytes stand from low on, and the others are the old ones
abbrev pub AreAppended : Pages → Pages → ℕ → List ℕ → Type 0
AreAppended old new low bytes =
    (p : ℕ) → old.base ≤ p → byte_of new p ≡ (if nat_le low p && nat_lt p (low + length bytes) then slice_index bytes (p - low) else byte_of old p)

-- how they are judged
abbrev pub tally_in : Pages → List Run → ℕ → List ℕ → ℕ → Judged
tally_in s runs low bytes n = record {
  new = count_below (λ i. not (is_covered runs (low + i))) n;
  old = count_below (λ i. is_covered runs (low + i)) n;
  differ = count_below (λ i. is_covered runs (low + i) && not (nat_eq (byte_of s (low + i)) (slice_index bytes i))) n;
}

-- bytes may be laid from low on
pub record CanLay (s : Pages) (runs : List Run) (low : ℕ) (bytes : List ℕ) : Type 0 where
  pub places : HasPlaces s low (length bytes)
  pub ordered : AreOrdered runs
  pub short : length bytes ≤ 65535

-- they were laid and judged
pub record IsLaidOver (old new : Pages) (runs : List Run) (low : ℕ) (policy : Policy) (bytes : List ℕ) (tally : Judged) : Type 0 where
  pub place : IsSamePlace old new
  pub laid : AreLaid old new runs low policy bytes
  pub judged : tally ≡ tally_in old runs low bytes (length bytes)

-- how many of the first n bytes differ from those that are held
abbrev pub differing_in : Pages → ℕ → List ℕ → ℕ → ℕ
differing_in s low bytes n = count_below (λ i. not (nat_eq (byte_of s (low + i)) (slice_index bytes i))) n
