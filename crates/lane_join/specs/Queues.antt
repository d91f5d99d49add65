-- Only for proofs. The lists of lanes while they are merged.
use Rattle.std.specs.Prelude.{◌≡◌, ◌<◌, ◌≤◌, ℕ, nat_le, if◌then◌else◌, Option, Some, None, MatchOption, List, [], ◌∷◌, ◌++◌, length, map, slice_set}
use Rattle.lane_core.specs.declared.end.KeptEnd.{KeptEnd}
use Rattle.lane_core.specs.declared.under_way.RecordUnderWay.{RecordUnderWay}
use Rattle.lane_join.specs.declared.merging.Queue.{Queue}
use Rattle.lane_composition.specs.Merge.{list_at}

-- the name of a record
abbrev pub kept_name : RecordUnderWay → ℕ
kept_name r = r.name

-- the records of each lane
abbrev pub lists_in : List KeptEnd → List (List RecordUnderWay)
lists_in ends = map (λ end. end.records) ends

abbrev pub waiting : List Queue → List (List RecordUnderWay)
waiting queues = map (λ q. q.records.items) queues

abbrev pub first_name : List RecordUnderWay → Option ℕ
first_name [] = None
first_name (r ∷ rs) = Some r.name

-- of the first n lists, the one in a place has the lowest first name
pub record IsLowest (lists : List (List RecordUnderWay)) (n place name : ℕ) : Type 0 where
  pub below : place < n
  pub own : first_name (list_at lists place) ≡ Some name
  pub least : (l m : ℕ) → l < n → first_name (list_at lists l) ≡ Some m → name ≤ m

abbrev pub AreEmpty : List (List RecordUnderWay) → ℕ → Type 0
AreEmpty lists n = (l : ℕ) → l < n → first_name (list_at lists l) ≡ None

abbrev pub IsBest : Option (ℕ × ℕ) → List (List RecordUnderWay) → ℕ → Type 0
IsBest best lists n = MatchOption best (AreEmpty lists n) (λ b. IsLowest lists n b.0 b.1)

-- the lower of two first names, each with its place
abbrev pub lower_of : Option (ℕ × ℕ) → ℕ → ℕ → Option (ℕ × ℕ)
lower_of None place name = Some (place, name)
lower_of (Some b) place name = if nat_le b.1 name then Some b else Some (place, name)

-- the first record of the list with the lowest first name goes to the end of the merged ones
pub record Moves (old new : List (List RecordUnderWay)) (before after : List RecordUnderWay) : Type 0 where
  pub place : ℕ
  pub name : ℕ
  pub lowest : IsLowest old (length old) place name
  pub moved : RecordUnderWay
  pub rest : List RecordUnderWay
  pub was : list_at old place ≡ moved ∷ rest
  pub new_is : new ≡ slice_set old place rest
  pub after_is : after ≡ before ++ moved ∷ []
