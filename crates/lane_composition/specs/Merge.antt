-- Not of the headline. The records of several lanes, each lane's by rising name, as one list.
use Rattle.std.specs.Prelude.{◌≡◌, ℕ, ◌==◌, if◌then◌else◌, List, [], ◌∷◌, map, get_or, filter}
use Rattle.std.specs.List.{All}
use Rattle.flow_table.specs.Key.{EndpointPair}
use Rattle.report_text.specs.declared.record.Record.{Record}
use Rattle.lane_core.specs.Sight.{Arrival}
use Rattle.run_outcome.specs.Lanes.{lane_of}
use Rattle.run_outcome.specs.Rising.{Rises}

-- the list of a lane; empty where there is none
abbrev pub list_at : {T : Type 0} → List (List T) → ℕ → List T
list_at lists l = get_or lists l []

module _ {T : Type 0} (name : T → ℕ) where
  abbrev pub names_in : List T → List ℕ
  names_in records = map name records

  -- where `of` tells the lane of each name, the lists are those of the lanes, and names rise in each
  pub record AreOfLanes (of : ℕ → ℕ) (lists : List (List T)) : Type 0 where
    pub own : (l : ℕ) → All (λ r. of (name r) ≡ l) (list_at lists l)
    pub rise : (l : ℕ) → Rises (names_in (list_at lists l))

  -- names rise, and each lane's part is its list
  pub record IsMerge (of : ℕ → ℕ) (lists : List (List T)) (merged : List T) : Type 0 where
    pub rises : Rises (names_in merged)
    pub parts : (l : ℕ) → filter (λ r. of (name r) == l) merged ≡ list_at lists l

-- the name under which the report shows a record
abbrev pub shown_name : Record → ℕ
shown_name r = r.name

-- the lane of a packet by its number
unfoldable pub lane_at : (EndpointPair → ℕ) → List Arrival → ℕ → ℕ
lane_at lane [] n = 0
lane_at lane (a ∷ rest) n = if a.number == n then lane_of lane a.sight else lane_at lane rest n
