-- Not of the headline. Where the open connection of a key stands among the records so far.
use Rattle.std.specs.Prelude.{◌≡◌, ℕ, suc, MatchBool, Bool, Option, Some, None, List, [], ◌∷◌, if◌then◌else◌}
use Rattle.flow_table.specs.Key.{EndpointPair}
use Rattle.lane_core.specs.Records.{RecordSoFar, is_open_at}

-- one place further on
abbrev pub further : Option ℕ → Option ℕ
further None = None
further (Some i) = Some (suc i)

-- the place of the first record that passes a test
unfoldable pub place_by : (RecordSoFar → Bool) → List RecordSoFar → Option ℕ
place_by test [] = None
place_by test (past ∷ pasts) = if test past then Some 0 else further (place_by test pasts)

abbrev pub place_of : EndpointPair → List RecordSoFar → Option ℕ
place_of key pasts = place_by (is_open_at key) pasts

-- no record behind the first that passes a test passes it too
unfoldable pub IsSingle : (RecordSoFar → Bool) → List RecordSoFar → Type 0
IsSingle test [] = Unit {0}
IsSingle test (past ∷ pasts) = MatchBool (test past) (place_by test pasts ≡ None) (IsSingle test pasts)
