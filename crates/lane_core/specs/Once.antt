-- Not of the headline. Each packet stands in one record, and each packet that is dropped in one drop of a record.
use Rattle.std.specs.Prelude.{ℕ, if◌then◌else◌, Option, List, [], ◌∷◌, ◌++◌, map}
use Rattle.std.specs.List.{list_any}
use Rattle.std.specs.List.Sorted.{IsPermutation}
use Rattle.app_api.specs.App.{Meaning}
use Rattle.app_api.specs.declared.reaction.Reason.{Reason}
use Rattle.forest_versions.specs.State.{ControlState}
use Rattle.lane_core.specs.Sight.{Moment, Arrival}
use Rattle.lane_core.specs.Records.{VersionedPacket, RecordSoFar, started_by, continued_by, ended_before, ended_at, added, records}
use Rattle.lane_core.specs.Laws.{takes}
use Rattle.lane_core.specs.Verdicts.{verdicts_from, dropped_of}

-- ---- drops

-- the dropped packets of records, in the order in which a report lists them
unfoldable pub drops_in : List RecordSoFar → List (ℕ × Reason)
drops_in [] = []
drops_in (so_far ∷ others) = so_far.history.drops ++ drops_in others

-- The dropped packets of the records are those whose verdict is a drop, each once and with its reason: while packets come, and at the
-- end. `last` is the greatest moment of all packets.
pub record DropsAreVerdicts : Type 0 where
  pub so_far : (app : Meaning) (control_at : ℕ → ControlState) (ps : List VersionedPacket)
      → IsPermutation (dropped_of (verdicts_from app control_at [] ps)) (drops_in (records app control_at ps))
  pub at_end : (app : Meaning) (control_at : ℕ → ControlState) (last : Option Moment) (ps : List VersionedPacket)
      → IsPermutation (dropped_of (verdicts_from app control_at [] ps)) (drops_in (map (ended_at app control_at last) (records app control_at ps)))

-- ---- packets

module _ (app : Meaning) (control_at : ℕ → ControlState) where
  -- the packets that a record takes of later ones
  unfoldable pub taken_through : RecordSoFar → List VersionedPacket → List Arrival
  taken_through so_far [] = []
  taken_through so_far (p ∷ ps) =
      let now = ended_before app control_at p so_far in
      if takes app control_at p so_far then p.arrival ∷ taken_through (continued_by app control_at p.arrival now) ps else taken_through now ps

  -- The packets of each record that packets start, in order of the records' names: the one that starts it, and those that it takes.
  unfoldable pub packets_after : List RecordSoFar → List VersionedPacket → List (List Arrival)
  packets_after so_far [] = []
  packets_after so_far (p ∷ ps) =
      if list_any (takes app control_at p) so_far then packets_after (added app control_at p so_far) ps
      else (p.arrival ∷ taken_through (started_by app control_at p) ps) ∷ packets_after (added app control_at p so_far) ps

-- all of some lists, one behind the other
unfoldable pub joined : {X : Type 0} → List (List X) → List X
joined [] = []
joined (xs ∷ others) = xs ++ joined others

-- The packets of all records are the packets, each once.
abbrev pub PacketsStandOnce : Type 0
PacketsStandOnce = (app : Meaning) (control_at : ℕ → ControlState) (ps : List VersionedPacket)
    → IsPermutation (map (λ p. p.arrival) ps) (joined (packets_after app control_at [] ps))
