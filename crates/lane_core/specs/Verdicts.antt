-- What becomes of the packets of a run: passed on, or dropped with a reason.
use Rattle.std.specs.Prelude.{ℕ, List, [], ◌∷◌, ◌++◌}
use Rattle.app_api.specs.App.{Meaning}
use Rattle.app_api.specs.declared.reaction.Reason.{Reason}
use Rattle.app_api.specs.declared.reaction.Verdict.{Verdict}
use Rattle.forest_versions.specs.State.{ControlState}
use Rattle.connection_core.specs.History.{drops_of}
use Rattle.lane_core.specs.Sight.{Arrival}
use Rattle.lane_core.specs.Records.{VersionedPacket, RecordSoFar, added, verdict_on}

-- packets in order, each with what becomes of it, behind the records so far
unfoldable pub verdicts_from : Meaning → (ℕ → ControlState) → List RecordSoFar → List VersionedPacket → List (Arrival × Verdict)
verdicts_from app control_at so_far [] = []
verdicts_from app control_at so_far (p ∷ ps) =
    (p.arrival, verdict_on app control_at p so_far) ∷ verdicts_from app control_at (added app control_at p so_far) ps

-- the packets among them that are dropped, by their numbers, each with its reason
unfoldable pub dropped_of : List (Arrival × Verdict) → List (ℕ × Reason)
dropped_of [] = []
dropped_of (j ∷ js) = drops_of j.1 j.0.number ++ dropped_of js
