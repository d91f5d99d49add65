-- Not of the headline. What becomes of each packet. A verdict is any function `judge` of the version and the packets so far of the packet's record,
-- and of the packet.
use Rattle.std.specs.Prelude.{ℕ, if◌then◌else◌, List, [], ◌∷◌}
use Rattle.std.specs.List.{flat_map}
use Rattle.app_api.specs.declared.reaction.Verdict.{Verdict}
use Rattle.app_api.specs.declared.reaction.Verdict.TheVariants.{Pass, Drop}
use Rattle.lane_core.specs.Sight.{Arrival}
use Rattle.lane_core.specs.Records.{VersionedPacket}
use Rattle.lane_composition.specs.Members.{Endings, Members, packets_of, takes, found, added}

module _ (endings : Endings) (judge : ℕ → List Arrival → Arrival → Verdict) where
  -- the verdict of a packet among the records that it finds: in the one that it joins, else in the one that it begins
  unfoldable pub verdict_among : VersionedPacket → List Members → Verdict
  verdict_among p [] = judge p.version [] p.arrival
  verdict_among p (m ∷ ms) =
      if takes endings p.arrival.sight m then judge m.version (packets_of m) p.arrival else verdict_among p ms

  -- the verdict of one more packet
  abbrev pub verdict_of : VersionedPacket → List Members → Verdict
  verdict_of p ms = verdict_among p (found endings p.arrival ms)

  unfoldable pub judged_from : List Members → List VersionedPacket → List (Arrival × Verdict)
  judged_from ms [] = []
  judged_from ms (p ∷ ps) = (p.arrival, verdict_of p ms) ∷ judged_from (added endings p ms) ps

  -- the packets in order, each with its verdict
  abbrev pub judged : List VersionedPacket → List (Arrival × Verdict)
  judged ps = judged_from [] ps

-- what a packet leaves: its bytes where it passes, and nothing where it is dropped
abbrev pub bytes_under : Verdict → List ℕ → List ℕ
bytes_under Pass bytes = bytes
bytes_under (Drop reason) bytes = []

-- what packets leave, where `bytes` tells how each was captured
abbrev pub forwarded : (Arrival → List ℕ) → List (Arrival × Verdict) → List ℕ
forwarded bytes js = flat_map (λ j. bytes_under j.1 (bytes j.0)) js
