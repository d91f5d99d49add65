-- The worker of an input, from its start to its end.
use Rattle.std.proofs.Common.{◌≡◌, true, List, [], ◌++◌, sym, ap, subst, ◌∙◌}
use Rattle.std.proofs.lemmas.List.{append-nil}
use Rattle.app_api.specs.App.{Meaning}
use Rattle.forest_versions.specs.declared.command.Command.{Command}
use Rattle.forest_versions.specs.Lawful.{are_lawful}
use Rattle.forest_versions.specs.State.{start}
use Rattle.lane_rings.specs.declared.items.Packet.{Packet}
use Rattle.lane_rings.specs.declared.items.Batch.{Batch}
use Rattle.lane_rings.specs.declared.ring.RingTx.{RingTx}
use Rattle.lane_rings.specs.Batch.{packets_in}
use Rattle.lane_rings.specs.Ring.{sent, taken, AreEnds}
use Rattle.lane_core.specs.declared.recorder.Recorder.{Ghosts}
use Rattle.lane_worker.specs.declared.worker.Worker.{Worker}
use Rattle.worker_pool.specs.declared.team.worker_place.WorkerPlace.TheVariants.{Inline}
use Rattle.worker_pool.specs.declared.team.lane_input.LaneInput.{LaneInput}
use Rattle.lane_worker.specs.Worked.{Worked, WorkedOn}
use Rattle.worker_pool.specs.Inputs.{IsPlaced, IsInput}
use Rattle.worker_pool.specs.Team.{HasServed}
use Rattle.lane_worker.proofs.Rings.{SameTx-refl}
use Rattle.lane_worker.proofs.Composed.{worked_two}
use Rattle.lane_worker.proofs.Beside.{ends_after}

module _ {L : Type 0} (g : Ghosts L) (script : List Command) where
  -- its ring is still the one into which its packets are sent
  pub ends_back : (begin back : Worker L) (packets : List Packet) (input : LaneInput L) → IsInput g script begin packets input → WorkedOn g script begin back
      → AreEnds input.packets back.packets
  ends_back begin back packets input is on =
      ends_after input.packets input.packets begin.packets back.packets is.ends (SameTx-refl input.packets) on.worked.took_packets.ring

  -- the script is as lawful with its application as before
  pub lawful_back : (begin back : Worker L) (packets : List Packet) (input : LaneInput L) → IsInput g script begin packets input → WorkedOn g script begin back
      → are_lawful (start (g.app back.lane).presets) script ≡ true
  lawful_back begin back packets input is on =
      subst (λ (m : Meaning). are_lawful (start m.presets) script ≡ true) (sym on.worked.app) is.lawful

  -- it came back to its input
  pub back_in : (input : LaneInput L) (back : Worker L) (begin : Worker L) (packets : List Packet) → IsInput g script begin packets input → WorkedOn g script begin back
      → IsInput g script begin packets (record input { place = Inline back })
  back_in input back begin packets is on = record { lawful = is.lawful; ends = is.ends; sent_are = is.sent_are; placed = on }

  -- it worked off what was left, beside the sending end, where no packet was unsent
  pub is_back : (input : LaneInput L) (back end : Worker L) (tx : RingTx Batch) → ((begin : Worker L) → IsPlaced g script begin input.place → WorkedOn g script begin back)
      → Worked g script back end → sent tx ≡ sent input.packets → taken end.packets ≡ sent tx → input.unsent ≡ []
      → (begin : Worker L) (packets : List Packet) → IsInput g script begin packets input → HasServed g script begin packets end
  is_back input back end tx came worked same all none begin packets is = record {
    worked = worked_two g script begin back end (came begin is.placed).worked worked;
    took = ap packets_in (all ∙ same) ∙ sym (append-nil (packets_in (sent input.packets))) ∙ ap (λ l. packets_in (sent input.packets) ++ l) (sym none) ∙ is.sent_are;
  }
