-- A segment that the open connection of its key takes is added to the records; one at which it failed cost what adding it costs.
use Rattle.std.proofs.Common.{◌≡◌, ℕ, List, refl, sym, subst, map}
use Rattle.shared_forest.specs.declared.store.ForestView.{Ghosts}
use Rattle.forest_versions.specs.State.{ControlState}
use Rattle.forest_versions.specs.Master.{Tells}
use Rattle.connection_core.specs.declared.flow.Step.{Step}
use Rattle.connection_core.specs.Trees.{InternsWithin}
use Rattle.lane_core.specs.declared.records.Records.{Records}
use Rattle.lane_core.specs.Sight.{Segment, Tcp, key_of_segment}
use Rattle.lane_core.specs.Records.{RecordSoFar, started_by, ended_before, placed, verdict_among}
use Rattle.lane_core.specs.Shown.{alterations}
use Rattle.lane_core.specs.Idle.{IsHeard}
use Rattle.lane_core.specs.Steps.{Taking}
use Rattle.lane_core.specs.Packets.{KeepsSoFar, Takes, Follows, Costs, Makes, Adds, CostsToAdd, packet_of}
use Rattle.lane_core.proofs.Continued.{continued, continued_costs}
use Rattle.lane_core.proofs.Idleness.{heard_before_is}

module _ {F : Type 0} {store : Ghosts F} (t : Taking) (old new : Records F store) (segment : Segment) where
  -- no record ends before it
  none_ends : (control_at : ℕ → ControlState) (pasts : List RecordSoFar) → ((v : ℕ) → Tells old.master v (control_at v)) → KeepsSoFar t.keep old pasts
      → Takes t old segment → map (ended_before t.app control_at (packet_of t old (Tcp segment))) pasts ≡ pasts
  none_ends control_at pasts tells stands by =
      heard_before_is t control_at old tells pasts stands (key_of_segment segment) segment refl
      (subst (λ o. IsHeard old.master t.moment o) (sym by.was) by.heard) (started_by t.app control_at (packet_of t old (Tcp segment)))

  pub follows_adds : (step : Step) → Follows t old new segment step → Adds t old new (Tcp segment) step.verdict
  follows_adds step f = record {
    made = λ control_at pasts tells now stands.
        subst (λ l. Makes t old new step.verdict (verdict_among t.app control_at (packet_of t old (Tcp segment)) l) pasts (placed t.app control_at (packet_of t old (Tcp segment)) l))
        (sym (none_ends control_at pasts tells stands f.by)) (continued t control_at old new segment step pasts tells stands f);
    taken = f.taken;
  }

  pub costs_to_add : Costs t old new segment → CostsToAdd t old new (Tcp segment)
  costs_to_add f = record {
    interned = λ control_at pasts tells now stands.
        subst (λ l. InternsWithin (store.interns old.forests) (store.interns new.forests) (alterations pasts) (alterations (placed t.app control_at (packet_of t old (Tcp segment)) l)))
        (sym (none_ends control_at pasts tells stands f.by)) (continued_costs t control_at old new segment pasts tells stands f);
    taken = f.taken;
  }
