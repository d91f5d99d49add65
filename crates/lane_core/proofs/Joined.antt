-- A connection that was idle for too long ends, and then the packet is placed: so the packet is added.
use Rattle.std.proofs.Common.{◌≡◌, ℕ, ◌+◌, false, Option, Some, None, List, [], ◌∷◌, length, refl, sym, ap, subst, ◌∙◌, map}
use Rattle.packet_views.specs.declared.packet.Class.{Class as ClassOf}
use Rattle.packet_views.specs.declared.packet.Class.TheVariants as Class
use Rattle.flow_table.specs.Key.{EndpointPair}
use Rattle.flow_table.specs.Table.{found}
use Rattle.app_api.specs.App.{Meaning}
use Rattle.app_api.specs.declared.reaction.Verdict.{Verdict}
use Rattle.report_text.specs.declared.record.RecordKind.TheVariants.{Orphan}
use Rattle.shared_forest.specs.declared.store.ForestView.{Ghosts}
use Rattle.forest_versions.specs.State.{ControlState}
use Rattle.forest_versions.specs.Master.{Versions, Tells}
use Rattle.connection_core.specs.History.{drops_of}
use Rattle.connection_core.specs.InForce.{registered_at}
use Rattle.connection_core.specs.Trees.{InternsWithin}
use Rattle.lane_core.specs.declared.records.Records.{Records}
use Rattle.lane_core.specs.Sight.{Segment, Sight, Moment, Tcp, Other, key_of_segment}
use Rattle.lane_core.specs.Records.{RecordSoFar, opens, belongs_to, started_by, ended_before, placed, verdict_among, added, verdict_on}
use Rattle.lane_core.specs.Shown.{kind_of, alterations}
use Rattle.lane_core.specs.Places.{place_of}
use Rattle.lane_core.specs.Idle.{IsGone}
use Rattle.lane_core.specs.Steps.{Taking}
use Rattle.lane_core.specs.Kept.{AreKept, IsOpenAt, arrived}
use Rattle.lane_core.specs.Packets.{KeepsSoFar, Adds, CostsToAdd, Leaves, Ends, AreAlike, Places, CostsToPlace, PlacesOrphan, IsTaken, Makes, packet_of}
use Rattle.lane_core.proofs.Ended.{ends_before, drops-kept, alterations-kept}
use Rattle.lane_core.proofs.Started.{orphan_costs}
use Rattle.lane_core.proofs.Places.{place_by-never}
use Rattle.lane_core.proofs.Idleness.{gone_kept, none_after}

-- a packet without a key ends nothing
others_stay : (app : Meaning) (control_at : ℕ → ControlState) (version number : ℕ) (moment : Moment) (class : ClassOf) (pasts : List RecordSoFar)
    → map (ended_before app control_at (arrived version number moment (Other class))) pasts ≡ pasts
others_stay app control_at version number moment class [] = refl
others_stay app control_at version number moment class (past ∷ pasts) = ap (λ l. past ∷ l) (others_stay app control_at version number moment class pasts)

module _ {F : Type 0} {store : Ghosts F} (t : Taking) (old mid new : Records F store) (key : EndpointPair) (segment : Segment) (key_is : key ≡ key_of_segment segment)
    (gone : IsGone old.master t.moment (found old.connections key)) (left : Leaves old mid) where
  abbrev before : (ℕ → ControlState) → List RecordSoFar → List RecordSoFar
  before control_at pasts = map (ended_before t.app control_at (packet_of t old (Tcp segment))) pasts

  altered_since : (control_at : ℕ → ControlState) (pasts : List RecordSoFar) (i j : Option ℕ)
      → InternsWithin i j (alterations (before control_at pasts)) (alterations (added t.app control_at (packet_of t old (Tcp segment)) pasts))
      → InternsWithin i j (alterations pasts) (alterations (added t.app control_at (packet_of t old (Tcp segment)) pasts))
  altered_since control_at pasts i j within =
      subst (λ n. InternsWithin i j n (alterations (added t.app control_at (packet_of t old (Tcp segment)) pasts)))
      (alterations-kept t.app control_at (ended_before t.app control_at (packet_of t old (Tcp segment))) (ends_before t.app control_at (packet_of t old (Tcp segment))) pasts) within

  taken_since : IsTaken t.number mid new → IsTaken t.number old new
  taken_since taken = record { master = taken.master ∙ left.master; dropped = taken.dropped ∙ left.dropped; next = taken.next }

  -- memory was refused for its end
  pub end_costs : mid.next ≡ t.number + 1 → CostsToAdd t old mid (Tcp segment)
  end_costs next = record {
    interned = λ control_at pasts tells now stands.
        let i = store.interns old.forests in
        rw left.forests (altered_since control_at pasts i i
        (orphan_costs t.app control_at t.keep old.master i (packet_of t old (Tcp segment)) (before control_at pasts)
        (subst (λ k. place_of k (before control_at pasts) ≡ None) key_is
        (none_after t control_at old tells pasts stands key segment key_is (started_by t.app control_at (packet_of t old (Tcp segment))) gone))));
    taken = record { master = left.master; dropped = left.dropped; next = next };
  }

  module _ (e : Ends t old mid key) where
    kept_so_far : (control_at : ℕ → ControlState) (pasts : List RecordSoFar) → ((v : ℕ) → Tells old.master v (control_at v)) → control_at old.master.version ≡ old.master.now
        → KeepsSoFar t.keep old pasts
        → AreKept t.keep (registered_at old.master) (store.content mid.forests) mid.connections mid.list.items mid.ledger.counts (before control_at pasts)
    kept_so_far control_at pasts tells now stands =
        subst (λ (m : Versions). AreKept t.keep (registered_at m) (store.content mid.forests) mid.connections mid.list.items mid.ledger.counts (before control_at pasts)) left.master
        (gone_kept t control_at old tells pasts stands key segment key_is (started_by t.app control_at (packet_of t old (Tcp segment))) mid gone now e)

    pub ended_then_placed : (verdict : Verdict) → Places t mid new (Tcp segment) verdict → Adds t old new (Tcp segment) verdict
    ended_then_placed verdict p = record {
      made = λ control_at pasts tells now stands.
          let made = subst (λ (m : Versions). (control_at : ℕ → ControlState) (so_far : List RecordSoFar) → ((v : ℕ) → Tells m v (control_at v)) → control_at m.version ≡ m.now
          → AreKept t.keep (registered_at m) (store.content mid.forests) mid.connections mid.list.items mid.ledger.counts so_far
          → Makes t mid new verdict (verdict_among t.app control_at (arrived m.version t.number t.moment (Tcp segment)) so_far) so_far
          (placed t.app control_at (arrived m.version t.number t.moment (Tcp segment)) so_far)) left.master p.made
          control_at (before control_at pasts) tells now (kept_so_far control_at pasts tells now stands) in
          record {
            stands = made.stands;
            interned = altered_since control_at pasts (store.interns old.forests) (store.interns new.forests)
                (subst (λ f. InternsWithin (store.interns f) (store.interns new.forests) (alterations (before control_at pasts)) (alterations (added t.app control_at (packet_of t old (Tcp segment)) pasts)))
                left.forests made.interned);
            verdict_is = made.verdict_is;
            dropped = made.dropped
                ∙ ap (λ n. n + length (drops_of verdict t.number))
                (drops-kept t.app control_at (ended_before t.app control_at (packet_of t old (Tcp segment))) (ends_before t.app control_at (packet_of t old (Tcp segment))) pasts);
          };
      taken = taken_since p.taken;
    }

    pub ended_then_costs : CostsToPlace t mid new (Tcp segment) → CostsToAdd t old new (Tcp segment)
    ended_then_costs p = record {
      interned = λ control_at pasts tells now stands.
          altered_since control_at pasts (store.interns old.forests) (store.interns new.forests)
          (subst (λ f. InternsWithin (store.interns f) (store.interns new.forests) (alterations (before control_at pasts)) (alterations (added t.app control_at (packet_of t old (Tcp segment)) pasts)))
          left.forests
          (subst (λ (m : Versions). (control_at : ℕ → ControlState) (so_far : List RecordSoFar) → ((v : ℕ) → Tells m v (control_at v)) → control_at m.version ≡ m.now
          → AreKept t.keep (registered_at m) (store.content mid.forests) mid.connections mid.list.items mid.ledger.counts so_far
          → InternsWithin (store.interns mid.forests) (store.interns new.forests) (alterations so_far)
          (alterations (placed t.app control_at (arrived m.version t.number t.moment (Tcp segment)) so_far))) left.master p.interned
          control_at (before control_at pasts) tells now (kept_so_far control_at pasts tells now stands)));
      taken = taken_since p.taken;
    }

-- a segment that opens none, of whose key none is open
module _ {F : Type 0} {store : Ghosts F} (t : Taking) (old new : Records F store) (segment : Segment) (shut : opens (Tcp segment) ≡ false)
    (absent : found old.connections (key_of_segment segment) ≡ None) where
  untaken : (pasts : List RecordSoFar) → AreKept t.keep (registered_at old.master) (store.content old.forests) old.connections old.list.items old.ledger.counts pasts
      → place_of (key_of_segment segment) pasts ≡ None
  untaken pasts stands =
      subst (λ o. IsOpenAt (registered_at old.master) (store.content old.forests) o (place_of (key_of_segment segment) pasts) pasts) absent (stands.placed (key_of_segment segment))

  pub orphan_placed : (verdict : Verdict) → PlacesOrphan t old new Class.Tcp (Some segment.head) verdict → IsTaken t.number old new → Places t old new (Tcp segment) verdict
  unfolding kind_of
  orphan_placed verdict o taken =
      let kind : kind_of (Tcp segment) ≡ Orphan Class.Tcp = rw shut refl in
      record {
        made = λ control_at pasts tells now stands.
            o.made (Tcp segment) control_at pasts tells now stands (record { kind = kind; raises = refl; shut = shut; untaken = untaken pasts stands });
        taken = taken;
      }

  pub orphan_costs_to_place : new.forests ≡ old.forests → IsTaken t.number old new → CostsToPlace t old new (Tcp segment)
  orphan_costs_to_place forests taken = record {
    interned = λ control_at pasts tells now stands. rw forests
        (orphan_costs t.app control_at t.keep old.master (store.interns old.forests) (packet_of t old (Tcp segment)) pasts (untaken pasts stands));
    taken = taken;
  }

-- a packet without a key
module _ {F : Type 0} {store : Ghosts F} (t : Taking) (old new : Records F store) (class : ClassOf) where
  pub other_added : (verdict : Verdict) → PlacesOrphan t old new class None verdict → IsTaken t.number old new → Adds t old new (Other class) verdict
  unfolding opens kind_of
  other_added verdict o taken = record {
    made = λ control_at pasts tells now stands.
        subst (λ l. Makes t old new verdict (verdict_among t.app control_at (packet_of t old (Other class)) l) pasts (placed t.app control_at (packet_of t old (Other class)) l))
        (sym (others_stay t.app control_at old.master.version t.number t.moment class pasts))
        (o.made (Other class) control_at pasts tells now stands
        (record { kind = refl; raises = refl; shut = refl; untaken = place_by-never (belongs_to (Other class)) pasts (λ past. refl) }));
    taken = taken;
  }

  pub other_costs : new.forests ≡ old.forests → IsTaken t.number old new → CostsToAdd t old new (Other class)
  other_costs forests taken = record {
    interned = λ control_at pasts tells now stands. rw forests
        (subst (λ l. InternsWithin (store.interns old.forests) (store.interns old.forests) (alterations pasts) (alterations (placed t.app control_at (packet_of t old (Other class)) l)))
        (sym (others_stay t.app control_at old.master.version t.number t.moment class pasts))
        (orphan_costs t.app control_at t.keep old.master (store.interns old.forests) (packet_of t old (Other class)) pasts (place_by-never (belongs_to (Other class)) pasts (λ past. refl))));
    taken = taken;
  }

-- a packet was added to records that are others', in a table that was prepared for it
module _ {F : Type 0} {store : Ghosts F} (t : Taking) (old mid new : Records F store) (alike : AreAlike old mid) where
  told : (control_at : ℕ → ControlState) → ((v : ℕ) → Tells old.master v (control_at v)) → (v : ℕ) → Tells mid.master v (control_at v)
  told control_at tells = subst (λ (m : Versions). (v : ℕ) → Tells m v (control_at v)) (sym alike.under.master) tells

  at_now : (control_at : ℕ → ControlState) → control_at old.master.version ≡ old.master.now → control_at mid.master.version ≡ mid.master.now
  at_now control_at now = subst (λ (m : Versions). control_at m.version ≡ m.now) (sym alike.under.master) now

  pub alike_made : (sight : Sight) (verdict : Verdict) → Adds t mid new sight verdict → (control_at : ℕ → ControlState) (pasts : List RecordSoFar) → ((v : ℕ) → Tells old.master v (control_at v))
      → control_at old.master.version ≡ old.master.now → KeepsSoFar t.keep old pasts
      → Makes t old new verdict (verdict_on t.app control_at (packet_of t old sight) pasts) pasts (added t.app control_at (packet_of t old sight) pasts)
  alike_made sight verdict a control_at pasts tells now stands =
      let made = subst (λ (m : Versions). Makes t mid new verdict (verdict_on t.app control_at (arrived m.version t.number t.moment sight) pasts) pasts
      (added t.app control_at (arrived m.version t.number t.moment sight) pasts)) alike.under.master
      (a.made control_at pasts (told control_at tells) (at_now control_at now) (alike.stands t.keep pasts stands)) in
      record {
        stands = made.stands;
        interned = subst (λ f. InternsWithin (store.interns f) (store.interns new.forests) (alterations pasts) (alterations (added t.app control_at (packet_of t old sight) pasts))) alike.under.forests made.interned;
        verdict_is = made.verdict_is;
        dropped = made.dropped;
      }

  pub alike_costs : (sight : Sight) → CostsToAdd t mid new sight → CostsToAdd t old new sight
  alike_costs sight c = record {
    interned = λ control_at pasts tells now stands.
        subst (λ f. InternsWithin (store.interns f) (store.interns new.forests) (alterations pasts) (alterations (added t.app control_at (packet_of t old sight) pasts))) alike.under.forests
        (subst (λ (m : Versions). InternsWithin (store.interns mid.forests) (store.interns new.forests) (alterations pasts)
        (alterations (added t.app control_at (arrived m.version t.number t.moment sight) pasts))) alike.under.master
        (c.interned control_at pasts (told control_at tells) (at_now control_at now) (alike.stands t.keep pasts stands)));
    taken = record { master = c.taken.master ∙ alike.under.master; dropped = c.taken.dropped ∙ alike.dropped; next = c.taken.next };
  }
