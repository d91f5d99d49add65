-- A packet that starts a record: a connection that it opens, or an orphan.
use Rattle.std.proofs.Common.{◌≡◌, ℕ, ◌+◌, Bool, true, false, Option, Some, None, List, [], ◌∷◌, ◌++◌, length, refl, sym, ap, subst, ◌∙◌, arith}
use Rattle.std.proofs.lemmas.List.{map-append, length-map}
use Rattle.std.specs.Prelude.{if◌then◌else◌, ◌&&◌, not}
use Rattle.packet_views.specs.declared.packet.Head.{Head}
use Rattle.packet_views.specs.declared.packet.Class.{Class}
use Rattle.flow_table.specs.Key.{EndpointPair, same_key}
use Rattle.flow_table.specs.Table.{Flows, found}
use Rattle.flow_table.proofs.Keys.{same_key-equal}
use Rattle.app_api.specs.App.{Meaning}
use Rattle.app_api.specs.declared.reaction.Verdict.{Verdict}
use Rattle.app_api.specs.declared.entry.Entry.{Entry}
use Rattle.app_api.specs.declared.registration.Reg.{Reg}
use Rattle.shared_forest.specs.declared.store.ForestView.{Ghosts}
use Rattle.shared_forest.specs.declared.store.Shared.{Shared}
use Rattle.shared_forest.specs.Store.{Keeps}
use Rattle.shared_forest.specs.Lists.{TreeLists}
use Rattle.builtin_events.specs.Raises.{orphan_raises}
use Rattle.report_text.specs.declared.record.RecordKind.TheVariants.{Conn, Orphan}
use Rattle.forest_versions.specs.State.{ControlState}
use Rattle.forest_versions.specs.Master.{Versions, Tells}
use Rattle.connection_core.specs.declared.flow.Flow.{Flow}
use Rattle.connection_core.specs.declared.flow.Step.{Step}
use Rattle.connection_core.specs.declared.ledger.Counts.{Counts}
use Rattle.connection_core.specs.declared.ledger.Notes.{Notes}
use Rattle.connection_core.specs.History.{History, fresh, followed, verdict, orphan_history, orphan_verdict, drops_of, is_over, weight_of}
use Rattle.connection_core.specs.InForce.{registered_at}
use Rattle.connection_core.specs.Standing.{IsFlow, IsNoted, IsConnection}
use Rattle.connection_core.specs.Trees.{InternsWithin}
use Rattle.lane_core.specs.declared.connection.Connection.{Connection}
use Rattle.lane_core.specs.declared.records.Records.{Records}
use Rattle.lane_core.specs.declared.under_way.RecordUnderWay.{RecordUnderWay}
use Rattle.lane_core.specs.Sight.{Segment, Sight, Tcp, key_of_segment}
use Rattle.lane_core.specs.Records.{RecordSoFar, VersionedPacket, opens, is_between, is_open_at, belongs_to, side_of, history_after, verdict_after, orphan_raises_of, started_by, placed}
use Rattle.lane_core.specs.Shown.{kind_of, alterations, drop_count as drops_in}
use Rattle.lane_core.specs.End.{new_slot}
use Rattle.lane_core.specs.Places.{place_by, place_of}
use Rattle.lane_core.specs.Steps.{Taking, stage_in, stepped, IsOrphanNoted, Opens, opened_by}
use Rattle.lane_core.specs.Kept.{IsOpen, IsOpenAt, AreKept, slot_of}
use Rattle.lane_core.specs.Packets.{IsTaken, Places, CostsToPlace, PlacesOrphan, packet_of}
use Rattle.lane_core.proofs.Places.{place_with, place_by-append, placed-new, IsSingle-append}
use Rattle.lane_core.proofs.Holding.{and_true, and_false, left_of_and}
use Rattle.lane_core.proofs.Totals.{total-append, InternsWithin-others, InternsWithin-none}
use Rattle.lane_core.proofs.OpenFlows.{unopened, opened}
use Rattle.lane_core.proofs.Stored.{IsOpenAt-stored}
use Rattle.lane_core.proofs.Verdicts.{verdict_among-none}

is_false_true : (b : Bool) → b ≡ false → b ≡ true → ⊥
is_false_true true fails passes = cc
is_false_true false fails passes = cc

none_kept : (keep : Bool) (es : List Entry) → es ≡ [] → es ≡ (if keep then [] else [])
none_kept true es none = none
none_kept false es none = none

-- a connection of no packet, whose record has no callback
pub fresh_connection : (app : Meaning) (keep : Bool) (at : ℕ → Option Reg) (tree : TreeLists) (flow : Flow) (notes : Notes) (counts : Counts) (s : ControlState)
    → IsFlow at tree flow (fresh app s) → notes ≡ record { tally = app.fresh; entries = [] } → IsConnection keep counts at tree flow notes counts (fresh app s)
fresh_connection app keep at tree flow notes counts s new is = record {
  kept = new;
  noted = record {
    tally = ap (λ (n : Notes). n.tally) is;
    entries = none_kept keep notes.entries (ap (λ (n : Notes). n.entries) is);
    callbacks = omega arith;
    weight = omega arith;
  };
}

-- what the table has for a key, with one record more
started_at : (registered : ℕ → ℕ → Option Reg) (content : Shared → TreeLists) (flows after : Flows Connection) (pasts : List RecordSoFar)
    (past : RecordSoFar) (conn : Connection) (own key : EndpointPair) (over : Bool)
    → is_open_at key past ≡ (same_key own key && not over) → place_of own pasts ≡ None
    → found after key ≡ (if not over && same_key own key then Some conn else found flows key) → conn.place ≡ length pasts → IsOpen registered content conn past
    → IsOpenAt registered content (found flows key) (place_of key pasts) pasts
    → IsOpenAt registered content (found after key) (place_with (place_of key pasts) (is_open_at key past) (length pasts)) (pasts ++ past ∷ [])
started_at registered content flows after pasts past conn own key true own_key absent there last is at =
    unopened registered content flows after pasts past key (own_key ∙ and_false (same_key own key)) there at
started_at registered content flows after pasts past conn own key false own_key absent there last is at =
    opened registered content flows after pasts past conn own key (own_key ∙ and_true (same_key own key)) absent there last is at

module _ (app : Meaning) (control_at : ℕ → ControlState) (keep : Bool) (m : Versions) where
  abbrev registered : ℕ → ℕ → Option Reg
  registered = registered_at m

  -- what is noted of a record's callbacks shows in its record
  pub noted_slot : (name version : ℕ) (sight : Sight) (h : History) (notes : Notes) (others counts : Counts) (slot : RecordUnderWay)
      → slot.name ≡ name → slot.kind ≡ kind_of sight → slot.version ≡ version
      → slot.notes ≡ notes → slot.drops ≡ h.drops → IsNoted keep others h.tally h.entries notes counts
      → slot ≡ record { name = name; kind = kind_of sight; version = version; notes = record { tally = h.tally; entries = if keep then h.entries else [] }; drops = h.drops }
  noted_slot name version sight h notes others counts slot name_is kind_is version_is notes_are drops_are noted =
      let shown : notes ≡ record { tally = h.tally; entries = if keep then h.entries else [] } =
      ap (λ t. record { tally = t; entries = notes.entries }) noted.tally ∙ ap (λ es. record { tally = h.tally; entries = es }) noted.entries in
      ap (λ n. record slot { name = n }) name_is
      ∙ ap (λ k. record slot { name = name; kind = k }) kind_is
      ∙ ap (λ v. record slot { name = name; kind = kind_of sight; version = v }) version_is
      ∙ ap (λ n. record { name = name; kind = kind_of sight; version = version; notes = n; drops = slot.drops }) (notes_are ∙ shown)
      ∙ ap (λ ds. record { name = name; kind = kind_of sight; version = version; notes = record { tally = h.tally; entries = if keep then h.entries else [] }; drops = ds }) drops_are

  -- a packet that starts a record
  started : (content : Shared → TreeLists) (flows after : Flows Connection) (slots : List RecordUnderWay) (slot : RecordUnderWay)
      (counts counts' : Counts) (p : VersionedPacket) (pasts : List RecordSoFar)
      → AreKept keep registered content flows slots counts pasts → place_by (belongs_to p.arrival.sight) pasts ≡ None → slot ≡ slot_of keep (started_by app control_at p)
      → counts'.callbacks ≡ counts.callbacks + length (started_by app control_at p).history.entries → counts'.weight ≡ counts.weight + weight_of (started_by app control_at p).history.entries
      → ((key : EndpointPair) → IsOpenAt registered content (found after key)
      (place_with (place_of key pasts) (is_open_at key (started_by app control_at p)) (length pasts)) (pasts ++ started_by app control_at p ∷ []))
      → ((key : EndpointPair) → is_open_at key (started_by app control_at p) ≡ true → place_of key pasts ≡ None)
      → AreKept keep registered content after (slots ++ slot ∷ []) counts' (placed app control_at p pasts)
  started content flows after slots slot counts counts' p pasts stands none is callbacks weight placed alone =
      let new = placed-new app control_at p pasts none in
      let r = started_by app control_at p in
      rw new (record {
        shown = rw is (ap (λ ss. ss ++ slot_of keep r ∷ []) stands.shown ∙ sym (map-append (slot_of keep) pasts (r ∷ [])));
        placed = λ key. subst (λ o. IsOpenAt registered content (found after key) o (pasts ++ r ∷ [])) (sym (place_by-append (is_open_at key) pasts r)) (placed key);
        single = λ key. IsSingle-append (is_open_at key) pasts r (stands.single key) (alone key);
        counted = callbacks ∙ ap (λ n. n + length r.history.entries) stands.counted ∙ sym (total-append (λ q. length q.history.entries) pasts r);
        weighed = weight ∙ ap (λ n. n + weight_of r.history.entries) stands.weighed ∙ sym (total-append (λ q. weight_of q.history.entries) pasts r);
      })

  -- what its record's alterations cost, all of them cost
  pub altered_by : (interns interns' : Option ℕ) (p : VersionedPacket) (pasts : List RecordSoFar) → place_by (belongs_to p.arrival.sight) pasts ≡ None
      → InternsWithin interns interns' 0 (started_by app control_at p).history.altered → InternsWithin interns interns' (alterations pasts) (alterations (placed app control_at p pasts))
  altered_by interns interns' p pasts none costs =
      let r = started_by app control_at p in
      rw (placed-new app control_at p pasts none)
      (InternsWithin-others interns interns' (alterations pasts) 0 r.history.altered (alterations pasts) (alterations (pasts ++ r ∷ [])) (omega arith)
      (total-append (λ q. q.history.altered) pasts r) costs)

  -- ---- a packet of no connection

  -- it costs no intern
  pub orphan_costs : (interns : Option ℕ) (p : VersionedPacket) (pasts : List RecordSoFar) → place_by (belongs_to p.arrival.sight) pasts ≡ None
      → InternsWithin interns interns (alterations pasts) (alterations (placed app control_at p pasts))
  orphan_costs interns p pasts none = altered_by interns interns p pasts none (InternsWithin-none interns 0 (started_by app control_at p).history.altered (omega arith))

-- ---- a packet of no connection

-- its record
orphan_is : (t : Taking) (control_at : ℕ → ControlState) (version : ℕ) (sight : Sight) → opens sight ≡ false
    → (started_by t.app control_at (record { version = version; arrival = record { number = t.number; moment = t.moment; sight = sight } })).history
    ≡ orphan_history t.app (control_at version) t.number (orphan_raises_of sight)
orphan_is t control_at version sight shut = rw shut refl

module _ {F : Type 0} {store : Ghosts F} (t : Taking) (old new : Records F store) where
  pub orphan_started : (class : Class) (head : Option Head) (verdict : Verdict) (slot slot' : RecordUnderWay)
      → slot ≡ new_slot t.number (Orphan class) old.master.version t.app.fresh
      → IsOrphanNoted t old.master.now (record { slot = slot; counts = old.ledger.counts }) (record { slot = slot'; counts = new.ledger.counts }) (orphan_raises class head) verdict
      → new.master ≡ old.master → new.forests ≡ old.forests → new.connections ≡ old.connections → new.list.items ≡ old.list.items ++ slot' ∷ []
      → PlacesOrphan t old new class head verdict
  orphan_started class head verdict slot slot' slot_was as_noted master forests connections list = record {
    made = λ sight control_at pasts tells now_is stands orphan.
        let m = old.master in
        let content = store.content old.forests in
        let number = t.number in
        let counts = old.ledger.counts in
        let version = m.version in
        let p = packet_of t old sight in
        let r = started_by t.app control_at p in
        let h = orphan_history t.app m.now number (orphan_raises class head) in
        let notes_were = ap (λ (s : RecordUnderWay). s.notes) slot_was in
        let before : IsNoted t.keep counts t.app.fresh [] slot.notes counts = record {
          tally = ap (λ (n : Notes). n.tally) notes_were;
          entries = none_kept t.keep slot.notes.entries (ap (λ (n : Notes). n.entries) notes_were);
          callbacks = omega arith;
          weight = omega arith;
        } in
        let noted = as_noted.noted counts before in
        let dropped = as_noted.dropped counts before in
        let same : r.history ≡ h =
        orphan_is t control_at version sight orphan.shut ∙ ap (orphan_history t.app (control_at version) number) orphan.raises
        ∙ ap (λ c. orphan_history t.app c number (orphan_raises class head)) now_is in
        let shut_at : (key : EndpointPair) → is_open_at key r ≡ false = λ key. ap (λ b. b && is_between key sight && not (is_over r.history)) orphan.shut in
        let slot_is : slot' ≡ slot_of t.keep r =
        noted_slot t.app control_at t.keep m number version sight h slot'.notes counts new.ledger.counts slot'
        (as_noted.name ∙ ap (λ (s : RecordUnderWay). s.name) slot_was)
        (as_noted.kind ∙ ap (λ (s : RecordUnderWay). s.kind) slot_was ∙ sym orphan.kind)
        (as_noted.version ∙ ap (λ (s : RecordUnderWay). s.version) slot_was)
        refl
        (as_noted.drops ∙ ap (λ (s : RecordUnderWay). s.drops ++ drops_of verdict number) slot_was ∙ sym dropped) noted
        ∙ ap (λ (g : History). record {
          name = number;
          kind = kind_of sight;
          version = version;
          notes = record
              { tally = g.tally; entries = if t.keep then g.entries else [] };
          drops = g.drops;
        }) (sym same) in
        record {
          stands = rw (master, forests, connections, list)
              (started t.app control_at t.keep m content old.connections old.connections old.list.items slot' counts new.ledger.counts p pasts stands orphan.untaken slot_is
              (noted.callbacks ∙ ap (λ (g : History). counts.callbacks + length g.entries) (sym same))
              (noted.weight ∙ ap (λ (g : History). counts.weight + weight_of g.entries) (sym same))
              (λ key. unopened (registered_at m) content old.connections old.connections pasts r key (shut_at key) refl (stands.placed key))
              (λ key passes. absurd (is_false_true (is_open_at key r) (shut_at key) passes)));
          interned = rw forests (orphan_costs t.app control_at t.keep m (store.interns old.forests) p pasts orphan.untaken);
          verdict_is = as_noted.passes counts before ∙ ap (orphan_verdict t.app m.now number) (sym orphan.raises) ∙ ap (λ c. orphan_verdict t.app c number (orphan_raises_of sight)) (sym now_is)
              ∙ sym (verdict_among-none t.app control_at p pasts orphan.untaken ∙ (rw orphan.shut refl));
          dropped = ap drops_in (placed-new t.app control_at p pasts orphan.untaken) ∙ total-append (λ q. length q.history.drops) pasts r
              ∙ ap (λ ds. drops_in pasts + length ds) (ap (λ (g : History). g.drops) same ∙ dropped);
        };
  }

  -- ---- a segment that opens a connection

  module _ (key : EndpointPair) (segment : Segment) (key_is : key ≡ key_of_segment segment) (absent : found old.connections key ≡ None) (opening : opens (Tcp segment) ≡ true)
      (taken : IsTaken t.number old new) where
    none_open : (pasts : List RecordSoFar) → AreKept t.keep (registered_at old.master) (store.content old.forests) old.connections old.list.items old.ledger.counts pasts
        → place_of (key_of_segment segment) pasts ≡ None
    none_open pasts stands =
        subst (λ o. IsOpenAt (registered_at old.master) (store.content old.forests) o (place_of (key_of_segment segment) pasts) pasts)
        (ap (λ k. found old.connections k) (sym key_is) ∙ absent) (stands.placed (key_of_segment segment))

    pub opening_started : (conn' : Connection) (slot' : RecordUnderWay) (step : Step) → Keeps store.answered store.content old.forests new.forests
        → Opens t old.master old.ledger.counts (store.interns old.forests) (stage_in store new.forests conn' slot' new.ledger.counts) segment step
        → conn'.place ≡ length old.list.items → new.list.items ≡ old.list.items ++ slot' ∷ []
        → ((other : EndpointPair) → found new.connections other ≡ (if not step.over && same_key key other then Some conn' else found old.connections other))
        → Places t old new (Tcp segment) step.verdict
    unfolding history_after verdict_after kind_of is_between
    opening_started conn' slot' step stored o last list left = record {
      made = λ control_at pasts tells now_is stands.
          let m = old.master in
          let registered = registered_at m in
          let content = store.content old.forests in
          let content' = store.content new.forests in
          let number = t.number in
          let counts = old.ledger.counts in
          let version = m.version in
          let conn = o.conn in
          let slot = o.slot in
          let slot_was = o.slot_is in
          let fresh_flow : IsFlow (registered conn.version) o.tree conn.flow (fresh t.app (control_at version)) = subst (λ c. IsFlow (registered conn.version) o.tree conn.flow (fresh t.app c)) (sym now_is) o.fresh_flow in
          let p = packet_of t old (Tcp segment) in
          let own = key_of_segment segment in
          let r = started_by t.app control_at p in
          let s = control_at version in
          let h0 = fresh t.app s in
          let none = none_open pasts stands in
          let st = o.step_is in
          let told = subst (λ v. Tells m v s) (sym o.version) (tells version) in
          let notes_were = ap (λ (w : RecordUnderWay). w.notes) slot_was in
          let begun = fresh_connection t.app t.keep (registered conn.version) o.tree conn.flow slot.notes counts s fresh_flow notes_were in
          let went = st.stands s told counts h0 begun in
          let drops = st.drops s told counts h0 begun in
          let over = st.over s told counts h0 begun in
          let h1 = stepped t s conn segment h0 in
          let same : h1 ≡ r.history = rw opening (ap (λ c. followed t.app s number (side_of c segment) segment.head segment.scale segment.payload h0) o.client) in
          let noted = went.noted in
          let slot_is : slot' ≡ slot_of t.keep r =
          noted_slot t.app control_at t.keep m number version (Tcp segment) h1 slot'.notes counts new.ledger.counts slot'
          (ap (λ (w : RecordUnderWay). w.name) st.noted ∙ ap (λ (w : RecordUnderWay). w.name) slot_was)
          (ap (λ (w : RecordUnderWay). w.kind) st.noted ∙ ap (λ (w : RecordUnderWay). w.kind) slot_was ∙ ap (λ b. if b then Conn segment.sender segment.receiver else Orphan Class.Tcp) (sym opening))
          (ap (λ (w : RecordUnderWay). w.version) st.noted ∙ ap (λ (w : RecordUnderWay). w.version) slot_was)
          refl
          (ap (λ (w : RecordUnderWay). w.drops) st.noted ∙ ap (λ (w : RecordUnderWay). w.drops ++ drops_of step.verdict number) slot_was ∙ sym drops)
          noted
          ∙ ap (λ (g : History). record {
            name = number;
            kind = kind_of (Tcp segment);
            version = version;
            notes = record
                { tally = g.tally; entries = if t.keep then g.entries else [] };
            drops = g.drops;
          }) same in
          let open_is : IsOpen registered content' conn' r = record {
            sides = λ w. ap (λ c. side_of c w) (st.client ∙ o.client);
            version = st.version ∙ o.version;
            last = st.last;
            heard = st.heard;
            kept = subst (λ v. IsFlow (registered v) (content' conn'.flow.forest) conn'.flow r.history) (sym st.version)
                (subst (λ g. IsFlow (registered conn.version) (content' conn'.flow.forest) conn'.flow g) same went.kept);
          } in
          let own_key : (k : EndpointPair) → is_open_at k r ≡ (same_key own k && not step.over) = λ k.
          rw opening (ap (λ b. same_key own k && not b) (ap is_over (sym (ap (λ c. followed t.app s number (side_of c segment) segment.head segment.scale segment.payload h0) o.client)) ∙ sym over)) in
          let at = λ (k : EndpointPair). IsOpenAt-stored t.keep registered content content' (found old.connections k) (place_of k pasts) pasts
          (λ x there. stored.same_content x.flow.forest (old.live k x there).answered) (stands.placed k) in
          record {
            stands = rw (taken.master, list) (started t.app control_at t.keep m content' old.connections new.connections old.list.items slot' counts new.ledger.counts p pasts
                (record {
                  shown = stands.shown;
                  placed = at;
                  single = stands.single;
                  counted = stands.counted;
                  weighed = stands.weighed;
                })
                none slot_is
                (noted.callbacks ∙ ap (λ (g : History). counts.callbacks + length g.entries) same)
                (noted.weight ∙ ap (λ (g : History). counts.weight + weight_of g.entries) same)
                (λ k. started_at registered content' old.connections new.connections pasts r conn' own k step.over (own_key k) none
                (left k ∙ ap (λ w. if not step.over && same_key w k then Some conn' else found old.connections k) key_is)
                (last ∙ ap length stands.shown ∙ length-map pasts (slot_of t.keep)) open_is (at k))
                (λ k passes. subst (λ w. place_of w pasts ≡ None) (same_key-equal own k (left_of_and (same_key own k) (not step.over) (sym (own_key k) ∙ passes))) none));
            interned = altered_by t.app control_at t.keep m (store.interns old.forests) (store.interns new.forests) p pasts none
                (subst (λ (g : History). InternsWithin (store.interns old.forests) (store.interns new.forests) 0 g.altered) same (st.interned s told counts h0 begun));
            verdict_is = st.verdict_is s told counts h0 begun ∙ ap (λ c. verdict t.app s number (side_of c segment) segment.head segment.scale h0) o.client
                ∙ sym (verdict_among-none t.app control_at p pasts none ∙ (rw opening refl));
            dropped = ap drops_in (placed-new t.app control_at p pasts none) ∙ total-append (λ q. length q.history.drops) pasts r
                ∙ ap (λ ds. drops_in pasts + length ds) (ap (λ (g : History). g.drops) (sym same) ∙ drops);
          };
      taken = taken;
    }

    -- one that failed on its way
    pub opening_costs : InternsWithin (store.interns old.forests) (store.interns new.forests) 0 (opened_by t.app old.master.now t.number segment).altered
        → CostsToPlace t old new (Tcp segment)
    unfolding history_after
    opening_costs costs = record {
      interned = λ control_at pasts tells now_is stands.
          let p = packet_of t old (Tcp segment) in
          let same : opened_by t.app old.master.now t.number segment ≡ (started_by t.app control_at p).history = rw opening (ap (λ c. opened_by t.app c t.number segment) (sym now_is)) in
          altered_by t.app control_at t.keep old.master (store.interns old.forests) (store.interns new.forests) p pasts (none_open pasts stands)
          (subst (λ (g : History). InternsWithin (store.interns old.forests) (store.interns new.forests) 0 g.altered) same costs);
      taken = taken;
    }
