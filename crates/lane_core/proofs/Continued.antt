-- A packet that an open connection takes: the records are those with the packet placed among them.
use Rattle.std.proofs.Common.{◌≡◌, ℕ, ◌+◌, ◌<◌, Bool, true, false, Option, Some, None, List, [], ◌++◌, length, get_or, set, refl, sym, ap, subst, ◌∙◌, arith}
use Rattle.std.proofs.lemmas.List.{length-append, map-set, get_or-map}
use Rattle.std.specs.Prelude.{if◌then◌else◌, ◌&&◌, ◌||◌, not}
use Rattle.flow_table.specs.Key.{EndpointPair, same_key}
use Rattle.flow_table.specs.Table.{Flows, found}
use Rattle.flow_table.proofs.Keys.{same_key-equal}
use Rattle.app_api.specs.App.{Meaning}
use Rattle.app_api.specs.declared.registration.Reg.{Reg}
use Rattle.shared_forest.specs.declared.store.ForestView.{Ghosts}
use Rattle.shared_forest.specs.declared.store.Shared.{Shared}
use Rattle.shared_forest.specs.Lists.{TreeLists}
use Rattle.forest_versions.specs.State.{ControlState}
use Rattle.forest_versions.specs.Master.{Versions, Tells}
use Rattle.connection_core.specs.declared.flow.Step.{Step}
use Rattle.connection_core.specs.declared.ledger.Counts.{Counts}
use Rattle.connection_core.specs.History.{History, followed, verdict, drops_of, is_over, weight_of}
use Rattle.connection_core.specs.InForce.{registered_at}
use Rattle.connection_core.specs.Standing.{IsFlow, IsConnection}
use Rattle.connection_core.specs.Trees.{InternsWithin}
use Rattle.lane_core.specs.declared.connection.Connection.{Connection}
use Rattle.lane_core.specs.declared.records.Records.{Records}
use Rattle.lane_core.specs.declared.under_way.RecordUnderWay.{RecordUnderWay}
use Rattle.lane_core.specs.Sight.{Segment, Tcp, key_of_segment}
use Rattle.lane_core.specs.Records.{RecordSoFar, VersionedPacket, is_open_at, side_of, side_in, history_after, verdict_after, verdict_among, started_by, continued_by, placed}
use Rattle.lane_core.specs.Shown.{alterations, drop_count as drops_in}
use Rattle.lane_core.specs.Places.{place_of, IsSingle}
use Rattle.lane_core.specs.Steps.{Taking, stepped}
use Rattle.lane_core.specs.Kept.{IsOpen, IsOpenAt, AreKept, slot_of}
use Rattle.lane_core.specs.Packets.{KeepsSoFar, Takes, Follows, Costs, Makes, packet_of}
use Rattle.lane_core.proofs.Places.{place_by-within, place_by-passes, joins, IsSingle-set}
use Rattle.lane_core.proofs.Holding.{left_of_and, holds_before, holds_after, unended}
use Rattle.lane_core.proofs.Totals.{others_of, others_and, others_with, InternsWithin-others}
use Rattle.lane_core.proofs.OpenFlows.{kept_flow, stepped_flow, over_flow}
use Rattle.lane_core.proofs.Stored.{IsOpenAt-stored}
use Rattle.lane_core.proofs.Verdicts.{verdict_among-some}

-- what the table has for a key, after a step of one connection
continued_at : (registered : ℕ → ℕ → Option Reg) (content : Shared → TreeLists) (flows after : Flows Connection) (pasts : List RecordSoFar) (i : ℕ)
    (past d : RecordSoFar) (conn : Connection) (own key : EndpointPair) (same over : Bool)
    → same_key own key ≡ same → IsSingle (is_open_at own) pasts → place_of own pasts ≡ Some i → ((k : EndpointPair) → is_open_at k (get_or pasts i d) ≡ same_key own k)
    → ((k : EndpointPair) → is_open_at k past ≡ (same_key own k && not over)) → conn.place ≡ i → IsOpen registered content conn past
    → found after key ≡ (if same then (if over then None else Some conn) else found flows key)
    → IsOpenAt registered content (found flows key) (place_of key pasts) pasts → IsOpenAt registered content (found after key) (place_of key (set pasts i past)) (set pasts i past)
continued_at registered content flows after pasts i past d conn own key true true same single there before afterwards at is left was =
    let one : own ≡ key = same_key-equal own key same in
    let fails : is_open_at key past ≡ false = afterwards key ∙ ap (λ b. b && false) same in
    rw left (over_flow registered content key pasts i past (subst (λ k. IsSingle (is_open_at k) pasts) one single) (subst (λ k. place_of k pasts ≡ Some i) one there) fails)
continued_at registered content flows after pasts i past d conn own key true false same single there before afterwards at is left was =
    let one : own ≡ key = same_key-equal own key same in
    let passes : is_open_at key past ≡ true = afterwards key ∙ ap (λ b. b && true) same in
    rw left (stepped_flow registered content key pasts i past conn (subst (λ k. place_of k pasts ≡ Some i) one there) passes at is)
continued_at registered content flows after pasts i past d conn own key false over same single there before afterwards at is left was =
    let out : is_open_at key (get_or pasts i d) ≡ false = before key ∙ same in
    let still_out : is_open_at key past ≡ false = afterwards key ∙ ap (λ b. b && not over) same in
    rw left (kept_flow registered content key (found flows key) pasts i past d (place_by-within (is_open_at own) pasts i there) out still_out was)

dropped_on : (after before others was is more : ℕ) → after ≡ others + is → before ≡ others + was → is ≡ was + more → after ≡ before + more
dropped_on after before others was is more a b c = omega arith

module _ (app : Meaning) (control_at : ℕ → ControlState) (keep : Bool) (m : Versions) where
  abbrev registered : ℕ → ℕ → Option Reg
  registered = registered_at m

  -- the counts of all other records
  abbrev pub others : List RecordSoFar → ℕ → Counts
  others pasts i = record {
    callbacks = others_of (λ r. length r.history.entries) pasts i;
    weight = others_of (λ r. weight_of r.history.entries) pasts i;
  }

  -- what stands for one record stands for its history
  pub connection_in : (content : Shared → TreeLists) (flows : Flows Connection) (slots : List RecordUnderWay) (counts : Counts)
      (pasts : List RecordSoFar) (i : ℕ) (d : RecordSoFar) (conn : Connection) (slot : RecordUnderWay)
      → AreKept keep registered content flows slots counts pasts → i < length pasts → IsOpen registered content conn (get_or pasts i d) → slot ≡ slot_of keep (get_or pasts i d)
      → IsConnection keep (others pasts i) (registered conn.version) (content conn.flow.forest) conn.flow slot.notes counts (get_or pasts i d).history
  connection_in content flows slots counts pasts i d conn slot stands within is slot_is = record {
    kept = is.kept;
    noted = record {
      tally = ap (λ (s : RecordUnderWay). s.notes.tally) slot_is;
      entries = ap (λ (s : RecordUnderWay). s.notes.entries) slot_is;
      callbacks = stands.counted ∙ others_and (λ r. length r.history.entries) pasts i d within;
      weight = stands.weighed ∙ others_and (λ r. weight_of r.history.entries) pasts i d within;
    };
  }

module _ {F : Type 0} {store : Ghosts F} (t : Taking) (control_at : ℕ → ControlState) (old : Records F store) (segment : Segment) (pasts : List RecordSoFar)
    (tells : (v : ℕ) → Tells old.master v (control_at v)) (stands : KeepsSoFar t.keep old pasts) (by : Takes t old segment) where
  abbrev packet : VersionedPacket
  packet = packet_of t old (Tcp segment)

  abbrev own : EndpointPair
  own = key_of_segment segment

  abbrev content : Shared → TreeLists
  content = store.content old.forests

  abbrev any : RecordSoFar
  any = started_by t.app control_at packet

  -- the record that takes it, before and after
  abbrev past : RecordSoFar
  past = get_or pasts by.conn.place any

  abbrev next : RecordSoFar
  next = continued_by t.app control_at packet.arrival past

  abbrev rest : Counts
  rest = others t.app control_at t.keep old.master pasts by.conn.place

  at : IsOpenAt (registered_at old.master) content (Some by.conn) (place_of own pasts) pasts
  at = subst (λ o. IsOpenAt (registered_at old.master) content o (place_of own pasts) pasts) by.was (stands.placed own)

  there : place_of own pasts ≡ Some by.conn.place
  there = at.0

  is : IsOpen (registered_at old.master) content by.conn past
  is = at.1 any

  within : by.conn.place < length pasts
  within = place_by-within (is_open_at own) pasts by.conn.place there

  passes : is_open_at own past ≡ true
  passes = place_by-passes (is_open_at own) pasts by.conn.place any there

  slot_was : by.slot ≡ slot_of t.keep past
  slot_was = by.slot_is ∙ ap (λ ss. get_or ss by.conn.place by.slot) stands.shown ∙ get_or-map (slot_of t.keep) pasts by.conn.place any by.slot within

  connected : IsConnection t.keep rest (registered_at old.master by.conn.version) (content by.conn.flow.forest) by.conn.flow by.slot.notes old.ledger.counts past.history
  connected = connection_in t.app control_at t.keep old.master content old.connections old.list.items old.ledger.counts pasts by.conn.place any by.conn by.slot stands within is slot_was

  -- its history then is that of its connection's step
  next_is : stepped t (control_at by.conn.version) by.conn segment past.history ≡ next.history
  unfolding history_after
  next_is =
      ap (λ side. followed t.app (control_at by.conn.version) t.number side segment.head segment.scale segment.payload past.history) (is.sides segment)
      ∙ ap (λ v. followed t.app (control_at v) t.number (side_in past.first.sight segment) segment.head segment.scale segment.payload past.history) is.version

  verdict_is_due : verdict t.app (control_at by.conn.version) t.number (side_of by.conn.client segment) segment.head segment.scale past.history
      ≡ verdict_after t.app (control_at past.version) past.first.sight packet.arrival past.history
  unfolding verdict_after
  verdict_is_due =
      ap (λ side. verdict t.app (control_at by.conn.version) t.number side segment.head segment.scale past.history) (is.sides segment)
      ∙ ap (λ v. verdict t.app (control_at v) t.number (side_in past.first.sight segment) segment.head segment.scale past.history) is.version

  placed_is : placed t.app control_at packet pasts ≡ set pasts by.conn.place next
  placed_is = (joins t.app control_at packet pasts by.conn.place there).changed any

  -- what its alterations cost, all of them cost
  altered_in : (interns interns' : Option ℕ) → InternsWithin interns interns' past.history.altered (stepped t (control_at by.conn.version) by.conn segment past.history).altered
      → InternsWithin interns interns' (alterations pasts) (alterations (placed t.app control_at packet pasts))
  altered_in interns interns' costs =
      rw placed_is (InternsWithin-others interns interns' (others_of (λ r. r.history.altered) pasts by.conn.place) past.history.altered next.history.altered
      (alterations pasts) (alterations (set pasts by.conn.place next))
      (others_and (λ r. r.history.altered) pasts by.conn.place any within) (others_with (λ r. r.history.altered) pasts by.conn.place next within)
      (subst (λ (h : History). InternsWithin interns interns' past.history.altered h.altered) next_is costs))

pub continued : {F : Type 0} {store : Ghosts F} (t : Taking) (control_at : ℕ → ControlState) (old new : Records F store) (segment : Segment) (step : Step)
    (pasts : List RecordSoFar) → ((v : ℕ) → Tells old.master v (control_at v)) → KeepsSoFar t.keep old pasts → Follows t old new segment step
    → Makes t old new step.verdict (verdict_among t.app control_at (packet_of t old (Tcp segment)) pasts) pasts (placed t.app control_at (packet_of t old (Tcp segment)) pasts)
continued {F} {store} t control_at old new segment step pasts tells stands f =
    let registered = registered_at old.master in
    let before = store.content old.forests in
    let after = store.content new.forests in
    let by = f.by in
    let i = by.conn.place in
    let key = key_of_segment segment in
    let p = packet_of t old (Tcp segment) in
    let d = any t control_at old segment pasts tells stands by in
    let was = past t control_at old segment pasts tells stands by in
    let new_one = next t control_at old segment pasts tells stands by in
    let beside = rest t control_at old segment pasts tells stands by in
    let one = is t control_at old segment pasts tells stands by in
    let place = there t control_at old segment pasts tells stands by in
    let inside = within t control_at old segment pasts tells stands by in
    let so = passes t control_at old segment pasts tells stands by in
    let same = next_is t control_at old segment pasts tells stands by in
    let whole = connected t control_at old segment pasts tells stands by in
    let slot = slot_was t control_at old segment pasts tells stands by in
    let control = control_at by.conn.version in
    let told = tells by.conn.version in
    let st = f.step_is in
    let went = st.stands control told beside was.history whole in
    let noted = went.noted in
    let drops = st.drops control told beside was.history whole in
    let open_is : IsOpen registered after f.conn new_one = record {
      sides = λ h. ap (λ c. side_of c h) st.client ∙ one.sides h;
      version = st.version ∙ one.version;
      last = st.last;
      heard = st.heard;
      kept = subst (λ v. IsFlow (registered v) (after f.conn.flow.forest) f.conn.flow new_one.history) (sym st.version)
          (subst (λ h. IsFlow (registered by.conn.version) (after f.conn.flow.forest) f.conn.flow h) same went.kept);
    } in
    let notes_are : f.slot.notes ≡ (slot_of t.keep new_one).notes =
    ap (λ y. record { tally = y; entries = f.slot.notes.entries }) (noted.tally ∙ ap (λ (h : History). h.tally) same)
    ∙ ap (λ es. record { tally = new_one.history.tally; entries = es }) (noted.entries ∙ ap (λ (h : History). if t.keep then h.entries else []) same) in
    let drops_are : by.slot.drops ++ drops_of step.verdict t.number ≡ new_one.history.drops =
    ap (λ (s : RecordUnderWay). s.drops ++ drops_of step.verdict t.number) slot ∙ sym drops ∙ ap (λ (h : History). h.drops) same in
    let shown : f.slot ≡ slot_of t.keep new_one =
    st.noted
    ∙ ap (λ (s : RecordUnderWay). record { name = s.name; kind = s.kind; version = s.version; notes = f.slot.notes; drops = by.slot.drops ++ drops_of step.verdict t.number }) slot
    ∙ ap (λ n. record (slot_of t.keep was) { notes = n; drops = by.slot.drops ++ drops_of step.verdict t.number }) notes_are
    ∙ ap (λ ds. record (slot_of t.keep was) { notes = (slot_of t.keep new_one).notes; drops = ds }) drops_are in
    let over : is_over new_one.history ≡ step.over = sym (st.over control told beside was.history whole ∙ ap is_over same) in
    let held = λ (k : EndpointPair). holds_before was key k so in
    let shut = ap (λ b. b || is_over new_one.history) (unended was key so) ∙ over in
    let afterwards = λ (k : EndpointPair). holds_after was new_one key k step.over so refl shut in
    let put = placed_is t control_at old segment pasts tells stands by in
    record {
      stands = rw (f.taken.master, put) (record {
        shown = f.noted ∙ ap (λ s. set old.list.items i s) shown ∙ ap (λ ss. set ss i (slot_of t.keep new_one)) stands.shown ∙ sym (map-set (slot_of t.keep) pasts i new_one);
        placed = λ k. continued_at registered after old.connections new.connections pasts i new_one d f.conn key k (same_key key k) step.over refl (stands.single key) place held afterwards
            st.place open_is (f.left k)
            (IsOpenAt-stored t.keep registered before after (found old.connections k) (place_of k pasts) pasts
            (λ x there. f.stored.same_content x.flow.forest (old.live k x there).answered) (stands.placed k));
        single = λ k. IsSingle-set (is_open_at k) pasts i new_one d (stands.single k) inside
            (λ e. held k ∙ left_of_and (same_key key k) (not step.over) (sym (afterwards k) ∙ e));
        counted = noted.callbacks ∙ ap (λ (h : History). others_of (λ r. length r.history.entries) pasts i + length h.entries) same
            ∙ sym (others_with (λ r. length r.history.entries) pasts i new_one inside);
        weighed = noted.weight ∙ ap (λ (h : History). others_of (λ r. weight_of r.history.entries) pasts i + weight_of h.entries) same
            ∙ sym (others_with (λ r. weight_of r.history.entries) pasts i new_one inside);
      });
      interned = altered_in t control_at old segment pasts tells stands by (store.interns old.forests) (store.interns new.forests)
          (st.interned control told beside was.history whole);
      verdict_is = st.verdict_is control told beside was.history whole ∙ verdict_is_due t control_at old segment pasts tells stands by
          ∙ sym (verdict_among-some t.app control_at p pasts i d place);
      dropped =
          let longer : length new_one.history.drops ≡ length was.history.drops + length (drops_of step.verdict t.number) =
          ap (λ (h : History). length h.drops) (sym same) ∙ ap length drops ∙ length-append was.history.drops (drops_of step.verdict t.number) in
          rw put (dropped_on (drops_in (set pasts i new_one)) (drops_in pasts) (others_of (λ r. length r.history.drops) pasts i)
          (length was.history.drops) (length new_one.history.drops) (length (drops_of step.verdict t.number))
          (others_with (λ r. length r.history.drops) pasts i new_one inside) (others_and (λ r. length r.history.drops) pasts i d inside) longer);
    }

-- the open connection failed to take it
pub continued_costs : {F : Type 0} {store : Ghosts F} (t : Taking) (control_at : ℕ → ControlState) (old new : Records F store) (segment : Segment) (pasts : List RecordSoFar)
    → ((v : ℕ) → Tells old.master v (control_at v)) → KeepsSoFar t.keep old pasts → Costs t old new segment
    → InternsWithin (store.interns old.forests) (store.interns new.forests) (alterations pasts) (alterations (placed t.app control_at (packet_of t old (Tcp segment)) pasts))
continued_costs {F} {store} t control_at old new segment pasts tells stands f =
    let by = f.by in
    altered_in t control_at old segment pasts tells stands by (store.interns old.forests) (store.interns new.forests)
    (f.costs (control_at by.conn.version) (tells by.conn.version) (rest t control_at old segment pasts tells stands by)
    (past t control_at old segment pasts tells stands by).history (connected t control_at old segment pasts tells stands by))
