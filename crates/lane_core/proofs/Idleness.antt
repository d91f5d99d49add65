-- Open connections that were idle for too long: the records are those of which they have ended.
use Rattle.std.proofs.Common.{◌≡◌, ℕ, ◌+◌, Bool, true, false, Option, Some, None, List, [], length, get_or, set, refl, sym, ap, subst, ◌∙◌, map}
use Rattle.std.proofs.lemmas.List.{map-set, get_or-map, set-get_or}
use Rattle.std.specs.Prelude.{if◌then◌else◌, ◌&&◌}
use Rattle.flow_table.specs.Key.{EndpointPair, same_key}
use Rattle.flow_table.specs.Table.{Flows, found, FindsAt}
use Rattle.flow_table.proofs.Keys.{same_key-equal}
use Rattle.app_api.specs.App.{Meaning}
use Rattle.native_filters.specs.declared.facts.Facts.{Facts}
use Rattle.native_filters.specs.declared.facts.Hook.TheVariants.{Rcv}
use Rattle.app_api.specs.Events.{TIMER}
use Rattle.app_api.specs.declared.registration.Reg.{Reg}
use Rattle.builtin_events.specs.Raises.{timer_raise}
use Rattle.report_text.specs.declared.record.RecordKind.{RecordKind}
use Rattle.report_text.specs.declared.record.RecordKind.TheVariants.{Conn, Orphan}
use Rattle.shared_forest.specs.declared.store.ForestView.{Ghosts}
use Rattle.shared_forest.specs.declared.store.Shared.{Shared}
use Rattle.shared_forest.specs.Lists.{TreeLists}
use Rattle.forest_versions.specs.State.{ControlState}
use Rattle.forest_versions.specs.Master.{Versions, Tells}
use Rattle.connection_core.specs.History.{History, weight_of}
use Rattle.connection_core.specs.Silence.{silenced}
use Rattle.connection_core.specs.InForce.{registered_at}
use Rattle.lane_core.specs.declared.connection.Connection.{Connection}
use Rattle.lane_core.specs.declared.records.Records.{Records}
use Rattle.lane_core.specs.declared.under_way.RecordUnderWay.{RecordUnderWay}
use Rattle.lane_core.specs.Sight.{Segment, Sight, Tcp, Other, Moment, key_of_segment}
use Rattle.lane_core.specs.Records.{RecordSoFar, opens, is_open_at, belongs_to, timer_raise_of, is_past, is_silent, ended_before}
use Rattle.lane_core.specs.Shown.{kind_of}
use Rattle.lane_core.specs.Places.{place_of, IsSingle}
use Rattle.lane_core.specs.Idle.{raise_in, IsIdle, IsHeard, IsGone, IsEnded, idle_history}
use Rattle.lane_core.specs.Steps.{Taking, stage_in}
use Rattle.lane_core.specs.Kept.{IsOpen, IsOpenAt, slot_of}
use Rattle.lane_core.specs.Packets.{KeepsSoFar, Ends, packet_of}
use Rattle.lane_core.proofs.Places.{place_by-within, place_by-passes, place_by-cleared, IsSingle-set}
use Rattle.lane_core.proofs.Holding.{left_of_and, holds_before}
use Rattle.lane_core.proofs.Totals.{others_of, others_with}
use Rattle.lane_core.proofs.OpenFlows.{kept_flow, over_flow}
use Rattle.lane_core.proofs.Continued.{others, connection_in}
use Rattle.lane_core.proofs.Ended.{ended, ended_shut, silenced-drops, unmoved, moved, left_before, heard_before, silent_before}

-- what its record's kind tells of the end of a connection, its first packet tells
raise_by_kind : (sight : Sight) (count : ℕ) → opens sight ≡ true → raise_in (kind_of sight) count ≡ timer_raise_of sight count
unfolding kind_of
raise_by_kind (Tcp opener) count opening = rw opening refl
raise_by_kind (Other class) count opening = refl

pub raise_by_facts : (kind : RecordKind) (count : ℕ) (facts : Facts) → facts ≡ (raise_in kind count).facts → record { hook = Rcv; event = TIMER; facts = facts } ≡ raise_in kind count
unfolding timer_raise
raise_by_facts (Conn client server) count facts is = ap (λ (f : Facts). record { hook = Rcv; event = TIMER; facts = f }) is
raise_by_facts (Orphan class) count facts is = ap (λ (f : Facts). record { hook = Rcv; event = TIMER; facts = f }) is

false_is_true : false ≡ true → ⊥
false_is_true e = cc

-- what neither goes on nor was idle for too long isn't there
pub unheard_gone : (m : Versions) (now : Moment) (o : Option Connection) → ((v : ℕ) → (s : ControlState) × Tells m v s) → IsGone m now o → IsHeard m now o → o ≡ None
unheard_gone m now None registered gone heard = refl
unheard_gone m now (Some conn) registered gone heard =
    let t = registered conn.version in
    absurd (false_is_true (sym (heard t.0 t.1) ∙ gone t.0 t.1))

-- where nothing is limited, nothing is idle for too long
pub never_heard : (m : Versions) (now : Moment) (o : Option Connection) → ((v : ℕ) (s : ControlState) → Tells m v s → s.idle ≡ None) → IsHeard m now o
never_heard m now None never = tt
never_heard m now (Some conn) never = λ control tells. ap (λ l. is_past l conn.moment now) (never conn.version control tells)

-- what the table has for a key, after a connection was taken from it
taken_at : (registered : ℕ → ℕ → Option Reg) (content : Shared → TreeLists) (flows after : Flows Connection) (pasts : List RecordSoFar) (i : ℕ)
    (past d : RecordSoFar) (own key : EndpointPair) (same : Bool)
    → same_key own key ≡ same → IsSingle (is_open_at own) pasts → place_of own pasts ≡ Some i → is_open_at key (get_or pasts i d) ≡ same_key own key
    → is_open_at key past ≡ false → found after key ≡ (if same then None else found flows key)
    → IsOpenAt registered content (found flows key) (place_of key pasts) pasts → IsOpenAt registered content (found after key) (place_of key (set pasts i past)) (set pasts i past)
taken_at registered content flows after pasts i past d own key true same single there before fails left was =
    let one : own ≡ key = same_key-equal own key same in
    rw left (over_flow registered content key pasts i past (subst (λ k. IsSingle (is_open_at k) pasts) one single) (subst (λ k. place_of k pasts ≡ Some i) one there) fails)
taken_at registered content flows after pasts i past d own key false same single there before fails left was =
    rw left (kept_flow registered content key (found flows key) pasts i past d (place_by-within (is_open_at own) pasts i there) (before ∙ same) fails was)

-- the open connection of a key was idle for too long and ended, and all else is as it was
pub record EndsIdle {F : Type 0} {store : Ghosts F} (t : Taking) (old new : Records F store) (key : EndpointPair) : Type 0 where
  pub conn : Connection
  pub slot : RecordUnderWay
  pub slot_after : RecordUnderWay
  pub was : found old.connections key ≡ Some conn
  pub slot_is : slot ≡ get_or old.list.items conn.place slot
  pub called : IsEnded t old.master (stage_in store old.forests conn slot old.ledger.counts) (record { slot = slot_after; counts = new.ledger.counts })
  pub left : FindsAt old.connections new.connections key None
  pub list_is : new.list.items ≡ set old.list.items conn.place slot_after
  pub master : new.master ≡ old.master
  pub forests : new.forests ≡ old.forests

module _ {F : Type 0} {store : Ghosts F} (t : Taking) (control_at : ℕ → ControlState) (old : Records F store) (tells : (v : ℕ) → Tells old.master v (control_at v))
    (pasts : List RecordSoFar) (stands : KeepsSoFar t.keep old pasts) where
  abbrev registered : ℕ → ℕ → Option Reg
  registered = registered_at old.master

  abbrev content : Shared → TreeLists
  content = store.content old.forests

  abbrev over : RecordSoFar → RecordSoFar
  over past = ended t.app control_at past

  -- whether it was idle for too long, the open connection tells of its record
  pub idle_as : (conn : Connection) (past : RecordSoFar) (idle : Bool) → IsOpen registered content conn past → IsIdle old.master conn t.moment idle
      → is_silent t.app control_at t.moment past ≡ idle
  idle_as conn past idle is so =
      ap (λ v. is_past (control_at v).idle past.last.moment t.moment) (sym is.version)
      ∙ ap (λ at. is_past (control_at conn.version).idle at t.moment) (sym is.heard)
      ∙ so (control_at conn.version) (tells conn.version)

  -- its history after the end
  history_is : (conn : Connection) (slot : RecordUnderWay) (past : RecordSoFar) → IsOpen registered content conn past
      → slot.kind ≡ kind_of past.first.sight → opens past.first.sight ≡ true
      → idle_history t.app (control_at conn.version) conn slot past.history ≡ (over past).history
  history_is conn slot past is kind opening =
      let h = past.history in
      ap (λ v. silenced t.app (control_at v) conn.last (raise_in slot.kind conn.flow.count) h) is.version
      ∙ ap (λ n. silenced t.app (control_at past.version) n (raise_in slot.kind conn.flow.count) h) is.last
      ∙ ap (λ k. silenced t.app (control_at past.version) past.last.number (raise_in k conn.flow.count) h) kind
      ∙ ap (λ n. silenced t.app (control_at past.version) past.last.number (raise_in (kind_of past.first.sight) n) h) is.kept.count
      ∙ ap (λ r. silenced t.app (control_at past.version) past.last.number r h) (raise_by_kind past.first.sight h.count opening)

  pub ended_kept : (new : Records F store) (key : EndpointPair) (d : RecordSoFar) → (e : EndsIdle t old new key)
      → KeepsSoFar t.keep new (set pasts e.conn.place (over (get_or pasts e.conn.place d)))
  ended_kept new key d e =
      let conn = e.conn in
      let i = conn.place in
      let at = subst (λ o. IsOpenAt registered content o (place_of key pasts) pasts) e.was (stands.placed key) in
      let there : place_of key pasts ≡ Some i = at.0 in
      let past = get_or pasts i d in
      let is : IsOpen registered content conn past = at.1 d in
      let within = place_by-within (is_open_at key) pasts i there in
      let passes = place_by-passes (is_open_at key) pasts i d there in
      let opening : opens past.first.sight ≡ true = left_of_and (opens past.first.sight) _ (left_of_and (opens past.first.sight && _) _ passes) in
      let slot_was : e.slot ≡ slot_of t.keep past = e.slot_is ∙ ap (λ ss. get_or ss i e.slot) stands.shown ∙ get_or-map (slot_of t.keep) pasts i d e.slot within in
      let connected = connection_in t.app control_at t.keep old.master content old.connections old.list.items old.ledger.counts pasts i d conn e.slot stands within is slot_was in
      let noted = e.called.stands (control_at conn.version) (tells conn.version) (others t.app control_at t.keep old.master pasts i) past.history connected in
      let same = history_is conn e.slot past is (ap (λ (s : RecordUnderWay). s.kind) slot_was) opening in
      let after = over past in
      let notes_are : e.slot_after.notes ≡ (slot_of t.keep after).notes =
      ap (λ y. record { tally = y; entries = e.slot_after.notes.entries }) (noted.tally ∙ ap (λ (h : History). h.tally) same)
      ∙ ap (λ es. record { tally = after.history.tally; entries = es }) (noted.entries ∙ ap (λ (h : History). if t.keep then h.entries else []) same) in
      let drops_are : after.history.drops ≡ past.history.drops = silenced-drops t.app (control_at past.version) past.last.number (timer_raise_of past.first.sight past.history.count) past.history in
      let shown : e.slot_after ≡ slot_of t.keep after =
      e.called.noted
      ∙ ap (λ (s : RecordUnderWay). record s { notes = e.slot_after.notes }) slot_was
      ∙ ap (λ n. record (slot_of t.keep past) { notes = n }) notes_are
      ∙ ap (λ ds. record (slot_of t.keep after) { drops = ds }) (sym drops_are) in
      let before = λ (k : EndpointPair). holds_before past key k passes in
      rw (e.master, e.forests) (record {
        shown = e.list_is ∙ ap (λ s. set old.list.items i s) shown ∙ ap (λ ss. set ss i (slot_of t.keep after)) stands.shown ∙ sym (map-set (slot_of t.keep) pasts i after);
        placed = λ k. taken_at registered content old.connections new.connections pasts i after d key k (same_key key k) refl (stands.single key) there (before k)
            (ended_shut t.app control_at k past) (e.left k) (stands.placed k);
        single = λ k. IsSingle-set (is_open_at k) pasts i after d (stands.single k) within (λ p. absurd (false_is_true (sym (ended_shut t.app control_at k past) ∙ p)));
        counted = noted.callbacks ∙ ap (λ (h : History). others_of (λ r. length r.history.entries) pasts i + length h.entries) same
            ∙ sym (others_with (λ r. length r.history.entries) pasts i after within);
        weighed = noted.weight ∙ ap (λ (h : History). others_of (λ r. weight_of r.history.entries) pasts i + weight_of h.entries) same
            ∙ sym (others_with (λ r. weight_of r.history.entries) pasts i after within);
      })

  -- ---- before a packet of a key

  module _ (key : EndpointPair) (segment : Segment) (key_is : key ≡ key_of_segment segment) (d : RecordSoFar) where
    abbrev before : List RecordSoFar
    before = map (ended_before t.app control_at (packet_of t old (Tcp segment))) pasts

    own_place : (o : Option ℕ) → place_of key pasts ≡ o → place_of (key_of_segment segment) pasts ≡ o
    own_place o there = subst (λ k. place_of k pasts ≡ o) key_is there

    moves : (i : ℕ) → place_of key pasts ≡ Some i → before ≡ set pasts i (ended_before t.app control_at (packet_of t old (Tcp segment)) (get_or pasts i d))
    moves i there =
        moved (belongs_to (Tcp segment)) (ended_before t.app control_at (packet_of t old (Tcp segment))) (left_before t.app control_at (packet_of t old (Tcp segment))) pasts i d
        (subst (λ k. IsSingle (is_open_at k) pasts) key_is (stands.single key)) (own_place (Some i) there)

    -- its open connection ended
    ends_before_is : (i : ℕ) → place_of key pasts ≡ Some i → is_silent t.app control_at t.moment (get_or pasts i d) ≡ true → before ≡ set pasts i (over (get_or pasts i d))
    ends_before_is i there idle =
        moves i there ∙ ap (set pasts i) (silent_before t.app control_at (packet_of t old (Tcp segment)) (get_or pasts i d)
        (place_by-passes (is_open_at (key_of_segment segment)) pasts i d (own_place (Some i) there)) idle)

    heard_here : (o : Option Connection) → IsHeard old.master t.moment o → IsOpenAt registered content o (place_of key pasts) pasts → before ≡ pasts
    heard_here None heard at =
        unmoved (belongs_to (Tcp segment)) (ended_before t.app control_at (packet_of t old (Tcp segment))) (left_before t.app control_at (packet_of t old (Tcp segment))) pasts (own_place None at)
    heard_here (Some conn) heard at =
        let past = get_or pasts conn.place d in
        moves conn.place at.0
        ∙ ap (set pasts conn.place) (heard_before t.app control_at (packet_of t old (Tcp segment)) past (idle_as conn past false (at.1 d) heard))
        ∙ set-get_or pasts conn.place d

    -- none of its key was idle for too long
    pub heard_is : IsHeard old.master t.moment (found old.connections key) → before ≡ pasts
    heard_is heard = heard_here (found old.connections key) heard (stands.placed key)

    gone_here : (mid : Records F store) (o : Option Connection) → found old.connections key ≡ o → IsGone old.master t.moment o
        → control_at old.master.version ≡ old.master.now → Ends t old mid key → IsOpenAt registered content o (place_of key pasts) pasts → KeepsSoFar t.keep mid before
    gone_here mid None is gone now e at = subst (KeepsSoFar t.keep mid) (sym (heard_here None tt at)) (e.none is control_at pasts tells now stands)
    gone_here mid (Some conn) is gone now e at =
        subst (KeepsSoFar t.keep mid) (sym (ends_before_is conn.place at.0 (idle_as conn (get_or pasts conn.place d) true (at.1 d) gone)))
        (e.ended control_at pasts tells now stands conn.place d at.0)

    -- after its end the records are those before the packet
    pub gone_kept : (mid : Records F store) → IsGone old.master t.moment (found old.connections key) → control_at old.master.version ≡ old.master.now → Ends t old mid key
        → KeepsSoFar t.keep mid before
    gone_kept mid gone now e = gone_here mid (found old.connections key) refl gone now e (stands.placed key)

    none_here : (o : Option Connection) → IsGone old.master t.moment o → IsOpenAt registered content o (place_of key pasts) pasts → place_of key before ≡ None
    none_here None gone at = subst (λ l. place_of key l ≡ None) (sym (heard_here None tt at)) at
    none_here (Some conn) gone at =
        let past = get_or pasts conn.place d in
        subst (λ l. place_of key l ≡ None) (sym (ends_before_is conn.place at.0 (idle_as conn past true (at.1 d) gone)))
        (place_by-cleared (is_open_at key) pasts conn.place (over past) (stands.single key) at.0 (ended_shut t.app control_at key past))

    -- and none of its key is open
    pub none_after : IsGone old.master t.moment (found old.connections key) → place_of key before ≡ None
    none_after gone = none_here (found old.connections key) gone (stands.placed key)

  pub heard_before_is : (key : EndpointPair) (segment : Segment) → key ≡ key_of_segment segment → IsHeard old.master t.moment (found old.connections key) → (d : RecordSoFar)
      → map (ended_before t.app control_at (packet_of t old (Tcp segment))) pasts ≡ pasts
  heard_before_is key segment key_is heard d = heard_is key segment key_is d heard

-- the end of the open connection of a key
pub idle_ended : {F : Type 0} {store : Ghosts F} (t : Taking) (old new : Records F store) (key : EndpointPair) → EndsIdle t old new key → Ends t old new key
idle_ended {F} {store} t old new key e = record {
  ended = λ control_at pasts tells now stands i d there.
      let at = subst (λ o. IsOpenAt (registered_at old.master) (store.content old.forests) o (place_of key pasts) pasts) e.was (stands.placed key) in
      let is = sym at.0 ∙ there in
      let same : e.conn.place ≡ i = cc in
      subst (λ j. KeepsSoFar t.keep new (set pasts j (ended t.app control_at (get_or pasts j d)))) same (ended_kept t control_at old tells pasts stands new key d e);
  none = λ none. absurd (let is = sym e.was ∙ none in cc);
}

-- none of it was there
pub none_ended : {F : Type 0} {store : Ghosts F} (t : Taking) (old new : Records F store) (key : EndpointPair) → new ≡ old → found old.connections key ≡ None → Ends t old new key
none_ended {F} {store} t old new key same none = record {
  ended = λ control_at pasts tells now stands i d there.
      absurd (let is = sym there ∙ subst (λ o. IsOpenAt (registered_at old.master) (store.content old.forests) o (place_of key pasts) pasts) none (stands.placed key) in cc);
  none = λ _ control_at pasts tells now stands. subst (λ r. KeepsSoFar t.keep r pasts) (sym same) stands;
}

-- where nothing is limited, no record is idle for too long
pub never_idle : (app : Meaning) (moment : Moment) (control_at : ℕ → ControlState) (m : Versions) → ((v : ℕ) → Tells m v (control_at v))
    → ((v : ℕ) (s : ControlState) → Tells m v s → s.idle ≡ None) → (past : RecordSoFar) → is_silent app control_at moment past ≡ false
never_idle app moment control_at m tells never past = ap (λ o. is_past o past.last.moment moment) (never past.version (control_at past.version) (tells past.version))
