-- Records as they are defined are tidy.
use Rattle.std.proofs.Common.{◌≡◌, ℕ, ◌+◌, ◌≤◌, ◌&&◌, ◌==◌, not, Bool, true, false, if◌then◌else◌, Option, Some, None, List, [], ◌∷◌, ◌++◌, map, refl, ◌∙◌, arith, le_refl}
use Rattle.std.specs.Prelude.{nat_le}
use Rattle.std.specs.List.{list_all, filter}
use Rattle.std.specs.Ordering.{is_lt}
use Rattle.std.proofs.lemmas.List.Folds.{list_all-append}
use Rattle.std.proofs.lemmas.Grind.{common_steps}
use Rattle.tcp_emulation.specs.declared.segment.Side.{Side}
use Rattle.tcp_emulation.specs.declared.segment.Side.TheVariants.{Client}
use Rattle.packet_views.specs.declared.packet.Head.{Head}
use Rattle.packet_views.specs.declared.packet.Class.TheVariants as Class
use Rattle.flow_socket.specs.Emulation.{Emulation, sent, sent_answer, received, got_of}
use Rattle.app_api.specs.App.{Meaning, IsLawful}
use Rattle.app_api.specs.Numbers.{rise_from}
use Rattle.app_api.specs.Reg.{reg_of}
use Rattle.app_api.specs.declared.changes.Change1.{Change1}
use Rattle.app_api.specs.declared.reaction.Reason.{Reason}
use Rattle.app_api.specs.declared.reaction.Verdict.{Verdict}
use Rattle.app_api.specs.declared.reaction.Verdict.TheVariants.{Pass, Drop}
use Rattle.app_api.specs.declared.registration.PeekSpec.{PeekSpec}
use Rattle.app_api.specs.declared.registration.PeekSpec.TheVariants.{Nothing, Next, At}
use Rattle.app_api.specs.declared.registration.Reg.{Reg}
use Rattle.builtin_events.specs.declared.raise.Raise.{Raise}
use Rattle.builtin_events.specs.Raises.{sender_raises, receiver_raises}
use Rattle.event_trees.specs.declared.defs.EventDef.{EventDef}
use Rattle.event_trees.specs.Private.{reg_cmp, put_reg, edited}
use Rattle.event_trees.specs.Fires.{is_called, fires}
use Rattle.report_text.specs.declared.record.RecordKind.TheVariants.{Conn, Orphan}
use Rattle.report_text.specs.Tidy.{is_event, is_tidy_seen, is_tidy_entry, may_have, are_named, is_tidy_record, tidy}
use Rattle.forest_versions.specs.State.{ControlState}
use Rattle.connection_core.specs.PacketUnderWay.{PacketUnderWay, seen_by, is_on, is_so, altered_to, switched, changed, changed_all, settled, called, called_all, called_at, raised, raise_done, phase}
use Rattle.connection_core.specs.History.{History, fresh, begin, go_on, sender_phase, receiver_phase, received_unless, followed, orphan_under_way, orphan_history, verdict_of, drops_of}
use Rattle.connection_core.specs.Silence.{silenced}
use Rattle.lane_core.specs.Sight.{Sight, Tcp, Other, Moment, Arrival}
use Rattle.lane_core.specs.Records.{RecordSoFar, VersionedPacket, opens, belongs_to, side_in, history_after, orphan_raises_of, timer_raise_of, continued_by, ended_before, ended_at, placed, added, records_from}
use Rattle.lane_core.specs.Shown.{record_of, kind_of}
use Rattle.lane_core.specs.Laws.{AreEvents, rise}
use Rattle.lane_core.proofs.Ended.{Ends, ends_before, ends_at, either}
use Rattle.lane_core.proofs.Pieces.{pieces_have_bytes}

both : (a b : Bool) → a ≡ true → b ≡ true → (a && b) ≡ true
both a b p q = rw (p, q) refl

first_of : (a b : Bool) → (a && b) ≡ true → a ≡ true
first_of true b all = refl
first_of false b all = absurd (cc)

rest_of : (a b : Bool) → (a && b) ≡ true → b ≡ true
rest_of true b all = all
rest_of false b all = absurd (cc)

-- ---- registrations of events

filtered : (called : Reg → Bool) (regs : List Reg) → AreEvents regs → AreEvents (filter called regs)
filtered called [] all = refl
filtered called (r ∷ regs) all = grind (arith, common_steps, filtered called regs)

put : (defs : List EventDef) (r : Reg) (regs : List Reg) → is_event r.event ≡ true → AreEvents regs → AreEvents (put_reg defs r regs)
put defs r [] here all = rw here refl
put defs r (s ∷ regs) here all =
    let rest = rest_of (is_event s.event) _ all in
    elim (is_lt (reg_cmp defs r s)) as (λ b. AreEvents (if b then r ∷ s ∷ regs else s ∷ put_reg defs r regs)) [
      | true ↦ both (is_event r.event) _ here all
      | false ↦ both (is_event s.event) _ (first_of (is_event s.event) _ all) (put defs r regs here rest)
    ]

edits : (defs : List EventDef) (r : Reg) (regs : List Reg) (on : Bool) → is_event r.event ≡ true → AreEvents regs → AreEvents (edited defs regs r on)
edits defs r regs true here all = put defs r regs here all
edits defs r regs false here all = filtered (λ s. not (s.number == r.number)) regs all

-- what is looked up among them
looked_up : (number : ℕ) (regs : List Reg) (r : Reg) → AreEvents regs → reg_of regs number ≡ Some r → is_event r.event ≡ true
looked_up number [] r all is = absurd (cc)
looked_up number (s ∷ regs) r all is = grind (arith, common_steps, looked_up number regs r)

seen_tidy : (from : Side) (peek : PeekSpec) (e : Emulation) → is_tidy_seen (seen_by from peek e) ≡ true
seen_tidy from Nothing e = refl
seen_tidy from (Next n) e = refl
seen_tidy from (At place n) e = pieces_have_bytes from place n e

-- ---- the callbacks of a packet

-- the private list is of events, and the callbacks are tidy
record IsTidyUnderWay (c : PacketUnderWay) : Type 0 where
  events : AreEvents c.active
  entries : list_all is_tidy_entry c.entries ≡ true

module _ (app : Meaning) (control : ControlState) (are : AreEvents control.regs) (number : ℕ) (from : Side) where
  called_tidy : (raise : Raise) (c : PacketUnderWay) (r : Reg) → is_event r.event ≡ true → IsTidyUnderWay c → IsTidyUnderWay (called app control number from raise c r)
  unfolding called
  called_tidy raise c r event t = record {
    events = t.events;
    entries = list_all-append is_tidy_entry c.entries _ ∙ both _ _ t.entries (rw (event, seen_tidy from r.peek c.emulation) refl);
  }

  all_tidy : (raise : Raise) (rs : List Reg) (c : PacketUnderWay) → AreEvents rs → IsTidyUnderWay c → IsTidyUnderWay (called_all app control number from raise c rs)
  all_tidy raise [] c events t = t
  all_tidy raise (r ∷ rs) c events t =
      all_tidy raise rs (called app control number from raise c r) (rest_of (is_event r.event) _ events) (called_tidy raise c r (first_of (is_event r.event) _ events) t)

  called_at_tidy : (raise : Raise) (c : PacketUnderWay) → IsTidyUnderWay c → IsTidyUnderWay (called_at app control number from raise c)
  unfolding called_at
  called_at_tidy raise c t =
      all_tidy raise (fires control.defs raise.facts raise.hook raise.event c.active) c (filtered (is_called control.defs raise.facts raise.hook raise.event) c.active t.events) t

  raised_tidy : (raises : List Raise) (c : PacketUnderWay) → IsTidyUnderWay c → IsTidyUnderWay (raised app control number from raises c)
  unfolding raised
  raised_tidy [] c t = t
  raised_tidy (raise ∷ raises) c t = raised_tidy raises (called_at app control number from raise c) (called_at_tidy raise c t)

  switched_tidy : (o : Option Reg) (on : Bool) (c : PacketUnderWay) → ((r : Reg) → o ≡ Some r → is_event r.event ≡ true) → IsTidyUnderWay c → IsTidyUnderWay (switched control o on c)
  switched_tidy None on c event t = t
  switched_tidy (Some r) on c event t =
      elim (is_so (is_on r.number c.active) on) as (λ b. IsTidyUnderWay (if b then c else altered_to (edited control.defs c.active r on) c)) [
        | true ↦ t
        | false ↦ record { events = edits control.defs r c.active on (event r refl) t.events; entries = t.entries }
      ]

  changed_tidy : (changes : List Change1) (c : PacketUnderWay) → IsTidyUnderWay c → IsTidyUnderWay (changed_all control changes c)
  unfolding changed
  changed_tidy [] c t = t
  changed_tidy (change ∷ changes) c t =
      changed_tidy changes (changed control change c) (switched_tidy (reg_of control.regs change.reg) change.on c (λ r is. looked_up change.reg control.regs r are is) t)

  raise_tidy : (raise : Raise) (c : PacketUnderWay) → IsTidyUnderWay c → IsTidyUnderWay (raise_done app control number from raise c)
  unfolding raise_done settled
  raise_tidy raise c t =
      let called = called_at app control number from raise c in
      let d = changed_tidy called.asked called (called_at_tidy raise c t) in record { events = d.events; entries = d.entries }

  phase_tidy : (raises : List Raise) (c : PacketUnderWay) → IsTidyUnderWay c → IsTidyUnderWay (phase app control number from raises c)
  unfolding phase
  phase_tidy [] c t = t
  phase_tidy (raise ∷ raises) c t = phase_tidy raises (raise_done app control number from raise c) (raise_tidy raise c t)

-- ---- a history

-- dropped packets stand by rising number from low on, all below n
abbrev RisesBelow : ℕ → ℕ → List (ℕ × Reason) → Type 0
RisesBelow low n [] = low ≤ n
RisesBelow low n (d ∷ ds) = (low ≤ d.0) × RisesBelow (d.0 + 1) n ds

later_below : (low n m : ℕ) (ds : List (ℕ × Reason)) → n ≤ m → RisesBelow low n ds → RisesBelow low m ds
later_below low n m [] less below = omega arith
later_below low n m (d ∷ ds) less below = (below.0, later_below (d.0 + 1) n m ds less below.1)

one_below : (low n m : ℕ) (reason : Reason) (ds : List (ℕ × Reason)) → n ≤ m → RisesBelow low n ds → RisesBelow low (m + 1) (ds ++ (m, reason) ∷ [])
one_below low n m reason [] less below = (omega arith, le_refl (m + 1))
one_below low n m reason (d ∷ ds) less below = (below.0, one_below (d.0 + 1) n m reason ds less below.1)

below_rises : (low n : ℕ) (ds : List (ℕ × Reason)) → RisesBelow low n ds → rise_from low (map (λ d. d.0) ds) ≡ true
below_rises low n [] below = refl
below_rises low n (d ∷ ds) below = grind (arith, common_steps, below.0, below_rises (d.0 + 1) n ds below.1)

-- a history of packets with numbers below n
record IsTidyHistory (n : ℕ) (h : History) : Type 0 where
  events : AreEvents h.active
  entries : list_all is_tidy_entry h.entries ≡ true
  drops : RisesBelow 0 n h.drops

later_history : (n m : ℕ) (h : History) → n ≤ m → IsTidyHistory n h → IsTidyHistory m h
later_history n m h less t = record { events = t.events; entries = t.entries; drops = later_below 0 n m h.drops less t.drops }

unless_tidy : (n number : ℕ) (o : Option Reason) (s r : PacketUnderWay) (h : History) → n ≤ number → RisesBelow 0 n h.drops → IsTidyUnderWay s
    → IsTidyUnderWay r → IsTidyHistory (number + 1) (received_unless o number s r h)
unless_tidy n number None s r h less drops ts tr = record { events = tr.events; entries = tr.entries; drops = later_below 0 n (number + 1) h.drops (omega arith) drops }
unless_tidy n number (Some reason) s r h less drops ts tr = record { events = ts.events; entries = ts.entries; drops = one_below 0 n number reason h.drops less drops }

drops_below : (number : ℕ) (verdict : Verdict) → RisesBelow 0 (number + 1) (drops_of verdict number)
drops_below number Pass = omega arith
drops_below number (Drop reason) = (omega arith, le_refl (number + 1))

module _ (app : Meaning) (control : ControlState) (are : AreEvents control.regs) where
  followed_tidy : (n number : ℕ) (from : Side) (head : Head) (scale : Option ℕ) (payload : List ℕ) (h : History) → n ≤ number → IsTidyHistory n h
      → IsTidyHistory (number + 1) (followed app control number from head scale payload h)
  unfolding followed sender_phase receiver_phase
  followed_tidy n number from head scale payload h less t =
      let s = sender_phase app control number from head scale h in
      let r = receiver_phase app control number from head payload h.count s in
      let ts = phase_tidy app control are number from (sender_raises head from h.count (h.count == 0) (sent_answer from head h.emulation)) (begin (sent from head scale h.emulation) h)
      (record { events = t.events; entries = t.entries }) in
      unless_tidy n number s.drop s r h less t.drops ts
      (phase_tidy app control are number from (receiver_raises head from h.count (got_of from head payload s.emulation)) (go_on (received from head payload s.emulation) s)
      (record { events = ts.events; entries = ts.entries }))

  after_tidy : (n : ℕ) (opener : Sight) (a : Arrival) (h : History) → n ≤ a.number → IsTidyHistory n h → IsTidyHistory (a.number + 1) (history_after app control opener a h)
  unfolding history_after
  after_tidy n opener a h less t = by a.sight
    where
      by : (s : Sight) → IsTidyHistory (a.number + 1) (elim s [ Tcp segment ↦ followed app control a.number (side_in opener segment) segment.head segment.scale segment.payload h | Other class ↦ h ])
      by (Tcp segment) = followed_tidy n a.number (side_in opener segment) segment.head segment.scale segment.payload h less t
      by (Other class) = later_history n (a.number + 1) h (omega arith) t

  fresh_tidy : IsTidyHistory 0 (fresh app control)
  fresh_tidy = record { events = filtered (λ r. r.on) control.regs are; entries = refl; drops = omega arith }

  orphan_tidy : (number : ℕ) (raises : List Raise) → IsTidyHistory (number + 1) (orphan_history app control number raises)
  unfolding orphan_history
  orphan_tidy number raises =
      let c = orphan_under_way app control number raises in
      let t = raised_tidy app control are number _ raises _ (record { events = fresh_tidy.events; entries = refl }) in
      record { events = t.events; entries = t.entries; drops = drops_below number (verdict_of c.drop) }

  silenced_tidy : (n number : ℕ) (raise : Raise) (h : History) → IsTidyHistory n h → IsTidyHistory n (silenced app control number raise h)
  unfolding silenced
  silenced_tidy n number raise h t =
      let c = called_at_tidy app control are number Client raise (begin h.emulation h) (record { events = t.events; entries = t.entries }) in
      record { events = c.events; entries = c.entries; drops = t.drops }

  first_tidy : (a : Arrival) (opening : Bool)
      → IsTidyHistory (a.number + 1) (if opening then history_after app control a.sight a (fresh app control) else orphan_history app control a.number (orphan_raises_of a.sight))
  first_tidy a true = after_tidy 0 a.sight a (fresh app control) (omega arith) fresh_tidy
  first_tidy a false = orphan_tidy a.number (orphan_raises_of a.sight)

-- ---- the records

-- names rise from low on and are below n, and the histories are tidy
abbrev AreTidy : ℕ → ℕ → List RecordSoFar → Type 0
AreTidy low n [] = low ≤ n
AreTidy low n (one ∷ others) = (low ≤ one.first.number) × IsTidyHistory n one.history × AreTidy (one.first.number + 1) n others

later_tidy : (low n m : ℕ) (so_far : List RecordSoFar) → n ≤ m → AreTidy low n so_far → AreTidy low m so_far
later_tidy low n m [] less within = omega arith
later_tidy low n m (one ∷ others) less t = (t.0, later_history n m one.history less t.1, later_tidy (one.first.number + 1) n m others less t.2)

module _ (app : Meaning) (control_at : ℕ → ControlState) (are : (v : ℕ) → AreEvents (control_at v).regs) where
  -- one more packet
  placed_tidy : (low n : ℕ) (p : VersionedPacket) (so_far : List RecordSoFar) → n ≤ p.arrival.number → AreTidy low n so_far → AreTidy low (p.arrival.number + 1) (placed app control_at p so_far)
  unfolding placed
  placed_tidy low n p [] less within =
      (omega (arith, within), first_tidy app (control_at p.version) (are p.version) p.arrival (opens p.arrival.sight), le_refl (p.arrival.number + 1))
  placed_tidy low n p (one ∷ others) less t =
      elim (belongs_to p.arrival.sight one) as (λ b. AreTidy low (p.arrival.number + 1) (if b then continued_by app control_at p.arrival one ∷ others else one ∷ placed app control_at p others)) [
        | true ↦ (
          t.0,
          after_tidy app (control_at one.version) (are one.version) n one.first.sight p.arrival one.history less t.1,
          later_tidy (one.first.number + 1) n (p.arrival.number + 1) others (omega arith) t.2,
        )
        | false ↦ (t.0, later_history n (p.arrival.number + 1) one.history (omega arith) t.1, placed_tidy (one.first.number + 1) n p others less t.2)
      ]

  -- records that end
  ended_tidy : (low n : ℕ) (step : RecordSoFar → RecordSoFar) → Ends app control_at step → (so_far : List RecordSoFar) → AreTidy low n so_far → AreTidy low n (map step so_far)
  ended_tidy low n step ends [] t = t
  ended_tidy low n step ends (one ∷ others) t =
      let rest = ended_tidy (one.first.number + 1) n step ends others t.2 in
      let silent = silenced_tidy app (control_at one.version) (are one.version) n one.last.number (timer_raise_of one.first.sight one.history.count) one.history t.1 in
      either app control_at (λ q. (low ≤ q.first.number) × IsTidyHistory n q.history × AreTidy (q.first.number + 1) n (map step others)) step ends one
      (t.0, silent, rest) (t.0, t.1, rest)

  added_tidy : (n : ℕ) (p : VersionedPacket) (so_far : List RecordSoFar) → n ≤ p.arrival.number → AreTidy 0 n so_far → AreTidy 0 (p.arrival.number + 1) (added app control_at p so_far)
  added_tidy n p so_far less t =
      placed_tidy 0 n p (map (ended_before app control_at p) so_far) less (ended_tidy 0 n (ended_before app control_at p) (ends_before app control_at p) so_far t)

  records_tidy : (n : ℕ) (ps : List VersionedPacket) (so_far : List RecordSoFar) → rise n ps ≡ true → AreTidy 0 n so_far → (m : ℕ) × AreTidy 0 m (records_from app control_at so_far ps)
  unfolding records_from
  records_tidy n [] so_far rising t = (n, t)
  records_tidy n (p ∷ ps) so_far rising t =
      let here = first_of (nat_le n p.arrival.number) _ rising in
      let less : n ≤ p.arrival.number = grind (arith, common_steps) in
      records_tidy (p.arrival.number + 1) ps (added app control_at p so_far) (rest_of (nat_le n p.arrival.number) _ rising) (added_tidy n p so_far less t)

names_rise : (app : Meaning) (low n : ℕ) (so_far : List RecordSoFar) → AreTidy low n so_far → rise_from low (map (λ r. r.name) (map (record_of app) so_far)) ≡ true
names_rise app low n [] t = refl
names_rise app low n (one ∷ others) t = grind (arith, common_steps, t.0, names_rise app (one.first.number + 1) n others t.2)

fields_allowed : (app : Meaning) (sight : Sight) (fields : List (List ℕ × ℕ)) → are_named fields ≡ true
    → (are_named (if opens sight then fields else []) && may_have (kind_of sight) (if opens sight then fields else [])) ≡ true
unfolding kind_of opens
fields_allowed app (Tcp segment) fields named =
    elim (opens (Tcp segment)) as (λ b. (are_named (if b then fields else []) && may_have (if b then Conn segment.sender segment.receiver else Orphan Class.Tcp) (if b then fields else [])) ≡ true) [
      | true ↦ both (are_named fields) true named refl
      | false ↦ refl
    ]
fields_allowed app (Other class) fields named = refl

record_tidy : (app : Meaning) (n : ℕ) (one : RecordSoFar) → IsLawful app → IsTidyHistory n one.history → is_tidy_record (record_of app one) ≡ true
record_tidy app n one lawful t =
    let allowed = fields_allowed app one.first.sight (app.fields one.history.tally) (lawful.names one.history.tally) in
    both _ _ (both _ _ (both _ _ t.entries (below_rises 0 n one.history.drops t.drops)) (first_of _ _ allowed)) (rest_of _ _ allowed)

all_records_tidy : (app : Meaning) (low n : ℕ) (so_far : List RecordSoFar) → IsLawful app → AreTidy low n so_far → list_all is_tidy_record (map (record_of app) so_far) ≡ true
all_records_tidy app low n [] lawful t = refl
all_records_tidy app low n (one ∷ others) lawful t = both _ _ (record_tidy app n one lawful t.1) (all_records_tidy app (one.first.number + 1) n others lawful t.2)

pub records_are_tidy : (app : Meaning) (control_at : ℕ → ControlState) (last : Option Moment) (ps : List VersionedPacket) → IsLawful app → ((v : ℕ) → AreEvents (control_at v).regs) → rise 0 ps ≡ true
    → tidy (map (record_of app) (map (ended_at app control_at last) (records_from app control_at [] ps))) ≡ true
unfolding tidy
records_are_tidy app control_at last ps lawful are rising =
    let all = records_tidy app control_at are 0 ps [] rising (omega arith) in
    let so_far = map (ended_at app control_at last) (records_from app control_at [] ps) in
    let t = ended_tidy app control_at are 0 all.0 (ended_at app control_at last) (ends_at app control_at last) (records_from app control_at [] ps) all.1 in
    both _ _ (names_rise app 0 all.0 so_far t) (all_records_tidy app 0 all.0 so_far lawful t)
