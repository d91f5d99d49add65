-- The phases of a packet, and what its connection has come to.
use Rattle.std.proofs.Common.{◌≡◌, ℕ, ◌+◌, ◌≤◌, eqb, Bool, Some, None, Option, List, [], ◌∷◌, ◌++◌, refl, sym, ap, subst, ◌∙◌, append-nil, arith}
use Rattle.packet_views.specs.declared.packet.Head.{Head}
use Rattle.tcp_emulation.specs.declared.segment.Side.{Side}
use Rattle.flow_socket.specs.View.{SocketView, SocketStandsFor}
use Rattle.reassembly.specs.declared.answers.Policy.{Policy}
use Rattle.tcp_emulation.specs.declared.segment.Side.TheVariants.{Client}
use Rattle.tcp_emulation.specs.Ends.{are_over}
use Rattle.flow_socket.specs.Emulation.{Emulation, fresh_emulation as unheard, sent, sent_answer, received, got_of}
use Rattle.flow_socket.specs.declared.answers.Sent.{Sent}
use Rattle.flow_socket.specs.declared.answers.Got.{Got}
use Rattle.app_api.specs.declared.reaction.Reason.{Reason}
use Rattle.app_api.specs.declared.registration.Reg.{Reg}
use Rattle.app_api.specs.App.{Meaning}
use Rattle.builtin_events.specs.declared.raise.Raise.{Raise}
use Rattle.builtin_events.specs.Raises.{sender_raises, receiver_raises}
use Rattle.shared_forest.specs.Lists.{TreeLists}
use Rattle.forest_versions.specs.State.{ControlState, active as first_active}
use Rattle.connection_core.specs.declared.arrival.Arrived.{Arrived}
use Rattle.connection_core.specs.declared.flow.Flow.{Flow}
use Rattle.connection_core.specs.declared.flow.Step.{Step}
use Rattle.connection_core.specs.declared.ledger.Notes.{Notes}
use Rattle.connection_core.specs.declared.ledger.Counts.{Counts}
use Rattle.connection_core.specs.declared.ledger.Ledger.{Ledger}
use Rattle.connection_core.specs.PacketUnderWay.{PacketUnderWay, raised, phase}
use Rattle.connection_core.specs.History.{History, fresh, orphan_under_way, begin, go_on, done, sender_phase, receiver_phase, received_unless, followed, verdict, verdict_of, drops_of, is_over}
use Rattle.connection_core.specs.InForce.{registered}
use Rattle.connection_core.specs.Trees.{active_in, InternsWithin}
use Rattle.connection_core.specs.Calls.{Running, phase_sending, phase_receiving, followed_by, FlowState, ForConnection, StepsTo}
use Rattle.connection_core.specs.Standing.{IsNoted, IsConnection, IsUnder, state_of, IsBegun, Steps, CostsUnder, Reached, Stepped}
use Rattle.connection_core.proofs.Changing.{within-same, within-up}
use Rattle.connection_core.proofs.Settling.{phase_rises}

-- ---- the sender's phase

-- What a phase makes of each packet under way that stands, that of the sender makes of the connection's. `R` is what is known of one
-- before and after.
pub sender_makes : (app : Meaning) (s : ControlState) (keep : Bool) (others : Counts) (at : ℕ → Option Reg) (tree : TreeLists) (number : ℕ) (from : Side) (head : Head) (scale : Option ℕ)
    (answer : Sent) (raises : List Raise) (flow : Flow) (socket : SocketView) (notes : Notes) (ledger begun : Ledger) (h : History) (R : PacketUnderWay → PacketUnderWay → Type 0)
    → IsConnection keep others at tree flow notes ledger.counts h
    → ((e : Emulation) → SocketStandsFor flow.socket e → SocketStandsFor socket (sent from head scale e))
    → ((e : Emulation) → SocketStandsFor flow.socket e → answer ≡ sent_answer from head e)
    → raises ≡ sender_raises head from flow.count (eqb flow.count 0) answer
    → IsBegun ledger begun
    → ((c : PacketUnderWay) → IsUnder keep others (active_in at tree) socket notes begun c → R c (phase app s number from raises c))
    → R (begin (sent from head scale h.emulation) h) (sender_phase app s number from head scale h)
unfolding sender_phase
sender_makes app s keep others at tree number from head scale answer raises flow socket notes ledger begun h R is heard answers raised_are begins makes =
    let e = h.emulation in
    let all : raises ≡ sender_raises head from h.count (eqb h.count 0) (sent_answer from head e) =
    raised_are ∙ ap (λ n. sender_raises head from n (eqb n 0) answer) is.kept.count ∙ ap (λ a. sender_raises head from h.count (eqb h.count 0) a) (answers e is.kept.socket) in
    let c = begin (sent from head scale e) h in
    let under : IsUnder keep others (active_in at tree) socket notes begun c = record {
      heard = heard e is.kept.socket;
      active = is.kept.active;
      noted = subst (λ n. IsNoted keep others h.tally h.entries notes n) (sym begins.counts) is.noted;
      asked = begins.changes;
      drop = begins.drop;
    } in
    subst (λ l. R c (phase app s number from l c)) all (makes c under)

-- one that failed before its phase
pub sender_costs_none : (app : Meaning) (s : ControlState) (i : Option ℕ) (number : ℕ) (from : Side) (head : Head) (scale : Option ℕ) (h : History)
    → InternsWithin i i h.altered (sender_phase app s number from head scale h).altered
unfolding sender_phase
sender_costs_none app s i number from head scale h =
    let e = h.emulation in
    let c = begin (sent from head scale e) h in
    let raises = sender_raises head from h.count (eqb h.count 0) (sent_answer from head e) in
    within-up i i h.altered h.altered (phase app s number from raises c).altered (phase_rises app s number from raises c) (within-same i h.altered)

-- ---- the receiver's phase

-- the same of the receiver's
pub receiver_makes : (app : Meaning) (s : ControlState) (keep : Bool) (others : Counts) (list : List Reg) (number : ℕ) (from : Side) (head : Head) (payload : List ℕ) (count : ℕ)
    (answer : Got) (raises : List Raise) (socket heard : SocketView) (notes : Notes) (ledger : Ledger) (c : PacketUnderWay) (R : PacketUnderWay → PacketUnderWay → Type 0)
    → IsUnder keep others list socket notes ledger c
    → ((e : Emulation) → SocketStandsFor socket e → SocketStandsFor heard (received from head payload e))
    → ((e : Emulation) → SocketStandsFor socket e → answer ≡ got_of from head payload e)
    → raises ≡ receiver_raises head from count answer
    → ((d : PacketUnderWay) → IsUnder keep others list heard notes ledger d → R d (phase app s number from raises d))
    → R (go_on (received from head payload c.emulation) c) (receiver_phase app s number from head payload count c)
unfolding receiver_phase
receiver_makes app s keep others list number from head payload count answer raises socket heard notes ledger c R u stands answers raised_are makes =
    let e = c.emulation in
    let all : raises ≡ receiver_raises head from count (got_of from head payload e) = raised_are ∙ ap (λ a. receiver_raises head from count a) (answers e u.heard) in
    let d = go_on (received from head payload e) c in
    let under : IsUnder keep others list heard notes ledger d = record {
      heard = stands e u.heard;
      active = u.active;
      noted = u.noted;
      asked = u.asked;
      drop = u.drop;
    } in
    subst (λ l. R d (phase app s number from l d)) all (makes d under)

receiver_rises : (app : Meaning) (s : ControlState) (number : ℕ) (from : Side) (head : Head) (payload : List ℕ) (count : ℕ) (c : PacketUnderWay)
    → c.altered ≤ (receiver_phase app s number from head payload count c).altered
unfolding receiver_phase
receiver_rises app s number from head payload count c =
    phase_rises app s number from (receiver_raises head from count (got_of from head payload c.emulation)) (go_on (received from head payload c.emulation) c)

-- one that failed before its phase
pub receiver_costs_none : (app : Meaning) (s : ControlState) (keep : Bool) (list : List Reg) (i : Option ℕ) (number : ℕ) (from : Side) (head : Head) (payload : List ℕ) (count : ℕ)
    (socket : SocketView) (notes : Notes) (ledger : Ledger) → CostsUnder keep list (state_of socket notes ledger) i i (receiver_phase app s number from head payload count)
receiver_costs_none app s keep list i number from head payload count socket notes ledger = record {
  interned = λ others c u.
      within-up i i c.altered c.altered (receiver_phase app s number from head payload count c).altered (receiver_rises app s number from head payload count c) (within-same i c.altered);
}

-- ---- the packet

done_stands : (keep : Bool) (others : Counts) (at : ℕ → Option Reg) (tree : TreeLists) (flow : Flow) (notes : Notes) (ledger : Ledger) (c : PacketUnderWay) (count : ℕ) (drops : List (ℕ × Reason))
    → IsUnder keep others (active_in at tree) flow.socket notes ledger c → flow.count ≡ count
    → IsConnection keep others at tree flow notes ledger.counts (done count drops c)
done_stands keep others at tree flow notes ledger c count drops u counted = record {
  kept = record { socket = u.heard; count = counted; active = u.active };
  noted = u.noted;
}

-- the packet was dropped
pub dropped_stepped : (keep : Bool) (others : Counts) (at : ℕ → Option Reg) (tree : TreeLists) (flow : Flow) (notes : Notes) (ledger : Ledger)
    (i : Option ℕ) (number : ℕ) (c r : PacketUnderWay) (h : History)
    (count : ℕ) (reason : Reason) → ledger.drop ≡ Some reason → count ≡ h.count → flow.count ≡ count + 1
    → IsUnder keep others (active_in at tree) flow.socket notes ledger c
    → Stepped keep others at tree flow notes ledger.counts i i c.altered (received_unless c.drop number c r h)
dropped_stepped keep others at tree flow notes ledger i number c r h count reason dropped was counted u =
    let drop : Some reason ≡ c.drop = sym dropped ∙ u.drop in
    let is : Stepped keep others at tree flow notes ledger.counts i i c.altered (received_unless (Some reason) number c r h) = record {
      stands = done_stands keep others at tree flow notes ledger c (h.count + 1) (h.drops ++ (number, reason) ∷ []) u (counted ∙ ap (λ n. n + 1) was);
      interned = within-same i c.altered;
    } in
    subst (λ o. Stepped keep others at tree flow notes ledger.counts i i c.altered (received_unless o number c r h)) drop is

-- it came to its receiver
pub received_stepped : (keep : Bool) (others : Counts) (at : ℕ → Option Reg) (tree : TreeLists) (flow : Flow) (notes : Notes) (before ledger : Ledger)
    (i j : Option ℕ) (number : ℕ) (c r : PacketUnderWay) (h : History)
    (count : ℕ) → before.drop ≡ None → before.drop ≡ c.drop → count ≡ h.count → flow.count ≡ count + 1
    → Reached keep others (active_in at tree) flow.socket notes ledger i j c.altered r
    → Stepped keep others at tree flow notes ledger.counts i j c.altered (received_unless c.drop number c r h)
received_stepped keep others at tree flow notes before ledger i j number c r h count none asked was counted reached =
    let drop : None ≡ c.drop = sym none ∙ asked in
    let is : Stepped keep others at tree flow notes ledger.counts i j c.altered (received_unless None number c r h) = record {
      stands = done_stands keep others at tree flow notes ledger r (h.count + 1) h.drops reached.under (counted ∙ ap (λ n. n + 1) was);
      interned = reached.interned;
    } in
    subst (λ o. Stepped keep others at tree flow notes ledger.counts i j c.altered (received_unless o number c r h)) drop is

-- it failed at its receiver
pub received_costs : (i j : Option ℕ) (number : ℕ) (c r : PacketUnderWay) (h : History) (before : Ledger) → before.drop ≡ None → before.drop ≡ c.drop → InternsWithin i j c.altered r.altered
    → InternsWithin i j c.altered (received_unless c.drop number c r h).altered
received_costs i j number c r h before none asked costs =
    let drop : None ≡ c.drop = sym none ∙ asked in
    subst (λ o. InternsWithin i j c.altered (received_unless o number c r h).altered) drop costs

received_rises : (o : Option Reason) (number : ℕ) (c r : PacketUnderWay) (h : History) → c.altered ≤ r.altered → c.altered ≤ (received_unless o number c r h).altered
received_rises None number c r h up = up
received_rises (Some reason) number c r h up = omega arith

-- it failed at its sender
pub sender_costs : (app : Meaning) (s : ControlState) (i j : Option ℕ) (number : ℕ) (from : Side) (head : Head) (scale : Option ℕ) (payload : List ℕ) (h : History)
    → InternsWithin i j h.altered (sender_phase app s number from head scale h).altered → InternsWithin i j h.altered (followed app s number from head scale payload h).altered
unfolding followed
sender_costs app s i j number from head scale payload h costs =
    let sent = sender_phase app s number from head scale h in
    let received = receiver_phase app s number from head payload h.count sent in
    within-up i j h.altered sent.altered (received_unless sent.drop number sent received h).altered
    (received_rises sent.drop number sent received h (receiver_rises app s number from head payload h.count sent)) costs

pub drops_more : (o : Option Reason) (number : ℕ) (c r : PacketUnderWay) (h : History) → (received_unless o number c r h).drops ≡ h.drops ++ drops_of (verdict_of o) number
drops_more None number c r h = sym (append-nil h.drops)
drops_more (Some reason) number c r h = refl

-- all that a packet's step comes to
pub steps_to : (t : Running) (arrived : Arrived) (old new : FlowState) (step : Step)
    → ForConnection t old (λ app s others h. Stepped t.keep others (registered t.lent) new.tree new.flow new.notes new.ledger.counts
    old.interns new.interns h.altered (followed_by app s arrived h))
    → ((e : Emulation) → SocketStandsFor new.flow.socket e → step.over ≡ are_over e.ends)
    → ForConnection t old (λ app s others h. step.verdict ≡ verdict_of (phase_sending app s arrived h).drop)
    → StepsTo t arrived old new step
unfolding followed is_over verdict
steps_to t arrived old new step stepped over passes = record {
  connection = λ s others h force is. (stepped s others h force is).stands;
  interned = λ s others h force is. (stepped s others h force is).interned;
  over = λ s others h force is. over _ (stepped s others h force is).stands.kept.socket;
  verdict_is = passes;
  drops = λ s others h force is.
      let sent = phase_sending t.app s arrived h in
      drops_more sent.drop arrived.number sent (phase_receiving t.app s arrived h.count sent) h
      ∙ ap (λ v. h.drops ++ drops_of v arrived.number) (sym (passes s others h force is));
}

-- ---- a packet of no connection

pub orphan_under : (app : Meaning) (s : ControlState) (keep : Bool) (others : Counts) (list : List Reg) (number : ℕ) (raises : List Raise) (rbuf : ℕ) (policy : Policy)
    (socket socket_after : SocketView) (notes notes_after : Notes) (ledger begun ledger_after : Ledger)
    → list ≡ first_active s → rbuf ≡ s.rbuf → policy ≡ s.policy → SocketStandsFor socket (unheard rbuf policy)
    → IsNoted keep others app.fresh [] notes ledger.counts
    → IsBegun ledger begun
    → Steps keep list socket notes begun socket_after notes_after ledger_after (raised app s number Client raises)
    → IsUnder keep others list socket_after notes_after ledger_after (orphan_under_way app s number raises)
orphan_under app s keep others list number raises rbuf policy socket socket_after notes notes_after ledger begun ledger_after first buffer overlap heard noted begins steps =
    steps.stands others (begin (unheard s.rbuf s.policy) (fresh app s)) (record {
      heard = subst (λ p. SocketStandsFor socket (unheard s.rbuf p)) overlap (subst (λ n. SocketStandsFor socket (unheard n policy)) buffer heard);
      active = sym first;
      noted = subst (λ n. IsNoted keep others app.fresh [] notes n) (sym begins.counts) noted;
      asked = begins.changes;
      drop = begins.drop;
    })
