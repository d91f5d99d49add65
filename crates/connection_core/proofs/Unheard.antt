-- What isn't heard changes nothing: neither a raise nor a phase of such raises.
use Rattle.std.proofs.Common.{◌≡◌, ℕ, Bool, true, false, ◌||◌, Option, List, [], ◌∷◌, refl, sym, ap, subst, ◌∙◌}
use Rattle.std.specs.List.{list_all, AllByRecursion}
use Rattle.native_filters.specs.declared.facts.Facts.{Facts}
use Rattle.native_filters.specs.declared.facts.Hook.{Hook}
use Rattle.native_filters.specs.declared.facts.Hook.TheVariants.{Snd, Rcv}
use Rattle.packet_views.specs.declared.packet.Head.{Head}
use Rattle.tcp_emulation.specs.declared.segment.Side.{Side}
use Rattle.flow_socket.specs.View.{SocketView}
use Rattle.flow_socket.specs.declared.answers.Sent.{Sent}
use Rattle.flow_socket.specs.declared.answers.Got.{Got}
use Rattle.app_api.specs.declared.registration.Reg.{Reg}
use Rattle.app_api.specs.App.{Meaning}
use Rattle.app_api.specs.declared.hearers.Heard.{Heard}
use Rattle.app_api.specs.Events.{is_built_in}
use Rattle.app_api.specs.Hearers.{is_any, is_heard_in}
use Rattle.builtin_events.specs.declared.raise.Raise.{Raise}
use Rattle.builtin_events.specs.Facts.{sender_facts, receiver_facts}
use Rattle.builtin_events.specs.Heard.{is_any_heard}
use Rattle.builtin_events.specs.RaiseLaws.{Row, events_of, all_raised}
use Rattle.builtin_events.specs.Raises.{raised_where, sender_events, receiver_events, sender_raises, receiver_raises}
use Rattle.shared_forest.specs.Listing.{Shown}
use Rattle.shared_forest.specs.Heard.{is_heard, AreHeard}
use Rattle.event_trees.specs.Fires.{fires}
use Rattle.forest_versions.specs.State.{ControlState}
use Rattle.connection_core.specs.declared.ledger.Notes.{Notes}
use Rattle.connection_core.specs.declared.ledger.Counts.{Counts}
use Rattle.connection_core.specs.declared.ledger.Ledger.{Ledger}
use Rattle.connection_core.specs.PacketUnderWay.{PacketUnderWay, called_all, called_at, changed_all, settled, raise_done, phase}
use Rattle.connection_core.specs.Standing.{IsUnder, Steps, Reached}
use Rattle.connection_core.specs.Unheard.{CallsNothing, CallNothing}
use Rattle.connection_core.proofs.Changing.{within-same}

-- ---- a raise

called-none : (app : Meaning) (s : ControlState) (number : ℕ) (from : Side) (raise : Raise) (c : PacketUnderWay) → CallsNothing s c.active raise → called_at app s number from raise c ≡ c
unfolding called_at
called-none app s number from raise c none = ap (called_all app s number from raise c) none

pub calls_nothing : (app : Meaning) (s : ControlState) (keep : Bool) (list : List Reg) (number : ℕ) (from : Side) (raise : Raise) (socket : SocketView) (notes : Notes) (ledger : Ledger)
    → CallsNothing s list raise → Steps keep list socket notes ledger socket notes ledger (called_at app s number from raise)
calls_nothing app s keep list number from raise socket notes ledger silent = record {
  stands = λ others c u.
      let here : CallsNothing s c.active raise = subst (λ l. CallsNothing s l raise) (sym u.active) silent in
      subst (λ (d : PacketUnderWay). IsUnder keep others list socket notes ledger d) (sym (called-none app s number from raise c here)) u;
}

pub settled-none : (s : ControlState) (c : PacketUnderWay) → c.asked ≡ [] → settled s c ≡ c
unfolding settled
settled-none s c none = ap (λ l. record (changed_all s l c) { asked = [] }) none ∙ (λ i. record c { asked = sym none i })

done-none : (app : Meaning) (s : ControlState) (number : ℕ) (from : Side) (raise : Raise) (c : PacketUnderWay) → CallsNothing s c.active raise → c.asked ≡ []
    → raise_done app s number from raise c ≡ c
unfolding raise_done
done-none app s number from raise c silent none = ap (settled s) (called-none app s number from raise c silent) ∙ settled-none s c none

-- ---- a phase

pub phase-none : (app : Meaning) (s : ControlState) (number : ℕ) (from : Side) (raises : List Raise) (c : PacketUnderWay) → CallNothing s c.active raises → c.asked ≡ []
    → phase app s number from raises c ≡ c
unfolding phase
phase-none app s number from [] c silent none = refl
phase-none app s number from (raise ∷ raises) c silent none =
    ap (phase app s number from raises) (done-none app s number from raise c silent.0 none) ∙ phase-none app s number from raises c silent.1 none

pub phase_silent : (app : Meaning) (s : ControlState) (keep : Bool) (others : Counts) (list : List Reg) (i : Option ℕ) (number : ℕ) (from : Side)
    (raises : List Raise) (socket : SocketView) (notes : Notes) (ledger : Ledger)
    → CallNothing s list raises → ledger.changes.items ≡ [] → (c : PacketUnderWay) → IsUnder keep others list socket notes ledger c
    → Reached keep others list socket notes ledger i i c.altered (phase app s number from raises c)
phase_silent app s keep others list i number from raises socket notes ledger silent none c u =
    let here : CallNothing s c.active raises = subst (λ l. CallNothing s l raises) (sym u.active) silent in
    subst (λ (d : PacketUnderWay). Reached keep others list socket notes ledger i i c.altered d) (sym (phase-none app s number from raises c here (sym u.asked ∙ none)))
    (record { under = u; interned = within-same i c.altered })

-- ---- what is heard of a phase

-- a raise at this side, of a built-in event
record IsAt (hook : Hook) (raise : Raise) : Type 0 where
  side : raise.hook ≡ hook
  known : is_built_in raise.event ≡ true

all_at : (hook : Hook) (facts : Facts) (rows : List Row) → list_all is_built_in (events_of rows) ≡ true → AllByRecursion (IsAt hook) (raised_where hook facts rows)
all_at hook facts rows all = all_raised hook facts (IsAt hook) is_built_in (λ event known. record { side = refl; known = known }) rows all

neither : (a b : Bool) → (a || b) ≡ false → (a ≡ false) × (b ≡ false)
neither true b is = absurd (cc)
neither false b is = (refl, is)

silent : (s : ControlState) (list : List Reg) (hook : Hook) (heard : Heard) (shown : List Shown) (raises : List Raise) → AllByRecursion (IsAt hook) raises
    → AreHeard hook heard shown → ((event : ℕ) → is_heard hook event shown ≡ false → (facts : Facts) → fires s.defs facts hook event list ≡ [])
    → is_any_heard heard raises ≡ false → CallNothing s list raises
silent s list hook heard shown [] at all none is = tt
silent s list hook heard shown (raise ∷ raises) at all none is =
    let both = neither (is_heard_in heard raise.event) (is_any_heard heard raises) is in
    let unheard : is_heard hook raise.event shown ≡ false = sym (ap is_any (all raise.event at.0.known)) ∙ both.0 in
    (subst (λ h. fires s.defs raise.facts h raise.event list ≡ []) (sym at.0.side) (none raise.event unheard raise.facts), silent s list hook heard shown raises at.1 all none both.1)

pub sender_silent : (s : ControlState) (list : List Reg) (heard : Heard) (shown : List Shown) (h : Head) (from : Side) (nth : ℕ) (first : Bool) (sent : Sent)
    → AreHeard Snd heard shown → ((event : ℕ) → is_heard Snd event shown ≡ false → (facts : Facts) → fires s.defs facts Snd event list ≡ [])
    → is_any_heard heard (sender_raises h from nth first sent) ≡ false → CallNothing s list (sender_raises h from nth first sent)
unfolding sender_raises
sender_silent s list heard shown h from nth first sent all none is =
    let facts = sender_facts h from nth sent in
    let rows = sender_events facts first in
    silent s list Snd heard shown (raised_where Snd facts rows) (all_at Snd facts rows refl) all none is

pub receiver_silent : (s : ControlState) (list : List Reg) (heard : Heard) (shown : List Shown) (h : Head) (from : Side) (nth : ℕ) (got : Got)
    → AreHeard Rcv heard shown → ((event : ℕ) → is_heard Rcv event shown ≡ false → (facts : Facts) → fires s.defs facts Rcv event list ≡ [])
    → is_any_heard heard (receiver_raises h from nth got) ≡ false → CallNothing s list (receiver_raises h from nth got)
unfolding receiver_raises
receiver_silent s list heard shown h from nth got all none is =
    let facts = receiver_facts h from nth got in
    let rows = receiver_events facts got in
    silent s list Rcv heard shown (raised_where Rcv facts rows) (all_at Rcv facts rows refl) all none is
