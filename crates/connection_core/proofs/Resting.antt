-- What a packet comes to at a hook where it calls one thing, which does nothing.
use Rattle.std.proofs.Common.{◌≡◌, ℕ, ◌+◌, Bool, true, false, not, ◌&&◌, ◌==◌, Option, Some, List, [], ◌∷◌, ◌++◌, None, refl, sym, ap, subst, ◌∙◌, append-nil}
use Rattle.std.specs.Prelude.{take, drop, if◌then◌else◌}
use Rattle.std.specs.List.{All, list_all}
use Rattle.std.proofs.lemmas.Bool.{and_parts}
use Rattle.std.proofs.lemmas.List.Elements.{All-filter, recursion_from_All}
use Rattle.native_filters.specs.declared.facts.Facts.{Facts}
use Rattle.native_filters.specs.declared.facts.Hook.{Hook}
use Rattle.native_filters.specs.declared.facts.Hook.TheVariants.{Snd, Rcv}
use Rattle.packet_views.specs.declared.packet.Head.{Head}
use Rattle.tcp_emulation.specs.declared.segment.Side.{Side}
use Rattle.flow_socket.specs.View.{SocketView, SocketStandsFor}
use Rattle.flow_socket.specs.declared.answers.Sent.{Sent}
use Rattle.flow_socket.specs.declared.answers.Got.{Got}
use Rattle.app_api.specs.declared.app.Call.{Call}
use Rattle.app_api.specs.declared.entry.Entry.{Entry}
use Rattle.app_api.specs.declared.entry.Seen.TheVariants.{Nothing as SawNothing}
use Rattle.app_api.specs.declared.app.Tally.{Tally}
use Rattle.app_api.specs.declared.reaction.Reaction.{Reaction}
use Rattle.app_api.specs.declared.reaction.Reason.{Reason}
use Rattle.app_api.specs.declared.registration.Reg.{Reg}
use Rattle.app_api.specs.declared.registration.PeekSpec.{PeekSpec}
use Rattle.app_api.specs.App.{Meaning, RestsAt}
use Rattle.app_api.specs.Events.{is_of_packets}
use Rattle.app_api.specs.Reaction.{asks_nothing}
use Rattle.builtin_events.specs.declared.raise.Raise.{Raise}
use Rattle.builtin_events.specs.Facts.{sender_facts, receiver_facts}
use Rattle.builtin_events.specs.RaiseLaws.{Row, events_of, all_raised, raised_around}
use Rattle.builtin_events.specs.Raises.{raised_where, sender_events, sender_raises, receiver_events, receiver_raises}
use Rattle.event_trees.specs.Private.{numbers_of}
use Rattle.event_trees.specs.Fires.{fires, is_called}
use Rattle.forest_versions.specs.State.{ControlState}
use Rattle.connection_core.specs.declared.ledger.Notes.{Notes}
use Rattle.connection_core.specs.declared.ledger.Counts.{Counts}
use Rattle.connection_core.specs.declared.ledger.Ledger.{Ledger}
use Rattle.std.specs.Option.{option_or}
use Rattle.connection_core.specs.PacketUnderWay.{PacketUnderWay, seen_by, after_seen, bytes_seen, asked_by, entry_of, reaction_of, called, called_all, called_at, settled, raise_done, phase}
use Rattle.connection_core.specs.Standing.{IsUnder, Reached, kept_with}
use Rattle.connection_core.specs.Trees.{InternsWithin}
use Rattle.connection_core.specs.Unheard.{CallsNothing, CallNothing, PacketsCallOne}
use Rattle.connection_core.specs.Resting.{IsPlain, CallsAlone, entry_at_rest}
use Rattle.connection_core.proofs.Callbacks.{called_under}
use Rattle.connection_core.proofs.Changing.{within-same}
use Rattle.connection_core.proofs.Settling.{phase-append}
use Rattle.connection_core.proofs.Unheard.{settled-none, phase-none}

-- ---- the registration that is called

-- one number is that of one registration
lone : (n : ℕ) (regs : List Reg) → numbers_of regs ≡ n ∷ [] → (r : Reg) × ((regs ≡ r ∷ []) × (r.number ≡ n))
lone n [] is = cc
lone n (r ∷ []) is = let same : r.number ≡ n = cc in (r, (refl, same))
lone n (r ∷ x ∷ regs) is = cc

-- the one that packets call by its number is the one that is looked up by it
pub calls_alone : (s : ControlState) (at : ℕ → Option Reg) (list : List Reg) (hook : Hook) (n : ℕ) (reg : Reg)
    → All (λ (r : Reg). at r.number ≡ Some r) list → PacketsCallOne s list hook n → at n ≡ Some reg → IsPlain reg
    → CallsAlone s list hook reg
calls_alone s at list hook n reg known packets found_reg plain =
    let K : Reg → Type 0 = λ r. at r.number ≡ Some r in
    record {
      plain = plain;
      called = λ facts.
          let one = lone n (fires s.defs facts hook 257 list) (packets.one facts) in
          let r = one.0 in
          let only : fires s.defs facts hook 257 list ≡ r ∷ [] = one.1.0 in
          let here : K r = (recursion_from_All K (r ∷ []) (subst (All K) only (All-filter (is_called s.defs facts hook 257) K list known))).0 in
          let same : Some r ≡ Some reg = sym here ∙ (ap at one.1.1 ∙ found_reg) in
          let is : r ≡ reg = cc in
          only ∙ ap (λ x. x ∷ []) is;
      alone = packets.others;
    }

-- ---- the raises of a packet at a hook

abbrev raised_at : Hook → Facts → ℕ → Raise
raised_at hook facts event = record { hook = hook; event = event; facts = facts }

-- whether an event of packets isn't `pkt_in`
abbrev is_other : ℕ → Bool
is_other event = is_of_packets event && not (257 == event)

others-silent : (s : ControlState) (list : List Reg) (hook : Hook) (r : Reg) → CallsAlone s list hook r → (f : Facts) (rows : List Row)
    → list_all is_other (events_of rows) ≡ true → CallNothing s list (raised_where hook f rows)
others-silent s list hook r is f rows all =
    all_raised hook f (CallsNothing s list) is_other (λ event other.
    let both = and_parts (is_of_packets event) (not (257 == event)) other in is.alone f event both.0 (not-true (257 == event) both.1)) rows all
  where
    not-true : (b : Bool) → not b ≡ true → b ≡ false
    not-true true apart = cc
    not-true false apart = refl

-- ---- the one callback

first-stays : (d : Option Reason) → d ≡ option_or d None
first-stays None = refl
first-stays (Some reason) = refl

altered-same : (app : Meaning) (s : ControlState) (number : ℕ) (from : Side) (raise : Raise) (c : PacketUnderWay) (r : Reg) → (called app s number from raise c r).altered ≡ c.altered
unfolding called
altered-same app s number from raise c r = refl

call-rests : (app : Meaning) (hook : Hook) → RestsAt app hook → (s : ControlState) (r : Reg) → IsPlain r → (facts : Facts) (t : Tally)
    → reaction_of app s.rules r (record { reg = r.number; hook = hook; event = r.event; facts = facts; got = 0 }) t ≡ (t, asks_nothing)
call-rests app hook rests s r plain facts t =
    let call : Call = record { reg = r.number; hook = hook; event = r.event; facts = facts; got = 0 } in
    ap (λ (b : Bool). if b then app.react t call s.rules else (t, asked_by r)) plain.preset ∙ rests t call s.rules refl

-- counts that rose by one callback which saw nothing
pub record CountsOne (ledger ledger_after : Ledger) : Type 0 where
  pub callbacks : ledger_after.counts.callbacks ≡ ledger.counts.callbacks + 1
  pub weight : ledger_after.counts.weight ≡ ledger.counts.weight + (32 + 0)
  pub changes : ledger_after.changes ≡ ledger.changes
  pub drop : ledger_after.drop ≡ ledger.drop

-- notes with what the report tells of it
pub record NotesOne (keep : Bool) (number : ℕ) (hook : Hook) (reg : ℕ) (notes notes_after : Notes) : Type 0 where
  pub tally : notes_after.tally ≡ notes.tally
  pub entries : notes_after.entries ≡ kept_with keep notes.entries (entry_at_rest number hook reg)

abbrev told : ℕ → Hook → ℕ → ℕ → Entry
told number hook event reg = record { index = number; hook = hook; event = event; reg = reg; seen = SawNothing }

called_alone : (app : Meaning) (hook : Hook) → RestsAt app hook → (s : ControlState) (keep : Bool) (others : Counts) (list : List Reg) (number : ℕ) (from : Side) (facts : Facts)
    (r : Reg) → IsPlain r → (socket : SocketView) (notes notes_after : Notes) (ledger ledger_after : Ledger) → NotesOne keep number hook r.number notes notes_after → CountsOne ledger ledger_after
    → (c : PacketUnderWay) → IsUnder keep others list socket notes ledger c → IsUnder keep others list socket notes_after ledger_after (called app s number from (raised_at hook facts 257) c r)
called_alone app hook rests s keep others list number from facts r plain socket notes notes_after ledger ledger_after noted counts c u =
    let e = c.emulation in
    let rest = call-rests app hook rests s r plain facts notes.tally in
    let stays : SocketStandsFor socket (after_seen from r.peek e) = subst (λ (p : PeekSpec). SocketStandsFor socket (after_seen from p e)) (sym plain.unseen) u.heard in
    let unseen : 0 ≡ bytes_seen (seen_by from r.peek e) = ap (λ (p : PeekSpec). bytes_seen (seen_by from p e)) (sym plain.unseen) in
    let entry : entry_at_rest number hook r.number ≡ entry_of number (raised_at hook facts 257) r (seen_by from r.peek e) =
    ap (λ n. told number hook n r.number) (sym plain.event) ∙ ap (λ (p : PeekSpec). entry_of number (raised_at hook facts 257) r (seen_by from p e)) (sym plain.unseen) in
    let kept : notes_after.entries ≡ kept_with keep notes.entries (entry_of number (raised_at hook facts 257) r (seen_by from r.peek e)) =
    noted.entries ∙ ap (λ w. kept_with keep notes.entries w) entry in
    called_under app s number from (raised_at hook facts 257) r keep others list socket socket notes notes_after ledger ledger_after 0 (seen_by from r.peek e) asks_nothing c u
    stays (λ k. refl) unseen (noted.tally ∙ ap (λ (a : Tally × Reaction). a.0) (sym rest)) (ap (λ (a : Tally × Reaction). a.1) (sym rest)) kept
    (ap (λ v. v.items) counts.changes ∙ sym (append-nil ledger.changes.items)) (counts.drop ∙ first-stays ledger.drop) counts.callbacks counts.weight

-- a raise that calls one thing, after which no change is asked
done-one : (app : Meaning) (s : ControlState) (number : ℕ) (from : Side) (raise : Raise) (c : PacketUnderWay) (r : Reg) → fires s.defs raise.facts raise.hook raise.event c.active ≡ r ∷ []
    → (called app s number from raise c r).asked ≡ [] → raise_done app s number from raise c ≡ called app s number from raise c r
unfolding raise_done called_at
done-one app s number from raise c r only unasked =
    ap (λ l. settled s (called_all app s number from raise c l)) only ∙ settled-none s (called app s number from raise c r) unasked

phase-first : (app : Meaning) (s : ControlState) (number : ℕ) (from : Side) (raise : Raise) (raises : List Raise) (c after : PacketUnderWay)
    → raise_done app s number from raise c ≡ after → phase app s number from (raise ∷ raises) c ≡ phase app s number from raises after
unfolding phase
phase-first app s number from raise raises c after is = ap (phase app s number from raises) is

-- a phase with `pkt_in` between raises that call nothing is this one callback
phase_rests : (app : Meaning) (hook : Hook) → RestsAt app hook → (s : ControlState) (keep : Bool) (others : Counts) (list : List Reg) (i : Option ℕ) (number : ℕ) (from : Side)
    (f : Facts) (front back raises : List Raise) → raises ≡ front ++ raised_at hook f 257 ∷ back → CallNothing s list front → CallNothing s list back
    → (r : Reg) → CallsAlone s list hook r → (socket : SocketView) (notes notes_after : Notes) (ledger ledger_after : Ledger)
    → NotesOne keep number hook r.number notes notes_after → CountsOne ledger ledger_after
    → ledger.changes.items ≡ [] → (c : PacketUnderWay) → IsUnder keep others list socket notes ledger c
    → Reached keep others list socket notes_after ledger_after i i c.altered (phase app s number from raises c)
phase_rests app hook rests s keep others list i number from f front back raises are before behind r alone socket notes notes_after ledger ledger_after noted counts quiet c u =
    let x = raised_at hook f 257 in
    let after = called app s number from x c r in
    let under : IsUnder keep others list socket notes_after ledger_after after =
    called_alone app hook rests s keep others list number from f r alone.plain socket notes notes_after ledger ledger_after noted counts c u in
    let unasked : after.asked ≡ [] = sym under.asked ∙ (ap (λ v. v.items) counts.changes ∙ quiet) in
    let only : fires s.defs f hook 257 c.active ≡ r ∷ [] = ap (λ l. fires s.defs f hook 257 l) u.active ∙ alone.called f in
    let one : raise_done app s number from x c ≡ after = done-one app s number from x c r only unasked in
    let first : CallNothing s c.active front = subst (λ l. CallNothing s l front) (sym u.active) before in
    let nothing : CallNothing s after.active back = subst (λ l. CallNothing s l back) (sym under.active) behind in
    let whole : phase app s number from raises c ≡ after =
    ap (λ l. phase app s number from l c) are
    ∙ (phase-append app s number from front (x ∷ back) c
    ∙ (ap (phase app s number from (x ∷ back)) (phase-none app s number from front c first (sym u.asked ∙ quiet))
    ∙ (phase-first app s number from x back c after one ∙ phase-none app s number from back after nothing unasked))) in
    let interned : InternsWithin i i c.altered after.altered =
    subst (λ n. InternsWithin i i c.altered n) (sym (altered-same app s number from x c r)) (within-same i c.altered) in
    subst (λ (d : PacketUnderWay). Reached keep others list socket notes_after ledger_after i i c.altered d) (sym whole) (record { under = under; interned = interned })

-- the phase of such a packet at its sender
pub sender_rests : (app : Meaning) → RestsAt app Snd → (s : ControlState) (keep : Bool) (others : Counts) (list : List Reg) (i : Option ℕ) (number : ℕ) (from : Side)
    (h : Head) (nth : ℕ) (first : Bool) (sent : Sent) (r : Reg) → CallsAlone s list Snd r → (socket : SocketView) (notes notes_after : Notes) (ledger ledger_after : Ledger)
    → NotesOne keep number Snd r.number notes notes_after → CountsOne ledger ledger_after
    → ledger.changes.items ≡ [] → (c : PacketUnderWay) → IsUnder keep others list socket notes ledger c
    → Reached keep others list socket notes_after ledger_after i i c.altered (phase app s number from (sender_raises h from nth first sent) c)
unfolding sender_raises is_of_packets
sender_rests app rests s keep others list i number from h nth first sent r alone =
    let f = sender_facts h from nth sent in
    let rows : List Row = sender_events f first in
    let front : List Row = take 1 rows in
    let back : List Row = drop 2 rows in
    phase_rests app Snd rests s keep others list i number from f (raised_where Snd f front) (raised_where Snd f back) (sender_raises h from nth first sent)
    (raised_around Snd f 257 front back) (others-silent s list Snd r alone f front refl) (others-silent s list Snd r alone f back refl) r alone

-- and at its receiver
pub receiver_rests : (app : Meaning) → RestsAt app Rcv → (s : ControlState) (keep : Bool) (others : Counts) (list : List Reg) (i : Option ℕ) (number : ℕ) (from : Side)
    (h : Head) (nth : ℕ) (got : Got) (r : Reg) → CallsAlone s list Rcv r → (socket : SocketView) (notes notes_after : Notes) (ledger ledger_after : Ledger)
    → NotesOne keep number Rcv r.number notes notes_after → CountsOne ledger ledger_after
    → ledger.changes.items ≡ [] → (c : PacketUnderWay) → IsUnder keep others list socket notes ledger c
    → Reached keep others list socket notes_after ledger_after i i c.altered (phase app s number from (receiver_raises h from nth got) c)
unfolding receiver_raises is_of_packets
receiver_rests app rests s keep others list i number from h nth got r alone =
    let f = receiver_facts h from nth got in
    let back : List Row = drop 1 (receiver_events f got) in
    phase_rests app Rcv rests s keep others list i number from f [] (raised_where Rcv f back) (receiver_raises h from nth got)
    (raised_around Rcv f 257 [] back) tt (others-silent s list Rcv r alone f back refl) r alone
