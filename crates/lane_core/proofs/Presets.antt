-- The callbacks of the log application's presets.
use Rattle.std.proofs.Common.{◌≡◌, ℕ, ◌++◌, eqb, Bool, true, false, Option, Some, None, List, [], ◌∷◌, refl, sym, ap, subst, ◌∙◌, append_assoc, append-nil}
use Rattle.std.specs.Prelude.{drop, take}
use Rattle.std.specs.List.{AllByRecursion, list_all}
use Rattle.native_filters.specs.declared.facts.Facts.{Facts}
use Rattle.native_filters.specs.declared.facts.Hook.{Hook}
use Rattle.native_filters.specs.declared.facts.Hook.TheVariants.{Snd, Rcv}
use Rattle.packet_views.specs.declared.packet.Class.TheVariants as Class
use Rattle.packet_views.specs.declared.packet.Head.{Head}
use Rattle.tcp_emulation.specs.declared.segment.Side.{Side}
use Rattle.tcp_emulation.specs.declared.segment.Side.TheVariants.{Client}
use Rattle.flow_socket.specs.Emulation.{sent, sent_answer, received, got_of}
use Rattle.flow_socket.specs.declared.answers.Sent.{Sent}
use Rattle.flow_socket.specs.declared.answers.Got.{Got}
use Rattle.app_api.specs.Events.{PKT_IN, ORPHAN}
use Rattle.app_api.specs.Log.{log}
use Rattle.app_api.specs.Reg.{preset_reg}
use Rattle.app_api.specs.declared.entry.Entry.{Entry}
use Rattle.app_api.specs.declared.reaction.Reason.{Reason}
use Rattle.app_api.specs.declared.registration.Reg.{Reg}
use Rattle.builtin_events.specs.declared.raise.Raise.{Raise}
use Rattle.builtin_events.specs.Facts.{sender_facts, receiver_facts, orphan_facts}
use Rattle.builtin_events.specs.Raises.{raised_where, sender_events, receiver_events, sender_raises, receiver_raises, orphan_raises}
use Rattle.builtin_events.specs.RaiseLaws.{all_raised, events_of, raised_around, raised_first}
use Rattle.event_trees.specs.Defs.{path}
use Rattle.event_trees.specs.Fires.{fires}
use Rattle.forest_versions.specs.State.{ControlState, start, active as first_active}
use Rattle.std.specs.Option.{option_or}
use Rattle.connection_core.specs.PacketUnderWay.{PacketUnderWay, called, called_all, called_at, raised, changed_all, settled, raise_done, phase}
use Rattle.connection_core.specs.History.{History, followed, sender_phase, receiver_phase, received_unless, begin, go_on, orphan_history}
use Rattle.lane_core.specs.Sight.{Segment, Sight, Tcp, Other}
use Rattle.lane_core.specs.Records.{orphan_raises_of}
use Rattle.lane_core.specs.Laws.{at_sender, at_receiver, at_orphan, PresetsAreCalled}

abbrev from_start : ControlState
from_start = start log.presets

abbrev on : List Reg
on = first_active from_start

abbrev raise_of : Hook → Facts → ℕ → Raise
raise_of hook facts event = record { hook = hook; event = event; facts = facts }

-- ---- what a callback of the log does to a packet under way: it leaves an entry, and asks nothing

record Logs (c d : PacketUnderWay) (more : List Entry) : Type 0 where
  active : d.active ≡ c.active
  entries : d.entries ≡ c.entries ++ more
  asked : d.asked ≡ c.asked
  drop : d.drop ≡ c.drop

logs-none : (c : PacketUnderWay) → Logs c c []
logs-none c = record { active = refl; entries = sym (append-nil c.entries); asked = refl; drop = refl }

logs-then : (c d e : PacketUnderWay) (es fs : List Entry) → Logs c d es → Logs d e fs → Logs c e (es ++ fs)
logs-then c d e es fs one two = record {
  active = two.active ∙ one.active;
  entries = two.entries ∙ ap (λ l. l ++ fs) one.entries ∙ append_assoc c.entries es fs;
  asked = two.asked ∙ one.asked;
  drop = two.drop ∙ one.drop;
}

same_reason : (r : Option Reason) → option_or r None ≡ r
same_reason None = refl
same_reason (Some reason) = refl

abbrev is_none : List Reg → Bool
is_none [] = true
is_none (r ∷ rest) = false

module _ (number : ℕ) (from : Side) where
  silent : (raise : Raise) (c : PacketUnderWay) → c.active ≡ on → fires from_start.defs raise.facts raise.hook raise.event on ≡ [] → Logs c (called_at log from_start number from raise c) []
  unfolding called_at
  silent raise c is none =
      subst (λ l. Logs c (called_all log from_start number from raise c l) []) (sym (ap (fires from_start.defs raise.facts raise.hook raise.event) is ∙ none)) (logs-none c)

  logged : (raise : Raise) (c : PacketUnderWay) (r : Reg) (entry : Entry) → Logs c (called log from_start number from raise c r) (entry ∷ []) → c.active ≡ on
      → fires from_start.defs raise.facts raise.hook raise.event on ≡ r ∷ [] → Logs c (called_at log from_start number from raise c) (entry ∷ [])
  unfolding called_at
  logged raise c r entry made is one =
      subst (λ l. Logs c (called_all log from_start number from raise c l) (entry ∷ [])) (sym (ap (fires from_start.defs raise.facts raise.hook raise.event) is ∙ one)) made

  sender_logs : (facts : Facts) (c : PacketUnderWay) → c.active ≡ on → Logs c (called_at log from_start number from (raise_of Snd facts PKT_IN) c) (at_sender number ∷ [])
  unfolding called log start path
  sender_logs facts c is =
      logged (raise_of Snd facts PKT_IN) c (preset_reg 1 PKT_IN Snd true) (at_sender number)
      (record { active = refl; entries = refl; asked = append-nil c.asked; drop = same_reason c.drop }) is refl

  receiver_logs : (facts : Facts) (c : PacketUnderWay) → c.active ≡ on → Logs c (called_at log from_start number from (raise_of Rcv facts PKT_IN) c) (at_receiver number ∷ [])
  unfolding called log start path
  receiver_logs facts c is =
      logged (raise_of Rcv facts PKT_IN) c (preset_reg 2 PKT_IN Rcv true) (at_receiver number)
      (record { active = refl; entries = refl; asked = append-nil c.asked; drop = same_reason c.drop }) is refl

  orphan_logs : (facts : Facts) (c : PacketUnderWay) → c.active ≡ on → Logs c (called_at log from_start number from (raise_of Snd facts ORPHAN) c) (at_orphan number ∷ [])
  unfolding called log start path
  orphan_logs facts c is =
      logged (raise_of Snd facts ORPHAN) c (preset_reg 3 ORPHAN Snd true) (at_orphan number)
      (record { active = refl; entries = refl; asked = append-nil c.asked; drop = same_reason c.drop }) is refl

  -- ---- raises, one after the other

  abbrev LogsOn : List Raise → List Entry → Type 0
  LogsOn raises entries = (c : PacketUnderWay) → c.active ≡ on → c.asked ≡ [] → Logs c (phase log from_start number from raises c) entries

  phase-append : (xs ys : List Raise) (c : PacketUnderWay) → phase log from_start number from (xs ++ ys) c ≡ phase log from_start number from ys (phase log from_start number from xs c)
  unfolding phase
  phase-append [] ys c = refl
  phase-append (x ∷ xs) ys c = phase-append xs ys (raise_done log from_start number from x c)

  logs-append : (xs ys : List Raise) (es fs : List Entry) → LogsOn xs es → LogsOn ys fs → LogsOn (xs ++ ys) (es ++ fs)
  logs-append xs ys es fs one two c is asked =
      let d = phase log from_start number from xs c in
      let first = one c is asked in
      subst (λ e. Logs c e (es ++ fs)) (sym (phase-append xs ys c))
      (logs-then c d (phase log from_start number from ys d) es fs first (two d (first.active ∙ is) (first.asked ∙ asked)))

  -- where nothing is asked at a raise, nothing is changed at its end
  done_logs : (raise : Raise) (entries : List Entry) (c : PacketUnderWay) → c.asked ≡ [] → Logs c (called_at log from_start number from raise c) entries
      → Logs c (raise_done log from_start number from raise c) entries
  unfolding raise_done settled
  done_logs raise entries c asked l =
      let d = called_at log from_start number from raise c in
      let nothing : d.asked ≡ [] = l.asked ∙ asked in
      subst (λ cs. Logs c (record (changed_all from_start cs d) { asked = [] }) entries) (sym nothing)
      (record { active = l.active; entries = l.entries; asked = sym asked; drop = l.drop })

  -- at none of these raises anything is called
  abbrev IsSilent : Raise → Type 0
  IsSilent raise = (c : PacketUnderWay) → c.active ≡ on → Logs c (called_at log from_start number from raise c) []

  quiet : (raises : List Raise) → AllByRecursion IsSilent raises → LogsOn raises []
  unfolding phase
  quiet [] none c is asked = logs-none c
  quiet (raise ∷ raises) none c is asked = logs-append (raise ∷ []) raises [] [] (λ d on asked. done_logs raise [] d asked (none.0 d on)) (quiet raises none.1) c is asked

  loud : (raise : Raise) (entry : Entry) → ((c : PacketUnderWay) → c.active ≡ on → Logs c (called_at log from_start number from raise c) (entry ∷ [])) → LogsOn (raise ∷ []) (entry ∷ [])
  unfolding phase
  loud raise entry one c is asked = done_logs raise (entry ∷ []) c asked (one c is)

  -- no preset hears an event at this side
  abbrev is_unheard : Hook → Facts → ℕ → Bool
  is_unheard hook facts event = is_none (fires from_start.defs facts hook event on)

  unheard : (hook : Hook) (facts : Facts) (rows : List (Bool × ℕ)) → list_all (is_unheard hook facts) (events_of rows) ≡ true → LogsOn (raised_where hook facts rows) []
  unheard hook facts rows none =
      quiet (raised_where hook facts rows)
      (all_raised hook facts IsSilent (is_unheard hook facts) (λ event is c at. silent (raise_of hook facts event) c at (empty (fires from_start.defs facts hook event on) is)) rows none)
    where
      empty : (l : List Reg) → is_none l ≡ true → l ≡ []
      empty [] is = refl
      empty (r ∷ l) is = cc

  sender_calls : (head : Head) (nth : ℕ) (first : Bool) (s : Sent) → LogsOn (sender_raises head from nth first s) (at_sender number ∷ [])
  unfolding sender_raises log start path
  sender_calls head nth first s =
      let facts = sender_facts head from nth s in
      let rows = sender_events facts first in
      let before = take 1 rows in
      let behind = drop 2 rows in
      subst (λ raises. LogsOn raises (at_sender number ∷ [])) (sym (raised_around Snd facts PKT_IN before behind))
      (logs-append (raised_where Snd facts before) (raise_of Snd facts PKT_IN ∷ raised_where Snd facts behind) [] (at_sender number ∷ [])
      (unheard Snd facts before refl)
      (logs-append (raise_of Snd facts PKT_IN ∷ []) (raised_where Snd facts behind) (at_sender number ∷ []) []
      (loud (raise_of Snd facts PKT_IN) (at_sender number) (sender_logs facts)) (unheard Snd facts behind refl)))

  receiver_calls : (head : Head) (nth : ℕ) (g : Got) → LogsOn (receiver_raises head from nth g) (at_receiver number ∷ [])
  unfolding receiver_raises log start path
  receiver_calls head nth g =
      let facts = receiver_facts head from nth g in
      let behind = drop 1 (receiver_events facts g) in
      subst (λ raises. LogsOn raises (at_receiver number ∷ [])) (sym (raised_first Rcv facts PKT_IN behind))
      (logs-append (raise_of Rcv facts PKT_IN ∷ []) (raised_where Rcv facts behind) (at_receiver number ∷ []) []
      (loud (raise_of Rcv facts PKT_IN) (at_receiver number) (receiver_logs facts)) (unheard Rcv facts behind refl))

-- ---- both phases of a packet

module _ (number : ℕ) (from : Side) (segment : Segment) (h : History) (is : h.active ≡ on) where
  abbrev at_s : PacketUnderWay
  at_s = sender_phase log from_start number from segment.head segment.scale h

  abbrev at_r : PacketUnderWay
  at_r = receiver_phase log from_start number from segment.head segment.payload h.count at_s

  sent_logs : Logs (begin (sent from segment.head segment.scale h.emulation) h) at_s (at_sender number ∷ [])
  unfolding sender_phase
  sent_logs =
      sender_calls number from segment.head h.count (eqb h.count 0) (sent_answer from segment.head h.emulation)
      (begin (sent from segment.head segment.scale h.emulation) h) is refl

  received_logs : Logs (go_on (received from segment.head segment.payload at_s.emulation) at_s) at_r (at_receiver number ∷ [])
  unfolding receiver_phase
  received_logs =
      receiver_calls number from segment.head h.count (got_of from segment.head segment.payload at_s.emulation)
      (go_on (received from segment.head segment.payload at_s.emulation) at_s) (sent_logs.active ∙ is) sent_logs.asked

  followed_is : followed log from_start number from segment.head segment.scale segment.payload h ≡ received_unless None number at_s at_r h
  unfolding followed
  followed_is = ap (λ d. received_unless d number at_s at_r h) sent_logs.drop

  connection_called : (followed log from_start number from segment.head segment.scale segment.payload h).entries ≡ h.entries ++ at_sender number ∷ at_receiver number ∷ []
  connection_called =
      ap (λ (g : History). g.entries) followed_is ∙ received_logs.entries ∙ ap (λ l. l ++ at_receiver number ∷ []) sent_logs.entries
      ∙ append_assoc h.entries (at_sender number ∷ []) (at_receiver number ∷ [])

  stays : (followed log from_start number from segment.head segment.scale segment.payload h).active ≡ h.active
  stays = ap (λ (g : History). g.active) followed_is ∙ received_logs.active ∙ sent_logs.active

orphan_is_called : (number : ℕ) (sight : Sight) → (orphan_history log from_start number (orphan_raises_of sight)).entries ≡ at_orphan number ∷ []
unfolding orphan_history orphan_raises raised
orphan_is_called number (Tcp segment) = (orphan_logs number Client (orphan_facts Class.Tcp (Some segment.head)) _ refl).entries
orphan_is_called number (Other class) = (orphan_logs number Client (orphan_facts class None) _ refl).entries

pub presets_are_called : PresetsAreCalled
presets_are_called = record {
  connection = λ number side segment h is. connection_called number side segment h is;
  stay = λ number side segment h
      is. stays number side segment h is;
  orphan = orphan_is_called;
}
