-- Neither one more packet nor the end makes records weigh less: callbacks are added, and none is taken back.
use Rattle.std.proofs.Common.{◌≡◌, ℕ, ◌+◌, ◌≤◌, Bool, true, false, Option, Some, None, List, [], ◌∷◌, ◌++◌, refl, sym, ap, subst, ◌∙◌, map, arith, append_assoc, append-nil, le_refl}
use Rattle.std.specs.Prelude.{if◌then◌else◌}
use Rattle.tcp_emulation.specs.declared.segment.Side.{Side}
use Rattle.tcp_emulation.specs.declared.segment.Side.TheVariants.{Client}
use Rattle.packet_views.specs.declared.packet.Head.{Head}
use Rattle.app_api.specs.App.{Meaning}
use Rattle.app_api.specs.declared.changes.Change1.{Change1}
use Rattle.app_api.specs.declared.entry.Entry.{Entry}
use Rattle.app_api.specs.declared.reaction.Reason.{Reason}
use Rattle.app_api.specs.declared.registration.Reg.{Reg}
use Rattle.app_api.specs.Reg.{reg_of}
use Rattle.builtin_events.specs.declared.raise.Raise.{Raise}
use Rattle.event_trees.specs.Fires.{fires}
use Rattle.event_trees.specs.Private.{edited}
use Rattle.forest_versions.specs.State.{ControlState}
use Rattle.connection_core.specs.PacketUnderWay.{PacketUnderWay, is_on, is_so, altered_to, switched, changed, changed_all, settled, called, called_all, called_at, raise_done, phase}
use Rattle.connection_core.specs.History.{History, begin, sender_phase, receiver_phase, received_unless, followed, weight_of}
use Rattle.connection_core.specs.Silence.{silenced}
use Rattle.lane_core.specs.Sight.{Sight, Tcp, Other, Moment, Arrival}
use Rattle.lane_core.specs.Records.{VersionedPacket, RecordSoFar, belongs_to, side_in, history_after, timer_raise_of, continued_by, ended_before, ended_at, placed, added}
use Rattle.lane_core.specs.Shown.{total, weight}
use Rattle.lane_core.specs.Laws.{WeightNeverFalls}
use Rattle.lane_core.proofs.Ended.{Ends, ends_before, ends_at, either}

weight_of-append : (es fs : List Entry) → weight_of (es ++ fs) ≡ weight_of es + weight_of fs
weight_of-append [] fs = omega arith
weight_of-append (e ∷ es) fs = let rest = weight_of-append es fs in omega (arith, rest)

-- ---- entries are added at the end

abbrev Extends : List Entry → List Entry → Type 0
Extends es fs = (more : List Entry) × (fs ≡ es ++ more)

same : (es : List Entry) → Extends es es
same es = ([], sym (append-nil es))

following : (es fs gs : List Entry) → Extends es fs → Extends fs gs → Extends es gs
following es fs gs one two = (one.0 ++ two.0, two.1 ∙ ap (λ l. l ++ two.0) one.1 ∙ append_assoc es one.0 two.0)

heavier : (es fs : List Entry) → Extends es fs → weight_of es ≤ weight_of fs
heavier es fs more =
    let sum = ap weight_of more.1 ∙ weight_of-append es more.0 in omega (arith, sum)

module _ (app : Meaning) (control : ControlState) (number : ℕ) (from : Side) where
  called_more : (raise : Raise) (c : PacketUnderWay) (r : Reg) → Extends c.entries (called app control number from raise c r).entries
  unfolding called
  called_more raise c r = (_, refl)

  all_more : (raise : Raise) (rs : List Reg) (c : PacketUnderWay) → Extends c.entries (called_all app control number from raise c rs).entries
  all_more raise [] c = same c.entries
  all_more raise (r ∷ rs) c =
      let d = called app control number from raise c r in
      following c.entries d.entries (called_all app control number from raise d rs).entries (called_more raise c r) (all_more raise rs d)

  switched_same : (o : Option Reg) (on : Bool) (c : PacketUnderWay) → (switched control o on c).entries ≡ c.entries
  switched_same None on c = refl
  switched_same (Some r) on c = elim (is_so (is_on r.number c.active) on)
      as (λ b. (if b then c else altered_to (edited control.defs c.active r on) c).entries ≡ c.entries) [ true ↦ refl | false ↦ refl ]

  changed_same : (changes : List Change1) (c : PacketUnderWay) → (changed_all control changes c).entries ≡ c.entries
  unfolding changed
  changed_same [] c = refl
  changed_same (change ∷ changes) c =
      changed_same changes (changed control change c) ∙ switched_same (reg_of control.regs change.reg) change.on c

  raise_more : (raise : Raise) (c : PacketUnderWay) → Extends c.entries (raise_done app control number from raise c).entries
  unfolding raise_done settled called_at
  raise_more raise c =
      let d = called_at app control number from raise c in
      subst (Extends c.entries) (sym (changed_same d.asked d)) (all_more raise (fires control.defs raise.facts raise.hook raise.event c.active) c)

  phase_more : (raises : List Raise) (c : PacketUnderWay) → Extends c.entries (phase app control number from raises c).entries
  unfolding phase
  phase_more [] c = same c.entries
  phase_more (raise ∷ raises) c =
      let d = raise_done app control number from raise c in
      following c.entries d.entries (phase app control number from raises d).entries (raise_more raise c) (phase_more raises d)

  unless_more : (o : Option Reason) (s r : PacketUnderWay) (h : History) → Extends h.entries s.entries → Extends s.entries r.entries → Extends h.entries (received_unless o number s r h).entries
  unless_more None s r h one two = following h.entries s.entries r.entries one two
  unless_more (Some reason) s r h one two = one

  followed_more : (head : Head) (scale : Option ℕ) (payload : List ℕ) (h : History) → Extends h.entries (followed app control number from head scale payload h).entries
  unfolding followed sender_phase receiver_phase
  followed_more head scale payload h =
      let s = sender_phase app control number from head scale h in
      unless_more s.drop s (receiver_phase app control number from head payload h.count s) h (phase_more _ _) (phase_more _ _)

-- one more packet, by what is seen of it
abbrev after_packet : Meaning → ControlState → Sight → Arrival → Sight → History → History
after_packet app control opener a sight h = elim sight [
  | Tcp segment ↦ followed app control a.number (side_in opener segment) segment.head segment.scale segment.payload h
  | Other class ↦ h
]

after_heavier : (app : Meaning) (control : ControlState) (opener : Sight) (a : Arrival) (sight : Sight) (h : History)
    → weight_of h.entries ≤ weight_of (after_packet app control opener a sight h).entries
after_heavier app control opener a (Tcp segment) h = heavier _ _ (followed_more app control a.number (side_in opener segment) segment.head segment.scale segment.payload h)
after_heavier app control opener a (Other class) h = omega arith

placed_here : (b : Bool) (past next : RecordSoFar) (pasts after : List RecordSoFar) → weight_of past.history.entries ≤ weight_of next.history.entries → weight pasts ≤ weight after
    → weight (past ∷ pasts) ≤ weight (if b then next ∷ pasts else past ∷ after)
unfolding total
placed_here true past next pasts after here later = omega (arith, here)
placed_here false past next pasts after here later = omega (arith, later)

none_weighs_least : (pasts : List RecordSoFar) → weight [] ≤ weight pasts
unfolding total
none_weighs_least pasts = omega arith

placed_weighs : (app : Meaning) (control_at : ℕ → ControlState) (p : VersionedPacket) (pasts : List RecordSoFar) → weight pasts ≤ weight (placed app control_at p pasts)
unfolding placed history_after
placed_weighs app control_at p [] = none_weighs_least (placed app control_at p [])
placed_weighs app control_at p (past ∷ pasts) =
    placed_here (belongs_to p.arrival.sight past) past (continued_by app control_at p.arrival past) pasts (placed app control_at p pasts)
    (after_heavier app (control_at past.version) past.first.sight p.arrival p.arrival.sight past.history) (placed_weighs app control_at p pasts)

-- ---- ends by idleness

silenced_more : (app : Meaning) (control : ControlState) (number : ℕ) (raise : Raise) (h : History) → Extends h.entries (silenced app control number raise h).entries
unfolding silenced called_at
silenced_more app control number raise h = all_more app control number Client raise (fires control.defs raise.facts raise.hook raise.event h.active) (begin h.emulation h)

ended_weighs : (app : Meaning) (control_at : ℕ → ControlState) (step : RecordSoFar → RecordSoFar) → Ends app control_at step → (pasts : List RecordSoFar) → weight pasts ≤ weight (map step pasts)
unfolding total
ended_weighs app control_at step ends [] = none_weighs_least []
ended_weighs app control_at step ends (past ∷ pasts) =
    let silent = heavier _ _ (silenced_more app (control_at past.version) past.last.number (timer_raise_of past.first.sight past.history.count) past.history) in
    let here = either app control_at (λ q. weight_of past.history.entries ≤ weight_of q.history.entries) step ends past silent (le_refl (weight_of past.history.entries)) in
    let rest = ended_weighs app control_at step ends pasts in
    omega (arith, here, rest)

pub packet_weighs : (app : Meaning) (control_at : ℕ → ControlState) (p : VersionedPacket) (pasts : List RecordSoFar) → weight pasts ≤ weight (added app control_at p pasts)
packet_weighs app control_at p pasts =
    let ends = ended_weighs app control_at (ended_before app control_at p) (ends_before app control_at p) pasts in
    let one = placed_weighs app control_at p (map (ended_before app control_at p) pasts) in
    omega (arith, ends, one)

pub end_weighs : (app : Meaning) (control_at : ℕ → ControlState) (last : Option Moment) (pasts : List RecordSoFar) → weight pasts ≤ weight (map (ended_at app control_at last) pasts)
end_weighs app control_at last pasts = ended_weighs app control_at (ended_at app control_at last) (ends_at app control_at last) pasts

pub weight_never_falls : WeightNeverFalls
weight_never_falls = record { packet = packet_weighs; at_end = end_weighs }
