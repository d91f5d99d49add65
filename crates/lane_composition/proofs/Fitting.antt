-- What is counted over a run fits into 64 bits.
use Rattle.std.proofs.Common.{◌≡◌, ◌≤◌, ◌+◌, ℕ, Bool, true, false, Option, Some, None, List, [], ◌∷◌, length, map, refl, ap, arith, ◌∙◌}
use Rattle.std.specs.Prelude.{if◌then◌else◌, not, ◌&&◌, ◌*◌}
use Rattle.std.proofs.lemmas.List.{length_push, length-map}
use Rattle.app_api.specs.App.{Meaning}
use Rattle.app_api.specs.declared.entry.Entry.{Entry}
use Rattle.app_api.specs.declared.reaction.Reason.{Reason}
use Rattle.app_api.specs.declared.reaction.Verdict.{Verdict}
use Rattle.app_api.specs.declared.reaction.Verdict.TheVariants.{Pass, Drop}
use Rattle.builtin_events.specs.declared.raise.Raise.{Raise}
use Rattle.forest_versions.specs.State.{ControlState}
use Rattle.connection_core.specs.PacketUnderWay.{PacketUnderWay}
use Rattle.connection_core.specs.Silence.{silenced}
use Rattle.connection_core.specs.History.{History, fresh, followed, received_unless, orphan_history, verdict_of, orphan_under_way, drops_of as drops_by, weight_of}
use Rattle.lane_core.specs.Sight.{Sight, Tcp, Other, Moment, Arrival}
use Rattle.lane_core.specs.Records.{VersionedPacket, RecordSoFar, belongs_to, side_in, history_after, opens, orphan_raises_of, timer_raise_of, is_shut, is_silent, ended_by_silence, ended_before, ended_at, continued_by, placed, added, records_from}
use Rattle.lane_core.specs.Shown.{total, weight, callbacks_of, drop_count}
use Rattle.forest_versions.specs.declared.command.Command.{Command}
use Rattle.run_outcome.specs.Greatest.{greatest}
use Rattle.lane_composition.specs.Histories.{over_under}
use Rattle.run_outcome.specs.Whole.{in_force, packets_under, run_under}
use Rattle.lane_composition.proofs.Bridging.{packets_are}
use Rattle.lane_composition.proofs.Reported.{named_packets}

-- ---- callbacks

entries_weigh : (entries : List Entry) → 32 * length entries ≤ weight_of entries
entries_weigh [] = omega arith
entries_weigh (e ∷ entries) = let rest = entries_weigh entries in omega arith

pub callbacks_weigh : (run : List RecordSoFar) → 32 * callbacks_of run ≤ weight run
unfolding total
callbacks_weigh [] = omega arith
callbacks_weigh (r ∷ run) = let here = entries_weigh r.history.entries in let rest = callbacks_weigh run in omega arith

-- ---- dropped packets: at most one with each packet

drops_unless : (o : Option Reason) (number : ℕ) (s r : PacketUnderWay) (h : History) → length (received_unless o number s r h).drops ≤ length h.drops + 1
drops_unless None number s r h = omega arith
drops_unless (Some reason) number s r h = let one = length_push h.drops (number, reason) in omega arith

drops_after : (app : Meaning) (control : ControlState) (opener : Sight) (a : Arrival) (sight : Sight) (h : History)
    → length (elim sight as (λ s. History) [ Tcp segment ↦ followed app control a.number (side_in opener segment) segment.head segment.scale segment.payload h | Other class ↦ h ]).drops
    ≤ length h.drops + 1
unfolding followed
drops_after app control opener a (Tcp segment) h = drops_unless _ a.number _ _ h
drops_after app control opener a (Other class) h = omega arith

one_drop : (app : Meaning) (control : ControlState) (opener : Sight) (a : Arrival) (h : History) → length (history_after app control opener a h).drops ≤ length h.drops + 1
unfolding history_after
one_drop app control opener a h = drops_after app control opener a a.sight h

drops_by_verdict : (v : Verdict) (number : ℕ) → length (drops_by v number) ≤ 1
drops_by_verdict Pass number = omega arith
drops_by_verdict (Drop reason) number = omega arith

drops_alone : (app : Meaning) (control : ControlState) (number : ℕ) (raises : List Raise) → length (orphan_history app control number raises).drops ≤ 1
unfolding orphan_history
drops_alone app control number raises = drops_by_verdict (verdict_of (orphan_under_way app control number raises).drop) number

first_drop : (app : Meaning) (control : ControlState) (a : Arrival) (b : Bool)
    → length (if b then history_after app control a.sight a (fresh app control) else orphan_history app control a.number (orphan_raises_of a.sight)).drops ≤ 1
first_drop app control a true = one_drop app control a.sight a (fresh app control)
first_drop app control a false = drops_alone app control a.number (orphan_raises_of a.sight)

drops_here : (b : Bool) (r next : RecordSoFar) (rs after : List RecordSoFar) → length next.history.drops ≤ length r.history.drops + 1 → drop_count after ≤ drop_count rs + 1
    → drop_count (if b then next ∷ rs else r ∷ after) ≤ drop_count (r ∷ rs) + 1
unfolding total
drops_here true r next rs after here later = omega arith
drops_here false r next rs after here later = omega arith

-- silence drops no packet
silent_drops : (app : Meaning) (control : ControlState) (number : ℕ) (raise : Raise) (h : History) → (silenced app control number raise h).drops ≡ h.drops
unfolding silenced
silent_drops app control number raise h = refl

module _ (app : Meaning) (control_at : ℕ → ControlState) where
  drops_by_silence : (b : Bool) (r : RecordSoFar) → length (if b then ended_by_silence app control_at r else r).history.drops ≡ length r.history.drops
  drops_by_silence true r = ap length (silent_drops app (control_at r.version) r.last.number (timer_raise_of r.first.sight r.history.count) r.history)
  drops_by_silence false r = refl

  drops_before : (p : VersionedPacket) (rs : List RecordSoFar) → drop_count (map (ended_before app control_at p) rs) ≡ drop_count rs
  unfolding total
  drops_before p [] = refl
  drops_before p (r ∷ rs) =
      let here = drops_by_silence (belongs_to p.arrival.sight r && is_silent app control_at p.arrival.moment r) r in
      let rest = drops_before p rs in omega arith

  drops_of_end : (last : Option Moment) (r : RecordSoFar) → length (ended_at app control_at last r).history.drops ≡ length r.history.drops
  drops_of_end None r = refl
  drops_of_end (Some now) r = drops_by_silence (opens r.first.sight && not (is_shut r) && is_silent app control_at now r) r

  drops_at_end : (last : Option Moment) (rs : List RecordSoFar) → drop_count (map (ended_at app control_at last) rs) ≡ drop_count rs
  unfolding total
  drops_at_end last [] = refl
  drops_at_end last (r ∷ rs) = let here = drops_of_end last r in let rest = drops_at_end last rs in omega arith

  drops_placed : (p : VersionedPacket) (rs : List RecordSoFar) → drop_count (placed app control_at p rs) ≤ drop_count rs + 1
  unfolding placed total
  drops_placed p [] = let here = first_drop app (control_at p.version) p.arrival (opens p.arrival.sight) in omega arith
  drops_placed p (r ∷ rs) =
      drops_here (belongs_to p.arrival.sight r) r (continued_by app control_at p.arrival r) rs (placed app control_at p rs)
      (one_drop app (control_at r.version) r.first.sight p.arrival r.history) (drops_placed p rs)

  drops_added : (p : VersionedPacket) (rs : List RecordSoFar) → drop_count (added app control_at p rs) ≤ drop_count rs + 1
  drops_added p rs = let same = drops_before p rs in let more = drops_placed p (map (ended_before app control_at p) rs) in omega arith

  drops_from : (rs : List RecordSoFar) (ps : List VersionedPacket) → drop_count (records_from app control_at rs ps) ≤ drop_count rs + length ps
  unfolding records_from
  drops_from rs [] = omega arith
  drops_from rs (p ∷ ps) = let step = drops_added p rs in let rest = drops_from (added app control_at p rs) ps in omega arith

  pub drops_few : (last : Option Moment) (ps : List VersionedPacket) → drop_count (map (ended_at app control_at last) (records_from app control_at [] ps)) ≤ length ps
  unfolding total
  drops_few last ps = let all = drops_from [] ps in let same = drops_at_end last (records_from app control_at [] ps) in omega arith

pub run_drops_few : (app : Meaning) (commands : List Command) (packets : List Arrival) (vs : List ℕ) → drop_count (run_under app commands vs packets) ≤ length packets
run_drops_few app commands packets vs =
    let few = drops_few app (in_force app commands) (greatest packets) (packets_under app commands vs packets) in
    let long = length-map (packets_under app commands vs packets) (λ p. p.arrival) in
    let same = ap (λ ps. length (map (λ (p : VersionedPacket). p.arrival) ps)) (packets_are app commands vs packets) ∙ ap length (named_packets (over_under app commands) vs [] packets) in omega arith
