-- The drops of records are the packets whose verdict is a drop.
use Rattle.std.proofs.Common.{◌≡◌, ℕ, Bool, true, false, Option, Some, None, List, [], ◌∷◌, ◌++◌, refl, sym, ap, subst, ◌∙◌, append_assoc, append-nil, map}
use Rattle.std.proofs.lemmas.List.Sorted.{IsPermutation-refl, IsPermutation-trans, IsPermutation-append_comm, IsPermutation-append_left, IsPermutation-append_right}
use Rattle.std.specs.Prelude.{if◌then◌else◌}
use Rattle.std.specs.List.Sorted.{IsPermutation}
use Rattle.packet_views.specs.declared.packet.Head.{Head}
use Rattle.tcp_emulation.specs.declared.segment.Side.{Side}
use Rattle.app_api.specs.App.{Meaning}
use Rattle.app_api.specs.declared.reaction.Reason.{Reason}
use Rattle.app_api.specs.declared.reaction.Verdict.{Verdict}
use Rattle.builtin_events.specs.declared.raise.Raise.{Raise}
use Rattle.forest_versions.specs.State.{ControlState}
use Rattle.connection_core.specs.PacketUnderWay.{PacketUnderWay}
use Rattle.connection_core.specs.History.{History, fresh, followed, verdict, sender_phase, receiver_phase, received_unless, verdict_of, drops_of, orphan_history, orphan_verdict}
use Rattle.lane_core.specs.Sight.{Sight, Tcp, Other, Moment, Arrival}
use Rattle.lane_core.specs.Records.{VersionedPacket, ended_at, records, RecordSoFar, opens, belongs_to, side_in, orphan_raises_of, timer_raise_of, history_after, first_history, verdict_after, first_verdict, continued_by, ended_before, placed, verdict_among, added, verdict_on, records_from}
use Rattle.lane_core.specs.Verdicts.{verdicts_from, dropped_of}
use Rattle.lane_core.specs.Once.{drops_in}
use Rattle.lane_core.proofs.Ended.{Ends, ends_before, ends_at, either, silenced-drops}

-- ---- one packet

received_drops : (o : Option Reason) (number : ℕ) (sent received : PacketUnderWay) (h : History)
    → (received_unless o number sent received h).drops ≡ h.drops ++ drops_of (verdict_of o) number
received_drops None number sent received h = sym (append-nil h.drops)
received_drops (Some reason) number sent received h = refl

either_drops : (b : Bool) (x y : History) (v w : Verdict) (number : ℕ) → x.drops ≡ drops_of v number → y.drops ≡ drops_of w number
    → (if b then x else y).drops ≡ drops_of (if b then v else w) number
either_drops true x y v w number here there = here
either_drops false x y v w number here there = there

module _ (app : Meaning) (control : ControlState) where
  followed_drops : (number : ℕ) (from : Side) (head : Head) (scale : Option ℕ) (payload : List ℕ) (h : History)
      → (followed app control number from head scale payload h).drops ≡ h.drops ++ drops_of (verdict app control number from head scale h) number
  unfolding followed verdict
  followed_drops number from head scale payload h =
      let sent = sender_phase app control number from head scale h in
      received_drops sent.drop number sent (receiver_phase app control number from head payload h.count sent) h

  orphan_drops : (number : ℕ) (raises : List Raise) → (orphan_history app control number raises).drops ≡ drops_of (orphan_verdict app control number raises) number
  unfolding orphan_history orphan_verdict
  orphan_drops number raises = refl

  after_drops : (opener sight : Sight) (a : Arrival) (h : History) → a.sight ≡ sight
      → (history_after app control opener a h).drops ≡ h.drops ++ drops_of (verdict_after app control opener a h) a.number
  unfolding history_after verdict_after
  after_drops opener (Tcp segment) a h is = rw is (followed_drops a.number (side_in opener segment) segment.head segment.scale segment.payload h)
  after_drops opener (Other class) a h is = rw is (sym (append-nil h.drops))

  first_drops : (a : Arrival) → (first_history app control a).drops ≡ drops_of (first_verdict app control a) a.number
  first_drops a =
      either_drops (opens a.sight) (history_after app control a.sight a (fresh app control)) (orphan_history app control a.number (orphan_raises_of a.sight))
      (verdict_after app control a.sight a (fresh app control)) (orphan_verdict app control a.number (orphan_raises_of a.sight)) a.number
      (after_drops a.sight a.sight a (fresh app control) refl) (orphan_drops a.number (orphan_raises_of a.sight))

-- ---- all records

module _ (app : Meaning) (control_at : ℕ → ControlState) where
  -- an end drops nothing
  pub kept_by : (step : RecordSoFar → RecordSoFar) → Ends app control_at step → (pasts : List RecordSoFar) → drops_in (map step pasts) ≡ drops_in pasts
  unfolding drops_in
  kept_by step ends [] = refl
  kept_by step ends (past ∷ pasts) =
      let same : (step past).history.drops ≡ past.history.drops =
      either app control_at (λ r. r.history.drops ≡ past.history.drops) step ends past
      (silenced-drops app (control_at past.version) past.last.number (timer_raise_of past.first.sight past.history.count) past.history) refl in
      ap (λ ds. ds ++ drops_in (map step pasts)) same ∙ ap (λ ds. past.history.drops ++ ds) (kept_by step ends pasts)

  -- the drop of a packet stands behind those of its record
  moved : (ds rest here : List (ℕ × Reason)) → IsPermutation ((ds ++ rest) ++ here) ((ds ++ here) ++ rest)
  moved ds rest here =
      subst (λ l. IsPermutation l ((ds ++ here) ++ rest)) (sym (append_assoc ds rest here))
      (subst (IsPermutation (ds ++ (rest ++ here))) (sym (append_assoc ds here rest)) (IsPermutation-append_right ds (rest ++ here) (here ++ rest) (IsPermutation-append_comm rest here)))

  placed_here : (p : VersionedPacket) (past : RecordSoFar) (pasts : List RecordSoFar) (b : Bool)
      → IsPermutation (drops_in pasts ++ drops_of (verdict_among app control_at p pasts) p.arrival.number) (drops_in (placed app control_at p pasts))
      → IsPermutation (drops_in (past ∷ pasts) ++ drops_of (if b then verdict_after app (control_at past.version) past.first.sight p.arrival past.history else verdict_among app control_at p pasts) p.arrival.number)
      (drops_in (if b then continued_by app control_at p.arrival past ∷ pasts else past ∷ placed app control_at p pasts))
  unfolding drops_in
  placed_here p past pasts true rest =
      let here = drops_of (verdict_after app (control_at past.version) past.first.sight p.arrival past.history) p.arrival.number in
      let is = after_drops app (control_at past.version) past.first.sight p.arrival.sight p.arrival past.history refl in
      subst (λ ds. IsPermutation ((past.history.drops ++ drops_in pasts) ++ here) (ds ++ drops_in pasts)) (sym is) (moved past.history.drops (drops_in pasts) here)
  placed_here p past pasts false rest =
      let here = drops_of (verdict_among app control_at p pasts) p.arrival.number in
      subst (λ l. IsPermutation l (past.history.drops ++ drops_in (placed app control_at p pasts))) (sym (append_assoc past.history.drops (drops_in pasts) here))
      (IsPermutation-append_right past.history.drops (drops_in pasts ++ here) (drops_in (placed app control_at p pasts)) rest)

  placed_drops : (p : VersionedPacket) (pasts : List RecordSoFar)
      → IsPermutation (drops_in pasts ++ drops_of (verdict_among app control_at p pasts) p.arrival.number) (drops_in (placed app control_at p pasts))
  unfolding placed verdict_among drops_in
  placed_drops p [] =
      let here = drops_of (first_verdict app (control_at p.version) p.arrival) p.arrival.number in
      subst (IsPermutation here) (sym (append-nil (first_history app (control_at p.version) p.arrival).drops ∙ first_drops app (control_at p.version) p.arrival)) (IsPermutation-refl here)
  placed_drops p (past ∷ pasts) = placed_here p past pasts (belongs_to p.arrival.sight past) (placed_drops p pasts)

  -- one more packet adds its drop
  added_drops : (p : VersionedPacket) (pasts : List RecordSoFar)
      → IsPermutation (drops_in pasts ++ drops_of (verdict_on app control_at p pasts) p.arrival.number) (drops_in (added app control_at p pasts))
  added_drops p pasts =
      subst (λ ds. IsPermutation (ds ++ drops_of (verdict_on app control_at p pasts) p.arrival.number) (drops_in (added app control_at p pasts)))
      (kept_by (ended_before app control_at p) (ends_before app control_at p) pasts) (placed_drops p (map (ended_before app control_at p) pasts))

  pub all_drops : (ps : List VersionedPacket) (pasts : List RecordSoFar)
      → IsPermutation (drops_in pasts ++ dropped_of (verdicts_from app control_at pasts ps)) (drops_in (records_from app control_at pasts ps))
  unfolding records_from verdicts_from dropped_of
  all_drops [] pasts = subst (λ ds. IsPermutation ds (drops_in pasts)) (sym (append-nil (drops_in pasts))) (IsPermutation-refl (drops_in pasts))
  all_drops (p ∷ ps) pasts =
      let here = drops_of (verdict_on app control_at p pasts) p.arrival.number in
      let later = dropped_of (verdicts_from app control_at (added app control_at p pasts) ps) in
      subst (λ ds. IsPermutation ds (drops_in (records_from app control_at (added app control_at p pasts) ps))) (append_assoc (drops_in pasts) here later)
      (IsPermutation-trans ((drops_in pasts ++ here) ++ later) (drops_in (added app control_at p pasts) ++ later) (drops_in (records_from app control_at (added app control_at p pasts) ps))
      (IsPermutation-append_left later (drops_in pasts ++ here) (drops_in (added app control_at p pasts)) (added_drops p pasts)) (all_drops ps (added app control_at p pasts)))

  pub dropped : (ps : List VersionedPacket) → IsPermutation (dropped_of (verdicts_from app control_at [] ps)) (drops_in (records app control_at ps))
  unfolding drops_in
  dropped ps = all_drops ps []

  pub dropped_at_end : (last : Option Moment) (ps : List VersionedPacket)
      → IsPermutation (dropped_of (verdicts_from app control_at [] ps)) (drops_in (map (ended_at app control_at last) (records app control_at ps)))
  dropped_at_end last ps =
      subst (IsPermutation (dropped_of (verdicts_from app control_at [] ps))) (sym (kept_by (ended_at app control_at last) (ends_at app control_at last) (records app control_at ps)))
      (dropped ps)
