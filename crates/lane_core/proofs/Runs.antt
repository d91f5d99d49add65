-- One event more at the end of a run.
use Rattle.std.proofs.Common.{◌≡◌, ◌↔◌, ℕ, zero, suc, ◌+◌, ◌<◌, ◌≤◌, true, false, Option, Some, None, List, [], ◌∷◌, ◌++◌, length, map, take, refl, sym, ap, subst, ◌∙◌, arith, add-zero, le_refl}
use Rattle.std.specs.Prelude.{if◌then◌else◌, ◌&&◌, not}
use Rattle.app_api.specs.App.{Meaning}
use Rattle.forest_versions.specs.declared.command.Command.{Command}
use Rattle.forest_versions.specs.State.{ControlState, control, master}
use Rattle.connection_core.specs.Silence.{silenced}
use Rattle.lane_core.specs.Sight.{Moment, Arrival}
use Rattle.lane_core.specs.Records.{VersionedPacket, RecordSoFar, opens, is_shut, belongs_to, timer_raise_of, is_past, first_history, history_after, continued_by, ended_before, ended_at, placed, added, records_from, first_verdict, verdict_after, verdict_among, verdict_on}
use Rattle.lane_core.specs.Run.{LaneEvent, Gave, Arrived, commands_of, versioned_from, packets_of, control_of, lane_run, ended_run, last_number, newest_of}
use Rattle.lane_core.specs.Shown.{weight}
use Rattle.lane_core.specs.Lane.{IsHeavy, IsHeavyAtEnd, next_verdict, with_event}
use Rattle.lane_core.specs.Laws.{HeavyStays, OneEventMore, NewestIsTheLast, LaterCommandsChangeNone, LastPacketIsAdded}
use Rattle.lane_core.proofs.Ended.{Ends, ends_before, either}
use Rattle.lane_core.proofs.Weighing.{packet_weighs, end_weighs}

-- ---- the events, one more at the end

pub commands-arrived : (es : List LaneEvent) (a : Arrival) → commands_of (es ++ Arrived a ∷ []) ≡ commands_of es
commands-arrived [] a = refl
commands-arrived (Gave c ∷ es) a = ap (λ cs. c ∷ cs) (commands-arrived es a)
commands-arrived (Arrived b ∷ es) a = commands-arrived es a

pub commands-gave : (es : List LaneEvent) (c : Command) → commands_of (es ++ Gave c ∷ []) ≡ commands_of es ++ c ∷ []
commands-gave [] c = refl
commands-gave (Gave d ∷ es) c = ap (λ cs. d ∷ cs) (commands-gave es c)
commands-gave (Arrived b ∷ es) c = commands-gave es c

pub newest-arrived : (last : Option ℕ) (es : List LaneEvent) (a : Arrival) → last_number last (es ++ Arrived a ∷ []) ≡ Some a.number
newest-arrived last [] a = refl
newest-arrived last (Gave d ∷ es) a = newest-arrived last es a
newest-arrived last (Arrived b ∷ es) a = newest-arrived (Some b.number) es a

pub newest-gave : (last : Option ℕ) (es : List LaneEvent) (c : Command) → last_number last (es ++ Gave c ∷ []) ≡ last_number last es
newest-gave last [] c = refl
newest-gave last (Gave d ∷ es) c = newest-gave last es c
newest-gave last (Arrived b ∷ es) c = newest-gave (Some b.number) es c

-- after a packet there is a number
newest-some : (n : ℕ) (es : List LaneEvent) → last_number (Some n) es ≡ None → ⊥
newest-some n [] none = absurd (cc)
newest-some n (Gave d ∷ es) none = newest-some n es none
newest-some n (Arrived b ∷ es) none = newest-some b.number es none

packets-none : (es : List LaneEvent) → newest_of es ≡ None → packets_of es ≡ []
packets-none [] none = refl
packets-none (Gave d ∷ es) none = packets-none es none
packets-none (Arrived b ∷ es) none = absurd (newest-some b.number es none)

newest-none : (es : List LaneEvent) → packets_of es ≡ [] → newest_of es ≡ None
newest-none [] none = refl
newest-none (Gave d ∷ es) none = newest-none es none
newest-none (Arrived b ∷ es) none = absurd (cc)

pub newest_none_is : (es : List LaneEvent) → (newest_of es ≡ None) ↔ (packets_of es ≡ [])
newest_none_is es = (packets-none es, newest-none es)

versioned-gave : (v : ℕ) (es : List LaneEvent) (c : Command) → versioned_from v (es ++ Gave c ∷ []) ≡ versioned_from v es
versioned-gave v [] c = refl
versioned-gave v (Gave d ∷ es) c = versioned-gave (v + 1) es c
versioned-gave v (Arrived b ∷ es) c = ap (λ ps. record { version = v; arrival = b } ∷ ps) (versioned-gave v es c)

versioned-arrived : (v : ℕ) (es : List LaneEvent) (a : Arrival) → versioned_from v (es ++ Arrived a ∷ []) ≡ versioned_from v es ++ record { version = v + length (commands_of es); arrival = a } ∷ []
versioned-arrived v [] a = ap (λ n. record { version = n; arrival = a } ∷ []) (sym (add-zero v))
versioned-arrived v (Gave d ∷ es) a =
    let count : (v + 1) + length (commands_of es) ≡ v + length (d ∷ commands_of es) = omega arith in
    versioned-arrived (v + 1) es a ∙ ap (λ n. versioned_from (v + 1) es ++ record { version = n; arrival = a } ∷ []) count
versioned-arrived v (Arrived b ∷ es) a = ap (λ ps. record { version = v; arrival = b } ∷ ps) (versioned-arrived v es a)

-- ---- the records

pub records-last : (app : Meaning) (control_at : ℕ → ControlState) (so_far : List RecordSoFar) (ps : List VersionedPacket) (p : VersionedPacket)
    → records_from app control_at so_far (ps ++ p ∷ []) ≡ added app control_at p (records_from app control_at so_far ps)
unfolding records_from
records-last app control_at so_far [] p = refl
records-last app control_at so_far (q ∷ ps) p = records-last app control_at (added app control_at q so_far) ps p

-- each version is at most this
abbrev AreAtMost : ℕ → List RecordSoFar → Type 0
AreAtMost most [] = Unit {0}
AreAtMost most (r ∷ rs) = (r.version ≤ most) × AreAtMost most rs

abbrev PacketsAtMost : ℕ → List VersionedPacket → Type 0
PacketsAtMost most [] = Unit {0}
PacketsAtMost most (p ∷ ps) = (p.version ≤ most) × PacketsAtMost most ps

-- a record that ends, under what is in force for it
abbrev ended_under : Meaning → ControlState → RecordSoFar → RecordSoFar
ended_under app control r = record r {
  ended = true;
  history = silenced app control r.last.number (timer_raise_of r.first.sight r.history.count) r.history;
}

-- records depend on what is in force at the versions that are used alone
module _ (app : Meaning) (most : ℕ) (one two : ℕ → ControlState) (agree : (v : ℕ) → v ≤ most → one v ≡ two v) where
  -- ---- records that end

  before-agrees : (p : VersionedPacket) (rs : List RecordSoFar) → AreAtMost most rs → map (ended_before app one p) rs ≡ map (ended_before app two p) rs
  before-agrees p [] all = refl
  before-agrees p (r ∷ rs) all =
      let same : ended_before app one p r ≡ ended_before app two p r =
      ap (λ c. if belongs_to p.arrival.sight r && is_past c.idle r.last.moment p.arrival.moment then ended_under app c r else r) (agree r.version all.0) in
      ap (λ q. q ∷ map (ended_before app one p) rs) same ∙ ap (λ l. ended_before app two p r ∷ l) (before-agrees p rs all.1)

  at-agrees : (last : Option Moment) (rs : List RecordSoFar) → AreAtMost most rs → map (ended_at app one last) rs ≡ map (ended_at app two last) rs
  at-agrees None rs all = refl
  at-agrees (Some now) [] all = refl
  at-agrees (Some now) (r ∷ rs) all =
      let same : ended_at app one (Some now) r ≡ ended_at app two (Some now) r =
      ap (λ c. if opens r.first.sight && not (is_shut r) && is_past c.idle r.last.moment now then ended_under app c r else r) (agree r.version all.0) in
      ap (λ q. q ∷ map (ended_at app one (Some now)) rs) same ∙ ap (λ l. ended_at app two (Some now) r ∷ l) (at-agrees (Some now) rs all.1)

  ended-at_most : (step : RecordSoFar → RecordSoFar) → Ends app one step → (rs : List RecordSoFar) → AreAtMost most rs → AreAtMost most (map step rs)
  ended-at_most step ends [] all = tt
  ended-at_most step ends (r ∷ rs) all = (either app one (λ q. q.version ≤ most) step ends r all.0 all.0, ended-at_most step ends rs all.1)

  -- ---- one packet more

  placed-agrees : (p : VersionedPacket) (rs : List RecordSoFar) → p.version ≤ most → AreAtMost most rs → placed app one p rs ≡ placed app two p rs
  unfolding placed
  placed-agrees p [] low all = ap (λ c. record { first = p.arrival; version = p.version; last = p.arrival; ended = false; history = first_history app c p.arrival } ∷ []) (agree p.version low)
  placed-agrees p (r ∷ rs) low all =
      let rest = placed-agrees p rs low all.1 in
      let same : continued_by app one p.arrival r ≡ continued_by app two p.arrival r =
      ap (λ c. record { first = r.first; version = r.version; last = p.arrival; ended = r.ended; history = history_after app c r.first.sight p.arrival r.history }) (agree r.version all.0) in
      elim (belongs_to p.arrival.sight r) as (λ b. (if b then continued_by app one p.arrival r ∷ rs else r ∷ placed app one p rs) ≡ (if
      b then continued_by app two p.arrival r ∷ rs else r ∷ placed app two p rs)) [
        | true ↦ ap (λ x. x ∷ rs) same
        | false ↦ ap (λ l. r ∷ l) rest
      ]

  placed-at_most : (p : VersionedPacket) (rs : List RecordSoFar) → p.version ≤ most → AreAtMost most rs → AreAtMost most (placed app one p rs)
  unfolding placed
  placed-at_most p [] low all = (low, tt)
  placed-at_most p (r ∷ rs) low all =
      elim (belongs_to p.arrival.sight r) as (λ b. AreAtMost most (if b then continued_by app one p.arrival r ∷ rs else r ∷ placed app one p rs)) [
        | true ↦ (all.0, all.1)
        | false ↦ (all.0, placed-at_most p rs low all.1)
      ]

  before-at_most : (p : VersionedPacket) (rs : List RecordSoFar) → AreAtMost most rs → AreAtMost most (map (ended_before app one p) rs)
  before-at_most p rs all = ended-at_most (ended_before app one p) (ends_before app one p) rs all

  added-agrees : (p : VersionedPacket) (rs : List RecordSoFar) → p.version ≤ most → AreAtMost most rs → added app one p rs ≡ added app two p rs
  added-agrees p rs low all =
      placed-agrees p (map (ended_before app one p) rs) low (before-at_most p rs all) ∙ ap (placed app two p) (before-agrees p rs all)

  added-at_most : (p : VersionedPacket) (rs : List RecordSoFar) → p.version ≤ most → AreAtMost most rs → AreAtMost most (added app one p rs)
  added-at_most p rs low all = placed-at_most p (map (ended_before app one p) rs) low (before-at_most p rs all)

  records-agree : (ps : List VersionedPacket) (rs : List RecordSoFar) → PacketsAtMost most ps → AreAtMost most rs → records_from app one rs ps ≡ records_from app two rs ps
  unfolding records_from
  records-agree [] rs low all = refl
  records-agree (p ∷ ps) rs low all =
      records-agree ps (added app one p rs) low.1 (added-at_most p rs low.0 all) ∙ ap (λ l. records_from app two l ps) (added-agrees p rs low.0 all)

  records-at_most : (ps : List VersionedPacket) (rs : List RecordSoFar) → PacketsAtMost most ps → AreAtMost most rs → AreAtMost most (records_from app one rs ps)
  unfolding records_from
  records-at_most [] rs low all = all
  records-at_most (p ∷ ps) rs low all = records-at_most ps (added app one p rs) low.1 (added-at_most p rs low.0 all)

  among-agrees : (p : VersionedPacket) (rs : List RecordSoFar) → p.version ≤ most → AreAtMost most rs → verdict_among app one p rs ≡ verdict_among app two p rs
  unfolding verdict_among
  among-agrees p [] low all = ap (λ c. first_verdict app c p.arrival) (agree p.version low)
  among-agrees p (r ∷ rs) low all =
      let rest = among-agrees p rs low all.1 in
      let same : verdict_after app (one r.version) r.first.sight p.arrival r.history ≡ verdict_after app (two r.version) r.first.sight p.arrival r.history =
      ap (λ c. verdict_after app c r.first.sight p.arrival r.history) (agree r.version all.0) in
      elim (belongs_to p.arrival.sight r) as (λ b. (if b then verdict_after app (one r.version) r.first.sight p.arrival r.history else verdict_among app one p rs)
      ≡ (if b then verdict_after app (two r.version) r.first.sight p.arrival r.history else verdict_among app two p rs)) [
        | true ↦ same
        | false ↦ rest
      ]

  verdicts-agree : (p : VersionedPacket) (rs : List RecordSoFar) → p.version ≤ most → AreAtMost most rs → verdict_on app one p rs ≡ verdict_on app two p rs
  verdicts-agree p rs low all =
      among-agrees p (map (ended_before app one p) rs) low (before-at_most p rs all) ∙ ap (verdict_among app two p) (before-agrees p rs all)

packets_at_most : (v : ℕ) (es : List LaneEvent) → PacketsAtMost (v + length (commands_of es)) (versioned_from v es)
packets_at_most v [] = tt
packets_at_most v (Gave d ∷ es) =
    let count : (v + 1) + length (commands_of es) ≡ v + length (d ∷ commands_of es) = omega arith in
    subst (λ n. PacketsAtMost n (versioned_from (v + 1) es)) count (packets_at_most (v + 1) es)
packets_at_most v (Arrived b ∷ es) = (omega arith, packets_at_most v es)

packets-run : (es : List LaneEvent) → PacketsAtMost (length (commands_of es)) (versioned_from 0 es)
packets-run es =
    subst (λ n. PacketsAtMost n (versioned_from 0 es)) (let none_more : 0 + length (commands_of es) ≡ length (commands_of es) = omega arith in none_more) (packets_at_most 0 es)

take-front : {T : Type 0} (xs more : List T) (n : ℕ) → n ≤ length xs → take n (xs ++ more) ≡ take n xs
take-front xs more zero within = refl
take-front [] more (suc n) within = absurd (omega arith)
take-front (y ∷ xs) more (suc n) within = let below : n ≤ length xs = omega arith in ap (λ l. y ∷ l) (take-front xs more n below)

-- ---- a run

pub packet_is_added : (app : Meaning) (es : List LaneEvent) (a : Arrival)
    → lane_run app (with_event (Arrived a) es) ≡ added app (control_of app es) (record { version = length (commands_of es); arrival = a }) (lane_run app es)
unfolding lane_run
packet_is_added app es a =
    ap (λ cs. records_from app (master app.presets cs) [] (versioned_from 0 (es ++ Arrived a ∷ []))) (commands-arrived es a)
    ∙ ap (records_from app (control_of app es) []) (versioned-arrived 0 es a
    ∙ ap (λ n. versioned_from 0 es ++ record { version = n; arrival = a } ∷ [])
    (let none_more : 0 + length (commands_of es) ≡ length (commands_of es) = omega arith in none_more))
    ∙ records-last app (control_of app es) [] (versioned_from 0 es) (record { version = length (commands_of es); arrival = a })

pub later_records : (app : Meaning) (es : List LaneEvent) (more : List Command)
    → lane_run app es ≡ records_from app (master app.presets (commands_of es ++ more)) [] (versioned_from 0 es)
unfolding lane_run
later_records app es more =
    let cs = commands_of es in
    sym (records-agree app (length cs) (master app.presets (cs ++ more)) (master app.presets cs)
    (λ v low. ap (control app.presets) (take-front cs more v low)) (versioned_from 0 es) [] (packets-run es) tt)

pub command_changes_none : (app : Meaning) (es : List LaneEvent) (c : Command) → lane_run app (with_event (Gave c) es) ≡ lane_run app es
unfolding lane_run
command_changes_none app es c =
    ap (λ ds. records_from app (master app.presets ds) [] (versioned_from 0 (es ++ Gave c ∷ []))) (commands-gave es c)
    ∙ ap (records_from app (master app.presets (commands_of es ++ c ∷ [])) []) (versioned-gave 0 es c)
    ∙ sym (later_records app es (c ∷ []))

pub later_end : (app : Meaning) (es : List LaneEvent) (last : Option Moment) (more : List Command)
    → ended_run app es last ≡ map (ended_at app (master app.presets (commands_of es ++ more)) last) (records_from app (master app.presets (commands_of es ++ more)) [] (versioned_from 0 es))
unfolding lane_run
later_end app es last more =
    let cs = commands_of es in
    sym (at-agrees app (length cs) (master app.presets (cs ++ more)) (master app.presets cs) (λ v low. ap (control app.presets) (take-front cs more v low)) last
    (records_from app (master app.presets (cs ++ more)) [] (versioned_from 0 es))
    (records-at_most app (length cs) (master app.presets (cs ++ more)) (master app.presets (cs ++ more)) (λ v low. refl) (versioned_from 0 es) [] (packets-run es) tt)
    ∙ ap (map (ended_at app (master app.presets cs) last)) (sym (later_records app es more)))

pub later_verdict : (app : Meaning) (es : List LaneEvent) (a : Arrival) (more : List Command)
    → next_verdict app es a ≡ verdict_on app (master app.presets (commands_of es ++ more)) (record { version = length (commands_of es); arrival = a }) (lane_run app es)
unfolding lane_run
later_verdict app es a more =
    let cs = commands_of es in
    sym (verdicts-agree app (length cs) (master app.presets (cs ++ more)) (master app.presets cs) (λ v low. ap (control app.presets) (take-front cs more v low))
    (record { version = length cs; arrival = a }) (lane_run app es) (le_refl (length cs))
    (records-at_most app (length cs) (master app.presets cs) (master app.presets cs) (λ v low. refl) (versioned_from 0 es) [] (packets-run es) tt))

one_more_heavy : (app : Meaning) (es : List LaneEvent) (event : LaneEvent) → IsHeavy app es → IsHeavy app (with_event event es)
one_more_heavy app es (Gave c) heavy = subst (λ rs. 134217728 < weight rs) (sym (command_changes_none app es c)) heavy
one_more_heavy app es (Arrived a) heavy =
    let more = packet_weighs app (control_of app es) (record { version = length (commands_of es); arrival = a }) (lane_run app es) in
    subst (λ rs. 134217728 < weight rs) (sym (packet_is_added app es a)) (omega (arith, heavy, more))

heavy_at_end : (app : Meaning) (es : List LaneEvent) (last : Option Moment) → IsHeavy app es → IsHeavyAtEnd app es last
heavy_at_end app es last heavy = let more = end_weighs app (control_of app es) last (lane_run app es) in omega (arith, heavy, more)

pub heavy_stays : HeavyStays
heavy_stays = record { one_more = one_more_heavy; at_end = heavy_at_end }

pub one_event_more : OneEventMore
one_event_more = record {
  command = λ es c. (commands-gave es c, versioned-gave 0 es c);
  packet = λ es a. (
    commands-arrived es a,
    versioned-arrived 0 es a ∙ ap (λ n. versioned_from 0 es ++ record { version = n; arrival = a } ∷ [])
        (let none_more : 0 + length (commands_of es) ≡ length (commands_of es) = omega arith in none_more),
  );
}

pub newest_is_the_last : NewestIsTheLast
newest_is_the_last = record { none = newest_none_is; packet = newest-arrived None; command = newest-gave None }

pub later_commands_change_none : LaterCommandsChangeNone
later_commands_change_none = record { records = later_records; at_end = later_end; verdicts = later_verdict }

pub last_packet_is_added : LastPacketIsAdded
last_packet_is_added app control_at ps p = records-last app control_at [] ps p
