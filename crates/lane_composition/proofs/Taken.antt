-- What lanes come to, by their events.
use Rattle.std.proofs.Common.{◌≡◌, ◌<◌, ◌≤◌, ◌+◌, ℕ, cond, Option, List, [], ◌∷◌, ◌++◌, length, refl, sym, ap, ◌∙◌, subst, map, arith, ⊎_elim, append_assoc, append-nil}
use Rattle.std.specs.List.{All}
use Rattle.std.proofs.lemmas.List.{get_or_past, length_push}
use Rattle.std.proofs.lemmas.Bool.{cases_lt, ne_eqb}
use Rattle.std.proofs.lemmas.List.Elements.{All-nil, All-cons, All-weaker}
use mathlib.Core.List.{IsPrefix}
use Rattle.flow_table.specs.Key.{EndpointPair}
use Rattle.app_api.specs.App.{Meaning}
use Rattle.forest_versions.specs.declared.command.Command.{Command}
use Rattle.forest_versions.specs.State.{master}
use Rattle.lane_core.specs.Sight.{Sight, Moment, Arrival}
use Rattle.lane_core.specs.Records.{VersionedPacket, RecordSoFar, added, verdict_on, records, records_from, ended_at}
use Rattle.lane_core.specs.Run.{LaneEvent, Gave, Arrived, commands_of, versioned_from, lane_run, ended_run}
use Rattle.lane_core.specs.Lane.{with_event, next_verdict}
use Rattle.lane_core.specs.Laws.{OneEventMore, LaterCommandsChangeNone, LastPacketIsAdded}
use Rattle.lane_composition.specs.Lanes.{share}
use Rattle.run_outcome.specs.Lanes.{lane_of}
use Rattle.run_outcome.specs.Rising.{NeverFalls}
use Rattle.lane_composition.specs.Allowed.{arrivals_of, IsWithin, AreStamped}
use Rattle.lane_core.specs.Verdicts.{verdicts_from}
use Rattle.run_outcome.specs.Whole.{in_force}
use Rattle.lane_composition.specs.Taken.{events_at, packets_at, HaveRun, HaveRunAll, verdicts_behind, verdicts_in}

-- ---- events and then others

pub commands_follow : (es more : List LaneEvent) → commands_of (es ++ more) ≡ commands_of es ++ commands_of more
commands_follow [] more = refl
commands_follow (Gave c ∷ es) more = ap (λ cs. c ∷ cs) (commands_follow es more)
commands_follow (Arrived a ∷ es) more = commands_follow es more

pub packets_follow : (v : ℕ) (es more : List LaneEvent) → versioned_from v (es ++ more) ≡ versioned_from v es ++ versioned_from (v + length (commands_of es)) more
packets_follow v [] more = let same : v ≡ v + length (commands_of []) = omega arith in ap (λ n. versioned_from n more) same
packets_follow v (Gave c ∷ es) more =
    let same : (v + 1) + length (commands_of es) ≡ v + length (commands_of (Gave c ∷ es)) = omega arith in
    packets_follow (v + 1) es more ∙ ap (λ n. versioned_from (v + 1) es ++ versioned_from n more) same
packets_follow v (Arrived a ∷ es) more = ap (λ ps. record { version = v; arrival = a } ∷ ps) (packets_follow v es more)

pub verdicts_follow : (app : Meaning) (before es more : List LaneEvent) → verdicts_behind app before (es ++ more) ≡ verdicts_behind app before es ++ verdicts_behind app (before ++ es) more
verdicts_follow app before [] more = ap (λ x. verdicts_behind app x more) (sym (append-nil before))
verdicts_follow app before (Gave c ∷ es) more =
    verdicts_follow app (with_event (Gave c) before) es more
    ∙ ap (λ x. verdicts_behind app (with_event (Gave c) before) es ++ verdicts_behind app x more) (append_assoc before (Gave c ∷ []) es)
verdicts_follow app before (Arrived a ∷ es) more =
    ap (λ js. (a, next_verdict app before a) ∷ js)
    (verdicts_follow app (with_event (Arrived a) before) es more
    ∙ ap (λ x. verdicts_behind app (with_event (Arrived a) before) es ++ verdicts_behind app x more) (append_assoc before (Arrived a ∷ []) es))

-- ---- versions never fall along events

versions_above : (v : ℕ) (es : List LaneEvent) → All (λ k. v ≤ k) (map (λ p. p.version) (versioned_from v es))
versions_above v [] = All-nil (λ k. v ≤ k)
versions_above v (Gave c ∷ es) = All-weaker (λ k. v + 1 ≤ k) (λ k. v ≤ k) (λ k le. omega arith) (map (λ p. p.version) (versioned_from (v + 1) es)) (versions_above (v + 1) es)
versions_above v (Arrived a ∷ es) = All-cons (λ k. v ≤ k) v (map (λ p. p.version) (versioned_from v es)) (omega arith) (versions_above v es)

versions_along : (v : ℕ) (es : List LaneEvent) → NeverFalls (map (λ p. p.version) (versioned_from v es))
unfolding NeverFalls
versions_along v [] = tt
versions_along v (Gave c ∷ es) = versions_along (v + 1) es
versions_along v (Arrived a ∷ es) = (versions_above v es, versions_along v es)

-- ---- each lane, and those that aren't there

pub nothing_at : (lanes : List (List LaneEvent)) (l : ℕ) → length lanes ≤ l → events_at lanes l ≡ []
nothing_at lanes l le = get_or_past lanes l [] le

share_of_none : (lane : EndpointPair → ℕ) (n : ℕ) → ((sight : Sight) → lane_of lane sight < n) → (l : ℕ) → n ≤ l → (ps : List Arrival) → share lane l ps ≡ []
share_of_none lane n all l le [] = refl
share_of_none lane n all l le (p ∷ ps) =
    let here : lane_of lane p.sight < n = all p.sight in
    let isnt = ne_eqb (lane_of lane p.sight) l (λ e. omega arith) in
    ap (λ b. cond b (p ∷ share lane l ps) (share lane l ps)) isnt ∙ share_of_none lane n all l le ps

module _ (least most : ℕ → ℕ) (commands : List Command) (lane : EndpointPair → ℕ) (packets : List Arrival) (lanes : List (List LaneEvent)) (have : HaveRun least most commands lane packets lanes) where
  pub commands_front : (l : ℕ) → IsPrefix (commands_of (events_at lanes l)) commands
  commands_front l = ⊎_elim
      (λ lt. have.commands_are l lt)
      (λ le. subst (λ es. IsPrefix (commands_of es) commands) (sym (nothing_at lanes l le)) (commands, refl))
      (cases_lt l (length lanes))

  pub packets_front : (l : ℕ) → IsPrefix (arrivals_of (packets_at lanes l)) (share lane l packets)
  packets_front l = ⊎_elim
      (λ lt. have.packets_are l lt)
      (λ le. subst (λ es. IsPrefix (arrivals_of (versioned_from 0 es)) (share lane l packets)) (sym (nothing_at lanes l le)) (share lane l packets, refl))
      (cases_lt l (length lanes))

  pub packets_whole : HaveRunAll lane packets lanes → (l : ℕ) → arrivals_of (packets_at lanes l) ≡ share lane l packets
  packets_whole whole l = ⊎_elim
      (λ lt. whole l lt)
      (λ le. ap (λ es. arrivals_of (versioned_from 0 es)) (nothing_at lanes l le) ∙ sym (share_of_none lane (length lanes) have.all l le packets))
      (cases_lt l (length lanes))

  abbrev IsIn : VersionedPacket → Type 0
  IsIn p = IsWithin least most p.version p.arrival.number

  pub stamped_at : (l : ℕ) → AreStamped least most (packets_at lanes l)
  stamped_at l = record {
    within = ⊎_elim
        (λ lt. have.within l lt)
        (λ le. subst (λ es. All IsIn (versioned_from 0 es)) (sym (nothing_at lanes l le)) (All-nil IsIn))
        (cases_lt l (length lanes));
    along = versions_along 0 (events_at lanes l);
  }

-- ---- a lane's records and verdicts under all commands of the script

module _ (later : LaterCommandsChangeNone) (app : Meaning) (commands : List Command) where
  abbrev so_far : List LaneEvent → List RecordSoFar
  so_far es = records app (in_force app commands) (versioned_from 0 es)

  pub run_of_events : (es : List LaneEvent) → IsPrefix (commands_of es) commands → lane_run app es ≡ records app (in_force app commands) (versioned_from 0 es)
  run_of_events es front = later.records app es front.0 ∙ ap (λ cs. records app (master app.presets cs) (versioned_from 0 es)) front.1

  pub end_of_events : (es : List LaneEvent) (last : Option Moment) → IsPrefix (commands_of es) commands → ended_run app es last ≡ map (ended_at app (in_force app commands) last) (so_far es)
  end_of_events es last front =
      later.at_end app es last front.0
      ∙ ap (λ cs. map (ended_at app (master app.presets cs) last) (records app (master app.presets cs) (versioned_from 0 es))) front.1

  module _ (one : OneEventMore) (last : LastPacketIsAdded) where
    next_is : (before : List LaneEvent) (a : Arrival) → IsPrefix (commands_of before) commands
        → next_verdict app before a ≡ verdict_on app (in_force app commands) (record { version = length (commands_of before); arrival = a }) (so_far before)
    next_is before a front =
        later.verdicts app before a front.0
        ∙ ap (λ cs. verdict_on app (master app.presets cs) (record { version = length (commands_of before); arrival = a }) (lane_run app before)) front.1
        ∙ ap (verdict_on app (in_force app commands) (record { version = length (commands_of before); arrival = a })) (run_of_events before front)

    grown : (before : List LaneEvent) (a : Arrival)
        → so_far (with_event (Arrived a) before) ≡ added app (in_force app commands) (record { version = length (commands_of before); arrival = a }) (so_far before)
    grown before a =
        ap (records app (in_force app commands)) (one.packet before a).1
        ∙ last app (in_force app commands) (versioned_from 0 before) (record { version = length (commands_of before); arrival = a })

    verdicts_are : (before es : List LaneEvent) (more : List Command) → commands_of before ++ (commands_of es ++ more) ≡ commands
        → verdicts_behind app before es ≡ verdicts_from app (in_force app commands) (so_far before) (versioned_from (length (commands_of before)) es)
    unfolding verdicts_from
    verdicts_are before [] more e = refl
    verdicts_are before (Gave c ∷ es) more e =
        let step = one.command before c in
        verdicts_are (with_event (Gave c) before) es more (ap (λ cs. cs ++ (commands_of es ++ more)) step.0 ∙ append_assoc (commands_of before) (c ∷ []) (commands_of es ++ more) ∙ e)
        ∙ ap (λ ps. verdicts_from app (in_force app commands) (records app (in_force app commands) ps) (versioned_from (length (commands_of (with_event (Gave c) before))) es)) step.1
        ∙ ap (λ n. verdicts_from app (in_force app commands) (so_far before) (versioned_from n es)) (ap length step.0 ∙ length_push (commands_of before) c)
    verdicts_are before (Arrived a ∷ es) more e =
        let step = one.packet before a in
        let p : VersionedPacket = record { version = length (commands_of before); arrival = a } in
        ap (λ v. (a, v) ∷ verdicts_behind app (with_event (Arrived a) before) es) (next_is before a (commands_of es ++ more, e))
        ∙ ap (λ js. (a, verdict_on app (in_force app commands) p (so_far before)) ∷ js)
        (verdicts_are (with_event (Arrived a) before) es more (ap (λ cs. cs ++ (commands_of es ++ more)) step.0 ∙ e)
        ∙ ap (λ rs. verdicts_from app (in_force app commands) rs (versioned_from (length (commands_of (with_event (Arrived a) before))) es)) (grown before a)
        ∙ ap (λ cs. verdicts_from app (in_force app commands) (added app (in_force app commands) p (so_far before)) (versioned_from (length cs) es)) step.0)

    nothing_yet : so_far [] ≡ []
    unfolding records_from
    nothing_yet = refl

    pub verdicts_of_events : (es : List LaneEvent) → IsPrefix (commands_of es) commands → verdicts_in app es ≡ verdicts_from app (in_force app commands) [] (versioned_from 0 es)
    verdicts_of_events es front = verdicts_are [] es front.0 front.1 ∙ ap (λ rs. verdicts_from app (in_force app commands) rs (versioned_from 0 es)) nothing_yet
