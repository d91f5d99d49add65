-- What lanes end with, joined.
use Rattle.std.proofs.Common.{◌≡◌, ◌<◌, ◌≤◌, ◌+◌, ℕ, zero, suc, Bool, true, false, cond, Option, List, [], ◌∷◌, ◌++◌, length, get_or, take, refl, sym, ap, ◌∙◌, map, arith, ⊎_elim}
use Rattle.std.specs.Prelude.{◌==◌, ◌-◌, ◌^◌, min}
use Rattle.std.specs.List.{All}
use Rattle.std.proofs.lemmas.List.{get_or_past, get_or-map, length-map, take_more, take_all}
use Rattle.std.proofs.lemmas.Bool.{cases_lt, eq-eqb}
use Rattle.std.proofs.lemmas.List.Elements.{All-nil, All-cons}
use Rattle.flow_table.specs.Key.{EndpointPair}
use Rattle.app_api.specs.App.{Meaning}
use Rattle.report_text.specs.declared.record.Record.{Record}
use Rattle.forest_versions.specs.declared.command.Command.{Command}
use Rattle.lane_core.specs.declared.end.KeptEnd.{KeptEnd}
use Rattle.lane_core.specs.KeptEnd.{shown_as}
use Rattle.connection_core.specs.History.{weight_of}
use Rattle.lane_core.specs.Sight.{Moment, Arrival}
use Rattle.lane_core.specs.Records.{RecordSoFar, records_from, ended_at}
use Rattle.lane_core.specs.Run.{LaneEvent, control_of, lane_run, ended_run}
use Rattle.lane_core.specs.Shown.{total}
use Rattle.lane_core.specs.Lane.{shown}
use Rattle.lane_composition.specs.Members.{Members, name_of}
use Rattle.run_outcome.specs.Greatest.{greatest}
use Rattle.lane_composition.specs.Lanes.{part}
use Rattle.run_outcome.specs.Lanes.{lane_of}
use Rattle.lane_composition.specs.Counted.{total as total_by, total_of_lanes}
use Rattle.run_outcome.specs.Rising.{Rises}
use Rattle.lane_composition.specs.Merge.{list_at, AreOfLanes, IsMerge, lane_at, shown_name}
use Rattle.lane_composition.specs.Histories.{over_under}
use Rattle.run_outcome.specs.Whole.{in_force, run_under}
use Rattle.lane_composition.specs.Taken.{events_at, AreOneRun}
use Rattle.lane_composition.specs.Ends.{AreEnds, IsJoined, sum_of}
use Rattle.lane_composition.proofs.Counting.{lanes_add_up}
use Rattle.lane_composition.proofs.Reported.{lists_of_lanes, merged_is}
use Rattle.lane_composition.proofs.Taken.{nothing_at}
use Rattle.lane_composition.proofs.Histories.{maps, final_first}
use Rattle.lane_composition.proofs.Whole.{members, at_end, run_is, part_is}

-- ---- sums

sum_push : (count : KeptEnd → ℕ) (ends : List KeptEnd) (end : KeptEnd) → sum_of count (ends ++ end ∷ []) ≡ sum_of count ends + count end
sum_push count [] end = omega arith
sum_push count (e ∷ ends) end = let rest = sum_push count ends end in omega arith

pub sum_more : (count : KeptEnd → ℕ) (ends : List KeptEnd) (n : ℕ) (d : KeptEnd) → n < length ends → sum_of count (take (n + 1) ends) ≡ sum_of count (take n ends) + count (get_or ends n d)
sum_more count ends n d lt = ap (sum_of count) (take_more ends n d lt) ∙ sum_push count (take n ends) (get_or ends n d)

total_shown : (shows : Members → RecordSoFar) (of : RecordSoFar → ℕ) (ms : List Members) → total of (map shows ms) ≡ total_by (λ m. of (shows m)) ms
unfolding total total_by
total_shown shows of [] = refl
total_shown shows of (m ∷ ms) = ap (λ n. of (shows m) + n) (total_shown shows of ms)

-- ---- records of lanes that aren't there

tail_of_none : (m : Members) (ms : List Members) (b : Bool) → cond b (m ∷ ms) ms ≡ [] → ms ≡ []
tail_of_none m ms true e = absurd (cc)
tail_of_none m ms false e = e

lanes_below : (lane : EndpointPair → ℕ) (n : ℕ) (ms : List Members) → ((l : ℕ) → n ≤ l → part lane l ms ≡ []) → All (λ m. lane_of lane m.first.sight < n) ms
lanes_below lane n [] none = All-nil (λ m. lane_of lane m.first.sight < n)
lanes_below lane n (m ∷ ms) none =
    let own = eq-eqb (lane_of lane m.first.sight) (lane_of lane m.first.sight) refl in
    let rest = lanes_below lane n ms (λ l le. tail_of_none m (part lane l ms) (lane_of lane m.first.sight == l) (none l le)) in
    ⊎_elim
    (λ lt. All-cons (λ x. lane_of lane x.first.sight < n) m ms lt rest)
    (λ le. absurd (let e = ap (λ b. cond b (m ∷ part lane (lane_of lane m.first.sight) ms) (part lane (lane_of lane m.first.sight) ms)) (sym own) ∙ none (lane_of lane m.first.sight) le in cc))
    (cases_lt (lane_of lane m.first.sight) n)

no_run : (app : Meaning) → lane_run app [] ≡ []
unfolding lane_run records_from
no_run app = refl

no_end : (app : Meaning) (last : Option Moment) → ended_run app [] last ≡ []
no_end app last = ap (map (ended_at app (control_of app []) last)) (no_run app)

module _ (keep : Bool) (app : Meaning) (commands : List Command) (lane : EndpointPair → ℕ) (packets : List Arrival) (lanes : List (List LaneEvent)) (vs : List ℕ)
    (one : AreOneRun app commands lane packets lanes vs)
    (numbered : Rises (map (λ a. a.number) packets)) (ends : List KeptEnd) (are : AreEnds keep app (greatest packets) lanes ends) where
  abbrev run : List RecordSoFar
  run = run_under app commands vs packets

  abbrev firsts : List Members
  firsts = members app commands packets vs

  abbrev history : Members → RecordSoFar
  history m = at_end app commands packets vs m

  abbrev show : Members → Record
  show m = shown keep app (history m)

  abbrev lists : List (List Record)
  lists = map (λ end. shown_as app end.records) ends

  abbrev none : KeptEnd
  none = record { records = []; callbacks = 0; weight = 0; drops = 0 }

  -- what lane l came to
  abbrev end_at : ℕ → List RecordSoFar
  end_at l = ended_run app (events_at lanes l) (greatest packets)

  show_name : (m : Members) → (show m).name ≡ name_of m
  show_name m = ap (λ a. a.number) (final_first app (in_force app commands) (greatest packets) m)

  nothing_beyond : (l : ℕ) → length ends ≤ l → end_at l ≡ []
  nothing_beyond l le = let count = are.count in ap (λ es. ended_run app es (greatest packets)) (nothing_at lanes l (omega arith)) ∙ no_end app (greatest packets)

  list_is : (l : ℕ) → list_at lists l ≡ map (shown keep app) (end_at l)
  list_is l = ⊎_elim
      (λ lt. get_or-map (λ (end : KeptEnd). shown_as app end.records) ends l none [] lt ∙ (are.each l none lt).records_are)
      (λ le. let long = length-map ends (λ (end : KeptEnd). shown_as app end.records) in get_or_past lists l [] (omega arith) ∙ sym (ap (map (shown keep app)) (nothing_beyond l le)))
      (cases_lt l (length ends))

  lists_are : (l : ℕ) → list_at lists l ≡ map show (part lane l firsts)
  lists_are l = list_is l ∙ ap (map (shown keep app)) (one.records l ∙ part_is app commands packets vs lane l) ∙ maps (shown keep app) history (part lane l firsts)

  pub lists_of : AreOfLanes shown_name (lane_at lane packets) lists
  lists_of = lists_of_lanes show show_name (over_under app commands) lane packets vs numbered lists lists_are

  records_are : (merged : List Record) → IsMerge shown_name (lane_at lane packets) lists merged → merged ≡ map (shown keep app) run
  records_are merged is =
      merged_is show show_name (over_under app commands) lane packets vs numbered lists lists_are merged is
      ∙ sym (ap (map (shown keep app)) (run_is app commands packets vs) ∙ maps (shown keep app) history firsts)

  all_below : All (λ m. lane_of lane m.first.sight < length ends) firsts
  all_below = lanes_below lane (length ends) firsts (λ l le. nothing_shown (part lane l firsts) (sym (part_is app commands packets vs lane l) ∙ sym (one.records l) ∙ nothing_beyond l le))
    where
      nothing_shown : (ms : List Members) → map history ms ≡ [] → ms ≡ []
      nothing_shown [] e = refl
      nothing_shown (m ∷ ms) e = absurd (cc)

  module _ (of : RecordSoFar → ℕ) (count : KeptEnd → ℕ) (counts : (l : ℕ) → l < length ends → count (get_or ends l none) ≡ total of (end_at l)) where
    abbrev by_first : Members → ℕ
    by_first m = of (history m)

    own_total : (l : ℕ) → total of (end_at l) ≡ total_by by_first (part lane l firsts)
    own_total l = ap (total of) (one.records l ∙ part_is app commands packets vs lane l) ∙ total_shown history of (part lane l firsts)

    first_lanes : (n : ℕ) → n ≤ length ends → total_of_lanes lane by_first n firsts ≡ sum_of count (take n ends)
    unfolding total_of_lanes
    first_lanes zero le = refl
    first_lanes (suc n) le =
        let before = first_lanes n (omega arith) in
        let here = counts n (omega arith) ∙ own_total n in
        let step = sum_more count ends n none (omega arith) in
        let next : suc n ≡ n + 1 = omega arith in
        let same = ap (λ k. sum_of count (take k ends)) next in omega arith

    pub sum_is : sum_of count ends ≡ total of run
    sum_is =
        sym (ap (sum_of count) (take_all (length ends) ends (omega arith))) ∙ sym (first_lanes (length ends) (omega arith))
        ∙ lanes_add_up lane by_first (length ends) firsts all_below ∙ sym (total_shown history of firsts) ∙ sym (ap (total of) (run_is app commands packets vs))

  pub is_joined : (merged : List Record) → IsMerge shown_name (lane_at lane packets) lists merged
      → IsJoined keep app run merged (min (sum_of (λ end. end.callbacks) ends) (2 ^ 64 - 1)) (min (sum_of (λ end. end.weight) ends) (2 ^ 64 - 1)) (min (sum_of (λ end. end.drops) ends) (2 ^ 64 - 1))
  is_joined merged is = record {
    records_are = records_are merged is;
    callbacks_are = ap (λ n. min n (2 ^ 64 - 1)) (sum_is (λ r. length r.history.entries) (λ end. end.callbacks) (λ l lt. (are.each l none lt).callbacks_are));
    weight_is = ap (λ n. min n (2 ^ 64 - 1)) (sum_is (λ r. weight_of r.history.entries) (λ end. end.weight) (λ l lt. (are.each l none lt).weight_is));
    drops_are = ap (λ n. min n (2 ^ 64 - 1)) (sum_is (λ r. length r.history.drops) (λ end. end.drops) (λ l lt. (are.each l none lt).drops_are));
  }
