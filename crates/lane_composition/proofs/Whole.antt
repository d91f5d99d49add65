-- Lanes and one run over all packets.
use Rattle.std.proofs.Common.{◌≡◌, ◌<◌, ◌≤◌, ◌+◌, ℕ, zero, suc, Bool, true, false, cond, List, [], ◌∷◌, ◌++◌, length, get_or, refl, sym, ap, ◌∙◌, subst, map, arith, append-nil, append_assoc}
use Rattle.std.specs.Prelude.{◌==◌, filter}
use Rattle.std.proofs.lemmas.List.{length-map, get_or-map}
use mathlib.Core.List.{IsPrefix}
use Rattle.pcap_source.specs.Captured.{Captured}
use Rattle.flow_table.specs.Key.{EndpointPair}
use Rattle.app_api.specs.App.{Meaning}
use Rattle.app_api.specs.declared.reaction.Verdict.{Verdict}
use Rattle.forest_versions.specs.declared.command.Command.{Command}
use Rattle.forest_versions.specs.State.{ControlState}
use Rattle.lane_core.specs.Sight.{Arrival, arrivals}
use Rattle.lane_core.specs.Records.{VersionedPacket, RecordSoFar, added, records, versioned, ended_at}
use Rattle.lane_core.specs.Run.{LaneEvent, commands_of, lane_run, ended_run}
use Rattle.lane_core.specs.Shown.{total, weight}
use Rattle.lane_core.specs.Laws.{OneEventMore, LaterCommandsChangeNone, LastPacketIsAdded, WeightNeverFalls}
use Rattle.lane_composition.specs.Members.{Members, records as members_of}
use Rattle.run_outcome.specs.Greatest.{greatest}
use Rattle.lane_composition.specs.Lanes.{share, part}
use Rattle.run_outcome.specs.Lanes.{lane_of}
use Rattle.lane_composition.specs.Named.{named_from, named, records_under}
use Rattle.lane_composition.specs.Judged.{judged_from, judged}
use Rattle.run_outcome.specs.Rising.{Rises}
use Rattle.lane_composition.specs.Allowed.{versions_of, arrivals_of}
use Rattle.lane_composition.specs.Runs.{judged_part, AreRuns}
use Rattle.lane_composition.specs.Histories.{judge_by, over_under}
use Rattle.lane_composition.specs.Streamed.{AreNumbered}
use Rattle.lane_core.specs.Verdicts.{verdicts_from}
use Rattle.lane_core.specs.Versions.{versions_in}
use Rattle.run_outcome.specs.Whole.{in_force, packets_under, run_under, verdicts_under, IsAllowedRun}
use Rattle.lane_composition.specs.Taken.{events_at, packets_at, verdicts_in, HaveRun, HaveRunAll, AreOneRun, AreFrontsOfRun}
use Rattle.lane_composition.proofs.Histories.{same_judged, same_records, same_part, final, final_first, final_versions, ended_records}
use Rattle.lane_composition.proofs.Bridging.{packets_are, same_versions, run_allowed, members_allowed}
use Rattle.lane_composition.proofs.Naming.{judged_again}
use Rattle.lane_composition.proofs.Judging.{judged_more, named_more}
use Rattle.lane_composition.proofs.Reported.{named_packets}
use Rattle.lane_composition.proofs.Single.{list_of_allowed, records_of_allowed}
use Rattle.lane_composition.proofs.Composed.{one_allowed, continued, ceilings_allowed, front_verdicts, arrivals_versioned}
use Rattle.lane_composition.proofs.Taken.{commands_front, packets_front, packets_whole, stamped_at, run_of_events, end_of_events, verdicts_of_events}

-- ---- the run, by the packets of its records

module _ (app : Meaning) (commands : List Command) (packets : List Arrival) (vs : List ℕ) where
  abbrev pub members : List Members
  members = records_under (over_under app commands) vs packets

  -- what the run comes to for each
  abbrev pub at_end : Members → RecordSoFar
  at_end m = final app (in_force app commands) (greatest packets) m

  pub run_is : run_under app commands vs packets ≡ map at_end members
  run_is =
      ended_records app (in_force app commands) (greatest packets) (packets_under app commands vs packets)
      ∙ ap (λ ps. map at_end (members_of (over_under app commands) ps)) (packets_are app commands vs packets)

  pub part_is : (lane : EndpointPair → ℕ) (l : ℕ) → filter (λ r. lane_of lane r.first.sight == l) (run_under app commands vs packets) ≡ map at_end (part lane l members)
  part_is lane l =
      ap (filter (λ r. lane_of lane r.first.sight == l)) run_is
      ∙ same_part at_end (final_first app (in_force app commands) (greatest packets)) (λ sight. lane_of lane sight == l) members

  pub verdicts_by : verdicts_under app commands vs packets ≡ judged (over_under app commands) (judge_by app (in_force app commands)) (packets_under app commands vs packets)
  verdicts_by = same_judged app (in_force app commands) [] (packets_under app commands vs packets)

  -- the same where a record's version is that of its place among them
  pub verdicts_named : verdicts_under app commands vs packets ≡ judged (over_under app commands) (judge_by app (in_force app commands)) (named (over_under app commands) vs packets)
  verdicts_named = verdicts_by ∙ ap (judged (over_under app commands) (judge_by app (in_force app commands))) (packets_are app commands vs packets)

  pub versions_by : (least most : ℕ → ℕ) (lane : EndpointPair → ℕ) → IsAllowedRun app commands least most lane packets vs → map (λ r. r.version) (run_under app commands vs packets) ≡ vs
  versions_by least most lane allowed =
      ap (map (λ r. r.version)) run_is ∙ final_versions app (in_force app commands) (greatest packets) members
      ∙ list_of_allowed least most (over_under app commands) lane packets vs (members_allowed app commands vs packets least most lane allowed)

  -- where only ceilings are allowed
  module _ (least most : ℕ → ℕ) (lane : EndpointPair → ℕ) (same : (n : ℕ) → least n ≡ most n) (allowed : IsAllowedRun app commands least most lane packets vs) where
    pub records_by_ceilings : run_under app commands vs packets ≡ map (ended_at app (in_force app commands) (greatest packets)) (records app (in_force app commands) (versioned most packets))
    records_by_ceilings =
        run_is ∙ ap (map at_end) (records_of_allowed least most (over_under app commands) lane packets vs same (members_allowed app commands vs packets least most lane allowed))
        ∙ sym (ended_records app (in_force app commands) (greatest packets) (versioned most packets))

    list_by_ceilings : vs ≡ versions_of (members_of (over_under app commands) (versioned most packets))
    list_by_ceilings =
        sym (list_of_allowed least most (over_under app commands) lane packets vs (members_allowed app commands vs packets least most lane allowed))
        ∙ ap versions_of (records_of_allowed least most (over_under app commands) lane packets vs same (members_allowed app commands vs packets least most lane allowed))

    pub verdicts_by_ceilings : verdicts_under app commands vs packets ≡ verdicts_from app (in_force app commands) [] (versioned most packets)
    verdicts_by_ceilings =
        verdicts_named
        ∙ ap (λ ps. judged (over_under app commands) (judge_by app (in_force app commands)) (named (over_under app commands) vs ps)) (sym (arrivals_versioned most packets))
        ∙ judged_again (over_under app commands) (judge_by app (in_force app commands)) vs [] (versioned most packets) list_by_ceilings
        ∙ sym (same_judged app (in_force app commands) [] (versioned most packets))

-- ---- verdicts in the order of the packets

firsts_from : (app : Meaning) (control_at : ℕ → ControlState) (rs : List RecordSoFar) (ps : List VersionedPacket)
    → map (λ (j : Arrival × Verdict). j.0) (verdicts_from app control_at rs ps) ≡ arrivals_of ps
unfolding verdicts_from
firsts_from app control_at rs [] = refl
firsts_from app control_at rs (p ∷ ps) = ap (λ l. p.arrival ∷ l) (firsts_from app control_at (added app control_at p rs) ps)

place_in : (n : ℕ) (frames : List Captured) (i : ℕ) (d : Arrival) → i < length (arrivals n frames) → (get_or (arrivals n frames) i d).number ≡ n + i
place_in n [] i d lt = absurd (omega arith)
place_in n (frame ∷ frames) zero d lt = omega arith
place_in n (frame ∷ frames) (suc i) d lt = let later = place_in (n + 1) frames i d (omega arith) in omega arith

module _ (app : Meaning) (commands : List Command) (vs : List ℕ) where
  pub verdicts_in_order : (packets : List Arrival) → map (λ (j : Arrival × Verdict). j.0) (verdicts_under app commands vs packets) ≡ packets
  verdicts_in_order packets =
      firsts_from app (in_force app commands) [] (packets_under app commands vs packets) ∙ ap arrivals_of (packets_are app commands vs packets)
      ∙ named_packets (over_under app commands) vs [] packets

  pub verdicts_numbered : (frames : List Captured) → AreNumbered (verdicts_under app commands vs (arrivals 0 frames))
  verdicts_numbered frames i d lt =
      let js = verdicts_under app commands vs (arrivals 0 frames) in
      let order = verdicts_in_order (arrivals 0 frames) in
      let long = length-map js (λ (j : Arrival × Verdict). j.0) in
      let count = ap length order in
      let place = place_in 0 frames i d.0 (omega arith) in
      ap (λ a. a.number) (sym (get_or-map (λ (j : Arrival × Verdict). j.0) js i d d.0 lt)) ∙ ap (λ l. (get_or l i d.0).number) order ∙ place ∙ omega arith

  pub verdicts_front : (packets more : List Arrival) → IsPrefix (verdicts_under app commands vs packets) (verdicts_under app commands vs (packets ++ more))
  verdicts_front packets more =
      let endings = over_under app commands in
      let judge = judge_by app (in_force app commands) in (
        judged_from endings judge (records_under endings vs packets) (named_from endings vs (records_under endings vs packets) more),
        ap (λ js. js ++ judged_from endings judge (records_under endings vs packets) (named_from endings vs (records_under endings vs packets) more)) (verdicts_named app commands packets vs)
            ∙ judged_more endings judge [] (named endings vs packets) (named_from endings vs (records_under endings vs packets) more)
            ∙ ap (judged endings judge) (named_more endings vs [] packets more)
            ∙ sym (verdicts_named app commands (packets ++ more) vs),
      )

-- ---- weights

module _ (last : LastPacketIsAdded) (never : WeightNeverFalls) (app : Meaning) (control_at : ℕ → ControlState) where
  more_weigh : (ps more : List VersionedPacket) → weight (records app control_at ps) ≤ weight (records app control_at (ps ++ more))
  more_weigh ps [] = let e = ap (λ qs. weight (records app control_at qs)) (append-nil ps) in omega arith
  more_weigh ps (p ∷ more) =
      let one = ap weight (last app control_at ps p) in
      let grows = never.packet app control_at p (records app control_at ps) in
      let rest = more_weigh (ps ++ p ∷ []) more in
      let same = ap (λ qs. weight (records app control_at qs)) (append_assoc ps (p ∷ []) more) in omega arith

some_weigh : (q : RecordSoFar → Bool) (r : RecordSoFar) (rs : List RecordSoFar) (b : Bool) → weight (filter q rs) ≤ weight rs → weight (cond b (r ∷ filter q rs) (filter q rs)) ≤ weight (r ∷ rs)
unfolding total
some_weigh q r rs true le = omega arith
some_weigh q r rs false le = omega arith

part_weighs : (q : RecordSoFar → Bool) (rs : List RecordSoFar) → weight (filter q rs) ≤ weight rs
part_weighs q [] = omega arith
part_weighs q (r ∷ rs) = some_weigh q r rs (q r) (part_weighs q rs)

nothing_behind : (xs ys : List Arrival) → xs ++ ys ≡ xs → ys ≡ []
nothing_behind [] ys e = e
nothing_behind (x ∷ xs) ys e = nothing_behind xs ys (cc)

-- ---- lanes of which each has run its share, or a front of it

module _ (later : LaterCommandsChangeNone) (one : OneEventMore) (last : LastPacketIsAdded) (app : Meaning) (commands : List Command) (lane : EndpointPair → ℕ) (packets : List Arrival)
    (lanes : List (List LaneEvent))
    (front : (l : ℕ) → IsPrefix (commands_of (events_at lanes l)) commands) where
  abbrev records_at : List VersionedPacket → List RecordSoFar
  records_at ps = records app (in_force app commands) ps

  abbrev ended : List RecordSoFar → List RecordSoFar
  ended rs = map (ended_at app (in_force app commands) (greatest packets)) rs

  judged_events : (l : ℕ) → verdicts_in app (events_at lanes l) ≡ judged (over_under app commands) (judge_by app (in_force app commands)) (packets_at lanes l)
  judged_events l = verdicts_of_events later app commands one last (events_at lanes l) (front l) ∙ same_judged app (in_force app commands) [] (packets_at lanes l)

  -- a lane's part of the run is what its packets come to at the end
  its_part : (parts : ℕ → List VersionedPacket) (vs : List ℕ) → AreRuns (over_under app commands) lane packets parts vs
      → (l : ℕ) → ended (records_at (parts l)) ≡ filter (λ r. lane_of lane r.first.sight == l) (run_under app commands vs packets)
  its_part parts vs runs l =
      ended_records app (in_force app commands) (greatest packets) (parts l)
      ∙ ap (map (at_end app commands packets vs)) (sym (runs.parts_are l)) ∙ sym (part_is app commands packets vs lane l)

  whole_is : (vs : List ℕ) → AreRuns (over_under app commands) lane packets (packets_at lanes) vs → AreOneRun app commands lane packets lanes vs
  whole_is vs runs = record {
    records = λ l. end_of_events later app commands (events_at lanes l) (greatest packets) (front l) ∙ its_part (packets_at lanes) vs runs l;
    verdicts = λ l.
        judged_events l ∙ sym (runs.verdicts_are (judge_by app (in_force app commands)) l) ∙ ap (judged_part lane l) (sym (verdicts_named app commands packets vs));
  }

  module _ (never : WeightNeverFalls) (more : ℕ → List VersionedPacket) (vs : List ℕ) (runs : AreRuns (over_under app commands) lane packets (λ l. packets_at lanes l ++ more l) vs) where
    part_at_most : (l : ℕ) → weight (ended (records_at (packets_at lanes l ++ more l))) ≤ weight (run_under app commands vs packets)
    part_at_most l =
        let part = ap weight (its_part (λ k. packets_at lanes k ++ more k) vs runs l) in
        let all = part_weighs (λ r. lane_of lane r.first.sight == l) (run_under app commands vs packets) in omega arith

    weights_are : (l : ℕ) → weight (lane_run app (events_at lanes l)) ≤ weight (run_under app commands vs packets)
    weights_are l =
        let own = ap weight (run_of_events later app commands (events_at lanes l) (front l)) in
        let grows = more_weigh last never app (in_force app commands) (packets_at lanes l) (more l) in
        let ends = never.at_end app (in_force app commands) (greatest packets) (records_at (packets_at lanes l ++ more l)) in
        let most = part_at_most l in omega arith

    ends_are : (l : ℕ) → more l ≡ [] → weight (ended_run app (events_at lanes l) (greatest packets)) ≤ weight (run_under app commands vs packets)
    ends_are l none =
        let own = ap weight (end_of_events later app commands (events_at lanes l) (greatest packets) (front l)) in
        let same = ap (λ ps. weight (ended (records_at ps))) (ap (λ ps. packets_at lanes l ++ ps) none ∙ append-nil (packets_at lanes l)) in
        let most = part_at_most l in omega arith

    fronts_are : ((l : ℕ) → arrivals_of (packets_at lanes l) ≡ share lane l packets → more l ≡ []) → AreFrontsOfRun app commands lane packets lanes vs
    fronts_are none = record {
      weights = weights_are;
      weights_at_end = λ l whole. ends_are l (none l whole);
      verdicts = λ l.
          subst (λ js. IsPrefix js (judged_part lane l (verdicts_under app commands vs packets))) (sym (judged_events l))
          (subst (λ js. IsPrefix (judged (over_under app commands) (judge_by app (in_force app commands)) (packets_at lanes l)) (judged_part lane l js)) (sym (verdicts_named app commands packets vs))
          (front_verdicts (over_under app commands) lane packets (packets_at lanes) more vs runs (judge_by app (in_force app commands)) l));
    }

module _ (later : LaterCommandsChangeNone) (one : OneEventMore) (last : LastPacketIsAdded) (app : Meaning) (commands : List Command) (least most : ℕ → ℕ) (lane : EndpointPair → ℕ)
    (packets : List Arrival) (lanes : List (List LaneEvent)) (have : HaveRun least most commands lane packets lanes) where
  pub one_run : HaveRunAll lane packets lanes → (vs : List ℕ) × IsAllowedRun app commands least most lane packets vs × AreOneRun app commands lane packets lanes vs
  one_run whole =
      let made = one_allowed least most (over_under app commands) lane packets (packets_at lanes) (packets_whole least most commands lane packets lanes have whole)
      (stamped_at least most commands lane packets lanes have) in
      (made.0, run_allowed app commands made.0 packets least most lane made.1, whole_is later one last app commands lane packets lanes (commands_front least most commands lane packets lanes have) made.0 made.2)

  pub fronts_run : WeightNeverFalls → ((n : ℕ) → least n ≤ most n) → ((n m : ℕ) → n ≤ m → most n ≤ most m) → Rises (map (λ a. a.number) packets)
      → (vs : List ℕ) × IsAllowedRun app commands least most lane packets vs × AreFrontsOfRun app commands lane packets lanes vs
  fronts_run never between rises numbered =
      let rest = packets_front least most commands lane packets lanes have in
      let made = continued least most between rises (over_under app commands) lane packets numbered (packets_at lanes) (λ l. (rest l).0) (λ l. (rest l).1)
      (stamped_at least most commands lane packets lanes have) in (
        made.0,
        run_allowed app commands made.0 packets least most lane made.1,
        fronts_are later one last app commands lane packets lanes (commands_front least most commands lane packets lanes have) never (λ l. versioned most ((rest l).0)) made.0 made.2
            (λ l whole. ap (versioned most) (nothing_behind (arrivals_of (packets_at lanes l)) (rest l).0 ((rest l).1 ∙ sym whole))),
      )

-- ---- the ceilings

pub allowed_ceilings : (app : Meaning) (commands : List Command) (least most : ℕ → ℕ) (lane : EndpointPair → ℕ) (packets : List Arrival) → ((n : ℕ) → least n ≤ most n)
    → ((n m : ℕ) → n ≤ m → most n ≤ most m) → Rises (map (λ a. a.number) packets)
    → IsAllowedRun app commands least most lane packets (versions_in (records app (in_force app commands) (versioned most packets)))
allowed_ceilings app commands least most lane packets between rises numbered =
    let over = over_under app commands in
    let same : versions_in (records app (in_force app commands) (versioned most packets)) ≡ versions_of (members_of over (versioned most packets)) =
    ap versions_in (same_records app (in_force app commands) [] (versioned most packets)) ∙ same_versions app (in_force app commands) (members_of over (versioned most packets)) in
    subst (IsAllowedRun app commands least most lane packets) (sym same)
    (run_allowed app commands (versions_of (members_of over (versioned most packets))) packets least most lane
    (ceilings_allowed least most between rises over lane packets numbered))
