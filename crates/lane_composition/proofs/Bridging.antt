-- A run under a list of versions, by the packets of its records.
use Rattle.std.proofs.Common.{◌≡◌, ◌≤◌, ℕ, List, [], ◌∷◌, length, get_or, refl, sym, ap, subst, ◌∙◌, map, arith}
use Rattle.std.specs.Prelude.{◌==◌, filter}
use Rattle.std.specs.List.{All}
use Rattle.std.proofs.lemmas.List.{length-map}
use Rattle.std.proofs.lemmas.List.Elements.{All-nil, All-cons, All-head, All-tail}
use Rattle.flow_table.specs.Key.{EndpointPair}
use Rattle.app_api.specs.App.{Meaning}
use Rattle.forest_versions.specs.declared.command.Command.{Command}
use Rattle.forest_versions.specs.State.{ControlState}
use Rattle.lane_core.specs.Sight.{Arrival}
use Rattle.lane_core.specs.Records.{RecordSoFar, added as lane_added, records}
use Rattle.lane_core.specs.Versions.{listed, listed_from, versions_in}
use Rattle.lane_composition.specs.Members.{Members, name_of, added}
use Rattle.lane_composition.specs.Lanes.{part}
use Rattle.run_outcome.specs.Lanes.{lane_of}
use Rattle.lane_composition.specs.Named.{named_by, named_from, named, records_under}
use Rattle.run_outcome.specs.Rising.{NeverFalls}
use Rattle.lane_composition.specs.Allowed.{IsAllowed, IsWithin, versions_of}
use Rattle.lane_composition.specs.Histories.{over_by, over_under}
use Rattle.run_outcome.specs.Whole.{in_force, packets_under, run_so_far, IsAllowedRun}
use Rattle.lane_composition.proofs.Histories.{shown, shown_first, shown_version, same_added, same_records, same_part}

module _ (app : Meaning) (control_at : ℕ → ControlState) where
  same_listed : (vs : List ℕ) (ms : List Members) (packets : List Arrival)
      → listed_from app control_at vs (map (shown app control_at) ms) packets ≡ named_from (over_by app control_at) vs ms packets
  unfolding listed_from named_from
  same_listed vs ms [] = refl
  same_listed vs ms (a ∷ rest) =
      let next : listed vs (map (shown app control_at) ms) a ≡ named_by vs ms a =
      ap (λ n. record { version = get_or vs n 0; arrival = a }) (length-map ms (shown app control_at)) in
      ap (λ p. p ∷ listed_from app control_at vs (lane_added app control_at p (map (shown app control_at) ms)) rest) next
      ∙ ap (λ rs. named_by vs ms a ∷ listed_from app control_at vs rs rest) (same_added app control_at (named_by vs ms a) ms)
      ∙ ap (λ l. named_by vs ms a ∷ l) (same_listed vs (added (over_by app control_at) (named_by vs ms a) ms) rest)

  pub same_versions : (ms : List Members) → versions_in (map (shown app control_at) ms) ≡ versions_of ms
  same_versions [] = refl
  same_versions (m ∷ ms) =
      ap (λ v. v ∷ versions_in (map (shown app control_at) ms)) (shown_version app control_at m) ∙ ap (λ l. m.version ∷ l) (same_versions ms)

  all_shown : (P : RecordSoFar → Type 0) (Q : Members → Type 0) → ((m : Members) → Q m → P (shown app control_at m)) → (ms : List Members) → All Q ms → All P (map (shown app control_at) ms)
  all_shown P Q gives [] all = All-nil P
  all_shown P Q gives (m ∷ ms) all =
      All-cons P (shown app control_at m) (map (shown app control_at) ms) (gives m (All-head Q m ms all)) (all_shown P Q gives ms (All-tail Q m ms all))

  all_members : (P : RecordSoFar → Type 0) (Q : Members → Type 0) → ((m : Members) → P (shown app control_at m) → Q m) → (ms : List Members) → All P (map (shown app control_at) ms) → All Q ms
  all_members P Q gives [] all = All-nil Q
  all_members P Q gives (m ∷ ms) all =
      All-cons Q m ms (gives m (All-head P (shown app control_at m) (map (shown app control_at) ms) all)) (all_members P Q gives ms (All-tail P (shown app control_at m) (map (shown app control_at) ms) all))

module _ (app : Meaning) (commands : List Command) (vs : List ℕ) (packets : List Arrival) where
  pub packets_are : packets_under app commands vs packets ≡ named (over_under app commands) vs packets
  packets_are = same_listed app (in_force app commands) vs [] packets

  abbrev of_members : List RecordSoFar
  of_members = map (shown app (in_force app commands)) (records_under (over_under app commands) vs packets)

  records_are : run_so_far app commands vs packets ≡ of_members
  records_are = ap (records app (in_force app commands)) packets_are ∙ same_records app (in_force app commands) [] (named (over_under app commands) vs packets)

  module _ (floor ceil : ℕ → ℕ) (lane : EndpointPair → ℕ) where
    abbrev IsBetween : RecordSoFar → Type 0
    IsBetween r = (floor r.first.number ≤ r.version) × (r.version ≤ ceil r.first.number)

    abbrev MayLive : Members → Type 0
    MayLive m = IsWithin floor ceil m.version (name_of m)

    between : (m : Members) → MayLive m → IsBetween (shown app (in_force app commands) m)
    between m may =
        let first = shown_first app (in_force app commands) m in
        let version = shown_version app (in_force app commands) m in
        (omega (arith, may.0, ap (λ a. floor a.number) first, version), omega (arith, may.1, ap (λ a. ceil a.number) first, version))

    may_live : (m : Members) → IsBetween (shown app (in_force app commands) m) → MayLive m
    may_live m is =
        let first = shown_first app (in_force app commands) m in
        let version = shown_version app (in_force app commands) m in
        (omega (arith, is.0, ap (λ a. floor a.number) first, version), omega (arith, is.1, ap (λ a. ceil a.number) first, version))

    versions_part : (l : ℕ) → versions_in (filter (λ r. lane_of lane r.first.sight == l) (run_so_far app commands vs packets))
        ≡ versions_of (part lane l (records_under (over_under app commands) vs packets))
    versions_part l =
        ap (λ rs. versions_in (filter (λ r. lane_of lane r.first.sight == l) rs)) records_are
        ∙ ap versions_in (same_part (shown app (in_force app commands)) (shown_first app (in_force app commands)) (λ sight. lane_of lane sight == l) (records_under (over_under app commands) vs packets))
        ∙ same_versions app (in_force app commands) (part lane l (records_under (over_under app commands) vs packets))

    count_is : length (run_so_far app commands vs packets) ≡ length (records_under (over_under app commands) vs packets)
    count_is = ap length records_are ∙ length-map (records_under (over_under app commands) vs packets) (shown app (in_force app commands))

    pub run_allowed : IsAllowed floor ceil (over_under app commands) lane packets vs → IsAllowedRun app commands floor ceil lane packets vs
    run_allowed allowed = record {
      count = allowed.count ∙ sym count_is;
      within = subst (All IsBetween) (sym records_are) (all_shown app (in_force app commands) IsBetween MayLive between (records_under (over_under app commands) vs packets) allowed.within);
      along = λ l. subst NeverFalls (sym (versions_part l)) (allowed.along l);
    }

    pub members_allowed : IsAllowedRun app commands floor ceil lane packets vs → IsAllowed floor ceil (over_under app commands) lane packets vs
    members_allowed allowed = record {
      count = allowed.count ∙ count_is;
      within = all_members app (in_force app commands) IsBetween MayLive may_live (records_under (over_under app commands) vs packets) (subst (All IsBetween) records_are allowed.within);
      along = λ l. subst NeverFalls (versions_part l) (allowed.along l);
    }
