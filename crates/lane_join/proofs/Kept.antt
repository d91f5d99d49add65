-- Lists of lanes as the report shows them: names stay.
use Rattle.std.proofs.Common.{◌≡◌, ℕ, zero, suc, Bool, true, false, List, [], ◌∷◌, map, refl, sym, ap, subst, ◌∙◌}
use Rattle.std.specs.Prelude.{if◌then◌else◌, ◌==◌, filter}
use Rattle.std.specs.List.{All}
use Rattle.std.proofs.lemmas.List.Elements.{All-nil, All-cons, All-head, All-tail}
use Rattle.app_api.specs.App.{Meaning}
use Rattle.report_text.specs.declared.record.Record.{Record}
use Rattle.lane_core.specs.declared.end.KeptEnd.{KeptEnd}
use Rattle.lane_core.specs.declared.under_way.RecordUnderWay.{RecordUnderWay}
use Rattle.lane_core.specs.End.{ended}
use Rattle.lane_core.specs.KeptEnd.{shown_as}
use Rattle.run_outcome.specs.Rising.{Rises}
use Rattle.lane_composition.specs.Merge.{list_at, names_in, shown_name, AreOfLanes, IsMerge}
use Rattle.lane_join.specs.Queues.{kept_name, lists_in}

module _ (app : Meaning) where
  -- the lists of lanes, as they are shown
  abbrev pub shown_lists : List KeptEnd → List (List Record)
  shown_lists ends = map (λ end. shown_as app end.records) ends

  list_shown : (ends : List KeptEnd) (l : ℕ) → list_at (shown_lists ends) l ≡ shown_as app (list_at (lists_in ends) l)
  list_shown [] l = refl
  list_shown (end ∷ ends) zero = refl
  list_shown (end ∷ ends) (suc l) = list_shown ends l

  names_stay : (rs : List RecordUnderWay) → names_in shown_name (shown_as app rs) ≡ names_in kept_name rs
  names_stay [] = refl
  names_stay (r ∷ rs) = ap (λ ns. r.name ∷ ns) (names_stay rs)

  module _ (of : ℕ → ℕ) (l : ℕ) where
    own_kept : (rs : List RecordUnderWay) → All (λ r. of (shown_name r) ≡ l) (shown_as app rs) → All (λ r. of (kept_name r) ≡ l) rs
    own_kept [] all = All-nil (λ r. of (kept_name r) ≡ l)
    own_kept (r ∷ rs) all =
        All-cons (λ x. of (kept_name x) ≡ l) r rs (All-head (λ x. of (shown_name x) ≡ l) (ended app r) (shown_as app rs) all)
        (own_kept rs (All-tail (λ x. of (shown_name x) ≡ l) (ended app r) (shown_as app rs) all))

    part_here : (r : RecordUnderWay) (b : Bool) (shown : List Record) (rs : List RecordUnderWay) → shown ≡ shown_as app rs
        → (if b then ended app r ∷ shown else shown) ≡ shown_as app (if b then r ∷ rs else rs)
    part_here r true shown rs is = ap (λ x. ended app r ∷ x) is
    part_here r false shown rs is = is

    part_shown : (rs : List RecordUnderWay) → filter (λ r. of (shown_name r) == l) (shown_as app rs) ≡ shown_as app (filter (λ r. of (kept_name r) == l) rs)
    part_shown [] = refl
    part_shown (r ∷ rs) =
        part_here r (of r.name == l) (filter (λ x. of (shown_name x) == l) (shown_as app rs)) (filter (λ x. of (kept_name x) == l) rs) (part_shown rs)

  -- what is shown of lanes is of lanes, and so are they
  pub of_lanes : (of : ℕ → ℕ) (ends : List KeptEnd) → AreOfLanes shown_name of (shown_lists ends) → AreOfLanes kept_name of (lists_in ends)
  of_lanes of ends are = record {
    own = λ l. own_kept of l (list_at (lists_in ends) l) (subst (All (λ r. of (shown_name r) ≡ l)) (list_shown ends l) (are.own l));
    rise = λ l. subst Rises (ap (names_in shown_name) (list_shown ends l) ∙ names_stay (list_at (lists_in ends) l)) (are.rise l);
  }

  -- the merged list is shown as the lists that are shown are merged
  pub merge_shown : (of : ℕ → ℕ) (ends : List KeptEnd) (merged : List RecordUnderWay) → IsMerge kept_name of (lists_in ends) merged
      → IsMerge shown_name of (shown_lists ends) (shown_as app merged)
  merge_shown of ends merged is = record {
    rises = subst Rises (sym (names_stay merged)) is.rises;
    parts = λ l. part_shown of l merged ∙ ap (shown_as app) (is.parts l) ∙ sym (list_shown ends l);
  }
