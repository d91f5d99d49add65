-- Each packet stands in one record.
use Rattle.std.proofs.Common.{◌≡◌, ℕ, Bool, true, false, Option, Some, None, List, [], ◌∷◌, ◌++◌, refl, sym, ap, subst, ◌∙◌, append_assoc, append-nil, map}
use Rattle.std.proofs.lemmas.List.Sorted.{IsPermutation-refl, IsPermutation-sym, IsPermutation-trans, IsPermutation-cons, IsPermutation-middle, IsPermutation-append_left, IsPermutation-append_right}
use Rattle.std.specs.Prelude.{if◌then◌else◌, MatchBool}
use Rattle.std.specs.List.Sorted.{IsPermutation}
use Rattle.app_api.specs.App.{Meaning}
use Rattle.forest_versions.specs.State.{ControlState}
use Rattle.lane_core.specs.Sight.{Arrival}
use Rattle.lane_core.specs.Records.{VersionedPacket, RecordSoFar, is_open_at, belongs_to, started_by, added}
use Rattle.lane_core.specs.Laws.{takes}
use Rattle.lane_core.specs.Once.{taken_through, packets_after, joined}
use Rattle.lane_core.specs.Places.{further, place_by, IsSingle}
use Rattle.lane_core.proofs.Places.{none_here, placed-new, joins, IsSingle-append}
use Rattle.lane_core.proofs.Growing.{Alone, stepped, before, unstepped, placed_stepped, any_none, any_some, any_before, begun_alone, joined_alone, single_takes, before_alone}

module _ (app : Meaning) (control_at : ℕ → ControlState) where
  -- what records take of later packets
  abbrev all_taken : List VersionedPacket → List RecordSoFar → List Arrival
  all_taken ps pasts = joined (map (λ r. taken_through app control_at r ps) pasts)

  taken_here : (p : VersionedPacket) (ps : List VersionedPacket) (past : RecordSoFar) (b : Bool) → takes app control_at p past ≡ b
      → taken_through app control_at past (p ∷ ps)
      ≡ (if b then p.arrival ∷ taken_through app control_at (stepped app control_at p (before app control_at p past)) ps else taken_through app control_at (stepped app control_at p (before app control_at p past)) ps)
  unfolding taken_through
  taken_here p ps past true is = rw is refl
  taken_here p ps past false is = rw is refl

  -- a packet that none takes
  untaken : (p : VersionedPacket) (ps : List VersionedPacket) (pasts : List RecordSoFar) → place_by (belongs_to p.arrival.sight) (map (before app control_at p) pasts) ≡ None
      → all_taken (p ∷ ps) pasts ≡ all_taken ps (map (stepped app control_at p) (map (before app control_at p) pasts))
  unfolding place_by joined
  untaken p ps [] none = refl
  untaken p ps (past ∷ pasts) none =
      let here = none_here (belongs_to p.arrival.sight (before app control_at p past)) (place_by (belongs_to p.arrival.sight) (map (before app control_at p) pasts)) none in
      ap (λ l. l ++ all_taken (p ∷ ps) pasts) (taken_here p ps past false here.0)
      ∙ ap (λ l. taken_through app control_at (stepped app control_at p (before app control_at p past)) ps ++ l) (untaken p ps pasts here.1)

  one_here : (p : VersionedPacket) (ps : List VersionedPacket) (past : RecordSoFar) (pasts : List RecordSoFar) (b : Bool) (o : Option ℕ) (i : ℕ)
      → takes app control_at p past ≡ b → place_by (belongs_to p.arrival.sight) (map (before app control_at p) pasts) ≡ o
      → MatchBool b (o ≡ None) (IsSingle (belongs_to p.arrival.sight) (map (before app control_at p) pasts)) → (if b then Some 0 else further o) ≡ Some i
      → ((k : ℕ) → IsSingle (belongs_to p.arrival.sight) (map (before app control_at p) pasts) → o ≡ Some k
      → IsPermutation (p.arrival ∷ all_taken ps (map (stepped app control_at p) (map (before app control_at p) pasts))) (all_taken (p ∷ ps) pasts))
      → IsPermutation (p.arrival ∷ all_taken ps (map (stepped app control_at p) (map (before app control_at p) (past ∷ pasts)))) (all_taken (p ∷ ps) (past ∷ pasts))
  unfolding joined
  one_here p ps past pasts true o i is there single e later =
      let now = taken_through app control_at (stepped app control_at p (before app control_at p past)) ps in
      let rest = all_taken ps (map (stepped app control_at p) (map (before app control_at p) pasts)) in
      subst (IsPermutation (p.arrival ∷ (now ++ rest)))
      (ap (λ l. (p.arrival ∷ now) ++ l) (sym (untaken p ps pasts (there ∙ single))) ∙ ap (λ l. l ++ all_taken (p ∷ ps) pasts) (sym (taken_here p ps past true is)))
      (IsPermutation-refl (p.arrival ∷ (now ++ rest)))
  one_here p ps past pasts false None i is there single e later = absurd (cc)
  one_here p ps past pasts false (Some k) i is there single e later =
      let now = taken_through app control_at (stepped app control_at p (before app control_at p past)) ps in
      let rest = all_taken ps (map (stepped app control_at p) (map (before app control_at p) pasts)) in
      subst (IsPermutation (p.arrival ∷ (now ++ rest))) (ap (λ l. l ++ all_taken (p ∷ ps) pasts) (sym (taken_here p ps past false is)))
      (IsPermutation-trans (p.arrival ∷ (now ++ rest)) (now ++ p.arrival ∷ rest) (now ++ all_taken (p ∷ ps) pasts)
      (IsPermutation-sym (now ++ p.arrival ∷ rest) (p.arrival ∷ (now ++ rest)) (IsPermutation-middle now p.arrival rest))
      (IsPermutation-append_right now (p.arrival ∷ rest) (all_taken (p ∷ ps) pasts) (later k single refl)))

  -- a packet that one takes
  one_takes : (p : VersionedPacket) (ps : List VersionedPacket) (pasts : List RecordSoFar) (i : ℕ) → IsSingle (belongs_to p.arrival.sight) (map (before app control_at p) pasts)
      → place_by (belongs_to p.arrival.sight) (map (before app control_at p) pasts) ≡ Some i
      → IsPermutation (p.arrival ∷ all_taken ps (map (stepped app control_at p) (map (before app control_at p) pasts))) (all_taken (p ∷ ps) pasts)
  unfolding place_by IsSingle
  one_takes p ps [] i single there = absurd (cc)
  one_takes p ps (past ∷ pasts) i single there =
      one_here p ps past pasts (takes app control_at p past) (place_by (belongs_to p.arrival.sight) (map (before app control_at p) pasts)) i refl refl single there
      (λ k rest e. one_takes p ps pasts k rest e)

  taken_last : (ps : List VersionedPacket) (pasts : List RecordSoFar) (last : RecordSoFar)
      → all_taken ps (pasts ++ last ∷ []) ≡ all_taken ps pasts ++ taken_through app control_at last ps
  unfolding joined
  taken_last ps [] last = append-nil (taken_through app control_at last ps)
  taken_last ps (past ∷ pasts) last =
      ap (λ l. taken_through app control_at past ps ++ l) (taken_last ps pasts last)
      ∙ sym (append_assoc (taken_through app control_at past ps) (all_taken ps pasts) (taken_through app control_at last ps))

  once_here : (p : VersionedPacket) (ps : List VersionedPacket) (pasts : List RecordSoFar) (o : Option ℕ)
      → place_by (belongs_to p.arrival.sight) (map (before app control_at p) pasts) ≡ o → Alone app control_at (map (before app control_at p) pasts)
      → (Alone app control_at (added app control_at p pasts)
      → IsPermutation (map (λ q. q.arrival) ps) (all_taken ps (added app control_at p pasts) ++ joined (packets_after app control_at (added app control_at p pasts) ps)))
      → IsPermutation (p.arrival ∷ map (λ q. q.arrival) ps) (all_taken (p ∷ ps) pasts ++ joined (packets_after app control_at pasts (p ∷ ps)))
  unfolding packets_after joined
  once_here p ps pasts None there alone rest =
      let now = map (before app control_at p) pasts in
      let new = placed-new app control_at p now there in
      let none = any_before app control_at p pasts ∙ any_none app control_at (belongs_to p.arrival.sight) now there in
      let still : Alone app control_at (added app control_at p pasts) = λ key. subst (IsSingle (is_open_at key)) (sym new)
      (IsSingle-append (is_open_at key) now (started_by app control_at p) (alone key) (λ passes. begun_alone app control_at p p.arrival.sight now key refl there passes)) in
      let arrivals = map (λ q. q.arrival) ps in
      let first = taken_through app control_at (started_by app control_at p) ps in
      let after = packets_after app control_at (added app control_at p pasts) ps in
      let before_it = all_taken (p ∷ ps) pasts in
      let taken : all_taken ps (added app control_at p pasts) ≡ before_it ++ first =
      ap (all_taken ps) new ∙ taken_last ps now (started_by app control_at p)
      ∙ ap (λ l. all_taken ps l ++ first) (sym (unstepped app control_at p now there)) ∙ ap (λ l. l ++ first) (sym (untaken p ps pasts there)) in
      let whole : IsPermutation arrivals (before_it ++ (first ++ joined after)) =
      subst (IsPermutation arrivals) (ap (λ l. l ++ joined after) taken ∙ append_assoc before_it first (joined after)) (rest still) in
      subst (λ b. IsPermutation (p.arrival ∷ arrivals) (before_it ++ joined (if b then after else (p.arrival ∷ first) ∷ after))) (sym none)
      (IsPermutation-trans (p.arrival ∷ arrivals) (p.arrival ∷ (before_it ++ (first ++ joined after))) (before_it ++ p.arrival ∷ (first ++ joined after))
      (IsPermutation-cons p.arrival arrivals (before_it ++ (first ++ joined after)) whole)
      (IsPermutation-sym (before_it ++ p.arrival ∷ (first ++ joined after)) (p.arrival ∷ (before_it ++ (first ++ joined after))) (IsPermutation-middle before_it p.arrival (first ++ joined after))))
  once_here p ps pasts (Some i) there alone rest =
      let now = map (before app control_at p) pasts in
      let one = placed_stepped app control_at p now i (single_takes app control_at p.arrival.sight now alone) there in
      let some = any_before app control_at p pasts ∙ any_some app control_at (belongs_to p.arrival.sight) now i there in
      let new = (joins app control_at p now i there).changed (started_by app control_at p) in
      let still : Alone app control_at (added app control_at p pasts) = λ key. subst (IsSingle (is_open_at key)) (sym new)
      (joined_alone app control_at p p.arrival.sight now i key refl alone there) in
      let arrivals = map (λ q. q.arrival) ps in
      let first = taken_through app control_at (started_by app control_at p) ps in
      let after = packets_after app control_at (added app control_at p pasts) ps in
      let before_it = all_taken (p ∷ ps) pasts in
      let now_taken = all_taken ps (map (stepped app control_at p) now) in
      let whole : IsPermutation arrivals (now_taken ++ joined after) = subst (λ l. IsPermutation arrivals (all_taken ps l ++ joined after)) one (rest still) in
      subst (λ b. IsPermutation (p.arrival ∷ arrivals) (before_it ++ joined (if b then after else (p.arrival ∷ first) ∷ after))) (sym some)
      (IsPermutation-trans (p.arrival ∷ arrivals) (p.arrival ∷ (now_taken ++ joined after)) (before_it ++ joined after)
      (IsPermutation-cons p.arrival arrivals (now_taken ++ joined after) whole)
      (IsPermutation-append_left (joined after) (p.arrival ∷ now_taken) before_it
      (one_takes p ps pasts i (single_takes app control_at p.arrival.sight now alone) there)))

  nothing_taken : (pasts : List RecordSoFar) → all_taken [] pasts ≡ []
  unfolding taken_through joined
  nothing_taken [] = refl
  nothing_taken (past ∷ pasts) = nothing_taken pasts

  none_left : (pasts : List RecordSoFar) → IsPermutation [] (all_taken [] pasts ++ joined (packets_after app control_at pasts []))
  unfolding packets_after joined
  none_left pasts = subst (IsPermutation []) (sym (append-nil (all_taken [] pasts) ∙ nothing_taken pasts)) (IsPermutation-refl [])

  pub stand_once : (ps : List VersionedPacket) (pasts : List RecordSoFar) → Alone app control_at pasts
      → IsPermutation (map (λ q. q.arrival) ps) (all_taken ps pasts ++ joined (packets_after app control_at pasts ps))
  stand_once [] pasts alone = none_left pasts
  stand_once (p ∷ ps) pasts alone =
      once_here p ps pasts (place_by (belongs_to p.arrival.sight) (map (before app control_at p) pasts)) refl (before_alone app control_at p pasts alone)
      (λ still. stand_once ps (added app control_at p pasts) still)

  pub packets_once : (ps : List VersionedPacket) → IsPermutation (map (λ q. q.arrival) ps) (joined (packets_after app control_at [] ps))
  unfolding joined IsSingle
  packets_once ps = stand_once ps [] (λ key. tt)
