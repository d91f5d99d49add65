-- Verdicts depend on the packets before alone.
use Rattle.std.proofs.Common.{◌≡◌, ℕ, List, [], ◌∷◌, ◌++◌, refl, ap, ◌∙◌, append_assoc}
use mathlib.Core.List.{IsPrefix}
use Rattle.app_api.specs.declared.reaction.Verdict.{Verdict}
use Rattle.lane_core.specs.Sight.{Arrival}
use Rattle.lane_core.specs.Records.{VersionedPacket}
use Rattle.lane_composition.specs.Members.{Endings, Members, added, records_from}
use Rattle.lane_composition.specs.Named.{named_by, named_from}
use Rattle.lane_composition.specs.Judged.{verdict_of, judged_from, bytes_under, forwarded}

module _ (endings : Endings) where
  pub judged_more : (judge : ℕ → List Arrival → Arrival → Verdict) (ms : List Members) (ps more : List VersionedPacket)
      → judged_from endings judge ms ps ++ judged_from endings judge (records_from endings ms ps) more ≡ judged_from endings judge ms (ps ++ more)
  unfolding judged_from records_from
  judged_more judge ms [] more = refl
  judged_more judge ms (p ∷ ps) more = ap (λ l. (p.arrival, verdict_of endings judge p ms) ∷ l) (judged_more judge (added endings p ms) ps more)

  pub named_more : (vs : List ℕ) (ms : List Members) (ps more : List Arrival)
      → named_from endings vs ms ps ++ named_from endings vs (records_from endings ms (named_from endings vs ms ps)) more ≡ named_from endings vs ms (ps ++ more)
  unfolding named_from records_from
  named_more vs ms [] more = refl
  named_more vs ms (a ∷ ps) more = ap (λ l. named_by vs ms a ∷ l) (named_more vs (added endings (named_by vs ms a) ms) ps more)

pub forwarded_append : (bytes : Arrival → List ℕ) (js more : List (Arrival × Verdict)) → forwarded bytes js ++ forwarded bytes more ≡ forwarded bytes (js ++ more)
forwarded_append bytes [] more = refl
forwarded_append bytes (j ∷ js) more = append_assoc (bytes_under j.1 (bytes j.0)) (forwarded bytes js) (forwarded bytes more)
    ∙ ap (λ l. bytes_under j.1 (bytes j.0) ++ l) (forwarded_append bytes js more)

pub forwarded_front : (bytes : Arrival → List ℕ) (js ks : List (Arrival × Verdict)) → IsPrefix js ks → IsPrefix (forwarded bytes js) (forwarded bytes ks)
forwarded_front bytes js ks front = (forwarded bytes front.0, forwarded_append bytes js front.0 ∙ ap (forwarded bytes) front.1)
