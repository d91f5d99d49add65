-- What becomes of a packet, by the record that it belongs to.
use Rattle.std.proofs.Common.{◌≡◌, ℕ, zero, suc, Bool, true, false, Option, Some, None, List, [], ◌∷◌, get_or, refl, ap, ◌∙◌}
use Rattle.std.specs.Prelude.{if◌then◌else◌}
use Rattle.app_api.specs.declared.reaction.Verdict.{Verdict}
use Rattle.app_api.specs.App.{Meaning}
use Rattle.forest_versions.specs.State.{ControlState}
use Rattle.lane_core.specs.Records.{VersionedPacket, RecordSoFar, belongs_to, first_verdict, verdict_after, verdict_among}
use Rattle.lane_core.specs.Places.{further, place_by}
use Rattle.lane_core.proofs.Places.{none_here}

module _ (app : Meaning) (control_at : ℕ → ControlState) where
  pub verdict_among-none : (s : VersionedPacket) (pasts : List RecordSoFar) → place_by (belongs_to s.arrival.sight) pasts ≡ None
      → verdict_among app control_at s pasts ≡ first_verdict app (control_at s.version) s.arrival
  unfolding verdict_among place_by
  verdict_among-none s [] none = refl
  verdict_among-none s (past ∷ pasts) none =
      let here = none_here (belongs_to s.arrival.sight past) (place_by (belongs_to s.arrival.sight) pasts) none in
      rw here.0 (verdict_among-none s pasts here.1)

  abbrev verdict_in : VersionedPacket → RecordSoFar → Verdict
  verdict_in s past = verdict_after app (control_at past.version) past.first.sight s.arrival past.history

  some_here : (s : VersionedPacket) (past : RecordSoFar) (pasts : List RecordSoFar) (d : RecordSoFar) (b : Bool) (o : Option ℕ) (i : ℕ) → (if b then Some 0 else further o) ≡ Some i
      → ((k : ℕ) → o ≡ Some k → verdict_among app control_at s pasts ≡ verdict_in s (get_or pasts k d))
      → (if b then verdict_in s past else verdict_among app control_at s pasts) ≡ verdict_in s (get_or (past ∷ pasts) i d)
  some_here s past pasts d true o zero e later = refl
  some_here s past pasts d true o (suc i) e later = absurd (cc)
  some_here s past pasts d false None i e later = absurd (cc)
  some_here s past pasts d false (Some k) zero e later = absurd (cc)
  some_here s past pasts d false (Some k) (suc i) e later =
      let same : k ≡ i = cc in later k refl ∙ ap (λ j. verdict_in s (get_or pasts j d)) same

  pub verdict_among-some : (s : VersionedPacket) (pasts : List RecordSoFar) (i : ℕ) (d : RecordSoFar) → place_by (belongs_to s.arrival.sight) pasts ≡ Some i
      → verdict_among app control_at s pasts ≡ verdict_after app (control_at (get_or pasts i d).version) (get_or pasts i d).first.sight s.arrival (get_or pasts i d).history
  unfolding verdict_among place_by
  verdict_among-some s [] i d there = absurd (cc)
  verdict_among-some s (past ∷ pasts) i d there =
      some_here s past pasts d (belongs_to s.arrival.sight past) (place_by (belongs_to s.arrival.sight) pasts) i there (λ k e. verdict_among-some s pasts k d e)
