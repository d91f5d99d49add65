-- The versions of records, listed, give the records again.
use Rattle.std.proofs.Common.{◌≡◌, ℕ, Bool, true, false, List, [], ◌∷◌, ◌++◌, length, get_or, refl, sym, ap, ◌∙◌, ⊎_elim, append_assoc, append-nil}
use Rattle.std.specs.Prelude.{if◌then◌else◌, ◌||◌}
use Rattle.std.specs.List.{list_any}
use Rattle.std.proofs.lemmas.List.{map-append, length-map, get_or_at}
use Rattle.std.proofs.lemmas.Bool.{cases_Bool, or_parts}
use Rattle.app_api.specs.declared.reaction.Verdict.{Verdict}
use Rattle.lane_core.specs.Sight.{Arrival}
use Rattle.lane_core.specs.Records.{VersionedPacket}
use Rattle.lane_composition.specs.Members.{Endings, Members, begun_by, joined_by, packets_of, takes, found, placed, added, records_from}
use Rattle.lane_composition.specs.Named.{named_from}
use Rattle.lane_composition.specs.Allowed.{versions_of, arrivals_of}
use Rattle.lane_composition.specs.Judged.{verdict_among, verdict_of, judged_from}
use Rattle.lane_composition.proofs.Silence.{of_found}

module _ (endings : Endings) where
  -- a packet that none takes begins a record
  placed_new : (p : VersionedPacket) (ms : List Members) → list_any (takes endings p.arrival.sight) ms ≡ false → placed endings p ms ≡ ms ++ begun_by p ∷ []
  unfolding placed
  placed_new p [] none = refl
  placed_new p (m ∷ ms) none =
      let both = or_parts (takes endings p.arrival.sight m) (list_any (takes endings p.arrival.sight) ms) none in
      let here = both.0 in rw here (ap (λ l. m ∷ l) (placed_new p ms both.1))

  pub added_new : (p : VersionedPacket) (ms : List Members) → list_any (takes endings p.arrival.sight) (found endings p.arrival ms) ≡ false
      → added endings p ms ≡ found endings p.arrival ms ++ begun_by p ∷ []
  added_new p ms none = placed_new p (found endings p.arrival ms) none

  -- one that is taken: its own version doesn't count
  joined_here : (v : ℕ) (p : VersionedPacket) (m : Members) (ms : List Members) (b : Bool) → takes endings p.arrival.sight m ≡ b → (b || list_any (takes endings p.arrival.sight) ms) ≡ true
      → (list_any (takes endings p.arrival.sight) ms ≡ true → placed endings (record p { version = v }) ms ≡ placed endings p ms)
      → (if b then joined_by p.arrival m ∷ ms else m ∷ placed endings (record p { version = v }) ms) ≡ (if b then joined_by p.arrival m ∷ ms else m ∷ placed endings p ms)
  joined_here v p m ms true is some rest = refl
  joined_here v p m ms false is some rest = ap (λ l. m ∷ l) (rest some)

  placed_anyhow : (v : ℕ) (p : VersionedPacket) (ms : List Members) → list_any (takes endings p.arrival.sight) ms ≡ true → placed endings (record p { version = v }) ms ≡ placed endings p ms
  unfolding placed
  placed_anyhow v p [] some = absurd (cc)
  placed_anyhow v p (m ∷ ms) some = joined_here v p m ms (takes endings p.arrival.sight m) refl some (placed_anyhow v p ms)

  pub added_anyhow : (v : ℕ) (p : VersionedPacket) (ms : List Members) → list_any (takes endings p.arrival.sight) (found endings p.arrival ms) ≡ true
      → added endings (record p { version = v }) ms ≡ added endings p ms
  added_anyhow v p ms some = placed_anyhow v p (found endings p.arrival ms) some

  -- silence leaves the versions of all records, and so does a packet that is taken
  versions_found : (a : Arrival) (ms : List Members) → versions_of (found endings a ms) ≡ versions_of ms
  versions_found a ms = of_found endings (λ m. m.version) (λ m. refl) a ms

  versions_here : (p : VersionedPacket) (m : Members) (ms after : List Members) (b : Bool) → (b || list_any (takes endings p.arrival.sight) ms) ≡ true
      → (list_any (takes endings p.arrival.sight) ms ≡ true → versions_of after ≡ versions_of ms) → versions_of (if b then joined_by p.arrival m ∷ ms else m ∷ after) ≡ versions_of (m ∷ ms)
  versions_here p m ms after true some rest = refl
  versions_here p m ms after false some rest = ap (λ l. m.version ∷ l) (rest some)

  versions_placed : (p : VersionedPacket) (ms : List Members) → list_any (takes endings p.arrival.sight) ms ≡ true → versions_of (placed endings p ms) ≡ versions_of ms
  unfolding placed
  versions_placed p [] some = absurd (cc)
  versions_placed p (m ∷ ms) some = versions_here p m ms (placed endings p ms) (takes endings p.arrival.sight m) some (versions_placed p ms)

  pub versions_stay : (p : VersionedPacket) (ms : List Members) → list_any (takes endings p.arrival.sight) (found endings p.arrival ms) ≡ true → versions_of (added endings p ms) ≡ versions_of ms
  versions_stay p ms some = versions_placed p (found endings p.arrival ms) some ∙ versions_found p.arrival ms

  versions_new : (p : VersionedPacket) (ms : List Members) → list_any (takes endings p.arrival.sight) (found endings p.arrival ms) ≡ false
      → versions_of (added endings p ms) ≡ versions_of ms ++ p.version ∷ []
  versions_new p ms none =
      ap versions_of (added_new p ms none) ∙ map-append (λ m. m.version) (found endings p.arrival ms) (begun_by p ∷ [])
      ∙ ap (λ l. l ++ p.version ∷ []) (versions_found p.arrival ms)

  -- later packets leave the versions of the records so far
  versions_step : (p : VersionedPacket) (ms : List Members) → (more : List ℕ) × (versions_of (added endings p ms) ≡ versions_of ms ++ more)
  versions_step p ms = ⊎_elim (λ some. ([], versions_stay p ms some ∙ sym (append-nil (versions_of ms)))) (λ none. (p.version ∷ [], versions_new p ms none))
      (cases_Bool (list_any (takes endings p.arrival.sight) (found endings p.arrival ms)))

  pub versions_front : (ms : List Members) (ps : List VersionedPacket) → (more : List ℕ) × (versions_of (records_from endings ms ps) ≡ versions_of ms ++ more)
  unfolding records_from
  versions_front ms [] = ([], sym (append-nil (versions_of ms)))
  versions_front ms (p ∷ ps) =
      let step = versions_step p ms in
      let rest = versions_front (added endings p ms) ps in
      (step.0 ++ rest.0, rest.1 ∙ ap (λ l. l ++ rest.0) step.1 ∙ append_assoc (versions_of ms) step.0 rest.0)

  -- the version that a list gives to the next packet makes the records that its own version makes
  module _ (vs : List ℕ) (p : VersionedPacket) (ps : List VersionedPacket) (ms : List Members) (lists : vs ≡ versions_of (records_from endings (added endings p ms) ps)) where
    given : list_any (takes endings p.arrival.sight) (found endings p.arrival ms) ≡ false → get_or vs (length ms) 0 ≡ p.version
    given none =
        let front = versions_front (added endings p ms) ps in
        let e : vs ≡ versions_of ms ++ p.version ∷ front.0 =
        lists ∙ front.1 ∙ ap (λ l. l ++ front.0) (versions_new p ms none) ∙ append_assoc (versions_of ms) (p.version ∷ []) front.0 in
        ap (λ l. get_or l (length ms) 0) e ∙ get_or_at (versions_of ms) p.version front.0 0 (length ms) (length-map ms (λ m. m.version))

    pub same_added : added endings (record { version = get_or vs (length ms) 0; arrival = p.arrival }) ms ≡ added endings p ms
    same_added = ⊎_elim (λ some. added_anyhow (get_or vs (length ms) 0) p ms some) (λ none. ap (λ v. added endings (record { version = v; arrival = p.arrival }) ms) (given none))
        (cases_Bool (list_any (takes endings p.arrival.sight) (found endings p.arrival ms)))

    module _ (judge : ℕ → List Arrival → Arrival → Verdict) where
      anyhow_here : (v : ℕ) (m : Members) (ns : List Members) (b : Bool) → (b || list_any (takes endings p.arrival.sight) ns) ≡ true
          → (list_any (takes endings p.arrival.sight) ns ≡ true → verdict_among endings judge (record p { version = v }) ns ≡ verdict_among endings judge p ns)
          → (if b then judge m.version (packets_of m) p.arrival else verdict_among endings judge (record p { version = v }) ns)
          ≡ (if b then judge m.version (packets_of m) p.arrival else verdict_among endings judge p ns)
      anyhow_here v m ns true some rest = refl
      anyhow_here v m ns false some rest = rest some

      verdict_anyhow : (v : ℕ) (ns : List Members) → list_any (takes endings p.arrival.sight) ns ≡ true → verdict_among endings judge (record p { version = v }) ns ≡ verdict_among endings judge p ns
      unfolding verdict_among
      verdict_anyhow v [] some = absurd (cc)
      verdict_anyhow v (m ∷ ns) some = anyhow_here v m ns (takes endings p.arrival.sight m) some (verdict_anyhow v ns)

      pub same_judged : verdict_of endings judge (record { version = get_or vs (length ms) 0; arrival = p.arrival }) ms ≡ verdict_of endings judge p ms
      same_judged = ⊎_elim (λ some. verdict_anyhow (get_or vs (length ms) 0) (found endings p.arrival ms) some)
          (λ none. ap (λ v. verdict_of endings judge (record { version = v; arrival = p.arrival }) ms) (given none))
          (cases_Bool (list_any (takes endings p.arrival.sight) (found endings p.arrival ms)))

  pub named_again : (vs : List ℕ) (ms : List Members) (ps : List VersionedPacket) → vs ≡ versions_of (records_from endings ms ps)
      → records_from endings ms (named_from endings vs ms (arrivals_of ps)) ≡ records_from endings ms ps
  unfolding records_from named_from
  named_again vs ms [] lists = refl
  named_again vs ms (p ∷ ps) lists =
      ap (λ l. records_from endings l (named_from endings vs l (arrivals_of ps))) (same_added vs p ps ms lists) ∙ named_again vs (added endings p ms) ps lists

  pub judged_again : (judge : ℕ → List Arrival → Arrival → Verdict) (vs : List ℕ) (ms : List Members) (ps : List VersionedPacket) → vs ≡ versions_of (records_from endings ms ps)
      → judged_from endings judge ms (named_from endings vs ms (arrivals_of ps)) ≡ judged_from endings judge ms ps
  unfolding records_from named_from judged_from
  judged_again judge vs ms [] lists = refl
  judged_again judge vs ms (p ∷ ps) lists =
      ap (λ v. (p.arrival, v) ∷ judged_from endings judge (added endings (record { version = get_or vs (length ms) 0; arrival = p.arrival }) ms)
      (named_from endings vs (added endings (record { version = get_or vs (length ms) 0; arrival = p.arrival }) ms) (arrivals_of ps))) (same_judged vs p ps ms lists judge)
      ∙ ap (λ l. (p.arrival, verdict_of endings judge p ms) ∷ judged_from endings judge l (named_from endings vs l (arrivals_of ps))) (same_added vs p ps ms lists)
      ∙ ap (λ l. (p.arrival, verdict_of endings judge p ms) ∷ l) (judged_again judge vs (added endings p ms) ps lists)
