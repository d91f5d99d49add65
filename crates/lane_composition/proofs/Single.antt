-- Where the floor of each packet is its ceiling, one list of versions is allowed.
use Rattle.std.proofs.Common.{◌≡◌, ◌≤◌, ◌+◌, ℕ, false, List, [], ◌∷◌, ◌++◌, length, get_or, take, refl, sym, ap, ◌∙◌, subst, map, arith, ⊎_elim}
use Rattle.std.specs.List.{All, list_any}
use Rattle.std.proofs.lemmas.List.{length-map, map-append, length-append, length_push, take_more, take_all}
use Rattle.std.proofs.lemmas.Bool.{cases_Bool}
use Rattle.std.proofs.lemmas.List.Elements.{All-head, All-tail, All-map, All-weaker}
use Rattle.flow_table.specs.Key.{EndpointPair}
use Rattle.lane_core.specs.Sight.{Arrival}
use Rattle.lane_core.specs.Records.{VersionedPacket, versioned}
use Rattle.lane_composition.specs.Members.{Endings, Members, begun_by, name_of, takes, ended_before, found, added, records_from, records}
use Rattle.lane_composition.specs.Named.{named_by, named_from, records_under}
use Rattle.lane_composition.specs.Allowed.{versions_of, IsWithin, IsAllowed}
use Rattle.lane_composition.proofs.Silence.{of_found}
use Rattle.lane_composition.proofs.Naming.{added_new, added_anyhow, versions_stay}
use Rattle.lane_composition.proofs.Rising.{All-front, of_front}

All-last : (P : ℕ × ℕ → Type 0) (xs : List (ℕ × ℕ)) (y : ℕ × ℕ) → All P (xs ++ y ∷ []) → P y
All-last P [] y all = All-head P y [] all
All-last P (x ∷ xs) y all = All-last P xs y (All-tail P x (xs ++ y ∷ []) all)

module _ (endings : Endings) (only : ℕ → ℕ) (vs : List ℕ) where
  -- each record's version is the only one of its first packet
  abbrev HasOnly : Members → Type 0
  HasOnly m = m.version ≡ only (name_of m)

  abbrev only_by : Arrival → VersionedPacket
  only_by a = record { version = only a.number; arrival = a }

  given_only : (ms : List Members) (a : Arrival) (rest : List Arrival)
      → All HasOnly (records_from endings (added endings (named_by vs ms a) ms) (named_from endings vs (added endings (named_by vs ms a) ms) rest))
      → list_any (takes endings a.sight) (found endings a ms) ≡ false → get_or vs (length ms) 0 ≡ only a.number
  given_only ms a rest all none =
      let now = added endings (named_by vs ms a) ms in
      let pair : Members → ℕ × ℕ = λ m. (m.version, name_of m) in
      let P = λ (x : ℕ × ℕ). x.0 ≡ only x.1 in
      let front = of_front endings pair (λ p. (p.version, p.arrival.number)) (λ p. refl) (λ b m. refl) (λ m. refl) now (named_from endings vs now rest) in
      let final : All P (map pair now ++ front.0) = subst (All P) front.1 (All-map P pair (records_from endings now (named_from endings vs now rest)) all) in
      let new : map pair now ≡ map pair ms ++ (get_or vs (length ms) 0, a.number) ∷ [] = ap (map pair) (added_new endings (named_by vs ms a) ms none)
      ∙ map-append pair (found endings a ms) (begun_by (named_by vs ms a) ∷ []) ∙ ap (λ l. l ++ (get_or vs (length ms) 0, a.number) ∷ []) (of_found endings pair (λ m. refl) a ms) in
      All-last P (map pair ms) (get_or vs (length ms) 0, a.number) (subst (All P) new (All-front P (map pair now) front.0 final))

  same_step : (ms : List Members) (a : Arrival) (rest : List Arrival)
      → All HasOnly (records_from endings (added endings (named_by vs ms a) ms) (named_from endings vs (added endings (named_by vs ms a) ms) rest))
      → added endings (named_by vs ms a) ms ≡ added endings (only_by a) ms
  same_step ms a rest all = ⊎_elim (λ some. added_anyhow endings (get_or vs (length ms) 0) (only_by a) ms some)
      (λ none. ap (λ v. added endings (record { version = v; arrival = a }) ms) (given_only ms a rest all none)) (cases_Bool (list_any (takes endings a.sight) (found endings a ms)))

  pub records_only : (ms : List Members) (ps : List Arrival) → All HasOnly (records_from endings ms (named_from endings vs ms ps))
      → records_from endings ms (named_from endings vs ms ps) ≡ records_from endings ms (versioned only ps)
  unfolding records_from named_from
  records_only ms [] all = refl
  records_only ms (a ∷ ps) all =
      records_only (added endings (named_by vs ms a) ms) ps all ∙ ap (λ l. records_from endings l (versioned only ps)) (same_step ms a ps all)

-- the versions of records under a list are the list, where it is as long
module _ (endings : Endings) (vs : List ℕ) where
  longer : (ms : List Members) (ps : List VersionedPacket) → length ms ≤ length (records_from endings ms ps)
  longer ms ps =
      let front = of_front endings (λ m. m.version) (λ p. p.version) (λ p. refl) (λ b m. refl) (λ m. refl) ms ps in
      let e = ap length front.1 in
      omega (arith, length-append (versions_of ms) front.0, length-map ms (λ m. m.version), length-map (records_from endings ms ps) (λ m. m.version), e)

  kept_step : (ms : List Members) (a : Arrival) → versions_of ms ≡ take (length ms) vs → length (added endings (named_by vs ms a) ms) ≤ length vs
      → versions_of (added endings (named_by vs ms a) ms) ≡ take (length (added endings (named_by vs ms a) ms)) vs
  kept_step ms a kept fits = ⊎_elim
      (λ some. let stay = versions_stay endings (named_by vs ms a) ms some in
      let long : length (added endings (named_by vs ms a) ms) ≡ length ms =
      sym (length-map (added endings (named_by vs ms a) ms) (λ m. m.version)) ∙ ap length stay ∙ length-map ms (λ m. m.version) in
      stay ∙ kept ∙ ap (λ n. take n vs) (sym long))
      (λ none. let new = added_new endings (named_by vs ms a) ms none in
      let same = length-map ms (ended_before endings a) in
      let long : length (added endings (named_by vs ms a) ms) ≡ length ms + 1 = ap length new ∙ length_push (found endings a ms) (begun_by (named_by vs ms a)) ∙ ap (λ n. n + 1) same in
      ap versions_of new ∙ map-append (λ m. m.version) (found endings a ms) (begun_by (named_by vs ms a) ∷ [])
      ∙ ap (λ l. l ++ get_or vs (length ms) 0 ∷ []) (of_found endings (λ m. m.version) (λ m. refl) a ms ∙ kept) ∙ sym (take_more vs (length ms) 0 (omega arith)) ∙ ap (λ n. take n vs) (sym long))
      (cases_Bool (list_any (takes endings a.sight) (found endings a ms)))

  pub list_kept : (ms : List Members) (ps : List Arrival) → versions_of ms ≡ take (length ms) vs → length (records_from endings ms (named_from endings vs ms ps)) ≤ length vs
      → versions_of (records_from endings ms (named_from endings vs ms ps)) ≡ take (length (records_from endings ms (named_from endings vs ms ps))) vs
  unfolding records_from named_from
  list_kept ms [] kept fits = kept
  list_kept ms (a ∷ ps) kept fits =
      let now = added endings (named_by vs ms a) ms in
      let most = longer now (named_from endings vs now ps) in
      list_kept now ps (kept_step ms a kept (omega arith)) fits

pub list_of_allowed : (floor ceil : ℕ → ℕ) (endings : Endings) (lane : EndpointPair → ℕ) (packets : List Arrival) (vs : List ℕ) → IsAllowed floor ceil endings lane packets vs
    → versions_of (records_under endings vs packets) ≡ vs
list_of_allowed floor ceil endings lane packets vs allowed =
    let long = allowed.count in
    list_kept endings vs [] packets refl (omega arith) ∙ take_all (length (records_under endings vs packets)) vs (omega arith)

only_within : (floor ceil : ℕ → ℕ) (same : (n : ℕ) → floor n ≡ ceil n) (ms : List Members) → All (λ m. IsWithin floor ceil m.version (name_of m)) ms → All (λ m. m.version ≡ ceil (name_of m)) ms
only_within floor ceil same ms all =
    All-weaker (λ m. IsWithin floor ceil m.version (name_of m)) (λ m. m.version ≡ ceil (name_of m)) (λ m w. let e = same (name_of m) in let a = w.0 in let b = w.1 in omega arith) ms all

pub records_of_allowed : (floor ceil : ℕ → ℕ) (endings : Endings) (lane : EndpointPair → ℕ) (packets : List Arrival) (vs : List ℕ) → ((n : ℕ) → floor n ≡ ceil n)
    → IsAllowed floor ceil endings lane packets vs
    → records_under endings vs packets ≡ records endings (versioned ceil packets)
records_of_allowed floor ceil endings lane packets vs same allowed =
    records_only endings ceil vs [] packets (only_within floor ceil same (records_under endings vs packets) allowed.within)
