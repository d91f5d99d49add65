-- Records one at a time: each begins with a packet that none takes, and takes the later packets of its key while it is open.
use Rattle.std.proofs.Common.{◌≡◌, ℕ, Bool, true, false, Option, Some, None, List, [], ◌∷◌, ◌++◌, get_or, set, refl, sym, ap, subst, ◌∙◌, append_assoc, append-nil, map}
use Rattle.std.proofs.lemmas.List.{map-append}
use Rattle.std.specs.Prelude.{if◌then◌else◌, ◌&&◌, ◌||◌, not, MatchBool}
use Rattle.std.specs.List.{list_any}
use Rattle.lane_core.specs.Sight.{Sight, Tcp, Other, key_of_segment}
use Rattle.flow_table.specs.Key.{EndpointPair, same_key}
use Rattle.flow_table.proofs.Keys.{same_key-equal}
use Rattle.app_api.specs.App.{Meaning}
use Rattle.forest_versions.specs.State.{ControlState}
use Rattle.lane_core.specs.Records.{VersionedPacket, RecordSoFar, opens, is_between, is_shut, is_open_at, belongs_to, started_by, continued_by, ended_before, placed, added, records_from}
use Rattle.lane_core.specs.Places.{further, place_by, place_of, IsSingle}
use Rattle.lane_core.specs.Laws.{takes, continued_through, started_after}
use Rattle.lane_core.proofs.Places.{none_here, place_by-within, place_by-passes, place_by-never, placed-new, joins, IsSingle-none, IsSingle-append, IsSingle-set}
use Rattle.lane_core.proofs.Holding.{holds_before, holds_after, left_of_and}
use Rattle.lane_core.proofs.Ended.{ends_before, opens_nothing, IsSingle-fewer}

module _ (app : Meaning) (control_at : ℕ → ControlState) where
  -- what a packet makes of a record
  abbrev pub stepped : VersionedPacket → RecordSoFar → RecordSoFar
  stepped s past = if belongs_to s.arrival.sight past then continued_by app control_at s.arrival past else past

  stepped_here : (s : VersionedPacket) (ss : List VersionedPacket) (past : RecordSoFar) (b : Bool)
      → (if b then continued_through app control_at (continued_by app control_at s.arrival past) ss else continued_through app control_at past
      ss) ≡ continued_through app control_at (if b then continued_by app control_at s.arrival past else past) ss
  stepped_here s ss past true = refl
  stepped_here s ss past false = refl

  -- what the silence before it makes of one
  abbrev pub before : VersionedPacket → RecordSoFar → RecordSoFar
  before s past = ended_before app control_at s past

  grown_stepped : (s : VersionedPacket) (ss : List VersionedPacket) (past : RecordSoFar)
      → continued_through app control_at past (s ∷ ss) ≡ continued_through app control_at (stepped s (before s past)) ss
  unfolding continued_through
  grown_stepped s ss past = stepped_here s ss (before s past) (belongs_to s.arrival.sight (before s past))

  -- each record ends or goes on, and then takes the packet or leaves it
  grown_map : (s : VersionedPacket) (ss : List VersionedPacket) (pasts : List RecordSoFar)
      → map (λ p. continued_through app control_at p ss) (map (stepped s) (map (before s) pasts)) ≡ map (λ p. continued_through app control_at p (s ∷ ss)) pasts
  grown_map s ss [] = refl
  grown_map s ss (past ∷ pasts) =
      ap (λ x. x ∷ map (λ p. continued_through app control_at p ss) (map (stepped s) (map (before s) pasts))) (sym (grown_stepped s ss past))
      ∙ ap (λ l. continued_through app control_at past (s ∷ ss) ∷ l) (grown_map s ss pasts)

  pub unstepped : (s : VersionedPacket) (pasts : List RecordSoFar) → place_by (belongs_to s.arrival.sight) pasts ≡ None → map (stepped s) pasts ≡ pasts
  unfolding place_by
  unstepped s [] none = refl
  unstepped s (past ∷ pasts) none =
      let here = none_here (belongs_to s.arrival.sight past) (place_by (belongs_to s.arrival.sight) pasts) none in
      let fails = here.0 in rw fails (ap (λ l. past ∷ l) (unstepped s pasts here.1))

  placed_stepped_here : (s : VersionedPacket) (past : RecordSoFar) (pasts : List RecordSoFar) (b : Bool) (o : Option ℕ) (i : ℕ)
      → belongs_to s.arrival.sight past ≡ b → place_by (belongs_to s.arrival.sight) pasts ≡ o
      → MatchBool b (o ≡ None) (IsSingle (belongs_to s.arrival.sight) pasts) → (if b then Some 0 else further o) ≡ Some i
      → ((k : ℕ) → IsSingle (belongs_to s.arrival.sight) pasts → o ≡ Some k → placed app control_at s pasts ≡ map (stepped s) pasts)
      → (if b then continued_by app control_at s.arrival past ∷ pasts else past ∷ placed app control_at s pasts) ≡ (if b then continued_by app
      control_at s.arrival past else past) ∷ map (stepped s) pasts
  placed_stepped_here s past pasts true o i is there single e later = ap (λ l. continued_by app control_at s.arrival past ∷ l) (sym (unstepped s pasts (there ∙ single)))
  placed_stepped_here s past pasts false None i is there single e later = absurd (cc)
  placed_stepped_here s past pasts false (Some k) i is there single e later = ap (λ l. past ∷ l) (later k single refl)

  -- a packet that a record takes: of the records one takes it
  pub placed_stepped : (s : VersionedPacket) (pasts : List RecordSoFar) (i : ℕ) → IsSingle (belongs_to s.arrival.sight) pasts
      → place_by (belongs_to s.arrival.sight) pasts ≡ Some i → placed app control_at s pasts ≡ map (stepped s) pasts
  unfolding placed place_by IsSingle
  placed_stepped s [] i single there = absurd (cc)
  placed_stepped s (past ∷ pasts) i single there =
      placed_stepped_here s past pasts (belongs_to s.arrival.sight past) (place_by (belongs_to s.arrival.sight) pasts) i refl refl single there (λ k rest e. placed_stepped s pasts k rest e)

  pub any_none : (test : RecordSoFar → Bool) (pasts : List RecordSoFar) → place_by test pasts ≡ None → list_any test pasts ≡ false
  unfolding place_by
  any_none test [] none = refl
  any_none test (past ∷ pasts) none =
      let here = none_here (test past) (place_by test pasts) none in let fails = here.0 in rw fails (any_none test pasts here.1)

  any_some_here : (b rest : Bool) (o : Option ℕ) (i : ℕ) → (if b then Some 0 else further o) ≡ Some i → ((k : ℕ) → o ≡ Some k → rest ≡ true) → (b || rest) ≡ true
  any_some_here true rest o i e later = refl
  any_some_here false rest None i e later = absurd (cc)
  any_some_here false rest (Some k) i e later = later k refl

  pub any_some : (test : RecordSoFar → Bool) (pasts : List RecordSoFar) (i : ℕ) → place_by test pasts ≡ Some i → list_any test pasts ≡ true
  unfolding place_by
  any_some test [] i there = absurd (cc)
  any_some test (past ∷ pasts) i there = any_some_here (test past) (list_any test pasts) (place_by test pasts) i there (λ k e. any_some test pasts k e)

  -- a key has at most one open connection
  abbrev pub Alone : List RecordSoFar → Type 0
  Alone pasts = (key : EndpointPair) → IsSingle (is_open_at key) pasts

  middle : (a b c : Bool) → (a && b && c) ≡ true → b ≡ true
  middle true true c all = refl
  middle true false c all = absurd (cc)
  middle false b c all = absurd (cc)

  false_is_true : false ≡ true → ⊥
  false_is_true e = cc

  pub begun_alone : (s : VersionedPacket) (sight : Sight) (pasts : List RecordSoFar) (key : EndpointPair) → s.arrival.sight ≡ sight
      → place_by (belongs_to sight) pasts ≡ None → is_open_at key (started_by app control_at s) ≡ true → place_of key pasts ≡ None
  unfolding is_between
  begun_alone s (Tcp segment) pasts key is none passes =
      let between = middle (opens s.arrival.sight) (is_between key s.arrival.sight) (not (is_shut (started_by app control_at s))) passes in
      let same : same_key (key_of_segment segment) key ≡ true = subst (λ p. is_between key p ≡ true) is between in
      subst (λ k. place_of k pasts ≡ None) (same_key-equal (key_of_segment segment) key same) none
  begun_alone s (Other class) pasts key is none passes =
      let between = middle (opens s.arrival.sight) (is_between key s.arrival.sight) (not (is_shut (started_by app control_at s))) passes in
      absurd (false_is_true (subst (λ p. is_between key p ≡ true) is between))

  none_is_some : (i : ℕ) → None ≡ Some i → ⊥
  none_is_some i e = cc

  pub joined_alone : (s : VersionedPacket) (sight : Sight) (pasts : List RecordSoFar) (i : ℕ) (key : EndpointPair) → s.arrival.sight ≡ sight → Alone pasts → place_by (belongs_to sight) pasts ≡ Some i
      → IsSingle (is_open_at key) (set pasts i (continued_by app control_at s.arrival (get_or pasts i (started_by app control_at s))))
  joined_alone s (Tcp segment) pasts i key is alone there =
      let own = key_of_segment segment in
      let past = get_or pasts i (started_by app control_at s) in
      let next = continued_by app control_at s.arrival past in
      let passes = place_by-passes (is_open_at own) pasts i (started_by app control_at s) there in
      IsSingle-set (is_open_at key) pasts i next (started_by app control_at s) (alone key) (place_by-within (is_open_at own) pasts i there)
      (λ e. holds_before past own key passes
      ∙ left_of_and (same_key own key) (not (is_shut next)) (sym (holds_after past next own key (is_shut next) passes refl refl) ∙ e))
  joined_alone s (Other class) pasts i key is alone there = absurd (none_is_some i (sym (place_by-never (belongs_to (Other class)) pasts (λ past. refl)) ∙ there))

  pub single_takes : (sight : Sight) (pasts : List RecordSoFar) → Alone pasts → IsSingle (belongs_to sight) pasts
  single_takes (Tcp segment) pasts alone = alone (key_of_segment segment)
  single_takes (Other class) pasts alone = IsSingle-none (belongs_to (Other class)) pasts (place_by-never (belongs_to (Other class)) pasts (λ past. refl))

  -- a packet whose key is silent for too long ends its connection: still at most one of a key is open
  pub before_alone : (s : VersionedPacket) (pasts : List RecordSoFar) → Alone pasts → Alone (map (before s) pasts)
  before_alone s pasts alone = λ key.
      IsSingle-fewer (is_open_at key) (before s) (opens_nothing app control_at (before s) (ends_before app control_at s) key) pasts (alone key)

  pub any_before : (s : VersionedPacket) (pasts : List RecordSoFar) → list_any (takes app control_at s) pasts ≡ list_any (belongs_to s.arrival.sight) (map (before s) pasts)
  any_before s [] = refl
  any_before s (past ∷ pasts) = ap (λ b. belongs_to s.arrival.sight (before s past) || b) (any_before s pasts)

  grow_here : (s : VersionedPacket) (ss : List VersionedPacket) (pasts : List RecordSoFar) (o : Option ℕ)
      → place_by (belongs_to s.arrival.sight) (map (before s) pasts) ≡ o → Alone (map (before s) pasts)
      → (Alone (added app control_at s pasts) → records_from app control_at (added app control_at s pasts) ss ≡ map
      (λ p. continued_through app control_at p ss) (added app control_at s pasts) ++ started_after app control_at (added app control_at s pasts) ss)
      → records_from app control_at (added app control_at s pasts) ss ≡ map (λ p. continued_through app control_at p (s ∷ ss)) pasts ++ started_after app control_at pasts (s ∷ ss)
  unfolding started_after
  grow_here s ss pasts None there alone rest =
      let now = map (before s) pasts in
      let new = placed-new app control_at s now there in
      let none = any_before s pasts ∙ any_none (belongs_to s.arrival.sight) now there in
      let still : Alone (added app control_at s pasts) = λ key. subst (IsSingle (is_open_at key)) (sym new)
      (IsSingle-append (is_open_at key) now (started_by app control_at s) (alone key) (λ passes. begun_alone s s.arrival.sight now key refl there passes)) in
      let last = continued_through app control_at (started_by app control_at s) ss in
      let after = started_after app control_at (added app control_at s pasts) ss in
      rest still
      ∙ ap (λ l. map (λ p. continued_through app control_at p ss) l ++ after) new
      ∙ ap (λ l. l ++ after) (map-append (λ p. continued_through app control_at p ss) now (started_by app control_at s ∷ []))
      ∙ append_assoc (map (λ p. continued_through app control_at p ss) now) (last ∷ []) after
      ∙ ap (λ l. map (λ p. continued_through app control_at p ss) l ++ last ∷ after) (sym (unstepped s now there))
      ∙ ap (λ l. l ++ last ∷ after) (grown_map s ss pasts)
      ∙ ap (λ b. map (λ p. continued_through app control_at p (s ∷ ss)) pasts ++ (if b then after else last ∷ after)) (sym none)
  grow_here s ss pasts (Some i) there alone rest =
      let now = map (before s) pasts in
      let one = placed_stepped s now i (single_takes s.arrival.sight now alone) there in
      let some = any_before s pasts ∙ any_some (belongs_to s.arrival.sight) now i there in
      let new = (joins app control_at s now i there).changed (started_by app control_at s) in
      let still : Alone (added app control_at s pasts) = λ key. subst (IsSingle (is_open_at key)) (sym new) (joined_alone s s.arrival.sight now i key refl alone there) in
      let last = continued_through app control_at (started_by app control_at s) ss in
      let after = started_after app control_at (added app control_at s pasts) ss in
      rest still
      ∙ ap (λ l. map (λ p. continued_through app control_at p ss) l ++ after) one
      ∙ ap (λ l. l ++ after) (grown_map s ss pasts)
      ∙ ap (λ b. map (λ p. continued_through app control_at p (s ∷ ss)) pasts ++ (if b then after else last ∷ after)) (sym some)

  grown_none : (pasts : List RecordSoFar) → pasts ≡ map (λ p. continued_through app control_at p []) pasts
  unfolding continued_through
  grown_none [] = refl
  grown_none (past ∷ pasts) = ap (λ l. past ∷ l) (grown_none pasts)

  pub records_grown : (ss : List VersionedPacket) (pasts : List RecordSoFar) → Alone pasts
      → records_from app control_at pasts ss ≡ map (λ p. continued_through app control_at p ss) pasts ++ started_after app control_at pasts ss
  unfolding records_from started_after
  records_grown [] pasts alone = grown_none pasts ∙ sym (append-nil (map (λ p. continued_through app control_at p []) pasts))
  records_grown (s ∷ ss) pasts alone =
      grow_here s ss pasts (place_by (belongs_to s.arrival.sight) (map (before s) pasts)) refl (before_alone s pasts alone)
      (λ still. records_grown ss (added app control_at s pasts) still)
