-- What an end by idleness changes in records: it adds callbacks, and opens nothing.
use Rattle.std.proofs.Common.{◌≡◌, ℕ, zero, suc, ◌+◌, Bool, true, false, Option, Some, None, List, [], ◌∷◌, length, get_or, set, refl, sym, ap, subst, ◌∙◌, map}
use Rattle.std.specs.Prelude.{if◌then◌else◌, ◌&&◌, not, MatchBool}
use Rattle.tcp_emulation.specs.declared.segment.Side.TheVariants.{Client}
use Rattle.flow_table.specs.Key.{EndpointPair}
use Rattle.app_api.specs.App.{Meaning}
use Rattle.app_api.specs.declared.registration.Reg.{Reg}
use Rattle.builtin_events.specs.declared.raise.Raise.{Raise}
use Rattle.event_trees.specs.Fires.{fires}
use Rattle.forest_versions.specs.State.{ControlState}
use Rattle.connection_core.specs.PacketUnderWay.{PacketUnderWay, called, called_all, called_at}
use Rattle.connection_core.specs.History.{History, begin}
use Rattle.connection_core.specs.Silence.{silenced}
use Rattle.lane_core.specs.Sight.{Moment}
use Rattle.lane_core.specs.Records.{VersionedPacket, RecordSoFar, opens, is_between, is_shut, is_open_at, belongs_to, timer_raise_of, is_silent, ended_by_silence, ended_before, ended_at}
use Rattle.lane_core.specs.Shown.{total, drop_count, alterations}
use Rattle.lane_core.specs.Places.{further, place_by, IsSingle}
use Rattle.lane_core.proofs.Holding.{and_false}
use Rattle.lane_core.proofs.Places.{none_here, IsSingle-none}

-- ---- the history

module _ (app : Meaning) (control : ControlState) (number : ℕ) (raise : Raise) where
  called_all-altered : (c : PacketUnderWay) (rs : List Reg) → (called_all app control number Client raise c rs).altered ≡ c.altered
  unfolding called
  called_all-altered c [] = refl
  called_all-altered c (r ∷ rs) = called_all-altered (called app control number Client raise c r) rs

  pub silenced-altered : (h : History) → (silenced app control number raise h).altered ≡ h.altered
  unfolding silenced called_at
  silenced-altered h = called_all-altered (begin h.emulation h) (fires control.defs raise.facts raise.hook raise.event h.active)

  pub silenced-drops : (h : History) → (silenced app control number raise h).drops ≡ h.drops
  unfolding silenced
  silenced-drops h = refl

-- ---- records of which some end

module _ (app : Meaning) (control_at : ℕ → ControlState) where
  abbrev pub ended : RecordSoFar → RecordSoFar
  ended past = ended_by_silence app control_at past

  -- a step that ends records or leaves them
  abbrev pub Ends : (RecordSoFar → RecordSoFar) → Type 0
  Ends step = (past : RecordSoFar) → (b : Bool) × (step past ≡ (if b then ended past else past))

  pub ends_before : (p : VersionedPacket) → Ends (ended_before app control_at p)
  ends_before p past = (belongs_to p.arrival.sight past && is_silent app control_at p.arrival.moment past, refl)

  pub ends_at : (last : Option Moment) → Ends (ended_at app control_at last)
  ends_at None past = (false, refl)
  ends_at (Some now) past = (opens past.first.sight && not (is_shut past) && is_silent app control_at now past, refl)

  case_of : (P : RecordSoFar → Type 0) (past : RecordSoFar) (b : Bool) → P (ended past) → P past → P (if b then ended past else past)
  case_of P past true here there = here
  case_of P past false here there = there

  -- what is true of a record and of the record ended is true after the step
  pub either : (P : RecordSoFar → Type 0) (step : RecordSoFar → RecordSoFar) → Ends step → (past : RecordSoFar) → P (ended past) → P past → P (step past)
  either P step ends past here there = let e = ends past in subst P (sym e.1) (case_of P past e.0 here there)

  -- what stays the same in a record, stays the same in a sum over records
  pub total-kept : (of : RecordSoFar → ℕ) → ((past : RecordSoFar) → of (ended past) ≡ of past)
      → (step : RecordSoFar → RecordSoFar) → Ends step → (pasts : List RecordSoFar) → total of (map step pasts) ≡ total of pasts
  unfolding total
  total-kept of same step ends [] = refl
  total-kept of same step ends (past ∷ pasts) =
      ap (λ n. n + total of (map step pasts)) (either (λ q. of q ≡ of past) step ends past (same past) refl)
      ∙ ap (λ n. of past + n) (total-kept of same step ends pasts)

  pub drops-kept : (step : RecordSoFar → RecordSoFar) → Ends step → (pasts : List RecordSoFar) → drop_count (map step pasts) ≡ drop_count pasts
  drops-kept step ends pasts =
      total-kept (λ r. length r.history.drops)
      (λ past. ap length (silenced-drops app (control_at past.version) past.last.number (timer_raise_of past.first.sight past.history.count) past.history)) step ends pasts

  pub alterations-kept : (step : RecordSoFar → RecordSoFar) → Ends step → (pasts : List RecordSoFar) → alterations (map step pasts) ≡ alterations pasts
  alterations-kept step ends pasts =
      total-kept (λ r. r.history.altered)
      (λ past. silenced-altered app (control_at past.version) past.last.number (timer_raise_of past.first.sight past.history.count) past.history) step ends pasts

  -- ---- which connections are open

  pub ended_shut : (key : EndpointPair) (past : RecordSoFar) → is_open_at key (ended past) ≡ false
  ended_shut key past = and_false (opens past.first.sight && is_between key past.first.sight)

  false_is_true : false ≡ true → ⊥
  false_is_true e = cc

  -- nothing is opened
  pub opens_nothing : (step : RecordSoFar → RecordSoFar) → Ends step → (key : EndpointPair) (past : RecordSoFar) → is_open_at key (step past) ≡ true → is_open_at key past ≡ true
  opens_nothing step ends key past =
      either (λ q. is_open_at key q ≡ true → is_open_at key past ≡ true) step ends past
      (λ passes. absurd (false_is_true (sym (ended_shut key past) ∙ passes))) (λ passes. passes)

-- ---- places, where a step makes no record pass that didn't

module _ (test : RecordSoFar → Bool) (step : RecordSoFar → RecordSoFar) (less : (past : RecordSoFar) → test (step past) ≡ true → test past ≡ true) where
  none_still : (b c : Bool) (o after : Option ℕ) → (c ≡ true → b ≡ true) → (if b then Some 0 else further o) ≡ None → (o ≡ None → after ≡ None) → (if c then Some 0 else further after) ≡ None
  none_still true c o after less none later = absurd (cc)
  none_still false true o after less none later = absurd (let e = less refl in cc)
  none_still false false None after less none later = ap further (later refl)
  none_still false false (Some i) after less none later = absurd (cc)

  pub place_by-fewer : (pasts : List RecordSoFar) → place_by test pasts ≡ None → place_by test (map step pasts) ≡ None
  unfolding place_by
  place_by-fewer [] none = refl
  place_by-fewer (past ∷ pasts) none =
      none_still (test past) (test (step past)) (place_by test pasts) (place_by test (map step pasts)) (less past) none (place_by-fewer pasts)

  single_still : (b c : Bool) (o after : Option ℕ) (S T : Type 0) → (c ≡ true → b ≡ true) → MatchBool b (o ≡ None) S → (o ≡ None → after ≡ None)
      → (o ≡ None → T) → (S → T) → MatchBool c (after ≡ None) T
  single_still true true o after S T less single none alone rest = none single
  single_still true false o after S T less single none alone rest = alone single
  single_still false true o after S T less single none alone rest = absurd (let e = less refl in cc)
  single_still false false o after S T less single none alone rest = rest single

  none_single : (pasts : List RecordSoFar) → place_by test pasts ≡ None → IsSingle test (map step pasts)
  none_single pasts none = IsSingle-none test (map step pasts) (place_by-fewer pasts none)

  pub IsSingle-fewer : (pasts : List RecordSoFar) → IsSingle test pasts → IsSingle test (map step pasts)
  unfolding IsSingle
  IsSingle-fewer [] single = tt
  IsSingle-fewer (past ∷ pasts) single =
      single_still (test past) (test (step past)) (place_by test pasts) (place_by test (map step pasts)) (IsSingle test pasts) (IsSingle test (map step pasts))
      (less past) single (place_by-fewer pasts) (none_single pasts) (IsSingle-fewer pasts)

-- ---- a step that changes one record at most

module _ (test : RecordSoFar → Bool) (step : RecordSoFar → RecordSoFar) (same : (past : RecordSoFar) → test past ≡ false → step past ≡ past) where
  pub unmoved : (pasts : List RecordSoFar) → place_by test pasts ≡ None → map step pasts ≡ pasts
  unfolding place_by
  unmoved [] none = refl
  unmoved (past ∷ pasts) none =
      let here = none_here (test past) (place_by test pasts) none in
      ap (λ q. q ∷ map step pasts) (same past here.0) ∙ ap (λ l. past ∷ l) (unmoved pasts here.1)

  moved_here : (past : RecordSoFar) (pasts : List RecordSoFar) (d : RecordSoFar) (b : Bool) (o : Option ℕ) (i : ℕ) → test past ≡ b → place_by test pasts ≡ o
      → MatchBool b (o ≡ None) (IsSingle test pasts) → (if b then Some 0 else further o) ≡ Some i
      → ((k : ℕ) → IsSingle test pasts → o ≡ Some k → map step pasts ≡ set pasts k (step (get_or pasts k d)))
      → step past ∷ map step pasts ≡ set (past ∷ pasts) i (step (get_or (past ∷ pasts) i d))
  moved_here past pasts d true o zero is there single e later = ap (λ l. step past ∷ l) (unmoved pasts (there ∙ single))
  moved_here past pasts d true o (suc i) is there single e later = absurd (cc)
  moved_here past pasts d false None i is there single e later = absurd (cc)
  moved_here past pasts d false (Some k) zero is there single e later = absurd (cc)
  moved_here past pasts d false (Some k) (suc i) is there single e later =
      let one : k ≡ i = cc in
      ap (λ q. q ∷ map step pasts) (same past is)
      ∙ ap (λ l. past ∷ l) (subst (λ j. map step pasts ≡ set pasts j (step (get_or pasts j d))) one (later k single refl))

  -- where one record passes at most, that one alone may change
  pub moved : (pasts : List RecordSoFar) (i : ℕ) (d : RecordSoFar) → IsSingle test pasts → place_by test pasts ≡ Some i → map step pasts ≡ set pasts i (step (get_or pasts i d))
  unfolding place_by IsSingle
  moved [] i d single there = absurd (cc)
  moved (past ∷ pasts) i d single there =
      moved_here past pasts d (test past) (place_by test pasts) i refl refl single there (λ k s e. moved pasts k d s e)

-- a step that changes no record
pub all_same : (step : RecordSoFar → RecordSoFar) → ((past : RecordSoFar) → step past ≡ past) → (pasts : List RecordSoFar) → map step pasts ≡ pasts
all_same step same [] = refl
all_same step same (past ∷ pasts) = ap (λ q. q ∷ map step pasts) (same past) ∙ ap (λ l. past ∷ l) (all_same step same pasts)

-- ---- before a packet

module _ (app : Meaning) (control_at : ℕ → ControlState) where
  -- a record that a packet doesn't belong to
  pub left_before : (p : VersionedPacket) (past : RecordSoFar) → belongs_to p.arrival.sight past ≡ false → ended_before app control_at p past ≡ past
  left_before p past fails = ap (λ b. if b && is_silent app control_at p.arrival.moment past then ended app control_at past else past) fails

  pub heard_before : (p : VersionedPacket) (past : RecordSoFar) → is_silent app control_at p.arrival.moment past ≡ false → ended_before app control_at p past ≡ past
  heard_before p past heard =
      ap (λ b. if belongs_to p.arrival.sight past && b then ended app control_at past else past) heard
      ∙ ap (λ b. if b then ended app control_at past else past) (and_false (belongs_to p.arrival.sight past))

  pub silent_before : (p : VersionedPacket) (past : RecordSoFar) → belongs_to p.arrival.sight past ≡ true → is_silent app control_at p.arrival.moment past ≡ true
      → ended_before app control_at p past ≡ ended app control_at past
  silent_before p past belongs silent =
      ap (λ b. if b && is_silent app control_at p.arrival.moment past then ended app control_at past else past) belongs
      ∙ ap (λ b. if b then ended app control_at past else past) silent
