-- A lane's records are those by members, each with its history.
use Rattle.std.proofs.Common.{◌≡◌, ℕ, Bool, true, false, cond, Option, Some, None, List, [], ◌∷◌, ◌++◌, refl, sym, ap, ◌∙◌, map, ⊎_elim}
use Rattle.std.specs.Prelude.{if◌then◌else◌, not, ◌&&◌, ◌||◌, filter}
use Rattle.std.proofs.lemmas.Bool.{cases_Bool, and_parts}
use Rattle.app_api.specs.declared.reaction.Verdict.{Verdict}
use Rattle.app_api.specs.App.{Meaning}
use Rattle.forest_versions.specs.State.{ControlState}
use Rattle.connection_core.specs.History.{History, is_over}
use Rattle.lane_core.specs.Sight.{Sight, Tcp, Other, Moment, Arrival, key_of_segment}
use Rattle.lane_core.specs.Records.{VersionedPacket, RecordSoFar, history_after, opens, is_between, is_shut as lane_is_shut, is_silent, belongs_to, verdict_after, ended_at, continued_by, started_by, ended_by_silence as lane_ended_by_silence, ended_before as lane_ended_before, placed as lane_placed, added as lane_added, verdict_among as lane_verdict_among, verdict_on, records_from as lane_records_from}
use Rattle.lane_composition.specs.Members.{Endings, Members, packets_of, begun_by, joined_by, ended_by_silence, takes, ended_before, found, placed, added, records_from}
use Rattle.lane_composition.specs.Judged.{verdict_among, verdict_of, judged_from}
use Rattle.lane_composition.specs.Histories.{history_through, last_of, over_by, judge_by, with_packets, with_history}
use Rattle.lane_core.specs.Verdicts.{verdicts_from}
use Rattle.lane_composition.proofs.Silence.{untaken_stays}

pub maps : {A B C : Type 0} (g : B → C) (f : A → B) (xs : List A) → map g (map f xs) ≡ map (λ x. g (f x)) xs
maps g f [] = refl
maps g f (x ∷ xs) = ap (λ l. g (f x) ∷ l) (maps g f xs)

through_last : (app : Meaning) (control : ControlState) (opener : Sight) (h : History) (later : List Arrival) (a : Arrival)
    → history_through app control opener h (later ++ a ∷ []) ≡ history_after app control opener a (history_through app control opener h later)
unfolding history_through
through_last app control opener h [] a = refl
through_last app control opener h (b ∷ later) a = through_last app control opener (history_after app control opener b h) later a

last_is : (first : Arrival) (later : List Arrival) (a : Arrival) → last_of first (later ++ a ∷ []) ≡ a
unfolding last_of
last_is first [] a = refl
last_is first (b ∷ later) a = last_is b later a

neither : (a b : Bool) → not (a || b) ≡ true → a ≡ false
neither true b e = absurd (cc)
neither false b e = refl

-- a record that takes a packet hasn't ended
pub taken_open : (endings : Endings) (sight : Sight) (m : Members) → takes endings sight m ≡ true → m.ended ≡ false
taken_open endings (Tcp segment) m taken = neither m.ended (endings.is_over m.version (packets_of m)) (and_parts _ _ taken).1
taken_open endings (Other class) m taken = absurd (cc)

module _ (app : Meaning) (control_at : ℕ → ControlState) where
  abbrev pub shown : Members → RecordSoFar
  shown m = with_history app control_at m

  abbrev open_with : Members → RecordSoFar
  open_with m = with_packets app control_at m

  abbrev ends : Endings
  ends = over_by app control_at

  -- ---- one record

  first_by : (b : Bool) (r : RecordSoFar) → (if b then lane_ended_by_silence app control_at r else r).first ≡ r.first
  first_by true r = refl
  first_by false r = refl

  pub shown_first : (m : Members) → (shown m).first ≡ m.first
  shown_first m = first_by m.ended (open_with m)

  version_by : (b : Bool) (r : RecordSoFar) → (if b then lane_ended_by_silence app control_at r else r).version ≡ r.version
  version_by true r = refl
  version_by false r = refl

  pub shown_version : (m : Members) → (shown m).version ≡ m.version
  shown_version m = version_by m.ended (open_with m)

  shown_open : (m : Members) → m.ended ≡ false → shown m ≡ open_with m
  shown_open m e = ap (λ b. if b then lane_ended_by_silence app control_at (open_with m) else open_with m) e

  shut_by : (b : Bool) (m : Members) → lane_is_shut (if b then lane_ended_by_silence app control_at (open_with m) else open_with m) ≡ (b || is_over (open_with m).history)
  shut_by true m = refl
  shut_by false m = refl

  same_takes : (sight : Sight) (m : Members) → belongs_to sight (shown m) ≡ takes ends sight m
  same_takes (Tcp segment) m =
      ap (λ a. opens a.sight && is_between (key_of_segment segment) a.sight && not (lane_is_shut (shown m))) (shown_first m)
      ∙ ap (λ b. opens m.first.sight && is_between (key_of_segment segment) m.first.sight && not b) (shut_by m.ended m)
  same_takes (Other class) m = refl

  joined_open : (a : Arrival) (m : Members) → continued_by app control_at a (open_with m) ≡ open_with (joined_by a m)
  joined_open a m =
      ap (λ h. record { first = m.first; version = m.version; last = a; ended = false; history = h }) (sym (through_last app (control_at m.version) m.first.sight _ m.later a))
      ∙ ap (λ l. record { first = m.first; version = m.version; last = l; ended = false; history = (open_with (joined_by a m)).history }) (sym (last_is m.first m.later a))

  same_joined : (a : Arrival) (m : Members) → m.ended ≡ false → continued_by app control_at a (shown m) ≡ shown (joined_by a m)
  same_joined a m e = ap (continued_by app control_at a) (shown_open m e) ∙ joined_open a m ∙ sym (shown_open (joined_by a m) e)

  same_begun : (p : VersionedPacket) → started_by app control_at p ≡ shown (begun_by p)
  unfolding history_through last_of
  same_begun p = refl

  -- ---- silence

  silent_by : (b : Bool) (m : Members) → m.ended ≡ false
      → (if b then lane_ended_by_silence app control_at (open_with m) else open_with m) ≡ shown (if b then ended_by_silence m else m)
  silent_by true m e = refl
  silent_by false m e = sym (shown_open m e)

  before_taken : (p : VersionedPacket) (m : Members) → takes ends p.arrival.sight m ≡ true → lane_ended_before app control_at p (shown m) ≡ shown (ended_before ends p.arrival m)
  before_taken p m taken =
      let e = taken_open ends p.arrival.sight m taken in
      ap (λ b. if b && is_silent app control_at p.arrival.moment (shown m) then lane_ended_by_silence app control_at (shown m) else shown m) (same_takes p.arrival.sight m ∙ taken)
      ∙ ap (λ r. if is_silent app control_at p.arrival.moment r then lane_ended_by_silence app control_at r else r) (shown_open m e)
      ∙ silent_by (ends.is_silent m.version (packets_of m) p.arrival.moment) m e
      ∙ sym (ap (λ b. shown (if b && ends.is_silent m.version (packets_of m) p.arrival.moment then ended_by_silence m else m)) taken)

  before_other : (p : VersionedPacket) (m : Members) → takes ends p.arrival.sight m ≡ false → lane_ended_before app control_at p (shown m) ≡ shown (ended_before ends p.arrival m)
  before_other p m untaken =
      ap (λ b. if b && is_silent app control_at p.arrival.moment (shown m) then lane_ended_by_silence app control_at (shown m) else shown m) (same_takes p.arrival.sight m ∙ untaken)
      ∙ ap shown (sym (untaken_stays ends p.arrival m untaken))

  same_before : (p : VersionedPacket) (m : Members) → lane_ended_before app control_at p (shown m) ≡ shown (ended_before ends p.arrival m)
  same_before p m = ⊎_elim (before_taken p m) (before_other p m) (cases_Bool (takes ends p.arrival.sight m))

  same_found : (p : VersionedPacket) (ms : List Members) → map (lane_ended_before app control_at p) (map shown ms) ≡ map shown (found ends p.arrival ms)
  same_found p [] = refl
  same_found p (m ∷ ms) =
      ap (λ r. r ∷ map (lane_ended_before app control_at p) (map shown ms)) (same_before p m) ∙ ap (λ l. shown (ended_before ends p.arrival m) ∷ l) (same_found p ms)

  -- ---- one packet more

  placed_here : (p : VersionedPacket) (m : Members) (ms : List Members) (after : List RecordSoFar) (later : List Members) (b : Bool) → takes ends p.arrival.sight m ≡ b → after ≡ map shown later
      → (if b then continued_by app control_at p.arrival (shown m) ∷ map shown ms else shown m ∷ after) ≡ map shown (if b then joined_by p.arrival m ∷ ms else m ∷ later)
  placed_here p m ms after later true taken rest = ap (λ x. x ∷ map shown ms) (same_joined p.arrival m (taken_open ends p.arrival.sight m taken))
  placed_here p m ms after later false taken rest = ap (λ l. shown m ∷ l) rest

  same_placed : (p : VersionedPacket) (ms : List Members) → lane_placed app control_at p (map shown ms) ≡ map shown (placed ends p ms)
  unfolding lane_placed placed
  same_placed p [] = ap (λ x. x ∷ []) (same_begun p)
  same_placed p (m ∷ ms) =
      ap (λ b. if b then continued_by app control_at p.arrival (shown m) ∷ map shown ms else shown m ∷ lane_placed app control_at p (map shown ms)) (same_takes p.arrival.sight m)
      ∙ placed_here p m ms (lane_placed app control_at p (map shown ms)) (placed ends p ms) (takes ends p.arrival.sight m) refl (same_placed p ms)

  pub same_added : (p : VersionedPacket) (ms : List Members) → lane_added app control_at p (map shown ms) ≡ map shown (added ends p ms)
  same_added p ms = ap (lane_placed app control_at p) (same_found p ms) ∙ same_placed p (found ends p.arrival ms)

  pub same_records : (ms : List Members) (ps : List VersionedPacket) → lane_records_from app control_at (map shown ms) ps ≡ map shown (records_from ends ms ps)
  unfolding lane_records_from records_from
  same_records ms [] = refl
  same_records ms (p ∷ ps) = ap (λ l. lane_records_from app control_at l ps) (same_added p ms) ∙ same_records (added ends p ms) ps

  -- ---- and its verdicts are those by members

  judged_here : (p : VersionedPacket) (m : Members) (v w : Verdict) (b : Bool) → takes ends p.arrival.sight m ≡ b → v ≡ w
      → (if b then verdict_after app (control_at (shown m).version) (shown m).first.sight p.arrival (shown m).history else v)
      ≡ (if b then judge_by app control_at m.version (packets_of m) p.arrival else w)
  judged_here p m v w true taken e = ap (λ r. verdict_after app (control_at r.version) r.first.sight p.arrival r.history) (shown_open m (taken_open ends p.arrival.sight m taken))
  judged_here p m v w false taken e = e

  same_among : (p : VersionedPacket) (ms : List Members) → lane_verdict_among app control_at p (map shown ms) ≡ verdict_among ends (judge_by app control_at) p ms
  unfolding lane_verdict_among verdict_among
  same_among p [] = refl
  same_among p (m ∷ ms) =
      ap (λ b. if b then verdict_after app (control_at (shown m).version) (shown m).first.sight p.arrival (shown m).history else lane_verdict_among app control_at p (map shown ms))
      (same_takes p.arrival.sight m)
      ∙ judged_here p m (lane_verdict_among app control_at p (map shown ms)) (verdict_among ends (judge_by app control_at) p ms) (takes ends p.arrival.sight m) refl (same_among p ms)

  pub same_verdict : (p : VersionedPacket) (ms : List Members) → verdict_on app control_at p (map shown ms) ≡ verdict_of ends (judge_by app control_at) p ms
  same_verdict p ms = ap (lane_verdict_among app control_at p) (same_found p ms) ∙ same_among p (found ends p.arrival ms)

  -- and so are those of packets in order
  pub same_judged : (ms : List Members) (ps : List VersionedPacket) → verdicts_from app control_at (map shown ms) ps ≡ judged_from ends (judge_by app control_at) ms ps
  unfolding verdicts_from judged_from
  same_judged ms [] = refl
  same_judged ms (p ∷ ps) =
      ap (λ v. (p.arrival, v) ∷ verdicts_from app control_at (lane_added app control_at p (map shown ms)) ps) (same_verdict p ms)
      ∙ ap (λ rs. (p.arrival, verdict_of ends (judge_by app control_at) p ms) ∷ verdicts_from app control_at rs ps) (same_added p ms)
      ∙ ap (λ js. (p.arrival, verdict_of ends (judge_by app control_at) p ms) ∷ js) (same_judged (added ends p ms) ps)

-- ---- what is made of each record, and leaves its first packet

module _ (of : Members → RecordSoFar) (first : (m : Members) → (of m).first ≡ m.first) (test : Sight → Bool) where
  filter_here : (m : Members) (b : Bool) (ms : List Members) (rs : List RecordSoFar) → rs ≡ map of ms → cond b (of m ∷ rs) rs ≡ map of (cond b (m ∷ ms) ms)
  filter_here m true ms rs e = ap (λ l. of m ∷ l) e
  filter_here m false ms rs e = e

  -- a part of them by their first packets
  pub same_part : (ms : List Members) → filter (λ r. test r.first.sight) (map of ms) ≡ map of (filter (λ m. test m.first.sight) ms)
  same_part [] = refl
  same_part (m ∷ ms) =
      ap (λ a. cond (test a.sight) (of m ∷ filter (λ r. test r.first.sight) (map of ms)) (filter (λ r. test r.first.sight) (map of ms))) (first m)
      ∙ filter_here m (test m.first.sight) (filter (λ m. test m.first.sight) ms) (filter (λ r. test r.first.sight) (map of ms)) (same_part ms)

-- ---- the end

module _ (app : Meaning) (control_at : ℕ → ControlState) where
  ended_first : (last : Option Moment) (r : RecordSoFar) → (ended_at app control_at last r).first ≡ r.first
  ended_first None r = refl
  ended_first (Some now) r = first_by app control_at (opens r.first.sight && not (lane_is_shut r) && is_silent app control_at now r) r

  ended_version : (last : Option Moment) (r : RecordSoFar) → (ended_at app control_at last r).version ≡ r.version
  ended_version None r = refl
  ended_version (Some now) r = version_by app control_at (opens r.first.sight && not (lane_is_shut r) && is_silent app control_at now r) r

  -- a record at the end, by its packets
  abbrev pub final : Option Moment → Members → RecordSoFar
  final last m = ended_at app control_at last (with_history app control_at m)

  pub final_first : (last : Option Moment) (m : Members) → (final last m).first ≡ m.first
  final_first last m = ended_first last (with_history app control_at m) ∙ shown_first app control_at m

  pub final_versions : (last : Option Moment) (ms : List Members) → map (λ r. r.version) (map (final last) ms) ≡ map (λ m. m.version) ms
  final_versions last [] = refl
  final_versions last (m ∷ ms) =
      ap (λ v. v ∷ map (λ r. r.version) (map (final last) ms)) (ended_version last (with_history app control_at m) ∙ shown_version app control_at m)
      ∙ ap (λ l. m.version ∷ l) (final_versions last ms)

  pub ended_records : (last : Option Moment) (ps : List VersionedPacket)
      → map (ended_at app control_at last) (lane_records_from app control_at [] ps) ≡ map (final last) (records_from (over_by app control_at) [] ps)
  ended_records last ps = ap (map (ended_at app control_at last)) (same_records app control_at [] ps)
      ∙ maps (ended_at app control_at last) (with_history app control_at) (records_from (over_by app control_at) [] ps)
