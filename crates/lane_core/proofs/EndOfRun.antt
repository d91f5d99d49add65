-- The end of a run, record by record.
use Rattle.std.proofs.Common.{◌≡◌, ℕ, zero, suc, ◌+◌, ◌<◌, ◌≤◌, Bool, true, false, Option, Some, None, List, [], ◌∷◌, length, get_or, set, refl, sym, ap, subst, ◌∙◌, map, arith, le_refl}
use Rattle.std.proofs.lemmas.List.{set-get_or, get_or-map, length-map}
use Rattle.std.proofs.lemmas.Grind.{common_steps}
use Rattle.std.specs.Prelude.{if◌then◌else◌, ◌&&◌, not, nat_lt, MatchBool}
use Rattle.flow_table.specs.Key.{EndpointPair, key_between, same_key}
use Rattle.flow_table.specs.Table.{found}
use Rattle.flow_table.proofs.Keys.{same_key-reflexive}
use Rattle.packet_views.specs.declared.packet.Class.{Class}
use Rattle.app_api.specs.App.{Meaning}
use Rattle.report_text.specs.declared.record.RecordKind.TheVariants.{Conn, Orphan}
use Rattle.shared_forest.specs.declared.store.ForestView.{Ghosts}
use Rattle.forest_versions.specs.State.{ControlState}
use Rattle.forest_versions.specs.Master.{Versions, Tells}
use Rattle.connection_core.specs.InForce.{registered_at}
use Rattle.flow_table.specs.declared.endpoint.Endpoint.{Endpoint}
use Rattle.lane_core.specs.declared.connection.Connection.{Connection}
use Rattle.lane_core.specs.declared.records.Records.{Records}
use Rattle.lane_core.specs.declared.under_way.RecordUnderWay.{RecordUnderWay}
use Rattle.lane_core.specs.Sight.{Segment, Sight, Tcp, Other, Moment, key_of_segment}
use Rattle.lane_core.specs.Records.{RecordSoFar, opens, is_between, is_shut, is_open_at, is_silent, ended_at}
use Rattle.lane_core.specs.Shown.{kind_of, total, weight}
use Rattle.lane_core.specs.Places.{further, place_by, place_of, IsSingle}
use Rattle.lane_core.specs.Idle.{IsIdle}
use Rattle.lane_core.specs.Steps.{Taking}
use Rattle.lane_core.specs.Kept.{IsOpenAt, slot_of}
use Rattle.lane_core.specs.Packets.{KeepsSoFar, ForSoFar, Ends}
use Rattle.lane_core.specs.Closing.{EndsOne, EndsAll, IsTooHeavy}
use Rattle.lane_core.proofs.Ended.{ended, all_same}
use Rattle.lane_core.proofs.Places.{place_by-fails, place_by-passes}
use Rattle.lane_core.proofs.Holding.{left_of_and}
use Rattle.lane_core.proofs.Idleness.{idle_as, never_idle}
use Rattle.lane_core.proofs.Weighing.{end_weighs}

-- ---- one record

module _ (app : Meaning) (control_at : ℕ → ControlState) (now : Moment) where
  abbrev pub at_end : RecordSoFar → RecordSoFar
  at_end past = ended_at app control_at (Some now) past

  abbrev over : RecordSoFar → RecordSoFar
  over past = ended app control_at past

  and_false_here : (a b : Bool) (past : RecordSoFar) → (a && b) ≡ false → (c : Bool) → (if a && b && c then over past else past) ≡ past
  and_false_here true true past none c = absurd (cc)
  and_false_here true false past none c = refl
  and_false_here false b past none c = refl

  -- one that isn't open
  pub shut_stays : (past : RecordSoFar) → (opens past.first.sight && not (is_shut past)) ≡ false → at_end past ≡ past
  shut_stays past shut = and_false_here (opens past.first.sight) (not (is_shut past)) past shut (is_silent app control_at now past)

  heard_case : (a b : Bool) (past : RecordSoFar) → (if a && b && false then over past else past) ≡ past
  heard_case true true past = refl
  heard_case true false past = refl
  heard_case false b past = refl

  -- one that wasn't idle for too long
  pub heard_stays : (past : RecordSoFar) → is_silent app control_at now past ≡ false → at_end past ≡ past
  heard_stays past heard =
      ap (λ c. if opens past.first.sight && not (is_shut past) && c then over past else past) heard
      ∙ heard_case (opens past.first.sight) (not (is_shut past)) past

  open_case : (a k b c : Bool) (past : RecordSoFar) → (a && k && b) ≡ true → c ≡ true → (if a && b && c then over past else past) ≡ over past
  open_case true true true true past passes silent = refl
  open_case true true true false past passes silent = absurd (cc)
  open_case true true false c past passes silent = absurd (cc)
  open_case true false b c past passes silent = absurd (cc)
  open_case false k b c past passes silent = absurd (cc)

  -- one that is open and was
  pub silent_ends : (past : RecordSoFar) (key : EndpointPair) → is_open_at key past ≡ true → is_silent app control_at now past ≡ true → at_end past ≡ over past
  silent_ends past key passes silent =
      open_case (opens past.first.sight) (is_between key past.first.sight) (not (is_shut past)) (is_silent app control_at now past) past passes silent

  -- ---- the first records

  -- the records of which the first ones did
  abbrev pub front : ℕ → List RecordSoFar → List RecordSoFar
  front zero pasts = pasts
  front (suc i) [] = []
  front (suc i) (past ∷ pasts) = at_end past ∷ front i pasts

  pub front_next : (i : ℕ) (pasts : List RecordSoFar) (d : RecordSoFar) → i < length pasts → front (suc i) pasts ≡ set (front i pasts) i (at_end (get_or (front i pasts) i d))
  front_next i [] d within = absurd (omega arith)
  front_next zero (past ∷ pasts) d within = refl
  front_next (suc i) (past ∷ pasts) d within =
      let below : i < length pasts = omega arith in ap (λ l. at_end past ∷ l) (front_next i pasts d below)

  -- what is true once one more ended is true of one more
  pub front_step : (P : List RecordSoFar → Type 0) (i : ℕ) (pasts : List RecordSoFar) → i < length pasts
      → ((d : RecordSoFar) → P (set (front i pasts) i (at_end (get_or (front i pasts) i d)))) → P (front (i + 1) pasts)
  front_step P i [] within each = absurd (omega arith)
  front_step P i (past ∷ pasts) within each =
      let next : i + 1 ≡ suc i = omega arith in
      subst (λ n. P (front n (past ∷ pasts))) (sym next) (subst P (sym (front_next i (past ∷ pasts) past within)) (each past))

  -- all of them did
  pub front_all : (i : ℕ) (pasts : List RecordSoFar) → length pasts ≤ i → front i pasts ≡ map at_end pasts
  front_all zero [] all = refl
  front_all (suc i) [] all = refl
  front_all zero (past ∷ pasts) all = absurd (omega arith)
  front_all (suc i) (past ∷ pasts) all = let rest : length pasts ≤ i = omega arith in ap (λ l. at_end past ∷ l) (front_all i pasts rest)

  pub front_length : (i : ℕ) (pasts : List RecordSoFar) → length (front i pasts) ≡ length pasts
  front_length zero pasts = refl
  front_length (suc i) [] = refl
  front_length (suc i) (past ∷ pasts) = ap suc (front_length i pasts)

  head_weighs : (past : RecordSoFar) (before after : List RecordSoFar) → weight before ≤ weight after → weight (past ∷ before) ≤ weight (past ∷ after)
  unfolding total
  head_weighs past before after less = omega (arith, less)

  -- it weighs no more than all of them at the end
  pub front_weighs : (i : ℕ) (pasts : List RecordSoFar) → weight (front i pasts) ≤ weight (map at_end pasts)
  front_weighs zero pasts = end_weighs app control_at (Some now) pasts
  front_weighs (suc i) [] = le_refl (weight [])
  front_weighs (suc i) (past ∷ pasts) = head_weighs (at_end past) (front i pasts) (map at_end pasts) (front_weighs i pasts)

-- entries that are kept weigh too much
pub too_heavy : (keep : Bool) (n : ℕ) → (keep && nat_lt 134217728 n) ≡ true → 134217728 < n
too_heavy true n over = grind (arith, common_steps)
too_heavy false n over = absurd (cc)

-- ---- the place of an open record

there_here : (b : Bool) (o : Option ℕ) (S : Type 0) (i : ℕ) → MatchBool b (o ≡ None) S → (S → o ≡ Some i) → (o ≡ None → ⊥) → (if b then Some 0 else further o) ≡ Some (suc i)
there_here true o S i single later some = absurd (some single)
there_here false o S i single later some = ap further (later single)

false_is_true : (b : Bool) → b ≡ false → b ≡ true → ⊥
false_is_true true fails passes = cc
false_is_true false fails passes = cc

-- the one record that passes stands at its place
place_by-there : (test : RecordSoFar → Bool) (pasts : List RecordSoFar) (i : ℕ) (d : RecordSoFar) → IsSingle test pasts → i < length pasts
    → test (get_or pasts i d) ≡ true → place_by test pasts ≡ Some i
unfolding place_by IsSingle
place_by-there test [] i d single within passes = absurd (omega arith)
place_by-there test (past ∷ pasts) zero d single within passes = rw passes refl
place_by-there test (past ∷ pasts) (suc i) d single within passes =
    let below : i < length pasts = omega arith in
    there_here (test past) (place_by test pasts) (IsSingle test pasts) i single (λ rest. place_by-there test pasts i d rest below passes)
    (λ none. false_is_true (test (get_or pasts i d)) (place_by-fails test pasts i d none below) passes)

-- ---- a record and its key

kind_here : (b : Bool) (segment : Segment) (class : Class) → (if b then Conn segment.sender segment.receiver else Orphan Class.Tcp) ≡ Orphan class → b ≡ false
kind_here true segment class is = absurd (cc)
kind_here false segment class is = refl

-- an orphan's first packet opens nothing
orphan_shut : (sight : Sight) (class : Class) → kind_of sight ≡ Orphan class → opens sight ≡ false
unfolding kind_of opens
orphan_shut (Tcp segment) class is = kind_here (opens (Tcp segment)) segment class is
orphan_shut (Other kind) class is = refl

same_here : (b : Bool) (segment : Segment) (client server : Endpoint) → (if b then Conn segment.sender segment.receiver else Orphan Class.Tcp) ≡ Conn client server
    → key_of_segment segment ≡ key_between client server
same_here true segment client server is =
    let sender : segment.sender ≡ client = cc in
    let receiver : segment.receiver ≡ server = cc in
    ap (λ a. key_between a segment.receiver) sender ∙ ap (key_between client) receiver
same_here false segment client server is = absurd (cc)

-- a connection's first packet is one of its key
conn_between : (sight : Sight) (client server : Endpoint) → kind_of sight ≡ Conn client server → is_between (key_between client server) sight ≡ true
unfolding kind_of is_between
conn_between (Tcp segment) client server is =
    let same = same_here (opens (Tcp segment)) segment client server is in
    ap (λ k. same_key k (key_between client server)) same ∙ same_key-reflexive (key_between client server)
conn_between (Other class) client server is = absurd (cc)

all_three : (a k b : Bool) → (a && b) ≡ true → k ≡ true → (a && k && b) ≡ true
all_three true k true both key = rw key refl
all_three true k false both key = absurd (cc)
all_three false k b both key = absurd (cc)

either_so : (b : Bool) (P : Type 0) → (b ≡ true → P) → (b ≡ false → P) → P
either_so true P so otherwise = so refl
either_so false P so otherwise = otherwise refl

pub within_by : (keep : Bool) (slots : List RecordUnderWay) (pasts : List RecordSoFar) (i : ℕ) → slots ≡ map (slot_of keep) pasts → i < length slots → i < length pasts
within_by keep slots pasts i shown within = subst (λ n. i < n) (ap length shown ∙ length-map pasts (slot_of keep)) within

module _ {F : Type 0} {store : Ghosts F} (t : Taking) (control_at : ℕ → ControlState) (old : Records F store) (tells : (v : ℕ) → Tells old.master v (control_at v))
    (pasts : List RecordSoFar) (stands : KeepsSoFar t.keep old pasts) (i : ℕ) (d : RecordSoFar) (within : i < length pasts) where
  abbrev here : RecordSoFar
  here = get_or pasts i d

  abbrev here_at_end : RecordSoFar
  here_at_end = at_end t.app control_at t.moment here

  -- its record under way has its kind
  pub kind_there : (slot : RecordUnderWay) → slot ≡ get_or old.list.items i slot → slot.kind ≡ kind_of here.first.sight
  kind_there slot at =
      ap (λ (s : RecordUnderWay). s.kind) (at ∙ ap (λ ss. get_or ss i slot) stands.shown ∙ get_or-map (slot_of t.keep) pasts i d slot within)

  stays : here_at_end ≡ here → set pasts i here_at_end ≡ pasts
  stays same = ap (set pasts i) same ∙ set-get_or pasts i d

  -- the record of an orphan
  pub orphan_stays : (class : Class) → kind_of here.first.sight ≡ Orphan class → set pasts i here_at_end ≡ pasts
  orphan_stays class kind =
      stays (shut_stays t.app control_at t.moment here (ap (λ b. b && not (is_shut here)) (orphan_shut here.first.sight class kind)))

  module _ (client server : Endpoint) (kind : kind_of here.first.sight ≡ Conn client server) where
    abbrev key : EndpointPair
    key = key_between client server

    open_there : (opens here.first.sight && not (is_shut here)) ≡ true → place_of key pasts ≡ Some i
    open_there is =
        place_by-there (is_open_at key) pasts i d (stands.single key) within
        (all_three (opens here.first.sight) (is_between key here.first.sight) (not (is_shut here)) is (conn_between here.first.sight client server kind))

    -- the table has no connection of its key with its record at this place
    abbrev HasOther : Type 0
    HasOther = (conn : Connection) → found old.connections key ≡ Some conn → conn.place ≡ i → ⊥

    not_other : (o : Option Connection) → found old.connections key ≡ o → IsOpenAt (registered_at old.master) (store.content old.forests) o (place_of key pasts) pasts
        → place_of key pasts ≡ Some i → HasOther → ⊥
    not_other None is none there other = absurd (let e = sym none ∙ there in cc)
    not_other (Some conn) is at there other = let e = sym at.0 ∙ there in let same : conn.place ≡ i = cc in other conn is same

    -- one whose key has another connection, or none
    pub other_stays : HasOther → set pasts i here_at_end ≡ pasts
    other_stays other =
        stays (either_so (opens here.first.sight && not (is_shut here)) (here_at_end ≡ here)
        (λ is. absurd (not_other (found old.connections key) refl (stands.placed key) (open_there is) other))
        (λ shut. shut_stays t.app control_at t.moment here shut))

    module _ (conn : Connection) (was : found old.connections key ≡ Some conn) (same : conn.place ≡ i) where
      at : IsOpenAt (registered_at old.master) (store.content old.forests) (Some conn) (place_of key pasts) pasts
      at = subst (λ o. IsOpenAt (registered_at old.master) (store.content old.forests) o (place_of key pasts) pasts) was (stands.placed key)

      idle_is : (idle : Bool) → IsIdle old.master conn t.moment idle → is_silent t.app control_at t.moment here ≡ idle
      idle_is idle so =
          subst (λ j. is_silent t.app control_at t.moment (get_or pasts j d) ≡ idle) same
          (idle_as t control_at old tells pasts stands conn (get_or pasts conn.place d) idle (at.1 d) so)

      -- one that wasn't idle for too long
      pub heard_one : IsIdle old.master conn t.moment false → set pasts i here_at_end ≡ pasts
      heard_one heard = stays (heard_stays t.app control_at t.moment here (idle_is false heard))

      -- one that was
      pub idle_one : (new : Records F store) → IsIdle old.master conn t.moment true → control_at old.master.version ≡ old.master.now → Ends t old new key
          → KeepsSoFar t.keep new (set pasts i here_at_end)
      idle_one new idle now e =
          let there = at.0 ∙ ap Some same in
          subst (λ q. KeepsSoFar t.keep new (set pasts i q))
          (sym (silent_ends t.app control_at t.moment here key (place_by-passes (is_open_at key) pasts i d there) (idle_is true idle)))
          (e.ended control_at pasts tells now stands i d there)

-- one that leaves the records as they were ended what it had to
pub stays_one : {F : Type 0} {store : Ghosts F} (t : Taking) (r : Records F store) (i : ℕ)
    → ((control_at : ℕ → ControlState) (pasts : List RecordSoFar) → ((v : ℕ) → Tells r.master v (control_at v)) → KeepsSoFar t.keep r pasts → (d : RecordSoFar)
    → set pasts i (at_end t.app control_at t.moment (get_or pasts i d)) ≡ pasts) → EndsOne t r r i
stays_one t r i same = record {
  ended = λ control_at pasts tells now stands d. subst (KeepsSoFar t.keep r) (sym (same control_at pasts tells stands d)) stands;
}

-- ---- all records, one after the other

module _ {F : Type 0} {store : Ghosts F} (t : Taking) (old new : Records F store) where
  -- the first ones have ended
  abbrev pub EndsFront : ℕ → Type 0
  EndsFront i = ForSoFar t.keep old (λ control_at so_far. KeepsSoFar t.keep new (front t.app control_at t.moment i so_far))

  pub front_is_all : (i : ℕ) → length old.list.items ≤ i → EndsFront i → EndsAll t.app t.keep old new (Some t.moment)
  front_is_all i high ends = record {
    ended = λ control_at pasts tells now stands.
        let all : length pasts ≤ i = subst (λ n. n ≤ i) (ap length stands.shown ∙ length-map pasts (slot_of t.keep)) high in
        subst (KeepsSoFar t.keep new) (front_all t.app control_at t.moment i pasts all) (ends control_at pasts tells now stands);
  }

  pub front_is_heavy : (i : ℕ) → EndsFront i → (t.keep && nat_lt 134217728 new.ledger.counts.weight) ≡ true → IsTooHeavy t.app t.keep old (Some t.moment)
  front_is_heavy i ends over = record {
    keeps = left_of_and t.keep _ over;
    heavy = λ control_at pasts tells now stands.
        let weighed = (ends control_at pasts tells now stands).weighed in
        let more = front_weighs t.app control_at t.moment i pasts in
        let heavy = too_heavy t.keep new.ledger.counts.weight over in
        omega (arith, heavy, weighed, more);
  }

-- and the next one
pub front_more : {F : Type 0} {store : Ghosts F} (t : Taking) (old mid new : Records F store) (i : ℕ) → EndsFront t old mid i → mid.master ≡ old.master → i < length mid.list.items
    → EndsOne t mid new i → EndsFront t old new (i + 1)
front_more t old mid new i ends master low one control_at pasts tells now stands =
    let lent = ends control_at pasts tells now stands in
    let within = subst (λ n. i < n) (front_length t.app control_at t.moment i pasts) (within_by t.keep mid.list.items (front t.app control_at t.moment i pasts) i lent.shown low) in
    front_step t.app control_at t.moment (KeepsSoFar t.keep new) i pasts within
    (λ d. one.ended control_at (front t.app control_at t.moment i pasts) (subst (λ (m : Versions). (v : ℕ) → Tells m v (control_at v)) (sym master) tells)
    (subst (λ (m : Versions). control_at m.version ≡ m.now) (sym master) now) lent d)

-- ---- where no record ends

-- there is no greatest moment
pub none_by : {F : Type 0} {store : Ghosts F} (app : Meaning) (keep : Bool) (r : Records F store) → EndsAll app keep r r None
none_by app keep r = record {
  ended = λ control_at pasts tells now stands. subst (KeepsSoFar keep r) (sym (all_same (λ past. past) (λ past. refl) pasts)) stands;
}

-- nothing is limited
pub none_limited : {F : Type 0} {store : Ghosts F} (app : Meaning) (keep : Bool) (r : Records F store) (last : Moment)
    → ((v : ℕ) (s : ControlState) → Tells r.master v s → s.idle ≡ None) → EndsAll app keep r r (Some last)
none_limited app keep r last never = record {
  ended = λ control_at pasts tells now stands.
      subst (KeepsSoFar keep r)
      (sym (all_same (ended_at app control_at (Some last)) (λ past. heard_stays app control_at last past (never_idle app last control_at r.master tells never past)) pasts)) stands;
}

-- all weigh too much then
pub all_heavy : {F : Type 0} {store : Ghosts F} (app : Meaning) (keep : Bool) (old new : Records F store) (last : Option Moment) → EndsAll app keep old new last
    → (keep && nat_lt 134217728 new.ledger.counts.weight) ≡ true → IsTooHeavy app keep old last
all_heavy app keep old new last ends over = record {
  keeps = left_of_and keep _ over;
  heavy = λ control_at pasts tells now stands.
      subst (λ n. 134217728 < n) (ends.ended control_at pasts tells now stands).weighed (too_heavy keep new.ledger.counts.weight over);
}
