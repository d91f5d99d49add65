-- Which key's open connection a record is, before and after one more of its packets.
use Rattle.std.proofs.Common.{◌≡◌, Bool, true, false, refl, ap, ◌∙◌}
use Rattle.std.specs.Prelude.{◌&&◌, ◌||◌, not}
use Rattle.flow_table.specs.Key.{EndpointPair, same_key}
use Rattle.flow_table.proofs.Keys.{same_key-equal}
use Rattle.connection_core.specs.History.{is_over}
use Rattle.lane_core.specs.Sight.{Sight, Tcp, Other, key_of_segment}
use Rattle.lane_core.specs.Records.{RecordSoFar, opens, is_between, is_shut, is_open_at}

pub and_true : (b : Bool) → (b && true) ≡ b
and_true true = refl
and_true false = refl

pub and_false : (b : Bool) → (b && false) ≡ false
and_false true = refl
and_false false = refl

pub left_of_and : (a b : Bool) → (a && b) ≡ true → a ≡ true
left_of_and true b both = refl
left_of_and false b both = absurd (cc)

-- ---- a packet that a connection goes on with

record Holding (a b c : Bool) : Type 0 where
  first : a ≡ true
  second : b ≡ true
  third : c ≡ false

holding : (a b c : Bool) → (a && b && not c) ≡ true → Holding a b c
holding true true true all = absurd (cc)
holding true true false all = record { first = refl; second = refl; third = refl }
holding true false c all = absurd (cc)
holding false b c all = absurd (cc)

-- the key of a connection is that of its first packet
between_own : (sight : Sight) (own key : EndpointPair) → is_between own sight ≡ true → is_between key sight ≡ same_key own key
unfolding is_between
between_own (Tcp opener) own key same = ap (λ k. same_key k key) (same_key-equal (key_of_segment opener) own same)
between_own (Other class) own key same = absurd (cc)

pub holds_before : (past : RecordSoFar) (own key : EndpointPair) → is_open_at own past ≡ true → is_open_at key past ≡ same_key own key
holds_before past own key passes =
    let h = holding (opens past.first.sight) (is_between own past.first.sight) (is_shut past) passes in
    let opening = h.first in let open_still = h.third in
    rw (opening, open_still) (and_true (is_between key past.first.sight) ∙ between_own past.first.sight own key h.second)

left_false : (a b : Bool) → (a || b) ≡ false → a ≡ false
left_false true b none = none
left_false false b none = refl

-- an open connection hasn't ended by idleness
pub unended : (past : RecordSoFar) (own : EndpointPair) → is_open_at own past ≡ true → past.ended ≡ false
unended past own passes =
    left_false past.ended (is_over past.history)
    (holding (opens past.first.sight) (is_between own past.first.sight) (is_shut past) passes).third

pub holds_after : (past after : RecordSoFar) (own key : EndpointPair) (shut : Bool) → is_open_at own past ≡ true → after.first ≡ past.first → is_shut after ≡ shut
    → is_open_at key after ≡ (same_key own key && not shut)
holds_after past after own key shut passes first is =
    let h = holding (opens past.first.sight) (is_between own past.first.sight) (is_shut past) passes in
    let opening = h.first in
    rw (first, opening, is) (ap (λ b. b && not shut) (between_own past.first.sight own key h.second))
