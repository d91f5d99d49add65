-- Not of the headline. The packets of a forward run on several lanes that are on their way: sent to their lanes, and neither written nor dropped.
use Rattle.std.specs.Prelude.{◌≡◌, ◌≤◌, ◌<◌, ◌+◌, ℕ, List, length, drop, get_or, Option}
use Rattle.lane_rings.specs.Ring.{SameRx}
use Rattle.lane_composition.specs.Forward.{HaveLeft, HasLeft}
use Rattle.forward_dispatch.specs.declared.lane_answers.LaneAnswers.{LaneAnswers}
use Rattle.forward_dispatch.specs.declared.on_their_way.OnTheirWay.{OnTheirWay}
use Rattle.forward_dispatch.specs.Given.{given_from}

-- the lane of each packet by its number, where packets were sent to these lanes in order; lane 0 past the end
abbrev pub lane_by : List ℕ → ℕ → ℕ
lane_by order i = get_or order i 0

-- how many packets were sent
abbrev pub sent_on : OnTheirWay → ℕ
sent_on way = way.next + length way.lanes.items

-- Packets were sent to these lanes, in order: the last of them are on their way, and the others have left, written whole or dropped.
pub record Leaves (order : List ℕ) (way : OnTheirWay) (old new : Option (List ℕ)) : Type 0 where
  pub sent : length order ≡ sent_on way
  pub lanes : way.lanes.items ≡ drop way.next order
  pub left : HaveLeft (lane_by order) way.next (given_from way.all_answers.items) old new

-- some of them have left, and the record of the last of these may be cut off
abbrev pub IsCutOff : List ℕ → OnTheirWay → Option (List ℕ) → Option (List ℕ) → Type 0
IsCutOff order way old new = HasLeft (lane_by order) (length order) (given_from way.all_answers.items) old new

-- answers of the same lanes
pub record SameRings (a b : List LaneAnswers) : Type 0 where
  pub count : length b ≡ length a
  pub each : (k : ℕ) (r : LaneAnswers) → k < length a → SameRx (get_or a k r).ring (get_or b k r).ring

-- More packets left, and none was sent; where `whole` holds, no record is cut off.
pub record LeavesOn (a b : OnTheirWay) (old new : Option (List ℕ)) (whole : Type 0) : Type 0 where
  pub on : whole → (order : List ℕ) (before : Option (List ℕ)) → Leaves order a before old → Leaves order b before new
  pub cut : (order : List ℕ) (before : Option (List ℕ)) → Leaves order a before old → IsCutOff order b before new
  pub sent : sent_on b ≡ sent_on a
  pub later : a.next ≤ b.next
  pub rings : SameRings a.all_answers.items b.all_answers.items

-- Of so many packets that were read, all but at most 4,096 have left.
abbrev pub AreFew : ℕ → OnTheirWay → Type 0
AreFew read way = read ≤ way.next + 4096
