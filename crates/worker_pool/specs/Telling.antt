-- Not of the headline. What the control thread tells a lane: places in the script, from 0 on.
use Rattle.std.specs.Prelude.{◌≡◌, ℕ, ◌+◌, ◌<◌, ◌≤◌, [], ◌∷◌, ◌++◌}
use Rattle.std.specs.List.{range_with_len}
use Rattle.lane_rings.specs.declared.ring.RingTx.{RingTx}
use Rattle.lane_rings.specs.Ring.{sent, free}

-- a place was sent into a ring, if that had room
pub record Tells (place : ℕ) (a b : RingTx ℕ) : Type 0 where
  pub sent_is : 0 < free a → sent b ≡ sent a ++ place ∷ []
  pub room : free a ≤ free b + 1

-- so many places were sent into a ring, in order, if that had room for all
pub record HasTold (count : ℕ) (a b : RingTx ℕ) : Type 0 where
  pub sent_are : count ≤ free a → sent b ≡ sent a ++ range_with_len 0 count
  pub room : free a ≤ free b + count
