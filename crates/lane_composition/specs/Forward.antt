-- Not of the headline. A forward run while it streams: packets are read in order, each goes to its lane, and they leave in that order, each by the
-- next answer of its lane. What a lane answers is known for sure only when the lane has ended, so what is kept holds for whatever
-- the right answers are.
use Rattle.std.specs.Prelude.{◌≡◌, ◌≤◌, ℕ, Option, List, length, map}
use Rattle.std.specs.Io.KnownBytes.{Appends}
use Rattle.mos_bytes.specs.Writes.{AppendsFront}
use Rattle.lane_rings.specs.declared.items.Answer.{Answer}
use Rattle.lane_composition.specs.Share.{share}
use Rattle.lane_composition.specs.Forwarded.{forwarded}

-- these are the answers to the first n packets, each lane's in order
abbrev pub AreOf : (ℕ → ℕ) → (ℕ → Answer) → ℕ → (ℕ → List Answer) → Type 0
AreOf lane answer n given = (l : ℕ) → given l ≡ map answer (share lane l n)

module _ (lane : ℕ → ℕ) (n : ℕ) (given : ℕ → List Answer) (old new : Option (List ℕ)) where
  -- the first n packets have left by these answers of their lanes, and what was written is what these let pass
  pub record HaveLeft : Type 0 where
    pub counted : (l : ℕ) → length (given l) ≡ length (share lane l n)
    pub written : (answer : ℕ → Answer) → AreOf lane answer n given → Appends old new (forwarded answer n)

  -- some of the first n packets have left so, and the record of the last of them may be cut off
  pub record HasLeft : Type 0 where
    pub left : ℕ
    pub within : left ≤ n
    pub counted : (l : ℕ) → length (given l) ≡ length (share lane l left)
    pub front : (answer : ℕ → Answer) → AreOf lane answer left given → AppendsFront old new (forwarded answer left)
