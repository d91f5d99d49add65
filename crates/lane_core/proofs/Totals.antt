-- Sums over records, as one record more comes or one record goes on.
use Rattle.std.proofs.Common.{◌≡◌, ℕ, zero, suc, ◌+◌, ◌<◌, ◌≤◌, Option, Some, None, List, [], ◌∷◌, ◌++◌, length, get_or, set, arith}
use Rattle.connection_core.specs.Trees.{InternsWithin}
use Rattle.lane_core.specs.Records.{RecordSoFar}
use Rattle.lane_core.specs.Shown.{total}

pub total-append : (of : RecordSoFar → ℕ) (pasts : List RecordSoFar) (past : RecordSoFar) → total of (pasts ++ past ∷ []) ≡ total of pasts + of past
unfolding total
total-append of [] past = omega arith
total-append of (first ∷ pasts) past = let rest = total-append of pasts past in omega arith

-- the sum over all records but one
unfoldable pub others_of : (RecordSoFar → ℕ) → List RecordSoFar → ℕ → ℕ
others_of of [] i = 0
others_of of (first ∷ pasts) zero = total of pasts
others_of of (first ∷ pasts) (suc i) = of first + others_of of pasts i

pub others_and : (of : RecordSoFar → ℕ) (pasts : List RecordSoFar) (i : ℕ) (d : RecordSoFar) → i < length pasts → total of pasts ≡ others_of of pasts i + of (get_or pasts i d)
unfolding total others_of
others_and of [] i d within = absurd (omega arith)
others_and of (first ∷ pasts) zero d within = omega arith
others_and of (first ∷ pasts) (suc i) d within = let below : i < length pasts = omega arith in let rest = others_and of pasts i d below in omega arith

pub others_with : (of : RecordSoFar → ℕ) (pasts : List RecordSoFar) (i : ℕ) (past : RecordSoFar) → i < length pasts → total of (set pasts i past) ≡ others_of of pasts i + of past
unfolding total others_of
others_with of [] i past within = absurd (omega arith)
others_with of (first ∷ pasts) zero past within = omega arith
others_with of (first ∷ pasts) (suc i) past within = let below : i < length pasts = omega arith in let rest = others_with of pasts i past below in omega arith

-- alterations of other records cost nothing
pub InternsWithin-others : (m n : Option ℕ) (others a b before after : ℕ) → before ≡ others + a → after ≡ others + b → InternsWithin m n a b → InternsWithin m n before after
InternsWithin-others None None others a b before after is_before is_after within = tt
InternsWithin-others None (Some n) others a b before after is_before is_after within = within
InternsWithin-others (Some m) None others a b before after is_before is_after within = within
InternsWithin-others (Some m) (Some n) others a b before after is_before is_after within = (within.0, omega (arith, within.1))

-- no intern
pub InternsWithin-none : (m : Option ℕ) (before after : ℕ) → before ≤ after → InternsWithin m m before after
InternsWithin-none None before after less = tt
InternsWithin-none (Some m) before after less = (omega arith, omega arith)
