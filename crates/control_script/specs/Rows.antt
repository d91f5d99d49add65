-- Only for proofs. What a script keeps beside each command.
use Rattle.std.specs.Prelude.{◌≡◌, ℕ, ◌+◌, ◌≤◌, max, IsTrue, Option, Some, None, List, [], ◌∷◌, length, map, ⊤}
use Rattle.forest_versions.specs.declared.command.Stamp.{Stamp}
use Rattle.forest_versions.specs.declared.command.Stamp.TheVariants.{At, Live}
use Rattle.control_script.specs.declared.script.Row.{Row}
use Rattle.control_script.specs.declared.stamped.Stamped.{Stamped}
use Rattle.control_script.specs.Order.{are_in_order}

abbrev pub stamped_of : List Row → List Stamped
stamped_of rows = map (λ r. r.stamped) rows

-- the greatest number of an `at` so far, if there is one, and one more than the place of the last
abbrev pub latest_with : Option ℕ → Stamp → Option ℕ
latest_with None (At k) = Some k
latest_with (Some l) (At k) = Some (max l k)
latest_with latest Live = latest

abbrev pub forced_with : ℕ → ℕ → Stamp → ℕ
forced_with forced place (At k) = place + 1
forced_with forced place Live = forced

-- each row has the two, from these and from this place on
abbrev pub AreMarked : Option ℕ → ℕ → ℕ → List Row → Type 0
AreMarked latest forced place [] = ⊤
AreMarked latest forced place (r ∷ rs) =
    (r.latest ≡ latest_with latest r.stamped.stamp) × ((r.forced ≡ forced_with forced place r.stamped.stamp) × AreMarked r.latest r.forced (place + 1) rs)

pub record AreRows (rows : List Row) : Type 0 where
  pub few : length rows ≤ 4096
  pub marked : AreMarked None 0 0 rows
  pub ordered : IsTrue (are_in_order (stamped_of rows))

-- what the last row has
abbrev pub last_latest : Option ℕ → List Row → Option ℕ
last_latest latest [] = latest
last_latest latest (r ∷ rs) = last_latest r.latest rs

abbrev pub last_forced : ℕ → List Row → ℕ
last_forced forced [] = forced
last_forced forced (r ∷ rs) = last_forced r.forced rs
