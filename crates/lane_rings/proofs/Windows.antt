-- A resequencer's window, one place further on.
use Rattle.std.proofs.Common.{◌≡◌, ◌+◌, ℕ, zero, suc, refl, sym, ◌∙◌, Option, Some, None, List, [], ◌∷◌, ◌++◌, get_or, take, drop, set, arith}
use Rattle.lane_rings.specs.declared.items.Answer.{Answer}
use Rattle.lane_rings.specs.Waiting.{AreNumbered}

-- a free place at the end shows nothing
appended : (ws : List (Option Answer)) (d : ℕ) → get_or (ws ++ None ∷ []) d None ≡ get_or ws d None
appended [] zero = refl
appended [] (suc d) = refl
appended (w ∷ ws) zero = refl
appended (w ∷ ws) (suc d) = appended ws d

-- the first place was given out, and a free one stands at the end
pub moved_numbered : (n : ℕ) (old : List (Option Answer)) → AreNumbered n old → AreNumbered (n + 1) (drop 1 (set old 0 None) ++ take 1 (set old 0 None))
moved_numbered n [] numbered d a got = numbered d a got ∙ absurd (grind (arith, got))
moved_numbered n (w ∷ ws) numbered d a got = numbered (suc d) a (sym (appended ws d) ∙ got) ∙ omega arith

-- the answer in the first place has the next index
pub first_index : (n : ℕ) (old : List (Option Answer)) → AreNumbered n old → (a : Answer) → get_or old 0 None ≡ Some a → a.index ≡ n
first_index n old numbered a got = numbered 0 a got ∙ omega arith
