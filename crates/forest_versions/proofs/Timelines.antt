-- The value of a timeline at a version, where a search has found the first later step.
use Rattle.std.proofs.Common.{◌≡◌, ℕ, suc, ◌+◌, ◌<◌, ◌≤◌, leb, true, false, cond, List, [], ◌∷◌, length, get_or, take, drop, refl, sym, ap, ◌∙◌, arith}
use Rattle.std.specs.List.{fold}
use Rattle.std.specs.List.Sorted.{IsPartitionPoint}
use Rattle.std.proofs.lemmas.List.{take_more, take_all, take-append-drop, length-drop, get_or-drop}
use Rattle.std.proofs.lemmas.List.Sums.{fold-append}
use Rattle.forest_versions.specs.Timeline.{Line, as_of}

-- the value after one step more
abbrev chosen : {T : Type 0} → ℕ → T → ℕ × T → T
chosen v value step = cond (leb step.0 v) step.1 value

late : {T : Type 0} (v : ℕ) (a : T) (xs : List (ℕ × T)) → ((k : ℕ) (d : ℕ × T) → k < length xs → leb (get_or xs k d).0 v ≡ false) → fold (chosen v) a xs ≡ a
late v a [] h = refl
late v a (x ∷ xs) h =
    let now : leb x.0 v ≡ false = h 0 x (omega arith) in
    rw now (late v a xs (λ k d within. h (suc k) d (omega arith)))

taken : {T : Type 0} (v : ℕ) (a : T) (xs : List (ℕ × T)) (i : ℕ) (d : ℕ × T) → i < length xs → leb (get_or xs i d).0 v ≡ true → fold (chosen v) a (take (i + 1) xs) ≡ (get_or xs i d).1
taken v a xs i d within now =
    rw (take_more xs i d within, fold-append (chosen v) a (take i xs) (get_or xs i d ∷ [])) (ap (λ b. cond b (get_or xs i d).1 (fold (chosen v) a (take i xs))) now)

module _ {T : Type 0} (line : Line T) (v : ℕ) where
  abbrev Found : ℕ → Type 0
  Found i = IsPartitionPoint (λ step. leb step.0 v ≡ true) (λ step. leb step.0 v ≡ false) line.steps i

  pub as_of-first : Found 0 → as_of line v ≡ line.first
  unfolding as_of
  as_of-first found = late v line.first line.steps (λ k d within. found.1 k d (omega arith) within)

  pub as_of-later : (i : ℕ) (d : ℕ × T) → i + 1 ≤ length line.steps → Found (i + 1) → as_of line v ≡ (get_or line.steps i d).1
  unfolding as_of
  as_of-later i d within found =
      let before : fold (chosen v) line.first (take (i + 1) line.steps) ≡ (get_or line.steps i d).1 =
      taken v line.first line.steps i d (omega arith) (found.0 i d (omega arith) (omega arith)) in
      let split : fold (chosen v) line.first line.steps ≡ fold (chosen v) (fold (chosen v) line.first (take (i + 1) line.steps)) (drop (i + 1) line.steps) =
      ap (fold (chosen v) line.first) (sym (take-append-drop (i + 1) line.steps)) ∙ fold-append (chosen v) line.first (take (i + 1) line.steps) (drop (i + 1) line.steps) in
      let after = late v (fold (chosen v) line.first (take (i + 1) line.steps)) (drop (i + 1) line.steps)
      (λ k e w. rw (get_or-drop (i + 1) line.steps k e) (found.1 (i + 1 + k) e (omega arith) (omega (arith, length-drop (i + 1) line.steps)))) in
      split ∙ (after ∙ before)

  -- the last step gives the value where it isn't later
  pub as_of-last : (i : ℕ) (d : ℕ × T) → i + 1 ≡ length line.steps → leb (get_or line.steps i d).0 v ≡ true → as_of line v ≡ (get_or line.steps i d).1
  unfolding as_of
  as_of-last i d ends now =
      ap (fold (chosen v) line.first) (sym (take_all (i + 1) line.steps (omega arith))) ∙ taken v line.first line.steps i d (omega arith) now

  -- without a step it is the first value
  pub as_of-none : length line.steps ≡ 0 → as_of line v ≡ line.first
  unfolding as_of
  as_of-none none = ap (fold (chosen v) line.first) (sym (take_all 0 line.steps (omega arith)))
