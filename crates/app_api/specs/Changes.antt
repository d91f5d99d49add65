-- Only for proofs. How the changes of one reaction stand in an array.
use Rattle.std.specs.Prelude.{◌≡◌, ℕ, ◌-◌, ◌≤◌, false, List, ◌++◌, length, take, drop, replicate}
use Rattle.std.proofs.Common.{sym, arith, length-take-le, take-append-drop}
use Rattle.app_api.specs.declared.changes.Change1.{Change1}

-- what stands behind the last change
abbrev pub blank : Change1
blank = record { reg = 0; on = false }

-- an array of four whose first `count` places are taken
pub record IsPadded (items : List Change1) (count : ℕ) : Type 0 where
  pub few : count ≤ 4
  pub whole : length items ≡ 4
  pub rest : drop count items ≡ replicate (4 - count) blank

-- changes as an array of four keeps them
abbrev pub padded : List Change1 → List Change1
padded changes = changes ++ replicate (4 - length changes) blank

-- the taken places and the blanks are the array
pub padded-take : (items : List Change1) (n : ℕ) → IsPadded items n → padded (take n items) ≡ items
padded-take items n h =
    let taken = length-take-le n items (omega arith) in
    rw taken (rw (sym h.rest) (take-append-drop n items))
