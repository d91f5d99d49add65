-- The turns that are left, one after another.
use Rattle.std.proofs.Common.{◌≡◌, ℕ, suc, ◌+◌, ◌-◌, ◌*◌, ◌/◌, ◌<◌, ◌≤◌, min, List, [], ◌∷◌, ◌++◌, drop, get_or, flat_map, refl, sym, ap, ◌∙◌, arith, add-one, inl, inr}
use Rattle.std.proofs.lemmas.Bool.{cases_lt}
use Rattle.std.proofs.lemmas.List.{drop_all}
use Rattle.std.proofs.Math.Seq.{drop-cons}
use Rattle.std.specs.List.{range_with_len}
use Rattle.capture_maker.specs.Turns.{group_turns, groups_from, step_turns, all_steps, turns_from, turns_of}
use Rattle.capture_maker.specs.declared.step.Step.{Step}
use Rattle.capture_maker.specs.declared.step.Step.TheVariants.{Syn}
use Rattle.capture_maker.specs.declared.turns.Turn.{Turn}

-- no connection takes no step
no_turns : (first count : ℕ) (xs : List Step) → count ≡ 0 → flat_map (step_turns first count) xs ≡ []
no_turns first count [] none = refl
no_turns first count (x ∷ xs) none = ap (λ k. step_turns first k x ++ flat_map (step_turns first count) xs) none ∙ no_turns first count xs none

-- no group behind the last connection
no_groups : (n g : ℕ) → n ≤ 16 * g → groups_from n g ≡ []
no_groups n g behind =
    let none : (n + 15) / 16 - g ≡ 0 = omega arith in
    ap (λ k. flat_map (λ h. group_turns (16 * h) (min 16 (n - 16 * h))) (range_with_len g k)) none

-- no turn behind the last connection
pub none_left : (n g : ℕ) (left : List Step) (c : ℕ) → n ≤ 16 * g → c ≡ 16 * g → turns_from n g left c ≡ []
none_left n g [] c behind is = no_groups n (g + 1) (omega arith)
none_left n g (step ∷ further) c behind is =
    let none : 16 * g + min 16 (n - 16 * g) - c ≡ 0 = omega arith in
    let size : min 16 (n - 16 * g) ≡ 0 = omega arith in
    ap (λ k. step_turns c k step ++ flat_map (step_turns (16 * g) (min 16 (n - 16 * g))) further ++ groups_from n (g + 1)) none
    ∙ ap (λ l. l ++ groups_from n (g + 1)) (no_turns (16 * g) (min 16 (n - 16 * g)) further size)
    ∙ no_groups n (g + 1) (omega arith)

-- the turns of a group's steps from its first connection on
next_step : (n g : ℕ) (left : List Step) → turns_from n g left (16 * g) ≡ flat_map (step_turns (16 * g) (min 16 (n - 16 * g))) left ++ groups_from n (g + 1)
next_step n g [] = refl
next_step n g (step ∷ further) =
    let size = min 16 (n - 16 * g) in
    let all : 16 * g + size - 16 * g ≡ size = omega arith in
    ap (λ k. step_turns (16 * g) k step ++ flat_map (step_turns (16 * g) size) further ++ groups_from n (g + 1)) all

-- a group begins with all steps of its first connection
group_begins : (n g : ℕ) → 16 * g < n → turns_from n g all_steps (16 * g) ≡ groups_from n g
group_begins n g some =
    let more : (n + 15) / 16 - g ≡ suc ((n + 15) / 16 - (g + 1)) = omega arith in
    next_step n g all_steps
    ∙ sym (ap (λ k. flat_map (λ h. group_turns (16 * h) (min 16 (n - 16 * h))) (range_with_len g k)) more)

pub group_turns_begin : (n g : ℕ) → turns_from n g all_steps (16 * g) ≡ groups_from n g
group_turns_begin n g = elim (cases_lt (16 * g) n) [
  | inl some ↦ group_begins n g some
  | inr none ↦ none_left n g all_steps (16 * g) none refl ∙ sym (no_groups n g none)
]

pub all_turns : (n : ℕ) → turns_from n 0 all_steps 0 ≡ turns_of n
unfolding turns_of
all_turns n = group_turns_begin n 0

-- the steps from a place on
steps_from : (place : ℕ) → place < 10 → drop place all_steps ≡ get_or all_steps place Syn ∷ drop (place + 1) all_steps
steps_from place few = drop-cons all_steps place Syn few ∙ ap (λ k. get_or all_steps place Syn ∷ drop k all_steps) (sym (add-one place))

-- the next turn is gone: another connection of the group takes the step
pub same_step : (n g place c : ℕ) → place < 10 → c + 1 < 16 * g + min 16 (n - 16 * g)
    → turns_from n g (drop place all_steps) c ≡ record { step = get_or all_steps place Syn; connection = c } ∷ turns_from n g (drop place all_steps) (c + 1)
same_step n g place c few within =
    let step = get_or all_steps place Syn in
    let further = drop (place + 1) all_steps in
    let more : 16 * g + min 16 (n - 16 * g) - c ≡ suc (16 * g + min 16 (n - 16 * g) - (c + 1)) = omega arith in
    ap (λ l. turns_from n g l c) (steps_from place few)
    ∙ ap (λ k. step_turns c k step ++ flat_map (step_turns (16 * g) (min 16 (n - 16 * g))) further ++ groups_from n (g + 1)) more
    ∙ sym (ap (λ l. record { step = step; connection = c } ∷ turns_from n g l (c + 1)) (steps_from place few))

-- the last connection of the group has taken the step: the group goes on with its other steps
pub next_of_group : (n g place c : ℕ) → place < 10 → c < 16 * g + min 16 (n - 16 * g) → 16 * g + min 16 (n - 16 * g) ≤ c + 1
    → turns_from n g (drop place all_steps) c ≡ record { step = get_or all_steps place Syn; connection = c } ∷ turns_from n g (drop (place + 1) all_steps) (16 * g)
next_of_group n g place c few within last =
    let step = get_or all_steps place Syn in
    let further = drop (place + 1) all_steps in
    let one : 16 * g + min 16 (n - 16 * g) - c ≡ 1 = omega arith in
    ap (λ l. turns_from n g l c) (steps_from place few)
    ∙ ap (λ k. step_turns c k step ++ flat_map (step_turns (16 * g) (min 16 (n - 16 * g))) further ++ groups_from n (g + 1)) one
    ∙ sym (ap (λ l. record { step = step; connection = c } ∷ l) (next_step n g further))

-- it was the group's last step: the next group begins
pub next_group : (n g place c first : ℕ) → place < 10 → 10 ≤ place + 1 → c < 16 * g + min 16 (n - 16 * g) → 16 * g + min 16 (n - 16 * g) ≤ c + 1 → first ≡ 16 * (g + 1)
    → turns_from n g (drop place all_steps) c ≡ record { step = get_or all_steps place Syn; connection = c } ∷ turns_from n (g + 1) all_steps first
next_group n g place c first few all within last is =
    let turn : Turn = record { step = get_or all_steps place Syn; connection = c } in
    next_of_group n g place c few within last
    ∙ ap (λ l. turn ∷ turns_from n g l (16 * g)) (drop_all (place + 1) all_steps all)
    ∙ ap (λ l. turn ∷ l) (sym (group_turns_begin n (g + 1)))
    ∙ ap (λ k. turn ∷ turns_from n (g + 1) all_steps k) (sym is)
