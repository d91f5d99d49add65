-- In which order the connections take their steps.
use Rattle.std.specs.Prelude.{ℕ, ◌+◌, ◌-◌, ◌*◌, ◌/◌, min, List, [], ◌∷◌, ◌++◌, map, flat_map}
use Rattle.std.specs.List.{range_with_len}
use Rattle.capture_maker.specs.declared.step.Step.{Step}
use Rattle.capture_maker.specs.declared.step.Step.TheVariants.{Syn, SynAck, Opened, Request, LateHalf, FirstHalf, Repeated, ClientFin, ServerFin, LastAck}
use Rattle.capture_maker.specs.declared.turns.Turn.{Turn}

-- the steps of a connection, in order
abbrev pub all_steps : List Step
all_steps = Syn ∷ SynAck ∷ Opened ∷ Request ∷ LateHalf ∷ FirstHalf ∷ Repeated ∷ ClientFin ∷ ServerFin ∷ LastAck ∷ []

-- a step of each of so many connections from this one on
abbrev pub step_turns : ℕ → ℕ → Step → List Turn
step_turns first count step = map (λ c. record { step = step; connection = c }) (range_with_len first count)

-- a group of connections: each step in order, and in it each connection in order
abbrev pub group_turns : ℕ → ℕ → List Turn
group_turns first count = flat_map (step_turns first count) all_steps

-- groups of 16 of n connections, from this group on; the last may be smaller
abbrev pub groups_from : ℕ → ℕ → List Turn
groups_from n group = flat_map (λ g. group_turns (16 * g) (min 16 (n - 16 * g))) (range_with_len group ((n + 15) / 16 - group))

-- the turns from a connection on where a group has these steps left: the rest of the first, the others, the further groups
abbrev pub turns_from : ℕ → ℕ → List Step → ℕ → List Turn
turns_from n group [] connection = groups_from n (group + 1)
turns_from n group (step ∷ further) connection =
    step_turns connection (16 * group + min 16 (n - 16 * group) - connection) step
    ++ flat_map (step_turns (16 * group) (min 16 (n - 16 * group))) further
    ++ groups_from n (group + 1)

-- the turns of n connections
unfoldable pub turns_of : ℕ → List Turn
turns_of n = groups_from n 0
