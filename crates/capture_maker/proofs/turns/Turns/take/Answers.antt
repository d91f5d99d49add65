-- The turn that is taken stood in front of the others.
use Rattle.std.proofs.Common.{◌+◌, ◌*◌, ◌-◌, ◌<◌, ◌≤◌, min, drop, arith, sym, ◌∙◌}
use Rattle.capture_maker.specs.Turns.{all_steps}
use Rattle.capture_maker.proofs.Rest.{next_group, none_left, same_step}
use Rattle.capture_maker.proofs.turns.Turns.take.Goals as goal

pub returns-then-first-self-clause-turn : goal.returns-then-first-self-clause-turn
returns-then-first-self-clause-turn c =
    let t = c.self.inside in
    let none = c.if-first-self.true in
    let bounds = c.self.invariant in
    let empty = sym c.self.view_is ∙ none_left t.count t.group (drop t.step all_steps) t.connection (omega (arith, none)) (omega (arith, none, bounds)) in
    (empty, empty)

pub returns-then-self-first-clause-turn : goal.returns-then-self-first-clause-turn
returns-then-self-first-clause-turn c =
    let t = c.self.inside in
    let size = c.min.ensures in
    let tested = c.if-self-first.true in
    let bounds = c.self.invariant in
    let within : t.connection + 1 < 16 * t.group + min 16 (t.count - 16 * t.group) = omega (arith, size, tested) in
    sym c.self.view_is ∙ same_step t.count t.group t.step t.connection (omega (arith, bounds)) within

pub returns-else-self-lt10-clause-turn : goal.returns-else-self-lt10-clause-turn
returns-else-self-lt10-clause-turn c =
    let t = c.self.inside in
    let size = c.min.ensures in
    let tested = c.if-self-first.false in
    let more = c.if-first-self.false in
    let bounds = c.self.invariant in
    let within : t.connection < 16 * t.group + min 16 (t.count - 16 * t.group) = omega (arith, more, bounds) in
    let last : 16 * t.group + min 16 (t.count - 16 * t.group) ≤ t.connection + 1 = omega (arith, size, tested) in
    sym c.self.view_is ∙ next_group t.count t.group t.step t.connection (16 * t.group + 16) (omega (arith, bounds)) (omega (arith, c.if-self-lt10.false)) within last (omega arith)
