use Rattle.std.proofs.Common.{arith}
use Rattle.std.proofs.lemmas.Grind.{common_steps}
use Rattle.lane_rings.proofs.Windows.{moved_numbered, first_index}
use Rattle.lane_rings.proofs.resequencer.Resequencer.next.Goals as goal

-- src/resequencer.rt:106:9
pub invariant_of-self-inside-2 : goal.invariant_of-self-inside-2
invariant_of-self-inside-2 c =
    let numbered = moved_numbered c.self.inside.next c.self.inside.window.items c.self.inside.numbered in
    let index = first_index c.self.inside.next c.self.inside.window.items c.self.inside.numbered in
    grind (arith, common_steps, numbered, index, c.front_mut.ensures.value, c.take.ensures.value, c.take.ensures.after, c.rotate_left.ensures.items)

-- src/resequencer.rt:98:5
pub returns-clause-index : goal.returns-clause-index
returns-clause-index c =
    let index = first_index c.self.inside.next c.self.inside.window.items c.self.inside.numbered in
    grind (arith, common_steps, index, c.self.view_is, c.front_mut.ensures.value, c.take.ensures.value)
