use Rattle.std.proofs.Common.{◌≡◌, ◌+◌, ◌<◌, ◌≤◌, arith, ◌∙◌, sym, length, rules, ⊎_elim}
use Rattle.std.proofs.lemmas.Bool.{eqb-false}
use Rattle.reassembly.specs.declared.window.Window.{Window}
use Rattle.reassembly.specs.Waiting.{runs_of, IsMet}
use Rattle.reassembly.specs.Window.{taken_tally}
use Rattle.reassembly.proofs.Taken.{IsTaken, cells_taken, held_taken, tally_taken, tally_alone, taken_few}
use Rattle.reassembly.proofs.window.Window.take.Goals as goal

some : (c : goal.After-drop-met-2) → 0 < length c.args.bytes.now
some c = let none : length c.args.bytes.now ≡ 0 → ⊥ = eqb-false (length c.args.bytes.now) 0 (sym c.if-is_empty.ensures) in omega arith

from_next : (c : goal.After-drop-met-2) → c.args.self.now.next ≤ c.args.low
from_next c = let l = some c in omega arith

abbrev after : (c : goal.After-drop-met-2) → Window
after c = record { next = c.accept.new.self.next; bytes = c.lay.new.self; runs = c.accept.new.self.runs }

met : (c : goal.After-drop-met-2) → IsMet (runs_of c.args.self.now.runs) c.args.low (c.args.low + length c.args.bytes.now) c.in_ok-met.met.items
met c = ⊎_elim (λ none. let l = some c in absurd (omega arith)) (λ m. m) c.in_ok-met.ensures.met

taken : (c : goal.After-drop-met-2) → IsTaken c.args.self.now c.meet.new.self.bytes c.in_ok-met.met.items (after c) c.args.low c.args.bytes.now c.args.policy
taken c =
    let same = c.accept.ensures.bytes in
    record {
      grown = c.meet.ensures.grown;
      place = rw same at c.lay.ensures.place;
      touching = met c;
      laid = rw (c.deref-2.ensures.value, same) at c.lay.ensures.laid;
      accepted = rw (c.meet.ensures.place.0, c.meet.ensures.place.1) at c.in_ok-accept.ensures.accepted;
    }

pub returns-clause-laid : goal.returns-clause-laid
returns-clause-laid c = record {
  keyed = c.lay.ensures.place.keyed;
  held = held_taken c.args.self.now c.meet.new.self.bytes c.in_ok-met.met.items (after c) c.args.low c.args.bytes.now c.args.policy c.requires.room.laid c.in_ok-met.ensures.ready (taken c);
  ordered = c.in_ok-accept.ensures.ordered;
  above = c.in_ok-accept.ensures.above;
}

pub returns-clause-cells : goal.returns-clause-cells
returns-clause-cells c p l =
    cells_taken c.args.self.now c.meet.new.self.bytes c.in_ok-met.met.items (after c) c.args.low c.args.bytes.now c.args.policy c.requires.room.laid (from_next c) (taken c) p l

judged : (c : goal.After-drop-met-2) → c.lay.result ≡ taken_tally c.args.self.now c.args.low c.args.bytes.now
judged c = (rw (c.deref-2.ensures.value, c.accept.ensures.bytes) at c.lay.ensures.judged)
    ∙ tally_taken c.args.self.now c.meet.new.self.bytes c.in_ok-met.met.items c.args.low c.args.bytes.now c.meet.ensures.grown (met c)

pub returns-clause-tally : goal.returns-clause-tally
returns-clause-tally c = judged c

pub returns-clause-few : goal.returns-clause-few
returns-clause-few c = taken_few c.args.self.now c.args.low c.args.bytes.now c.lay.result (judged c)

pub returns-then-is_empty-2-clause-tally : goal.returns-then-is_empty-2-clause-tally
returns-then-is_empty-2-clause-tally c =
    tally_alone c.args.self.now c.args.low c.args.bytes.now (search rules)
