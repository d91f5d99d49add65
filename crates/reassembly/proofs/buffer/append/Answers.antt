use Rattle.std.proofs.Common.{◌≡◌, ◌-◌, ◌++◌, arith, take, drop, rules}
use Rattle.reassembly.proofs.InOrder.{IsAppended, steps_in_order, counts_in_order}
use Rattle.reassembly.proofs.buffer.append.Goals as goal

appended : (c : goal.In_ok-extend_from_slice)
    → c.extend_from_slice.new.self.items ≡ c.args.bytes.now.items ++ take (c.count_under-within.result - c.count_under-below.result) (drop c.count_under-below.result c.args.segment.now)
    → IsAppended c.args.bytes.now c.extend_from_slice.new.self c.args.limit c.args.start c.args.segment.now c.count_under-below.result c.count_under-within.result
appended c items = record {
  old_laid = c.requires.ready.laid;
  from = c.requires.from;
  order = c.requires.order;
  below = omega arith;
  within = c.count_under-within.ensures;
  fits = omega arith;
  items = items;
}

pub returns-clause-placed : goal.returns-clause-placed
returns-clause-placed c policy = record {
  laid = search rules;
  sized = search rules;
  bounded = search rules;
  steps = λ fin.
      steps_in_order c.args.bytes.now c.extend_from_slice.new.self policy fin c.args.rbuf c.args.limit c.args.start c.args.segment.now
      c.count_under-below.result c.count_under-within.result (appended c (cc c.in_ok-extend_from_slice.ensures.items));
}

pub returns-clause-judged : goal.returns-clause-judged
returns-clause-judged c = record {
  counts = λ fin.
      counts_in_order c.args.bytes.now c.extend_from_slice.new.self fin c.args.rbuf c.args.limit c.args.start c.args.segment.now
      c.count_under-below.result c.count_under-within.result c.compare-differ.result (appended c (cc c.in_ok-extend_from_slice.ensures.items))
      (rw c.deref.ensures.value at c.compare-differ.ensures.value);
  bounds = search rules;
}
