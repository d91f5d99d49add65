use Rattle.std.proofs.Common.{◌≤◌, arith}
use Rattle.reassembly.specs.Laying.{differing_of}
use Rattle.reassembly.proofs.Counts.{count_below-le}
use Rattle.reassembly.proofs.laying.differing.Goals as goal

pub overflow_add-count : goal.overflow_add-count
overflow_add-count c =
    let few : differing_of c.args.kept.now c.args.segment.now c.loop-i.i ≤ c.loop-i.i = count_below-le _ c.loop-i.i in
    omega arith

pub returns-clause-bound : goal.returns-clause-bound
returns-clause-bound c =
    let few : differing_of c.args.kept.now c.args.segment.now c.loop-i.i ≤ c.loop-i.i = count_below-le _ c.loop-i.i in
    omega arith
