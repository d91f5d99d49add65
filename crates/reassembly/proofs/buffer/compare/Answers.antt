use Rattle.std.proofs.Common.{◌-◌, ◌∙◌, arith, length}
use Rattle.reassembly.proofs.InOrder.{compared}
use Rattle.reassembly.proofs.buffer.compare.Goals as goal

pub returns-clause-value : goal.returns-clause-value
returns-clause-value c = c.differing.ensures.value
    ∙ compared (length c.args.bytes.now - c.args.rbuf) c.args.start c.count_under-skip.result c.args.bytes.now c.args.segment.now (omega arith) c.requires.within
