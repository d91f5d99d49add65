use Rattle.reassembly.proofs.Again.{few_in}
use Rattle.reassembly.proofs.Laid.{IsFew}
use Rattle.std.proofs.Common.{length}
use Rattle.reassembly.proofs.window.Window.repeat.Goals as goal

few : (c : goal.After-lay) → IsFew c.lay.result (length c.args.bytes.now)
few c = few_in c.args.self.now c.args.met.now c.args.low c.args.bytes.now c.lay.result c.lay.ensures.judged

pub returns-clause-new : goal.returns-clause-new
returns-clause-new c = (few c).new

pub returns-clause-few : goal.returns-clause-few
returns-clause-few c = ((few c).old, (few c).differ)
