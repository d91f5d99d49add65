use Rattle.std.proofs.lemmas.Result.{IfOk-weaker}
use Rattle.reassembly.proofs.Listed.{met_between}
use Rattle.reassembly.proofs.waiting.Runs.touching.Goals as goal

pub returns : goal.returns
returns c = IfOk-weaker c.copied.result _ _
    (λ met e. rw e.0 (met_between c.args.self.now.map.entries c.first_touching.result c.args.low c.args.high c.requires.ordered
    c.first_touching.ensures.from c.first_touching.ensures.before c.first_touching.ensures.after (rw e.0 at e.1)))
    c.copied.ensures
