use Rattle.reassembly.specs.Waiting.{runs_of}
use Rattle.reassembly.proofs.Added.{AreJoined, are_joined, added_ordered, added_covered, added_above, added_within}
use Rattle.reassembly.proofs.waiting.Runs.add.Goals.{After-remove_above}
use Rattle.reassembly.proofs.waiting.Runs.add.Goals as goal

joined : (c : After-remove_above) → AreJoined (runs_of c.args.self.now) (runs_of c.remove_above.new.self) c.args.low c.args.high c.joined-run.result
joined c = are_joined c.args.self.now.map c.insert.new.self c.remove_above.new.self.map c.args.met.now c.args.low c.args.high c.joined-run.result
    c.insert.ensures.was_ordered c.requires.ordered c.requires.some c.requires.met c.joined-run.ensures c.in_ok-insert.ensures.updates.0 c.remove_above.ensures

pub returns-clause-ordered : goal.returns-clause-ordered
returns-clause-ordered c = added_ordered _ _ _ _ _ (joined c)

pub returns-clause-covered : goal.returns-clause-covered
returns-clause-covered c p = added_covered _ _ _ _ _ (joined c) p

pub returns-clause-above : goal.returns-clause-above
returns-clause-above c m l above = added_above _ _ _ _ _ (joined c) m l above

pub returns-clause-within : goal.returns-clause-within
returns-clause-within c m l within = added_within _ _ _ _ _ (joined c) m l within
