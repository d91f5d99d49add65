use Rattle.event_trees.proofs.Paths.{path-unfound}
use Rattle.event_trees.proofs.Rows.{knows_rows}
use Rattle.event_trees.proofs.defs.Defs.paths.Goals as goal

pub returns-clause-root : goal.returns-clause-root
returns-clause-root c = λ event h. path-unfound c.args.self.now event h

pub returns-clause-defined : goal.returns-clause-defined
returns-clause-defined c = (knows_rows c.self.inside.rows.items c.args.self.now c.self.view_is c.self.invariant.0).law

pub returns-clause-len : goal.returns-clause-len
returns-clause-len c = (knows_rows c.self.inside.rows.items c.args.self.now c.self.view_is c.self.invariant.0).short
