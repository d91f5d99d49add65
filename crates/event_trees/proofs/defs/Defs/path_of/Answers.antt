use Rattle.std.proofs.Common.{ap, sym, ◌∙◌, ◌++◌, [], ◌∷◌}
use Rattle.event_trees.proofs.Rows.{knows_rows, row-path, no-row_path, path-long}
use Rattle.event_trees.proofs.defs.Defs.path_of.Goals as goal

pub returns-in-Some-clause-path : goal.returns-in-Some-clause-path
returns-in-Some-clause-path c = row-path c.self.inside.rows.items c.args.self.now c.args.event c.in-Some.row.now c.self.view_is c.self.invariant.0 (rw (← c.deref.ensures.value) c.in-Some.ensures)

pub returns-in-Some-clause-short : goal.returns-in-Some-clause-short
returns-in-Some-clause-short c = (knows_rows c.self.inside.rows.items c.args.self.now c.self.view_is c.self.invariant.0).short c.args.event c.requires

pub returns-in-Some-clause-long : goal.returns-in-Some-clause-long
returns-in-Some-clause-long c = path-long c.args.self.now c.args.event (knows_rows c.self.inside.rows.items c.args.self.now c.self.view_is c.self.invariant.0) c.requires

pub returns-in-None-clause-path : goal.returns-in-None-clause-path
returns-in-None-clause-path c = c.with.ensures ∙ (ap (λ l. l ++ c.args.event ∷ []) c.empty.ensures
    ∙ sym (no-row_path c.self.inside.rows.items c.args.self.now c.args.event c.self.view_is (rw (← c.deref.ensures.value) c.in-None.ensures)))

pub returns-in-None-clause-short : goal.returns-in-None-clause-short
returns-in-None-clause-short c = (knows_rows c.self.inside.rows.items c.args.self.now c.self.view_is c.self.invariant.0).short c.args.event c.requires

pub returns-in-None-clause-long : goal.returns-in-None-clause-long
returns-in-None-clause-long c = path-long c.args.self.now c.args.event (knows_rows c.self.inside.rows.items c.args.self.now c.self.view_is c.self.invariant.0) c.requires
