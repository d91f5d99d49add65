use Rattle.event_trees.proofs.Rows.{found-some, found-none}
use Rattle.event_trees.proofs.defs.Defs.find.Goals as goal

pub returns-in-Some : goal.returns-in-Some
returns-in-Some c = found-some c.self.inside.rows.items c.args.self.now c.args.number c.in-Some.row.now c.self.view_is (rw (← c.deref.ensures.value) c.in-Some.ensures)

pub returns-in-None : goal.returns-in-None
returns-in-None c = found-none c.self.inside.rows.items c.args.self.now c.args.number c.self.view_is (rw (← c.deref.ensures.value) c.in-None.ensures)
