use Rattle.app_api.proofs.Padded.{IsPadded-set, IsPadded-room}
use Rattle.app_api.proofs.changes.Changes.add.Goals as goal

pub invariant_of-self : goal.invariant_of-self
invariant_of-self c =
    let s = c.self.inside in
    IsPadded-set s.items s.count c.args.c c.self.invariant
    (IsPadded-room s.items s.count c.args.self.now c.self.invariant c.self.view_is c.requires)
