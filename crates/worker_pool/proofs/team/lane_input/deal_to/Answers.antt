use Rattle.worker_pool.proofs.team.lane_input.deal_to.Goals as goal

pub flush_due-requires : goal.flush_due-requires
flush_due-requires g c =
    let given = c.requires.input in
    record { input = (given.0, _, c.in_ok-add_to.ensures.added given.0 given.1 given.2) }

pub returns-clause-dealt : goal.returns-clause-dealt
returns-clause-dealt g c = λ begin packets p. c.flush_due.ensures.kept begin _ (c.in_ok-add_to.ensures.added begin packets p)
