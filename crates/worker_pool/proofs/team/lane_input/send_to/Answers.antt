use Rattle.worker_pool.proofs.team.lane_input.send_to.Goals as goal

pub send_batch-requires-clause-input : goal.send_batch-requires-clause-input
send_batch-requires-clause-input g c =
    let given = c.requires.input in
    (given.0, given.1, c.flush.ensures.input given.0 given.1 given.2)

pub returns : goal.returns
returns g c = λ begin packets p. c.send_batch.ensures.input begin packets (c.flush.ensures.input begin packets p)
