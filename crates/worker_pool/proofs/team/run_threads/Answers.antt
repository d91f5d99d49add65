use denote.Param.Send.{sendable}
use Rattle.worker_pool.proofs.team.run_threads.Goals as goal

pub scoped-requires : goal.scoped-requires
scoped-requires g c = record {
  at = λ a. (search sendable, (search sendable, (c.requires.starts, (c.requires.room, (c.requires.may, (search sendable, search sendable, search sendable, search sendable, search sendable))))));
}
