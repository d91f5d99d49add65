use denote.Param.Send.{sendable}
use Rattle.std.proofs.Common.{rules}
use Rattle.worker_pool.proofs.team.fn.run_threads.scope+FnOnce.call_once.Goals as goal

pub scope-requires : goal.scope-requires
scope-requires g c = (search sendable, (search sendable, (search sendable, (search sendable, search rules))))
