use Rattle.std.proofs.Common.{refl, inl, ⊎_elim, inr}
use Rattle.worker_pool.specs.declared.job.PoolError.TheVariants.{WriteFault}
use Rattle.worker_pool.proofs.Source.{no_value}
use Rattle.forward_dispatch.proofs.Ending.{how, ok_settled, when_ok, ends_ok, ends_stops, ends_read_fault, ends_write_fault, ends_error, told_cut, told_settled}
use Rattle.forward_dispatch.proofs.dispatch.Dealing.conclude.Goals as goal

pub returns-then-is_write_fault-clause-streamed : goal.returns-then-is_write_fault-clause-streamed
returns-then-is_write_fault-clause-streamed g c = λ begins frames start first left before r.
    told_cut g.L.Recorder c.args.context.now.script.now begins frames start first left before (g.O.Sink.taken c.args.out.now) (g.O.Sink.taken c.args.out.now) c.args.self.now c.args.read r
    (c.is_write_fault.ensures.fault c.if-is_write_fault.true)

pub returns-then-is_write_fault-clause-error : goal.returns-then-is_write_fault-clause-error
returns-then-is_write_fault-clause-error g c = ends_error {fault = ⊥} c.args.read c.args.read (inl refl)

pub returns-clause-streamed : goal.returns-clause-streamed
returns-clause-streamed g c = λ begins frames start first left before r.
    let read = c.args.read in
    let settled = c.settle-settled.result in
    let result = c.ended_with.result in
    let e = c.ended_with.ensures in
    let ends = how read settled result e.well e.fault e.other e.only c.settle-settled.ensures.only in
    told_settled g.L.Recorder c.args.context.now.script.now begins frames start first left before (g.O.Sink.taken c.args.out.now) (g.O.Sink.taken c.settle-settled.new.out) c.args.self.now read r
    c.settle-settled.new.self result (c.is_write_fault.ensures.other c.if-is_write_fault.false) c.settle-settled.ensures.settles
    (λ ok is. no_value WriteFault settled is (ok_settled read settled result e.fault e.other e.only c.settle-settled.ensures.only ok))
    (λ ok. when_ok settled c.settle-settled.ensures.few (ok_settled read settled result e.fault e.other e.only c.settle-settled.ensures.only ok))
    (ends_stops read result frames start first left ends r.stops)

pub returns-clause-ok : goal.returns-clause-ok
returns-clause-ok g c =
    let e = c.ended_with.ensures in
    ends_ok c.args.read c.ended_with.result (how c.args.read c.settle-settled.result c.ended_with.result e.well e.fault e.other e.only c.settle-settled.ensures.only)

pub returns-clause-error : goal.returns-clause-error
returns-clause-error g c =
    let e = c.ended_with.ensures in
    ends_error c.args.read c.ended_with.result (how c.args.read c.settle-settled.result c.ended_with.result e.well e.fault e.other e.only c.settle-settled.ensures.only)

pub returns-clause-read_fault : goal.returns-clause-read_fault
returns-clause-read_fault g c =
    let e = c.ended_with.ensures in
    ends_read_fault c.args.read c.ended_with.result (how c.args.read c.settle-settled.result c.ended_with.result e.well e.fault e.other e.only c.settle-settled.ensures.only)

pub returns-clause-write_fault : goal.returns-clause-write_fault
returns-clause-write_fault g c = λ is.
    let e = c.ended_with.ensures in
    ⊎_elim (λ w. inl w) (λ w. inr (c.settle-settled.ensures.writes.cause.cause w))
    (ends_write_fault c.args.read c.ended_with.result (how c.args.read c.settle-settled.result c.ended_with.result e.well e.fault e.other e.only c.settle-settled.ensures.only) is)
