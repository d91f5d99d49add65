use Rattle.std.proofs.Common.{◌∙◌, ⊎_elim, arith}
use Rattle.mos_bytes.proofs.Causes.{Rose-earlier, Rose-later}
use Rattle.worker_pool.proofs.Source.{reads_less}
use Rattle.forward_dispatch.proofs.Ending.{ends_early}
use Rattle.forward_dispatch.proofs.dispatch.Dealing.stream.Goals as goal

pub returns-clause-streamed : goal.returns-clause-streamed
returns-clause-streamed g c = λ begins before s l.
    let read = c.read_all-read.ensures.read begins before s l in
    c.conclude.ensures.streamed begins read.0 c.args.capture.now (g.S.Source.left c.args.source.now) (g.S.Source.left c.read_all-read.new.source) before read.1

pub returns-clause-on_their_way : goal.returns-clause-on_their_way
returns-clause-on_their_way g c = let few = c.read_all-read.ensures.on_their_way in let later = c.conclude.ensures.later in omega (arith, few, later)

pub returns-clause-outside : goal.returns-clause-outside
returns-clause-outside g c =
    let on = c.read_all-read.ensures.outside in
    let then = c.conclude.ensures in
    let first = g.O.Sink.faults c.args.out.now in
    let mid = g.O.Sink.faults c.read_all-read.new.out in
    let last = g.O.Sink.faults c.conclude.new.out in
    record {
      reads = reads_less g.S.Source c.args.capture.now c.args.source.now c.read_all-read.new.source then.ok then.read_fault on.reads;
      writes = record {
        cause = record {
          later = let before = on.writes.cause.later in let more = then.faults in omega (arith, before, more);
          cause = λ fault. ⊎_elim
              (λ w. Rose-later first mid last (on.writes.cause.cause w) then.faults)
              (λ rose. Rose-earlier first mid last on.writes.cause.later rose)
              (then.write_fault fault);
        };
        lasts = then.lasts ∙ on.writes.lasts;
      };
      stopped = λ live. let stopped = on.stopped live in (ends_early c.read_all-read.result c.conclude.result then.error stopped.0, stopped.1);
    }
