use Rattle.std.proofs.Common.{refl}
use Rattle.worker_pool.specs.declared.job.PoolError.TheVariants.{ReadFault}
use Rattle.worker_pool.proofs.Source.{no_error, reads_less}
use Rattle.worker_pool.proofs.report.feed.ReportFeedFeed.send_packets.Goals as goal

pub returns : goal.returns
returns g c = record {
  dealt = λ begins inputs may.
      let dealt = c.in_ok-whole.ensures.dispatched begins inputs in
      record {
        frames = dealt.frames;
        few = dealt.few;
        inputs_are = dealt.inputs_are;
        done = (
          dealt.done,
          reads_less g.S.Source c.args.self.now.capture.now c.args.self.now.source.now c.dispatch.new.source (λ ok. ok) (λ fault. absurd (no_error _ ReadFault fault)) c.in_ok-whole.ensures.reads,
          refl,
          refl,
          c.dispatch.ensures.stopped,
        );
      };
}
