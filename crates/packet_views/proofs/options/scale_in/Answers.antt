use Rattle.std.proofs.Common.{arith, ◌∙◌}
use Rattle.packet_views.proofs.Walk.{scale_after-passed}
use Rattle.packet_views.proofs.options.scale_in.Goals as goal

pub loop-at-preserved : goal.loop-at-preserved
loop-at-preserved c =
    let passed = c.in_ok-len-in_default.ensures in (
      omega arith,
      scale_after-passed c.args.options.now c.loop-at.at c.in_ok-len-in_default.len (omega arith) (omega arith) (omega arith)
          passed.some passed.len passed.low c.else-kind-eq-WINDOW_SCALE.either
          ∙ c.loop-at.invariant.1,
    )
