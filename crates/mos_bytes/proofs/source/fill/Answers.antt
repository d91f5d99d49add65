-- Each read adds to the front of the buffer what it consumed.
use Rattle.std.proofs.Common.{rules, subst}
use Rattle.std.specs.Io.KnownBytes.{Consumes}
use Rattle.std.proofs.KnownBytes.{Consumes-trans}
use Rattle.mos_bytes.proofs.Moves.{front_grows}
use Rattle.mos_bytes.proofs.source.fill.Goals as goal

pub loop-filled-preserved : goal.loop-filled-preserved
loop-filled-preserved g c = record {
  within = search rules;
  consumed = subst (Consumes _ _) (front_grows _ _ _ _ _ c.loop-filled.invariant.within c.in_ok-count.ensures.bound.0)
      (Consumes-trans _ _ _ _ _ c.loop-filled.invariant.consumed c.in_ok-count.ensures.bytes.0);
  later = search rules;
  lasts = search rules;
}
