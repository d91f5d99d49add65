-- One more position.
use Rattle.std.proofs.Common.{◌+◌, ◌∷◌, [], ◌++◌, map, refl, ap, sym, ◌∙◌, arith, append_assoc}
use Rattle.std.proofs.lemmas.List.FromFn.{map-range_with_len_more}
use Rattle.std.specs.List.{range_with_len}
use Rattle.capture_maker.specs.Table.{byte_of}
use Rattle.capture_maker.proofs.record.put_payload.Goals as goal

pub loop-i-preserved : goal.loop-i-preserved
loop-i-preserved c =
    let at = byte_of c.args.segment.now.sender c.args.connection in
    let first = c.args.segment.now.first in
    record {
      bytes = c.put.ensures.bytes ∙ ap (λ b. c.loop-i.piece ++ b ∷ []) c.sent_byte.ensures
          ∙ ap (λ l. l ++ at (first + c.loop-i.i) ∷ []) c.loop-i.invariant.bytes
          ∙ append_assoc c.args.piece.now (map at (range_with_len first c.loop-i.i)) (at (first + c.loop-i.i) ∷ [])
          ∙ ap (λ l. c.args.piece.now ++ l) (sym (map-range_with_len_more at first c.loop-i.i (first + c.loop-i.i) refl));
      len = let added = c.put.ensures.len in let held = c.loop-i.invariant.len in omega (arith, added, held);
    }
