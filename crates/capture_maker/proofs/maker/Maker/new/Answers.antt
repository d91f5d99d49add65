-- The header stands in front of all records.
use Rattle.std.proofs.Common.{◌++◌, length, arith, ap, ◌∙◌}
use Rattle.capture_maker.specs.Made.{global_header, made, packet_records}
use Rattle.capture_maker.specs.Turns.{turns_of}
use Rattle.capture_maker.proofs.Sizes.{length-turns_of}
use Rattle.capture_maker.proofs.maker.Maker.new.Goals as goal

pub invariant_of-result : goal.invariant_of-result
invariant_of-result c = record {
  few = c.requires;
  within = omega arith;
  rest = omega (arith, ap length c.new.ensures, length-turns_of c.args.n, c.requires);
}

pub returns : goal.returns
unfolding made global_header
returns c =
    ap (λ turns. record { count = c.args.n; left = c.put.new.self ++ packet_records 0 turns }) c.new.ensures
    ∙ ap (λ piece. record { count = c.args.n; left = piece ++ packet_records 0 (turns_of c.args.n) }) (c.put.ensures.bytes ∙ ap (λ l. l ++ global_header) c.new-piece.ensures)
