-- What was read is given.
use Rattle.std.proofs.Common.{take, arith, rules, length-take-le}
use Rattle.std.proofs.lemmas.Grind.{common_steps}
use Rattle.pcapng_source.proofs.Going.{Gives-read}
use Rattle.pcapng_source.proofs.turns.give.Goals as goal

pub returns : goal.returns
returns g c = record {
  bound = search rules;
  gives =
      let front = take c.in_ok-count.count c.read.new.buf in
      Gives-read c.args.reader.now c.gave.new.self _ _ front c.in_ok-count.ensures.bytes.0
      (λ left. c.gave.ensures.rest front left (length-take-le c.in_ok-count.count c.read.new.buf c.in_ok-count.ensures.bound.0));
  ends = grind (arith, common_steps);
  cause = search rules;
  met = search rules;
  failed = search rules;
  leaves = search rules;
}
