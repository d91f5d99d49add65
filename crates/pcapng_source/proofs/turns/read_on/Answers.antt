-- A step that failed.
use Rattle.std.proofs.Common.{arith, rules}
use Rattle.std.proofs.lemmas.Grind.{common_steps}
use Rattle.pcapng_source.proofs.turns.read_on.Goals as goal

pub returns-in_err-count : goal.returns-in_err-count
returns-in_err-count g c = record {
  bound = search rules;
  gives = search rules;
  ends = search rules;
  cause = search rules;
  met = search rules;
  failed = grind (arith, common_steps);
  leaves = search rules;
}
