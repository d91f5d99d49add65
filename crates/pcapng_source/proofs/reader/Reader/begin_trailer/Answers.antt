-- Where all of them pad the data.
use Rattle.pcapng_source.proofs.Steps.{skips-body}
use Rattle.std.proofs.Common.{arith, rules}
use Rattle.pcapng_source.proofs.reader.Reader.begin_trailer.Goals as goal

pub returns-else-self-eq0 : goal.returns-else-self-eq0
returns-else-self-eq0 c = record {
  rest = λ left. let behind = c.requires.border.behind in
      skips-body c.args.self.now c.min-padding.result c.args.bytes.now left behind.stage behind.owed (omega arith) (omega arith);
  unmet = search rules;
}
