-- In a body.
use Rattle.std.proofs.Common.{◌≤◌, subst}
use Rattle.pcapng_source.specs.Reading.{skipped_at}
use Rattle.pcapng_source.proofs.Steps.{skips}
use Rattle.pcapng_source.proofs.reader.Reader.skip.Goals as goal

pub returns-in-Body-clause-rest : goal.returns-in-Body-clause-rest
returns-in-Body-clause-rest c = λ front left sized.
    skips c.args.self.now c.args.count front left c.in-Body.is (subst (λ s. c.args.count ≤ skipped_at s c.args.self.now) c.in-Body.is c.requires.few) sized
