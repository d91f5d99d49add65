-- By the definition.
use Rattle.std.proofs.lemmas.Bool.{cond-false}
use Rattle.pcapng_source.specs.Given.{whole}
use Rattle.pcapng_source.specs.Blocks.{any, is_pcapng}
use Rattle.pcapng_source.proofs.laws.other_files_are_given_as_they_are.Goals as goal

pub returns : goal.returns
unfolding any
returns c = λ bytes other. cond-false (is_pcapng bytes) _ (whole bytes) other
