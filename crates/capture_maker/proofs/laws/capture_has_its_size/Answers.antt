use Rattle.capture_maker.proofs.Sizes.{length-made}
use Rattle.capture_maker.proofs.laws.capture_has_its_size.Goals as goal

pub returns : goal.returns
returns c = length-made
