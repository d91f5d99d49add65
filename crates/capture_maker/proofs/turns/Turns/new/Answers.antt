use Rattle.capture_maker.proofs.Rest.{all_turns}
use Rattle.capture_maker.proofs.turns.Turns.new.Goals as goal

pub returns : goal.returns
returns c = all_turns c.args.count
