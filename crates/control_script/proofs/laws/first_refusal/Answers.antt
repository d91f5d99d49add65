use Rattle.control_script.proofs.FirstRefusals.{first-refusal}
use Rattle.control_script.proofs.laws.first_refusal.Goals as goal

pub returns : goal.returns
returns c = first-refusal
