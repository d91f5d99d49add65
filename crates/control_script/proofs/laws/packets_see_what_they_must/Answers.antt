use Rattle.control_script.proofs.FirstRefusals.{sees, unstamped}
use Rattle.control_script.proofs.laws.packets_see_what_they_must.Goals as goal

pub returns-clause-sees : goal.returns-clause-sees
returns-clause-sees c = sees

pub returns-clause-unstamped : goal.returns-clause-unstamped
returns-clause-unstamped c = unstamped
