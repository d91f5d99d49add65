use Rattle.std.proofs.Common.{ap, ◌∷◌, []}
use Rattle.app_firewall.specs.Decision.{decision}
use Rattle.app_firewall.specs.Laws.{allow_any}
use Rattle.app_firewall.specs.Firewall.{firewall}
use Rattle.app_firewall.proofs.Anywhere.{allowed, passes}
use Rattle.app_firewall.proofs.laws.allow_any_refuses_no_connection.Goals as goal

pub returns : goal.returns
unfolding firewall
returns c number t call fields orphan =
    passes t call (decision (allow_any number ∷ []) call.facts) (ap (λ d. d.0) (allowed number call.facts fields)) orphan
