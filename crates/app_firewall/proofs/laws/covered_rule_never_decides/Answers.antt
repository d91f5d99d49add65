use Rattle.std.proofs.Common.{◌≡◌, ◌++◌, ◌∷◌, ap, arith}
use Rattle.app_firewall.specs.Decision.{decision, decided_by, matches}
use Rattle.app_firewall.specs.Firewall.{firewall, reaction_to}
use Rattle.app_firewall.proofs.Skipped.{found, skipped, never}
use Rattle.app_firewall.proofs.laws.covered_rule_never_decides.Goals as goal

pub returns-clause-never : goal.returns-clause-never
returns-clause-never c before after wide narrow rise there covers facts =
    never (matches facts) 1 before after narrow rise (omega arith)
    (λ m. found (matches facts) before there.0 wide there.1 there.2 (covers facts m))

pub returns-clause-without : goal.returns-clause-without
unfolding firewall
returns-clause-without c before after wide narrow there covers t call =
    let test = matches call.facts in
    let same : decision (before ++ narrow ∷ after) call.facts ≡ decision (before ++ after) call.facts =
    ap decided_by (skipped test before after narrow
    (λ m. found test before there.0 wide there.1 there.2 (covers call.facts m))) in
    ap (reaction_to t call) same
