use Rattle.std.proofs.Common.{◌≡◌, find, ap, ◌∙◌, rules, tests, arith}
use Rattle.std.specs.Option.{option_copied}
use Rattle.std.proofs.lemmas.Iterator.{YieldsList-from_slice}
use Rattle.std.proofs.lemmas.Iterator.Search.{find_from_yields_List}
use Rattle.app_firewall.specs.Decision.{decided_by, decision, matches}
use Rattle.app_firewall.proofs.First.{least, passing, none_passes, none_found}
use Rattle.app_firewall.proofs.decision.decide.Goals as goal

pub returns : goal.returns
returns c =
    let list = c.args.rules.now in
    let test = matches c.args.facts.now in
    let found : option_copied c.find.result ≡ find test list =
    find_from_yields_List test _ _ c.find.result c.find.ensures.ran (YieldsList-from_slice list cc) (λ x b q k. search (rules, tests)) in
    let same : c.decided_by.result ≡ decision list c.args.facts.now = c.decided_by.ensures ∙ ap decided_by found in
    record {
      decision = same;
      matching = rw same (passing test list);
      least = rw same (least test 1 list c.requires);
      none = rw same (none_passes test 1 list (omega arith) c.requires, none_found test list);
    }
