use Rattle.std.proofs.Common.{None, ◌<◌, ◌∙◌, ap, length, arith}
use Rattle.std.proofs.lemmas.Bool.Decides.{nat_tests}
use Rattle.control_script.specs.declared.script.Row.{Row}
use Rattle.control_script.proofs.Marks.{last-marks}
use Rattle.control_script.proofs.script.last.Goals as goal

pub returns-clause-latest : goal.returns-clause-latest
returns-clause-latest c =
    let some : 0 < length c.args.rows.now = grind (arith, nat_tests) in
    let row = c.index-rows-rows in
    ap (λ (r : Row). r.latest) row.is ∙ (last-marks None 0 c.args.rows.now row.result some).0

pub returns-clause-forced : goal.returns-clause-forced
returns-clause-forced c =
    let some : 0 < length c.args.rows.now = grind (arith, nat_tests) in
    let row = c.index-rows-rows in
    ap (λ (r : Row). r.forced) row.is ∙ (last-marks None 0 c.args.rows.now row.result some).1
