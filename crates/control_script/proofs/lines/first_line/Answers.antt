use Rattle.std.proofs.Common.{◌≡◌, suc, drop, ap, arith}
use Rattle.control_script.proofs.Texts.{cut-line, behind-end}
use Rattle.control_script.proofs.lines.first_line.Goals as goal
use Rattle.control_script.proofs.lines.first_line.Goals.{then-end-text, else-end-text}

pub returns-clause-lines : goal.returns-clause-lines
returns-clause-lines c =
    let text = c.args.text.now in
    let end = c.place_of-end.result in
    let behind = c.if-end-text.behind in
    cut-line text end behind c.requires.some c.place_of-end.ensures.value
    (elim c.if-end-text.branch [
      | then-end-text w ↦ (let next : behind ≡ suc end = omega arith in ap (λ k. drop k text) next)
      | else-end-text w ↦
          behind-end text end behind (omega arith) (omega arith)
    ])
