use Rattle.std.proofs.Common.{◌++◌, take, get_or, ap, ◌∙◌, sym}
use Rattle.std.specs.Prelude.{string_bytes}
use Rattle.std.proofs.lemmas.List.{take_more}
use Rattle.filter_lang.specs.declared.term.Atom.TheVariants.{Fact}
use Rattle.filter_lang.specs.declared.term.Join.TheVariants.{Plus}
use Rattle.filter_lang.specs.declared.term.Join.{Join}
use Rattle.filter_lang.specs.declared.term.Atom.{Atom}
use Rattle.filter_lang.specs.Printed.{join_text, atom_text, steps_text}
use Rattle.filter_lang.proofs.Printing.{sum_push}
use Rattle.filter_lang.proofs.printer.write_sum.Goals as goal

pub loop-step-preserved : goal.loop-step-preserved
loop-step-preserved c =
    let l = c.loop-step in
    let i = l.step-index in
    let xs = c.as_slice-step-items.result.now in
    let old = string_bytes c.args.out.now in
    let first = atom_text c.args.sum.now.first in
    let none : Join × Atom = (Plus, Fact 0) in
    let x = get_or xs i none in
    c.in_ok-write_step.ensures ∙ ap (λ b. b ++ (join_text x.0 ++ atom_text x.1)) l.invariant
    ∙ sum_push old first (take i xs) x ∙ ap (λ ys. old ++ (first ++ steps_text ys)) (sym (take_more xs i none c.loop-step-test.true))
