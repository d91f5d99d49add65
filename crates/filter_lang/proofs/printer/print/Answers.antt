use Rattle.std.proofs.Common.{◌≡◌, ◌++◌, ap, ◌∙◌}
use Rattle.std.specs.Prelude.{string_bytes}
use Rattle.filter_lang.specs.Grammar.{filter}
use Rattle.filter_lang.specs.Printed.{printed}
use Rattle.filter_lang.specs.Shape.{shape}
use Rattle.filter_lang.proofs.Reading.{filter-printed}
use Rattle.filter_lang.proofs.printer.print.Goals as goal

pub returns-clause-again : goal.returns-clause-again
returns-clause-again c = λ deep.
    let text : string_bytes c.write_term.new.out ≡ printed c.args.e.now =
    c.in_ok-write_term.ensures ∙ ap (λ b. b ++ printed (shape c.term.result.now)) c.new-out.ensures.bytes ∙ ap printed c.term.ensures.shape in
    ap filter text ∙ filter-printed c.args.e.now c.term.ensures.within deep
