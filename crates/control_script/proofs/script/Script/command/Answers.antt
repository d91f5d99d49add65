use Rattle.std.proofs.Common.{List, length, slice_get, refl, sym, ap, ◌∙◌}
use Rattle.std.proofs.lemmas.Bool.{ltb-true}
use Rattle.std.proofs.lemmas.Option.{slice_get_read}
use Rattle.control_script.specs.declared.script.Row.{Row}
use Rattle.control_script.specs.declared.stamped.Stamped.{Stamped}
use Rattle.control_script.specs.Order.{commands_of}
use Rattle.control_script.specs.Rows.{stamped_of}
use Rattle.control_script.proofs.Marks.{command-at}
use Rattle.control_script.proofs.script.Script.command.Goals as goal

pub returns-in-Some : goal.returns-in-Some
returns-in-Some c =
    let rows = c.deref.result.now in
    let place = c.args.place in
    let row = c.in-Some.row.now in
    let found = slice_get_read rows (length rows) place row refl (ltb-true place (length rows) (sym c.in-Some.ensures.lookup.0)) c.in-Some.ensures.lookup.1 in
    sym (command-at rows place row found)
    ∙ ap (λ (rs : List Row). slice_get (commands_of (stamped_of rs)) place) c.deref.ensures.value
    ∙ ap (λ (ss : List Stamped). slice_get (commands_of ss) place) c.self.view_is
