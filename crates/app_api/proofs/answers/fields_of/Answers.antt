use Rattle.std.proofs.Common.{sym, ◌∙◌, ap, arith}
use Rattle.std.proofs.lemmas.List.{take_all}
use Rattle.app_api.specs.App.{field_shown}
use Rattle.app_api.proofs.Taken.{take-get_some, take-get_none}
use Rattle.app_api.proofs.answers.fields_of.Goals as goal
use Rattle.app_api.proofs.answers.fields_of.Goals.{else-loop-place-test, then-loop-place-test+in_default}

pub loop-place-preserved : goal.loop-place-preserved
loop-place-preserved g c =
    let fields = (g.A.App.meaning c.args.app.now).fields c.args.t.now in
    let step = take-get_some fields c.loop-place.place (c.in-Some.name.now, c.in-Some.value) (sym c.field.ensures ∙ ap field_shown c.in-Some.is) in
    cc (step, c.in_ok-push.ensures.items, c.in_ok-bytes_of.ensures)

pub returns : goal.returns
returns g c =
    let law = g.met.A.App.lawful c.args.app.now in
    let fields = (g.A.App.meaning c.args.app.now).fields c.args.t.now in
    let place = c.loop-place.place in
    elim c.loop-place-test.branch [
      | else-loop-place-test w ↦ cc (c.loop-place.invariant, take_all place fields (omega (arith, law.few c.args.t.now, w.loop-place-test.false)))
      | then-loop-place-test+in_default w ↦ cc (c.loop-place.invariant, take-get_none fields place (sym w.field.ensures ∙ ap field_shown w.in_default.is))
    ]
