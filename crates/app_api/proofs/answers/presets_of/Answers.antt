use Rattle.std.proofs.Common.{sym, ◌∙◌, ap, arith}
use Rattle.std.proofs.lemmas.Bool.{and_parts}
use Rattle.std.proofs.lemmas.Grind.{common_steps}
use Rattle.app_api.proofs.ByNumber.{front, listed, front-none, front-add, front-all}
use Rattle.app_api.proofs.answers.presets_of.Goals as goal
use Rattle.app_api.proofs.answers.presets_of.Goals.{in-Some+in_ok-push, in_default}

pub loop-number-init : goal.loop-number-init
loop-number-init g c =
    let law = g.met.A.App.lawful c.args.app.now in
    c.new-presets.ensures.items ∙ sym (front-none 1 1 (g.A.App.meaning c.args.app.now).presets law.by_number (omega arith))

pub loop-number-preserved : goal.loop-number-preserved
loop-number-preserved g c =
    let law = g.met.A.App.lawful c.args.app.now in
    let step = front-add 1 c.loop-number.number (g.A.App.meaning c.args.app.now).presets law.by_number in
    elim c.match-preset.branch [
      | in-Some+in_ok-push w ↦
          cc (step, w.in_ok-push.ensures.items, ap listed (sym c.preset.ensures ∙ w.in-Some.is))
      | in_default w ↦
          grind (arith, common_steps, step, ap listed (sym c.preset.ensures ∙ w.in_default.is))
    ]

pub returns : goal.returns
returns g c =
    let law = g.met.A.App.lawful c.args.app.now in
    let presets = (g.A.App.meaning c.args.app.now).presets in
    c.loop-number.invariant
    ∙ ap (λ n. front n presets) (omega arith)
    ∙ front-all presets (and_parts _ _ law.presets).0
