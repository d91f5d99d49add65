use Rattle.std.proofs.Common.{◌≡◌, ◌∙◌, ◌<◌, ℕ, List, length, set, get_or, ap, arith}
use Rattle.std.specs.Prelude.{Option}
use Rattle.std.proofs.lemmas.List.{get_or_default}
use Rattle.app_api.specs.declared.registration.Reg.{Reg}
use Rattle.forest_versions.specs.Timeline.{Line}
use Rattle.forest_versions.specs.Past.{PastLines, never}
use Rattle.forest_versions.proofs.Pasts.{take-back}
use Rattle.forest_versions.proofs.past.Past.take_back_reg.Goals as goal

pub returns : goal.returns
returns c = λ past from reg is.
    let items : List (Line (Option Reg)) = c.self.inside.regs.items in
    let old : PastLines = record { regs = items; policy = c.self.inside.policy; rbuf = c.self.inside.rbuf; rules = c.self.inside.rules; idle = c.self.inside.idle } in
    let back : Line (Option Reg) = c.step_back.new.self in
    let within : c.args.number < length items = omega arith in
    let at : c.from.result < length items = omega arith in
    let undone : record old { regs = set items c.args.number back } ≡ past = take-back old past c.args.number from reg back within (c.self.view_is
    ∙ is) (λ line v x e. c.step_back.ensures line v x (c.index_mut-line.ensures.value
    ∙ (get_or_default items c.from.result c.index_mut-line.result.now never at ∙ (ap (λ (n : ℕ). get_or items n never) c.from.ensures ∙ e)))) in
    ap (λ (n : ℕ). record old { regs = set items n back }) c.from.ensures ∙ undone
