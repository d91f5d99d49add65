use Rattle.std.proofs.Common.{◌≡◌, ◌∙◌, ap₂, rules}
use Rattle.std.proofs.lemmas.Result.{IfOk-weaker}
use Rattle.clap.specs.Simple.{app_of, with_rule}
use Rattle.words.specs.Command.{bare_app}
use Rattle.words.proofs.command.command.Goals as goal

pub returns : goal.returns
returns c =
    let bare : app_of c.disable_help_flag.result ≡ bare_app = search rules in
    let one : app_of c.in_ok-arg.field-0 ≡ _ = c.in_ok-arg.ensures.shape c.option.ensures.local ∙ ap₂ with_rule bare c.option.ensures.rule in
    let two : app_of c.in_ok-arg-2.field-0 ≡ _ = c.in_ok-arg-2.ensures.shape c.option-2.ensures.local ∙ ap₂ with_rule one c.option-2.ensures.rule in
    let three : app_of c.in_ok-arg-3.field-0 ≡ _ = c.in_ok-arg-3.ensures.shape c.option-3.ensures.local ∙ ap₂ with_rule two c.option-3.ensures.rule in
    let four : app_of c.in_ok-arg-4.field-0 ≡ _ = c.in_ok-arg-4.ensures.shape c.option-4.ensures.local ∙ ap₂ with_rule three c.option-4.ensures.rule in
    IfOk-weaker c.arg-5.result _ _ (λ r h. h.shape c.option-5.ensures.local ∙ ap₂ with_rule four c.option-5.ensures.rule) c.arg-5.ensures
