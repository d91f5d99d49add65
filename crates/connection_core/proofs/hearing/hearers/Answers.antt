use Rattle.std.proofs.Common.{true, ◌≡◌, sym, ◌∙◌}
use Rattle.app_api.specs.Events.{is_built_in}
use Rattle.connection_core.proofs.hearing.hearers.Goals as goal

pub returns-clause-one : goal.returns-clause-one
returns-clause-one c = λ number is s facts force.
    let known : is_built_in c.args.event ≡ true = sym c.is_built_in.ensures ∙ c.if-not-is_built_in.false in
    c.raises_call_who_hears.ensures.one s c.args.hook c.args.event number force known (sym (c.heard.ensures c.args.event known) ∙ (sym c.get.ensures.hearers ∙ is)) facts
