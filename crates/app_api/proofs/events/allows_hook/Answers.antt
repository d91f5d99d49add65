use Rattle.std.proofs.Common.{ap, ◌∙◌, refl}
use Rattle.std.specs.Prelude.{slice_get}
use Rattle.app_api.specs.Events.{allows_hook, built_ins, raised_at}
use Rattle.app_api.proofs.events.allows_hook.Goals as goal

pub returns : goal.returns
unfolding allows_hook
returns c = c.says.ensures built_ins refl refl ∙ ap (λ i. raised_at (slice_get built_ins i) c.args.hook) c.place_of.ensures
