use Rattle.std.proofs.Common.{◌≡◌, None, sym, ap, subst, ◌∙◌}
use Rattle.std.specs.Prelude.{is_some}
use Rattle.forest_versions.specs.State.{ControlState}
use Rattle.forest_versions.specs.Master.{Versions, Tells}
use Rattle.forest_versions.proofs.Masters.{idle-never, without}
use Rattle.forest_versions.proofs.master.Master.is_timed.Goals as goal

pub returns-clause-never : goal.returns-clause-never
returns-clause-never c = λ none v s told.
    let m : Versions = record { version = c.self.inside.version; forest = c.self.inside.forest; now = c.self.inside.control; past = c.self.inside.past } in
    let presets = c.self.invariant.history.0 in
    let commands = c.self.invariant.history.1.0 in
    let stands = c.self.invariant.history.1.1 in
    let inside : Tells m v s = subst (λ (n : Versions). Tells n v s) (sym c.self.view_is) told in
    let now : m.now.idle ≡ None = without m.now.idle (ap is_some (sym c.idle.ensures) ∙ sym c.is_some.ensures ∙ none) in
    sym inside.idle ∙ (stands.told v).idle ∙ idle-never presets commands v (ap (λ (t : ControlState). t.idle) (sym stands.now) ∙ now)
