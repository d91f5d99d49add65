use Rattle.std.proofs.Common.{◌∙◌, ap, sym, subst}
use Rattle.std.specs.Prelude.{is_none, take}
use Rattle.forest_versions.specs.Master.{Versions, StandsFor}
use Rattle.forest_versions.proofs.Masters.{idle-given}
use Rattle.forest_versions.proofs.master.Master.idle_at.Goals as goal

pub returns-clause-none : goal.returns-clause-none
returns-clause-none c = λ presets commands stands.
    let m : Versions = record { version = c.self.inside.version; forest = c.self.inside.forest; now = c.self.inside.control; past = c.self.inside.past } in
    let inside : StandsFor m presets commands = subst (λ (n : Versions). StandsFor n presets commands) (sym c.self.view_is) stands in
    ap is_none (c.idle.ensures ∙ (inside.told c.args.version).idle) ∙ idle-given presets (take c.args.version commands)
