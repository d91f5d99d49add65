use Rattle.std.proofs.Common.{◌≡◌, ◌∙◌, sym, ap, subst, arith}
use Rattle.std.proofs.lemmas.List.{take_all}
use Rattle.forest_versions.specs.State.{control, master}
use Rattle.forest_versions.specs.Master.{Versions, Tells}
use Rattle.forest_versions.proofs.master.Master.tells_the_present.Goals as goal

pub returns : goal.returns
returns c =
    let m : Versions = record { version = c.self.inside.version; forest = c.self.inside.forest; now = c.self.inside.control; past = c.self.inside.past } in
    let presets = c.self.invariant.history.0 in
    let commands = c.self.invariant.history.1.0 in
    let stands = c.self.invariant.history.1.1 in
    let all : master presets commands m.version ≡ m.now =
    ap (control presets) (take_all m.version commands (let version = stands.version in omega arith)) ∙ sym stands.now in
    let told : Tells m m.version m.now = subst (Tells m m.version) all (stands.told m.version) in
    subst (λ (n : Versions). Tells n n.version n.now) c.self.view_is told
