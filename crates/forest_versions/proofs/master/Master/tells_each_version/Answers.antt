use Rattle.std.proofs.Common.{subst}
use Rattle.forest_versions.specs.State.{ControlState, master}
use Rattle.forest_versions.specs.Master.{Versions, Tells}
use Rattle.forest_versions.proofs.master.Master.tells_each_version.Goals as goal

pub returns : goal.returns
returns c = λ v.
    let s : ControlState = master c.self.invariant.history.0 c.self.invariant.history.1.0 v in
    (s, subst (λ (m : Versions). Tells m v s) c.self.view_is (c.self.invariant.history.1.1.told v))
