use Rattle.std.proofs.Common.{◌≡◌, Some, None, true, sym, subst}
use Rattle.std.specs.Prelude.{slice_get}
use Rattle.forest_versions.specs.Lawful.{is_lawful}
use Rattle.control_script.specs.Order.{commands_of}
use Rattle.lane_worker.proofs.Taking.{lawful_at, no_command, takes_next}
use Rattle.lane_worker.proofs.commands.give_next.Goals as goal

pub command-requires-in-Some-clause-lawful : goal.command-requires-in-Some-clause-lawful
command-requires-in-Some-clause-lawful g c =
    let lane = c.args.lane.now in
    let at : slice_get (commands_of c.args.script.now) (g.L.Recorder.given lane) ≡ Some c.in-Some.command.now =
    subst (λ v. slice_get (commands_of c.args.script.now) v ≡ Some c.in-Some.command.now) c.version.ensures (sym c.in-Some.ensures) in
    subst (λ s. is_lawful s c.in-Some.command.now ≡ true) (sym c.requires.under)
    (lawful_at (g.L.Recorder.app lane).presets (commands_of c.args.script.now) (g.L.Recorder.given lane) c.in-Some.command.now c.requires.lawful at)

pub unreachable-requires : goal.unreachable-requires
unreachable-requires g c =
    let lane = c.args.lane.now in
    let none : slice_get (commands_of c.args.script.now) (g.L.Recorder.given lane) ≡ None =
    subst (λ v. slice_get (commands_of c.args.script.now) v ≡ None) c.version.ensures (sym c.in-None.ensures) in
    no_command c.args.script.now (g.L.Recorder.given lane) none c.requires.more

pub returns-clause-next : goal.returns-clause-next
returns-clause-next g c =
    let lane = c.args.lane.now in
    let e = c.command-in-Some.ensures in
    let at : slice_get (commands_of c.args.script.now) (g.L.Recorder.given lane) ≡ Some c.in-Some.command.now =
    subst (λ v. slice_get (commands_of c.args.script.now) v ≡ Some c.in-Some.command.now) c.version.ensures (sym c.in-Some.ensures) in
    takes_next g.L.Recorder (commands_of c.args.script.now) lane c.command-in-Some.new.self c.in-Some.command.now c.command-in-Some.result at c.requires.under
    (e.stands c.requires.good) e.ok e.fails (e.no_memory c.requires.good) e.control e.version e.newest e.app e.keeps
