use Rattle.std.proofs.Common.{◌∙◌, [], sym, ap, length, take}
use Rattle.forest_versions.specs.State.{control}
use Rattle.control_script.specs.Order.{commands_of}
use Rattle.worker_tests.proofs.workers.worker.Goals as goal

pub returns-clause-ready : goal.returns-clause-ready
unfolding control
returns-clause-ready g c =
    let none = c.in_ok-command_tx.ensures.taken.0 in
    record {
      events = [];
      stands = c.requires.stands;
      commands = ap (λ l. take (length l) (commands_of c.args.script.now)) (sym none);
      version = c.requires.given ∙ ap length (sym none);
      in_force = c.requires.control ∙ ap (λ l. control (g.L.Recorder.app c.args.lane).presets (take (length l) (commands_of c.args.script.now))) (sym none);
    }
