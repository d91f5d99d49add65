use Rattle.std.proofs.Common.{arith}
use Rattle.reassembly.proofs.KeptRuns.{no_run, run_to_next, gap_open, run_to_end}
use Rattle.reassembly.proofs.window.Window.run_end.Goals as goal

pub returns-then-position-self : goal.returns-then-position-self
returns-then-position-self c = run_to_next c.args.self.now c.args.rbuf c.args.position c.requires (omega arith) (omega arith)

pub returns-in-Some : goal.returns-in-Some
returns-in-Some c = let found = c.in-Some.ensures.some in
    run_to_end c.args.self.now c.args.rbuf c.args.position c.in-Some.run' c.requires (omega arith) found.0 found.1 found.2

pub returns-in-None : goal.returns-in-None
returns-in-None c = no_run _ c.args.position (gap_open c.args.self.now c.args.rbuf c.args.position (omega arith) c.in-None.ensures.none)
