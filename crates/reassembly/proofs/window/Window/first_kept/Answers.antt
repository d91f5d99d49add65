use Rattle.std.proofs.Common.{◌≡◌, arith, false, sym}
use Rattle.reassembly.specs.Runs.{is_covered}
use Rattle.reassembly.specs.Waiting.{runs_of}
use Rattle.reassembly.proofs.KeptRuns.{first_above, none_past, nothing_found}
use Rattle.reassembly.proofs.window.Window.first_kept.Goals as goal

pub returns-in-Some : goal.returns-in-Some
returns-in-Some c =
    let gap : is_covered (runs_of c.args.self.now.runs) c.args.position ≡ false = nothing_found c.covering.result _ (sym c.if-is_some.ensures) c.covering.ensures.none in
    let found = c.in-Some.ensures.some in
    first_above c.args.self.now c.args.rbuf c.args.position c.in-Some.run' c.requires.laid (omega arith) gap found.0 found.1 found.2

pub returns-in-None : goal.returns-in-None
returns-in-None c x l =
    let gap : is_covered (runs_of c.args.self.now.runs) c.args.position ≡ false = nothing_found c.covering.result _ (sym c.if-is_some.ensures) c.covering.ensures.none in
    none_past c.args.self.now c.args.rbuf c.args.position (omega arith) gap c.in-None.ensures.none x l
