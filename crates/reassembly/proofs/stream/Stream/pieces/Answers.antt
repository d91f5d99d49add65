use Rattle.std.proofs.Common.{◌≡◌, ◌≤◌, ◌∙◌, sym, subst}
use Rattle.reassembly.specs.Receiver.{kept}
use Rattle.reassembly.specs.Kept.{runs_from, positions_in, AreWhole}
use Rattle.reassembly.specs.View.{StreamView, StandsFor}
use Rattle.reassembly.specs.Buffer.{window_of}
use Rattle.reassembly.specs.Window.{kept_at}
use Rattle.reassembly.proofs.KeptBytes.{kept_same, runs_same}
use Rattle.reassembly.proofs.WholeRuns.{few_positions, whole_runs}
use Rattle.reassembly.proofs.stream.Stream.pieces.Goals as goal

pub returns-clause-runs : goal.returns-clause-runs
returns-clause-runs c r h = let s = c.self.inside in
    subst (λ (k : StreamView). StandsFor k r → c.new.result ≡ runs_from (kept r.cells k.rbuf) c.args.position c.args.len) c.self.view_is
    (λ stood. c.new.ensures
    ∙ runs_same (kept_at (window_of s.buffer) s.rbuf) (kept r.cells s.rbuf) (kept_same (window_of s.buffer) s.fin s.rbuf c.self.invariant.0.laid r stood) c.args.len c.args.position) h

pub returns-clause-few : goal.returns-clause-few
returns-clause-few c =
    subst (λ runs. positions_in runs ≤ c.args.len) (sym c.new.ensures) (few_positions (kept_at (window_of c.self.inside.buffer) c.self.inside.rbuf) c.args.len c.args.position)

pub returns-clause-whole : goal.returns-clause-whole
returns-clause-whole c r h =
    subst (AreWhole (kept r.cells c.args.self.now.rbuf)) (sym (returns-clause-runs c r h)) (whole_runs (kept r.cells c.args.self.now.rbuf) c.args.len c.args.position)
