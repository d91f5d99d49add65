use Rattle.std.proofs.Common.{◌≡◌, ◌++◌, refl, sym, subst}
use Rattle.connection_core.specs.History.{followed, verdict, drops_of, is_over}
use Rattle.connection_core.specs.InForce.{registered_at}
use Rattle.connection_core.specs.Standing.{IsConnection}
use Rattle.connection_core.specs.Trees.{InternsWithin}
use Rattle.connection_core.proofs.Errors.{on_err_always}
use Rattle.lane_core.specs.Records.{side_of}
use Rattle.ip6_views.specs.Seen.{seen}
use Rattle.lane_core.proofs.Noting.{noted, notes_after}
use Rattle.lane_core.proofs.records.follow.step_one.Goals as goal

pub returns-clause-stands : goal.returns-clause-stands
returns-clause-stands g c =
    let e = c.in_ok-step.ensures.stands in
    let conn = c.args.conn.now in
    let slot = c.args.slot.now in
    let segment = seen c.args.segment.now in
    let at = registered_at c.args.master.now conn.version in
    let app = g.A.App.meaning c.args.terms.now.app.now in
    let number = c.args.terms.now.number in
    let from = c.side_of.ensures in
    let is = c.in_ok-note.ensures.noted in
    let notes = notes_after slot c.note.new.self c.step.new.notes (drops_of c.in_ok-step.step.verdict number) is in
    record {
      place = refl;
      client = refl;
      version = refl;
      last = refl;
      heard = refl;
      noted = noted slot c.note.new.self c.step.new.notes c.in_ok-step.step number is;
      stands = λ control tells others h connected.
          subst (λ n. IsConnection c.args.terms.now.keep others at (g.F.ForestView.content c.step.new.forests c.step.new.self.forest) c.step.new.self n c.step.new.ledger.counts
          (followed app control number (side_of conn.client segment) segment.head segment.scale segment.payload h)) (sym notes)
          (subst (λ side. IsConnection c.args.terms.now.keep others at (g.F.ForestView.content c.step.new.forests c.step.new.self.forest) c.step.new.self c.step.new.notes c.step.new.ledger.counts
          (followed app control number side segment.head segment.scale segment.payload h)) from (e.connection control others h tells connected));
      interned = λ control tells others h connected.
          subst (λ side. InternsWithin (g.F.ForestView.interns c.args.forests.now) (g.F.ForestView.interns c.step.new.forests) h.altered
          (followed app control number side segment.head segment.scale segment.payload h).altered) from (e.interned control others h tells connected);
      over = λ control tells others h connected.
          subst (λ side. c.in_ok-step.step.over ≡ is_over (followed app control number side segment.head segment.scale segment.payload h)) from (e.over control others h tells connected);
      verdict_is = λ control tells others h connected.
          subst (λ side. c.in_ok-step.step.verdict ≡ verdict app control number side segment.head segment.scale h) from (e.verdict_is control others h tells connected);
      drops = λ control tells others h connected.
          subst (λ side. (followed app control number side segment.head segment.scale segment.payload h).drops ≡ h.drops ++ drops_of c.in_ok-step.step.verdict number) from
          (e.drops control others h tells connected);
    }

pub returns-in_err-step-clause-costs : goal.returns-in_err-step-clause-costs
returns-in_err-step-clause-costs g c = on_err_always c.from_residual.result (λ control tells others h connected.
    let segment = seen c.args.segment.now in
    subst (λ side. InternsWithin (g.F.ForestView.interns c.args.forests.now) (g.F.ForestView.interns c.step.new.forests) h.altered
    (followed (g.A.App.meaning c.args.terms.now.app.now) control c.args.terms.now.number side segment.head segment.scale segment.payload h).altered)
    c.side_of.ensures (c.in_err-step.ensures.failed control others h tells connected))

pub returns-in_err-note-clause-costs : goal.returns-in_err-note-clause-costs
returns-in_err-note-clause-costs g c = on_err_always c.from_residual-in_err-note.result (λ control tells others h connected.
    let segment = seen c.args.segment.now in
    subst (λ side. InternsWithin (g.F.ForestView.interns c.args.forests.now) (g.F.ForestView.interns c.step.new.forests) h.altered
    (followed (g.A.App.meaning c.args.terms.now.app.now) control c.args.terms.now.number side segment.head segment.scale segment.payload h).altered)
    c.side_of.ensures (c.in_ok-step.ensures.stands.interned control others h tells connected))
