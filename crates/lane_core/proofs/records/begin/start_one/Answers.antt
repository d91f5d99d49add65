use Rattle.std.proofs.Common.{sym, ap, subst, arith}
use Rattle.std.proofs.lemmas.Result.{IfOk-weaker, on_err_weaker}
use Rattle.forest_versions.specs.Master.{Tells}
use Rattle.connection_core.specs.InForce.{registered_at}
use Rattle.connection_core.specs.History.{fresh, followed}
use Rattle.connection_core.specs.Standing.{IsConnection}
use Rattle.connection_core.specs.Trees.{InternsWithin}
use Rattle.lane_core.specs.declared.under_way.RecordUnderWay.{RecordUnderWay}
use Rattle.ip6_views.specs.Seen.{seen}
use Rattle.lane_core.specs.Records.{side_of}
use Rattle.lane_core.proofs.Started.{fresh_connection}
use Rattle.lane_core.proofs.Opening.{ok_or_err}
use Rattle.lane_core.proofs.records.begin.start_one.Goals as goal

pub step_one-requires-clause-count : goal.step_one-requires-clause-count
step_one-requires-clause-count g c = let none = c.requires.new.count in omega (arith, none)

pub returns-clause-stands : goal.returns-clause-stands
returns-clause-stands g c = IfOk-weaker c.step_one.result _ _
    (λ step is. record {
      conn = c.args.conn.now;
      slot = c.args.slot.now;
      tree = g.F.ForestView.content c.args.forests.now c.args.conn.now.flow.forest;
      slot_is = c.requires.empty;
      client = c.requires.new.client;
      version = c.requires.new.version;
      fresh_flow = c.requires.new.flow;
      step_is = is;
    })
    c.step_one.ensures.stands

pub returns-clause-interned : goal.returns-clause-interned
returns-clause-interned g c =
    let m = c.args.master.now in
    let app = g.A.App.meaning c.args.terms.now.app.now in
    let conn = c.args.conn.now in
    let segment = seen c.args.segment.now in
    let interns = g.F.ForestView.interns in
    let tree = g.F.ForestView.content c.args.forests.now conn.flow.forest in
    let tells : Tells m conn.version m.now = subst (λ v. Tells m v m.now) (sym c.requires.new.version) c.tells_the_present.ensures in
    let begun : IsConnection c.args.terms.now.keep c.args.ledger.now.counts (registered_at m conn.version) tree conn.flow c.args.slot.now.notes c.args.ledger.now.counts (fresh app m.now) =
    fresh_connection app c.args.terms.now.keep (registered_at m conn.version) tree conn.flow c.args.slot.now.notes
    c.args.ledger.now.counts m.now c.requires.new.flow (ap (λ (s : RecordUnderWay). s.notes) c.requires.empty) in
    subst (λ client. InternsWithin (interns c.args.forests.now) (interns c.step_one.new.forests) 0
    (followed app m.now c.args.terms.now.number (side_of client segment) segment.head segment.scale segment.payload (fresh app m.now)).altered) c.requires.new.client
    (ok_or_err c.step_one.result
    (IfOk-weaker c.step_one.result _ _ (λ step is. is.interned m.now tells c.args.ledger.now.counts (fresh app m.now) begun) c.step_one.ensures.stands)
    (on_err_weaker c.step_one.result (λ costs. costs m.now tells c.args.ledger.now.counts (fresh app m.now) begun) c.step_one.ensures.costs))

pub returns-clause-live : goal.returns-clause-live
returns-clause-live g c =
    let on = c.step_one.ensures.carries_on in
    let version = c.requires.new.version in
    record {
      placed = omega (arith, on.place);
      answered = on.answered;
      tree = on.tree;
      since = omega (arith, on.version, version);
      short = let one = on.count in let none = c.requires.new.count in omega (arith, one, none);
    }
