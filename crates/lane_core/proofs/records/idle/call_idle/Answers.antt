use Rattle.std.proofs.Common.{refl, subst}
use Rattle.std.proofs.lemmas.Result.{on_ok_weaker}
use Rattle.connection_core.specs.Silence.{silenced}
use Rattle.connection_core.specs.Standing.{IsNoted}
use Rattle.lane_core.proofs.Idleness.{raise_by_facts}
use Rattle.lane_core.proofs.records.idle.call_idle.Goals as goal

pub returns-clause-called : goal.returns-clause-called
returns-clause-called g c =
    on_ok_weaker c.silence.result (λ noted. record {
      noted = refl;
      stands = λ control tells others h connected.
          let app = g.A.App.meaning c.args.terms.now.app.now in
          let number = c.args.conn.last in
          subst (λ r. IsNoted c.args.terms.now.keep others (silenced app control number r h).tally (silenced app control number r h).entries c.silence.new.notes c.silence.new.ledger.counts)
          (raise_by_facts c.args.slot.now.kind c.args.conn.flow.count c.facts_of-facts.result c.facts_of-facts.ensures)
          (noted control others h tells connected);
    })
    c.silence.ensures.stands
