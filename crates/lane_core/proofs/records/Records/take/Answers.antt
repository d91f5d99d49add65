use Rattle.std.proofs.Common.{◌+◌, length, ap, subst, ◌∙◌}
use Rattle.connection_core.specs.History.{drops_of}
use Rattle.connection_core.proofs.Errors.{on_err_always}
use Rattle.lane_core.specs.Sight.{sight_of}
use Rattle.lane_core.specs.Steps.{taking}
use Rattle.lane_core.specs.Packets.{Adds, CostsToAdd}
use Rattle.lane_core.proofs.Joined.{alike_made, alike_costs}
use Rattle.lane_core.proofs.records.Records.take.Goals as goal

pub returns-clause-stands : goal.returns-clause-stands
returns-clause-stands g c =
    let t = taking g.A.App.meaning c.args.terms.now in
    let old = c.args.self.now in
    let mid = c.prepare.new.self in
    let new = c.arrive.new.self in
    let bytes = c.args.bytes.now in
    let sight = c.sight_of-sight.ensures.sight in
    let alike = c.prepare.ensures in
    let adds = subst (λ s. Adds t mid new s c.in_ok-verdict.verdict) sight c.in_ok-verdict.ensures.stands in
    record {
      made = λ control_at pasts tells now stands.
          let made = alike_made t old mid new alike (sight_of bytes) c.in_ok-verdict.verdict adds control_at pasts tells now stands in
          record { stands = made.stands; interned = made.interned; verdict_is = made.verdict_is; dropped = made.dropped };
      master = adds.taken.master ∙ alike.under.master;
      next = adds.taken.next;
      dropped = c.counted-self.ensures.sum ∙ ap (λ n. n + length (drops_of c.in_ok-verdict.verdict 0)) (adds.taken.dropped ∙ alike.dropped);
    }

pub returns-in_err-verdict-clause-failed : goal.returns-in_err-verdict-clause-failed
returns-in_err-verdict-clause-failed g c =
    let t = taking g.A.App.meaning c.args.terms.now in
    let mid = c.prepare.new.self in
    let new = c.arrive.new.self in
    let bytes = c.args.bytes.now in
    let sight = c.sight_of-sight.ensures.sight in
    on_err_always c.from_residual.result (alike_costs t c.args.self.now mid new c.prepare.ensures (sight_of bytes) (subst (λ s. CostsToAdd t mid new s) sight c.in_err-verdict.ensures.failed))
