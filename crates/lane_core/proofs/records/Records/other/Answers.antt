use Rattle.std.proofs.Common.{◌+◌, arith}
use Rattle.std.proofs.lemmas.Result.{IfOk-weaker}
use Rattle.connection_core.proofs.Errors.{on_err_always}
use Rattle.lane_core.specs.Steps.{taking}
use Rattle.lane_core.proofs.Live.{live_later}
use Rattle.lane_core.proofs.Joined.{other_added, other_costs}
use Rattle.lane_core.proofs.records.Records.other.Goals as goal

pub invariant_of-self : goal.invariant_of-self
invariant_of-self g c =
    let self = c.args.self.now in
    let counted = self.counted in
    let rising = c.requires.comes.rising in
    let bound = c.requires.comes.bound in
    record {
      live = live_later (g.F.ForestView.answered self.forests) (g.F.ForestView.content self.forests) self.master self.list.len self.next (c.args.terms.now.number + 1) self.connections (omega (arith, rising)) self.live;
      counted = record {
        callbacks = omega (arith, counted.callbacks, rising);
        weight = omega (arith, counted.weight, rising);
        few = omega (arith, counted.few, rising);
        few_dropped = omega (arith, counted.few_dropped, rising);
        numbered = omega (arith, bound);
      };
      first = self.first;
    }

pub returns-clause-stands : goal.returns-clause-stands
returns-clause-stands g c =
    let taken = c.orphan.ensures.taken in
    IfOk-weaker c.orphan.result _ _ (λ verdict o.
    other_added (taking g.A.App.meaning c.args.terms.now) c.args.self.now c.orphan.new.self c.args.class verdict (record {
      made = λ sight control_at pasts tells now stands orphan.
          let m = o.made sight control_at pasts tells now stands orphan in
          record { stands = m.stands; interned = m.interned; verdict_is = m.verdict_is; dropped = m.dropped };
    })
    (record { master = taken.master; dropped = taken.dropped; next = taken.next }))
    c.orphan.ensures.stands

pub returns-clause-failed : goal.returns-clause-failed
returns-clause-failed g c =
    let taken = c.orphan.ensures.taken in
    on_err_always c.orphan.result (other_costs (taking g.A.App.meaning c.args.terms.now) c.args.self.now c.orphan.new.self c.args.class
    c.orphan.ensures.forests (record { master = taken.master; dropped = taken.dropped; next = taken.next }))
