use Rattle.std.proofs.Common.{[], refl, ap, subst, ◌∙◌, arith}
use Rattle.std.specs.Option.{option_copied}
use Rattle.report_text.specs.declared.record.RecordKind.TheVariants.{Orphan}
use Rattle.lane_core.specs.Steps.{taking, IsOrphanNoted}
use Rattle.lane_core.proofs.Started.{orphan_started}
use Rattle.lane_core.proofs.Live.{live_among}
use Rattle.lane_core.proofs.records.Records.orphan.Goals as goal

pub invariant_of-self-2 : goal.invariant_of-self-2
invariant_of-self-2 g c =
    let self = c.args.self.now in
    let room = c.requires.come in
    let rise = c.orphan_at.ensures.rise in
    let len = c.push.ensures.len in
    record {
      live = live_among (g.F.ForestView.answered self.forests) (g.F.ForestView.content self.forests) self.master self.list.len c.push.new.self.len self.next self.connections (omega (arith, len)) self.live;
      counted = record {
        callbacks = omega (arith, room.callbacks, rise.callbacks);
        weight = omega (arith, room.weight, rise.weight);
        few = omega (arith, room.few, len);
        few_dropped = self.counted.few_dropped;
        numbered = self.counted.numbered;
      };
      first = self.first;
    }

pub returns-clause-stands : goal.returns-clause-stands
returns-clause-stands g c =
    let t = taking g.A.App.meaning c.args.terms.now in
    let self = c.args.self.now in
    let class = c.args.class in
    let slot = c.new-slot.ensures
    ∙ ap (λ y. record { name = t.number; kind = Orphan class; version = c.version-version.result; notes = record { tally = y; entries = [] }; drops = [] }) c.fresh.ensures
    ∙ ap (λ v. record { name = t.number; kind = Orphan class; version = v; notes = record { tally = t.app.fresh; entries = [] }; drops = [] }) c.version-version.ensures.version in
    orphan_started t self _ class (option_copied c.args.head) c.in_ok-verdict.verdict c.new-slot.result c.orphan_at.new.slot slot
    (subst (λ rs. IsOrphanNoted t self.master.now (record { slot = c.new-slot.result; counts = self.ledger.counts }) (record { slot = c.orphan_at.new.slot; counts = c.orphan_at.new.ledger.counts }) rs c.in_ok-verdict.verdict)
    c.raised_by_orphan-raised.ensures.raises c.in_ok-verdict.ensures.stands)
    refl refl refl c.in_ok-push.ensures.items
