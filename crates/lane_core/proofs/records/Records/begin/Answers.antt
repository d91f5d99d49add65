use Rattle.std.proofs.Common.{◌≡◌, [], ◌∷◌, ◌++◌, get_or, set, refl, sym, ap, subst, ◌∙◌, arith}
use Rattle.std.proofs.lemmas.List.{get_or_at, set_at}
use Rattle.shared_forest.specs.Lists.{TreeLists}
use Rattle.shared_forest.specs.Listing.{listing}
use Rattle.report_text.specs.declared.record.RecordKind.TheVariants.{Conn}
use Rattle.event_trees.specs.Edit.{IsForestOf}
use Rattle.forest_versions.specs.State.{active}
use Rattle.connection_core.specs.Trees.{InternsWithin}
use Rattle.connection_core.proofs.Errors.{on_err_always}
use Rattle.ip6_views.specs.Seen.{seen}
use Rattle.lane_core.specs.End.{new_slot}
use Rattle.lane_core.specs.Live.{IsLive}
use Rattle.lane_core.specs.Steps.{taking, stage_in, Opens, opened_by}
use Rattle.lane_core.proofs.Started.{opening_started, opening_costs}
use Rattle.lane_core.proofs.Opening.{kept_on}
use Rattle.lane_core.proofs.Totals.{InternsWithin-none}
use Rattle.lane_core.proofs.Tables.{all_kept}
use Rattle.lane_core.proofs.Live.{first_kept, live_all_kept, live_among}
use Rattle.lane_core.proofs.records.Records.begin.Goals as goal

-- memory for the record was refused
pub invariant_of-self : goal.invariant_of-self
invariant_of-self g c =
    let self = c.args.self.now in
    let room = c.requires.come in
    let len = c.in_err-push.ensures.len in
    record {
      live = live_among (g.F.ForestView.answered self.forests) (g.F.ForestView.content self.forests) self.master self.list.len c.push.new.self.len self.next self.connections (omega (arith, len)) self.live;
      counted = record {
        callbacks = self.counted.callbacks;
        weight = self.counted.weight;
        few = omega (arith, room.few, len);
        few_dropped = self.counted.few_dropped;
        numbered = self.counted.numbered;
      };
      first = self.first;
    }

pub returns-in_err-push-clause-failed : goal.returns-in_err-push-clause-failed
returns-in_err-push-clause-failed g c =
    let self = c.args.self.now in
    on_err_always c.from_residual.result (opening_costs (taking g.A.App.meaning c.args.terms.now) self _ c.args.key (seen c.args.segment.now) c.requires.key
    c.requires.absent c.requires.opens (record { master = refl; dropped = refl; next = c.requires.come.next })
    (InternsWithin-none (g.F.ForestView.interns self.forests) 0 _ (omega arith)))

-- the record stands at its place, which is the last
pub index_mut-slot-requires : goal.index_mut-slot-requires
index_mut-slot-requires g c =
    let len = c.in_ok-push.ensures.len in
    let place = c.len-place.ensures in
    omega (arith, len, place)

pub start_one-requires-clause-empty : goal.start_one-requires-clause-empty
start_one-requires-clause-empty g c =
    let self = c.args.self.now in
    let app = g.A.App.meaning c.args.terms.now.app.now in
    let segment = seen c.args.segment.now in
    let record_is = c.new-record.ensures
    ∙ ap (λ t. new_slot c.args.terms.now.number (Conn segment.sender segment.receiver) c.version-version.result t) c.fresh.ensures
    ∙ ap (λ v. new_slot c.args.terms.now.number (Conn segment.sender segment.receiver) v app.fresh) c.version-version.ensures.version in
    let put = c.in_ok-push.ensures.items in
    let at = c.len-place.ensures ∙ self.list.ok.0 in
    c.index_mut-slot.ensures.value
    ∙ ap (λ l. get_or l c.len-place.result c.index_mut-slot.result.now) put
    ∙ get_or_at self.list.items c.new-record.result [] c.index_mut-slot.result.now c.len-place.result (omega (arith, at))
    ∙ record_is

-- memory for its tree was refused
pub invariant_of-self-in-Break-branch-2 : goal.invariant_of-self-in-Break-branch-2
invariant_of-self-in-Break-branch-2 g c =
    let self = c.args.self.now in
    let new = c.again.new.self in
    let kept = c.again.ensures.kept in
    let room = c.requires.come in
    let len = c.in_ok-push.ensures.len in
    record {
      live = live_among (g.F.ForestView.answered new) (g.F.ForestView.content new) self.master self.list.len c.push.new.self.len self.next self.connections (omega (arith, len))
          (live_all_kept g.F.ForestView.answered g.F.ForestView.content self.forests new kept self.master self.list.len self.next self.connections self.live);
      counted = record {
        callbacks = self.counted.callbacks;
        weight = self.counted.weight;
        few = omega (arith, room.few, len);
        few_dropped = self.counted.few_dropped;
        numbered = self.counted.numbered;
      };
      first = first_kept g.F.ForestView.answered g.F.ForestView.content self.forests new kept self.master self.first;
    }

pub returns-in_err-forest-clause-failed : goal.returns-in_err-forest-clause-failed
returns-in_err-forest-clause-failed g c =
    let self = c.args.self.now in
    let interns = g.F.ForestView.interns self.forests in
    let altered = (opened_by (g.A.App.meaning c.args.terms.now.app.now) self.master.now c.args.terms.now.number (seen c.args.segment.now)).altered in
    on_err_always c.from_residual-in_err-forest.result (opening_costs (taking g.A.App.meaning c.args.terms.now) self _ c.args.key (seen c.args.segment.now) c.requires.key
    c.requires.absent c.requires.opens (record { master = refl; dropped = refl; next = c.requires.come.next })
    (subst (λ i. InternsWithin interns i 0 altered) (sym c.again.ensures.uncounted) (InternsWithin-none interns 0 altered (omega arith))))

-- its tree is that of the registrations that are on
pub new_connection-conn-requires-clause-tree : goal.new_connection-conn-requires-clause-tree
new_connection-conn-requires-clause-tree g c =
    let self = c.args.self.now in
    subst (λ (t : TreeLists). IsForestOf self.master.now.defs (active self.master.now) (listing t))
    (sym (c.in_ok-forest.ensures.content ∙ ap (g.F.ForestView.content self.forests) c.forest.ensures)) self.first.tree

-- the opening segment failed on its way
pub invariant_of-self-in-Break-branch-3 : goal.invariant_of-self-in-Break-branch-3
invariant_of-self-in-Break-branch-3 g c =
    let self = c.args.self.now in
    let new = c.start_one.new.forests in
    let e = c.start_one.ensures in
    let kept = kept_on g.F.ForestView.answered g.F.ForestView.content self.forests c.again.new.self new c.again.ensures.kept e.kept in
    let room = c.requires.come in
    let rise = e.rise in
    let len = c.in_ok-push.ensures.len in
    record {
      live = live_among (g.F.ForestView.answered new) (g.F.ForestView.content new) self.master self.list.len c.push.new.self.len self.next self.connections (omega (arith, len))
          (live_all_kept g.F.ForestView.answered g.F.ForestView.content self.forests new kept self.master self.list.len self.next self.connections self.live);
      counted = record {
        callbacks = omega (arith, room.callbacks, rise.callbacks);
        weight = omega (arith, room.weight, rise.weight);
        few = omega (arith, room.few, len);
        few_dropped = self.counted.few_dropped;
        numbered = self.counted.numbered;
      };
      first = first_kept g.F.ForestView.answered g.F.ForestView.content self.forests new kept self.master self.first;
    }

pub returns-in_err-step-clause-failed : goal.returns-in_err-step-clause-failed
returns-in_err-step-clause-failed g c = on_err_always c.from_residual-in_err-step.result (opening_costs (taking g.A.App.meaning c.args.terms.now) c.args.self.now _ c.args.key (seen c.args.segment.now) c.requires.key
    c.requires.absent c.requires.opens (record { master = refl; dropped = refl; next = c.requires.come.next }) (subst (λ i. InternsWithin i (g.F.ForestView.interns c.start_one.new.forests) 0
    (opened_by (g.A.App.meaning c.args.terms.now.app.now) c.args.self.now.master.now c.args.terms.now.number (seen c.args.segment.now)).altered) c.again.ensures.uncounted c.start_one.ensures.interned))

pub invariant_of-self-2 : goal.invariant_of-self-2
invariant_of-self-2 g c =
    let self = c.args.self.now in
    let new = c.start_one.new.forests in
    let e = c.start_one.ensures in
    let kept = kept_on g.F.ForestView.answered g.F.ForestView.content self.forests c.again.new.self new c.again.ensures.kept e.kept in
    let live = e.live in
    let room = c.requires.come in
    let rise = e.rise in
    let len = c.in_ok-push.ensures.len in
    let more = c.keep.ensures.more in
    let conn = c.start_one.new.conn in
    let over = c.in_ok-step.step.over in
    record {
      live = all_kept (IsLive (g.F.ForestView.answered new) (g.F.ForestView.content new) self.master c.push.new.self.len self.next) c.keep.result self.connections c.keep.new.connections c.args.key conn over
          c.keep.ensures.left c.keep.ensures.err
          (record {
            placed = let low = live.placed in let last = c.len-place.ensures in let at = c.new_connection-conn.ensures.place in omega (arith, low, len, last, at);
            answered = live.answered;
            tree = live.tree;
            since = live.since;
            short = let one = live.short in let next = room.next in omega (arith, one, next);
          })
          (live_among (g.F.ForestView.answered new) (g.F.ForestView.content new) self.master self.list.len c.push.new.self.len self.next self.connections (omega (arith, len))
          (live_all_kept g.F.ForestView.answered g.F.ForestView.content self.forests new kept self.master self.list.len self.next self.connections self.live));
      counted = record {
        callbacks = omega (arith, room.callbacks, rise.callbacks, more);
        weight = omega (arith, room.weight, rise.weight, more);
        few = omega (arith, room.few, len);
        few_dropped = self.counted.few_dropped;
        numbered = self.counted.numbered;
      };
      first = first_kept g.F.ForestView.answered g.F.ForestView.content self.forests new kept self.master self.first;
    }

pub returns-in_err-keep-clause-failed : goal.returns-in_err-keep-clause-failed
returns-in_err-keep-clause-failed g c = on_err_always c.from_residual-in_err-keep.result (opening_costs (taking g.A.App.meaning c.args.terms.now) c.args.self.now _ c.args.key (seen c.args.segment.now) c.requires.key
    c.requires.absent c.requires.opens (record { master = refl; dropped = refl; next = c.requires.come.next }) (subst (λ i. InternsWithin i (g.F.ForestView.interns c.start_one.new.forests) 0
    (opened_by (g.A.App.meaning c.args.terms.now.app.now) c.args.self.now.master.now c.args.terms.now.number (seen c.args.segment.now)).altered) c.again.ensures.uncounted c.start_one.ensures.interned))

pub returns-clause-stands : goal.returns-clause-stands
returns-clause-stands g c =
    let self = c.args.self.now in
    let new = c.start_one.new.forests in
    let conn = c.start_one.new.conn in
    let kept = kept_on g.F.ForestView.answered g.F.ForestView.content self.forests c.again.new.self new c.again.ensures.kept c.start_one.ensures.kept in
    let o : Opens (taking g.A.App.meaning c.args.terms.now) self.master self.ledger.counts (g.F.ForestView.interns self.forests)
    (stage_in g.F.ForestView new conn c.start_one.new.slot c.start_one.new.ledger.counts) (seen c.args.segment.now) c.in_ok-step.step =
    subst (λ i. Opens (taking g.A.App.meaning c.args.terms.now) self.master self.ledger.counts i
    (stage_in g.F.ForestView new conn c.start_one.new.slot c.start_one.new.ledger.counts) (seen c.args.segment.now) c.in_ok-step.step)
    c.again.ensures.uncounted c.in_ok-step.ensures.stands in
    let slot = c.start_one.new.slot in
    let at = c.len-place.ensures ∙ self.list.ok.0 in
    let items : set c.push.new.self.items c.len-place.result slot ≡ self.list.items ++ slot ∷ [] =
    ap (λ l. set l c.len-place.result slot) c.in_ok-push.ensures.items
    ∙ set_at self.list.items c.new-record.result [] slot c.len-place.result (omega (arith, at)) in
    opening_started (taking g.A.App.meaning c.args.terms.now) self _ c.args.key (seen c.args.segment.now) c.requires.key
    c.requires.absent c.requires.opens (record { master = refl; dropped = refl; next = c.requires.come.next })
    conn slot c.in_ok-step.step kept o
    (c.start_one.ensures.place ∙ c.new_connection-conn.ensures.place ∙ at) items c.in_ok-keep.ensures.left
