use Rattle.std.proofs.Common.{None, refl, sym, ap, subst, ◌∙◌, arith}
use Rattle.std.proofs.lemmas.Result.{on_ok_weaker}
use Rattle.std.specs.FinMap as map
use Rattle.flow_table.specs.Table.{Flows, found}
use Rattle.std.specs.Prelude.{if◌then◌else◌}
use Rattle.flow_table.specs.Key.{same_key}
use Rattle.flow_table.proofs.Keys.{same_key-reflexive}
use Rattle.lane_core.specs.declared.connection.Connection.{Connection}
use Rattle.lane_core.specs.Trees.{AllOpen}
use Rattle.lane_core.specs.Live.{IsLive, AreCounted}
use Rattle.lane_core.specs.Steps.{taking}
use Rattle.lane_core.proofs.Tables.{there_before}
use Rattle.lane_core.proofs.Live.{same_records}
use Rattle.lane_core.proofs.Idleness.{unheard_gone, never_heard, idle_ended, none_ended}
use Rattle.lane_core.proofs.records.Records.end_idle.Goals as goal

-- nothing is limited
pub returns-then-not-is_timed-clause-absent : goal.returns-then-not-is_timed-clause-absent
returns-then-not-is_timed-clause-absent g c =
    let self = c.args.self.now in
    unheard_gone self.master c.args.terms.now.moment (found self.connections c.args.key.now) c.tells_each_version.ensures c.requires.gone
    (never_heard self.master c.args.terms.now.moment (found self.connections c.args.key.now) (c.is_timed.ensures.never c.if-not-is_timed.true))

pub returns-then-not-is_timed-clause-stands : goal.returns-then-not-is_timed-clause-stands
returns-then-not-is_timed-clause-stands g c =
    let self = c.args.self.now in
    none_ended (taking g.A.App.meaning c.args.terms.now) self self c.args.key.now refl
    (unheard_gone self.master c.args.terms.now.moment (found self.connections c.args.key.now) c.tells_each_version.ensures c.requires.gone
    (never_heard self.master c.args.terms.now.moment (found self.connections c.args.key.now) (c.is_timed.ensures.never c.if-not-is_timed.true)))

-- none of the key is there
pub invariant_of-self : goal.invariant_of-self
invariant_of-self g c =
    let self = c.args.self.now in
    let same = sym c.in_default.ensures.none in
    record {
      live = subst (AllOpen (IsLive (g.F.ForestView.answered self.forests) (g.F.ForestView.content self.forests) self.master self.list.len self.next)) same self.live;
      counted = subst (λ (w : Flows Connection). AreCounted self.ledger.counts self.list.len (map.len w) self.dropped self.next) same self.counted;
      first = self.first;
    }

pub returns-in_default-clause-stands : goal.returns-in_default-clause-stands
returns-in_default-clause-stands g c =
    let self = c.args.self.now in
    none_ended (taking g.A.App.meaning c.args.terms.now) self _ c.args.key.now (same_records self _ c.in_default.ensures.none _ _ _) (sym c.in_default.ensures.value)

-- it was idle
pub index_mut-slot-requires : goal.index_mut-slot-requires
index_mut-slot-requires g c = (c.args.self.now.live c.args.key.now c.in-Some.conn (sym c.in-Some.ensures.value)).placed

pub call_idle-requires-clause-tree : goal.call_idle-requires-clause-tree
call_idle-requires-clause-tree g c = (c.args.self.now.live c.args.key.now c.in-Some.conn (sym c.in-Some.ensures.value)).tree

pub invariant_of-self-2 : goal.invariant_of-self-2
invariant_of-self-2 g c =
    let self = c.args.self.now in
    let counted = self.counted in
    let rise = c.call_idle.ensures.rise in
    let len = c.in-Some.ensures.len in
    record {
      live = λ key x is. self.live key x (there_before (same_key c.args.key.now key) (found self.connections key) x (sym (c.close.ensures.found key) ∙ is));
      counted = record {
        callbacks = omega (arith, counted.callbacks, rise.callbacks, len);
        weight = omega (arith, counted.weight, rise.weight, len);
        few = counted.few;
        few_dropped = counted.few_dropped;
        numbered = counted.numbered;
      };
      first = self.first;
    }

pub returns-clause-left : goal.returns-clause-left
returns-clause-left g c =
    let rise = c.call_idle.ensures.rise in
    let len = c.in-Some.ensures.len in
    record {
      places = refl;
      master = refl;
      forests = refl;
      dropped = refl;
      callbacks = omega (arith, rise.callbacks, len);
      weight = omega (arith, rise.weight, len);
    }

pub returns-clause-stands : goal.returns-clause-stands
returns-clause-stands g c =
    on_ok_weaker c.call_idle.result (λ called. idle_ended (taking g.A.App.meaning c.args.terms.now) c.args.self.now _ c.args.key.now (record {
      conn = c.in-Some.conn;
      slot = c.index_mut-slot.result.now;
      slot_after = c.call_idle.new.slot;
      was = sym c.in-Some.ensures.value;
      slot_is = c.index_mut-slot.ensures.value;
      called = called;
      left = c.close.ensures.found;
      list_is = refl;
      master = refl;
      forests = refl;
    })) c.call_idle.ensures.called

pub returns-clause-absent : goal.returns-clause-absent
returns-clause-absent g c =
    c.close.ensures.found c.args.key.now ∙ ap (λ b. if b then None else found c.args.self.now.connections c.args.key.now) (same_key-reflexive c.args.key.now)
