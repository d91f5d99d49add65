use Rattle.std.proofs.Common.{◌≡◌, Some, ◌+◌, refl, sym, subst, arith}
use Rattle.std.specs.Option.{OnSome}
use Rattle.std.specs.FinMap as map
use Rattle.flow_table.specs.Table.{Flows, Rewrites, found}
use Rattle.connection_core.proofs.Errors.{on_err_always}
use Rattle.ip6_views.specs.Seen.{seen}
use Rattle.lane_core.specs.Sight.{key_of_segment}
use Rattle.lane_core.specs.declared.connection.Connection.{Connection}
use Rattle.lane_core.specs.Idle.{IsIdle, IsGone}
use Rattle.lane_core.specs.Trees.{AllOpen}
use Rattle.lane_core.specs.Live.{IsLive, AreCounted}
use Rattle.lane_core.proofs.Tables.{all_settled, same_flows}
use Rattle.lane_core.proofs.Settling.{left_settled}
use Rattle.lane_core.proofs.Live.{first_kept, live_stepped, same_records}
use Rattle.lane_core.proofs.records.Records.follow.Goals as goal

-- nothing is open for the key
pub invariant_of-self : goal.invariant_of-self
invariant_of-self g c =
    let self = c.args.self.now in
    record {
      live = subst (AllOpen (IsLive (g.F.ForestView.answered self.forests) (g.F.ForestView.content self.forests) self.master self.list.len self.next)) (sym c.get_mut_between-found.follows.holds-at-none) self.live;
      counted = subst (λ (w : Flows Connection). AreCounted self.ledger.counts self.list.len (map.len w) self.dropped self.next) (sym c.get_mut_between-found.follows.holds-at-none) self.counted;
      first = self.first;
    }

pub returns-in_default-clause-none : goal.returns-in_default-clause-none
returns-in_default-clause-none g c = λ _.
    (subst (IsGone c.args.self.now.master c.args.terms.now.moment) c.in_default.ensures.value tt, same_records c.args.self.now _ c.get_mut_between-found.follows.holds-at-none _ _ _)

-- it was silent for too long
pub invariant_of-self-then-was_idle : goal.invariant_of-self-then-was_idle
invariant_of-self-then-was_idle g c =
    let self = c.args.self.now in
    let conn = c.in-Some.conn.now in
    let new = c.get_mut_between-found.follows.lender conn in
    let written = subst (λ r. OnSome r (Rewrites self.connections new (key_of_segment (seen c.args.segment.now)) conn)) c.in-Some.is (c.get_mut_between-found.follows.holds conn) in
    let same = same_flows self.connections new (key_of_segment (seen c.args.segment.now)) conn written.found (sym c.in-Some.ensures.value) in
    record {
      live = subst (AllOpen (IsLive (g.F.ForestView.answered self.forests) (g.F.ForestView.content self.forests) self.master self.list.len self.next)) (sym same) self.live;
      counted = subst (λ (w : Flows Connection). AreCounted self.ledger.counts self.list.len (map.len w) self.dropped self.next) (sym same) self.counted;
      first = self.first;
    }

pub returns-then-was_idle-clause-none : goal.returns-then-was_idle-clause-none
returns-then-was_idle-clause-none g c = λ _.
    let self = c.args.self.now in
    let conn = c.in-Some.conn.now in
    let new = c.get_mut_between-found.follows.lender conn in
    let written = subst (λ r. OnSome r (Rewrites self.connections new (key_of_segment (seen c.args.segment.now)) conn)) c.in-Some.is (c.get_mut_between-found.follows.holds conn) in
    let same = same_flows self.connections new (key_of_segment (seen c.args.segment.now)) conn written.found (sym c.in-Some.ensures.value) in (
      subst (IsGone self.master c.args.terms.now.moment) c.in-Some.ensures.value (subst (λ b. IsIdle self.master conn c.args.terms.now.moment b) c.if-was_idle.true c.was_idle.ensures),
      same_records self _ same _ _ _,
    )

-- it takes the segment
pub index_mut-slot-requires : goal.index_mut-slot-requires
index_mut-slot-requires g c = (c.args.self.now.live (key_of_segment (seen c.args.segment.now)) c.in-Some.conn.now (sym c.in-Some.ensures.value)).placed

pub step_one-requires-clause-called : goal.step_one-requires-clause-called
step_one-requires-clause-called g c =
    let live = c.args.self.now.live (key_of_segment (seen c.args.segment.now)) c.in-Some.conn.now (sym c.in-Some.ensures.value) in
    record { answered = live.answered; tree = live.tree }

pub step_one-requires-clause-count : goal.step_one-requires-clause-count
step_one-requires-clause-count g c =
    let live = c.args.self.now.live (key_of_segment (seen c.args.segment.now)) c.in-Some.conn.now (sym c.in-Some.ensures.value) in
    let short = live.short in
    let numbered = c.args.self.now.counted.numbered in
    omega (arith, short, numbered)

pub invariant_of-self-in-Break-1 : goal.invariant_of-self-in-Break-1
invariant_of-self-in-Break-1 g c =
    let self = c.args.self.now in
    let after = c.step_one.new.conn in
    let new = c.get_mut_between-found.follows.lender after in
    let was = sym c.in-Some.ensures.value in
    let written = subst (λ r. OnSome r (Rewrites self.connections new (key_of_segment (seen c.args.segment.now)) after)) c.in-Some.is (c.get_mut_between-found.follows.holds after) in
    let on = c.step_one.ensures.carries_on in
    let rise = c.step_one.ensures.rise in
    let counted = self.counted in
    let rising = c.requires.comes.rising in
    let bound = c.requires.comes.bound in
    let few = counted.few in
    let dropped = counted.few_dropped in
    record {
      live = live_stepped g.F.ForestView.answered g.F.ForestView.content self.forests c.step_one.new.forests on.kept self.master self.list.len self.next (c.args.terms.now.number + 1)
          self.connections new (key_of_segment (seen c.args.segment.now)) c.in-Some.conn.now after (omega (arith, rising)) written.found was on.place on.version on.count on.answered on.tree self.live;
      counted = record {
        callbacks = omega (arith, counted.callbacks, rise.callbacks, rising, written.len);
        weight = omega (arith, counted.weight, rise.weight, rising, written.len);
        few = omega (arith, few, rising);
        few_dropped = omega (arith, dropped, rising);
        numbered = omega (arith, bound);
      };
      first = first_kept g.F.ForestView.answered g.F.ForestView.content self.forests c.step_one.new.forests on.kept self.master self.first;
    }

pub returns-in_err-step-clause-failed : goal.returns-in_err-step-clause-failed
returns-in_err-step-clause-failed g c =
    let self = c.args.self.now in
    let conn = c.in-Some.conn.now in
    on_err_always c.from_residual.result (record {
      by = record {
        conn = conn;
        slot = c.index_mut-slot.result.now;
        was = sym c.in-Some.ensures.value;
        heard = subst (λ b. IsIdle self.master conn c.args.terms.now.moment b) c.if-was_idle.false c.was_idle.ensures;
        slot_is = c.index_mut-slot.ensures.value;
      };
      costs = c.in_err-step.ensures.costs;
      taken = record { master = refl; dropped = refl; next = refl };
    })

pub invariant_of-self-2 : goal.invariant_of-self-2
invariant_of-self-2 g c =
    let self = c.args.self.now in
    let after = c.step_one.new.conn in
    let stepped = c.get_mut_between-found.follows.lender after in
    let was = sym c.in-Some.ensures.value in
    let written = subst (λ r. OnSome r (Rewrites self.connections stepped (key_of_segment (seen c.args.segment.now)) after)) c.in-Some.is (c.get_mut_between-found.follows.holds after) in
    let on = c.step_one.ensures.carries_on in
    let rise = c.step_one.ensures.rise in
    let counted = self.counted in
    let rising = c.requires.comes.rising in
    let bound = c.requires.comes.bound in
    let few = counted.few in
    let dropped = counted.few_dropped in
    record {
      live = all_settled (IsLive (g.F.ForestView.answered c.step_one.new.forests) (g.F.ForestView.content c.step_one.new.forests) self.master self.list.len (c.args.terms.now.number + 1))
          stepped c.settle.new.connections (key_of_segment (seen c.args.segment.now)) c.in_ok-step.step.over c.settle.ensures.left
          (live_stepped g.F.ForestView.answered g.F.ForestView.content self.forests c.step_one.new.forests on.kept self.master self.list.len self.next (c.args.terms.now.number + 1)
          self.connections stepped (key_of_segment (seen c.args.segment.now)) c.in-Some.conn.now after (omega (arith, rising)) written.found was on.place on.version on.count on.answered on.tree self.live);
      counted = record {
        callbacks = omega (arith, counted.callbacks, rise.callbacks, rising, written.len, c.settle.ensures.fewer);
        weight = omega (arith, counted.weight, rise.weight, rising, written.len, c.settle.ensures.fewer);
        few = omega (arith, few, rising);
        few_dropped = omega (arith, dropped, rising);
        numbered = omega (arith, bound);
      };
      first = first_kept g.F.ForestView.answered g.F.ForestView.content self.forests c.step_one.new.forests on.kept self.master self.first;
    }

pub returns-clause-some : goal.returns-clause-some
returns-clause-some g c =
    let self = c.args.self.now in
    let conn = c.in-Some.conn.now in
    let after = c.step_one.new.conn in
    let stepped = c.get_mut_between-found.follows.lender after in
    let was = sym c.in-Some.ensures.value in
    let written = subst (λ r. OnSome r (Rewrites self.connections stepped (key_of_segment (seen c.args.segment.now)) after)) c.in-Some.is (c.get_mut_between-found.follows.holds after) in
    record {
      by = record {
        conn = conn;
        slot = c.index_mut-slot.result.now;
        was = was;
        heard = subst (λ b. IsIdle self.master conn c.args.terms.now.moment b) c.if-was_idle.false c.was_idle.ensures;
        slot_is = c.index_mut-slot.ensures.value;
      };
      conn = after;
      slot = c.step_one.new.slot;
      step_is = c.in_ok-step.ensures.stands;
      left = left_settled c.in_ok-step.step.over self.connections stepped c.settle.new.connections (key_of_segment (seen c.args.segment.now)) after written.found c.settle.ensures.left;
      noted = refl;
      stored = c.step_one.ensures.carries_on.kept;
      taken = record { master = refl; dropped = refl; next = refl };
    }
