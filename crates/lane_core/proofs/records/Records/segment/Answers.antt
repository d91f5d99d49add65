use Rattle.std.proofs.Common.{◌≡◌, ◌+◌, arith, Ok, None, subst, sym, ap, ◌∙◌}
use Rattle.std.proofs.lemmas.Result.{IfOk-weaker, on_err_weaker}
use Rattle.std.specs.Option.{IfSome}
use Rattle.flow_table.specs.Table.{found}
use Rattle.ip6_views.specs.Seen.{seen}
use Rattle.connection_core.specs.declared.flow.Step.{Step}
use Rattle.connection_core.proofs.Errors.{on_err_always}
use Rattle.lane_core.specs.Sight.{Tcp}
use Rattle.lane_core.specs.Idle.{IsGone}
use Rattle.lane_core.specs.Steps.{taking}
use Rattle.lane_core.specs.Packets.{Follows, Adds, CostsToAdd, Leaves}
use Rattle.lane_core.proofs.Live.{live_later, has_come}
use Rattle.lane_core.proofs.Following.{follows_adds, costs_to_add}
use Rattle.lane_core.proofs.Joined.{end_costs, ended_then_placed, ended_then_costs, orphan_placed, orphan_costs_to_place}
use Rattle.lane_core.proofs.records.Records.segment.Goals as goal

pub returns-in_err-step-clause-failed : goal.returns-in_err-step-clause-failed
returns-in_err-step-clause-failed g c = on_err_always c.from_residual.result
    (costs_to_add (taking g.A.App.meaning c.args.terms.now) c.args.self.now c.follow.new.self (seen c.args.segment.now) c.in_err-step.ensures.failed)

pub returns-in-Some-clause-stands : goal.returns-in-Some-clause-stands
returns-in-Some-clause-stands g c =
    let t = taking g.A.App.meaning c.args.terms.now in
    let old = c.args.self.now in
    let new = c.follow.new.self in
    let segment = seen c.args.segment.now in
    follows_adds t old new segment c.in-Some.step (subst (λ o. IfSome o (λ (s : Step). Follows t old new segment s)) c.in-Some.is c.in_ok-step.ensures.some)

pub returns-in_err-end_idle-clause-failed : goal.returns-in_err-end_idle-clause-failed
returns-in_err-end_idle-clause-failed g c =
    let t = taking g.A.App.meaning c.args.terms.now in
    let met = c.follow.new.self in
    let mid = c.end_idle.new.self in
    let key = c.key_between-key.result in
    let key_is = c.key_between-key.ensures.key in
    let segment = seen c.args.segment.now in
    let none = c.in_ok-step.ensures.none (ap Ok c.in_default.is) in
    let still = subst (λ k. IsGone c.args.self.now.master t.moment (found c.args.self.now.connections k)) (sym key_is) none.0 in
    let gone = subst (λ r. IsGone r.master t.moment (found r.connections key)) (sym none.1) still in
    let l = c.end_idle.ensures.left in
    let left : Leaves met mid = record { places = l.places; master = l.master; forests = l.forests; dropped = l.dropped; callbacks = l.callbacks; weight = l.weight } in
    on_err_always c.from_residual-in_err-end_idle.result
    (subst (λ r. CostsToAdd t r mid (Tcp segment)) none.1 (end_costs t met mid mid key segment key_is gone left c.end_idle.ensures.next))

pub returns-then-is_opening-clause-stands : goal.returns-then-is_opening-clause-stands
returns-then-is_opening-clause-stands g c =
    let t = taking g.A.App.meaning c.args.terms.now in
    let met = c.follow.new.self in
    let mid = c.end_idle.new.self in
    let key = c.key_between-key.result in
    let key_is = c.key_between-key.ensures.key in
    let segment = seen c.args.segment.now in
    let none = c.in_ok-step.ensures.none (ap Ok c.in_default.is) in
    let still = subst (λ k. IsGone c.args.self.now.master t.moment (found c.args.self.now.connections k)) (sym key_is) none.0 in
    let gone = subst (λ r. IsGone r.master t.moment (found r.connections key)) (sym none.1) still in
    let l = c.end_idle.ensures.left in
    let left : Leaves met mid = record { places = l.places; master = l.master; forests = l.forests; dropped = l.dropped; callbacks = l.callbacks; weight = l.weight } in
    let e = c.in_ok-end_idle.ensures.stands in
    let new = c.begin.new.self in
    IfOk-weaker c.begin.result _ _ (λ verdict p. subst (λ r. Adds t r new (Tcp segment) verdict) none.1
    (ended_then_placed t met mid new key segment key_is gone left (record { ended = e.ended; none = e.none }) verdict p))
    c.begin.ensures.stands

pub returns-then-is_opening-clause-failed : goal.returns-then-is_opening-clause-failed
returns-then-is_opening-clause-failed g c =
    let t = taking g.A.App.meaning c.args.terms.now in
    let met = c.follow.new.self in
    let mid = c.end_idle.new.self in
    let key = c.key_between-key.result in
    let key_is = c.key_between-key.ensures.key in
    let segment = seen c.args.segment.now in
    let none = c.in_ok-step.ensures.none (ap Ok c.in_default.is) in
    let still = subst (λ k. IsGone c.args.self.now.master t.moment (found c.args.self.now.connections k)) (sym key_is) none.0 in
    let gone = subst (λ r. IsGone r.master t.moment (found r.connections key)) (sym none.1) still in
    let l = c.end_idle.ensures.left in
    let left : Leaves met mid = record { places = l.places; master = l.master; forests = l.forests; dropped = l.dropped; callbacks = l.callbacks; weight = l.weight } in
    let e = c.in_ok-end_idle.ensures.stands in
    let new = c.begin.new.self in
    on_err_weaker c.begin.result (λ p. subst (λ r. CostsToAdd t r new (Tcp segment)) none.1
    (ended_then_costs t met mid new key segment key_is gone left (record { ended = e.ended; none = e.none }) p))
    c.begin.ensures.failed

pub returns-else-is_opening-clause-stands : goal.returns-else-is_opening-clause-stands
returns-else-is_opening-clause-stands g c =
    let t = taking g.A.App.meaning c.args.terms.now in
    let met = c.follow.new.self in
    let mid = c.end_idle.new.self in
    let key = c.key_between-key.result in
    let key_is = c.key_between-key.ensures.key in
    let segment = seen c.args.segment.now in
    let none = c.in_ok-step.ensures.none (ap Ok c.in_default.is) in
    let still = subst (λ k. IsGone c.args.self.now.master t.moment (found c.args.self.now.connections k)) (sym key_is) none.0 in
    let gone = subst (λ r. IsGone r.master t.moment (found r.connections key)) (sym none.1) still in
    let l = c.end_idle.ensures.left in
    let left : Leaves met mid = record { places = l.places; master = l.master; forests = l.forests; dropped = l.dropped; callbacks = l.callbacks; weight = l.weight } in
    let e = c.in_ok-end_idle.ensures.stands in
    let new = c.orphan.new.self in
    let shut = sym c.is_opening.ensures ∙ c.if-is_opening.false in
    let absent = subst (λ k. found mid.connections k ≡ None) key_is c.end_idle.ensures.absent in
    IfOk-weaker c.orphan.result _ _ (λ verdict o. subst (λ r. Adds t r new (Tcp segment) verdict) none.1
    (ended_then_placed t met mid new key segment key_is gone left (record { ended = e.ended; none = e.none }) verdict
    (orphan_placed t mid new segment shut absent verdict o c.orphan.ensures.taken)))
    c.orphan.ensures.stands

pub returns-else-is_opening-clause-failed : goal.returns-else-is_opening-clause-failed
returns-else-is_opening-clause-failed g c =
    let t = taking g.A.App.meaning c.args.terms.now in
    let met = c.follow.new.self in
    let mid = c.end_idle.new.self in
    let key = c.key_between-key.result in
    let key_is = c.key_between-key.ensures.key in
    let segment = seen c.args.segment.now in
    let none = c.in_ok-step.ensures.none (ap Ok c.in_default.is) in
    let still = subst (λ k. IsGone c.args.self.now.master t.moment (found c.args.self.now.connections k)) (sym key_is) none.0 in
    let gone = subst (λ r. IsGone r.master t.moment (found r.connections key)) (sym none.1) still in
    let l = c.end_idle.ensures.left in
    let left : Leaves met mid = record { places = l.places; master = l.master; forests = l.forests; dropped = l.dropped; callbacks = l.callbacks; weight = l.weight } in
    let e = c.in_ok-end_idle.ensures.stands in
    let new = c.orphan.new.self in
    let shut = sym c.is_opening.ensures ∙ c.if-is_opening.false in
    let absent = subst (λ k. found mid.connections k ≡ None) key_is c.end_idle.ensures.absent in
    on_err_always c.orphan.result (subst (λ r. CostsToAdd t r new (Tcp segment)) none.1
    (ended_then_costs t met mid new key segment key_is gone left (record { ended = e.ended; none = e.none })
    (orphan_costs_to_place t mid new segment shut absent c.orphan.ensures.forests c.orphan.ensures.taken)))

-- the packet has come
pub invariant_of-self : goal.invariant_of-self
invariant_of-self g c =
    let mid = c.follow.new.self in
    let same = (c.in_ok-step.ensures.none (ap Ok c.in_default.is)).1 in
    let next : mid.next ≡ c.args.self.now.next = ap (λ r. r.next) same in
    let rising = c.requires.comes.rising in
    let bound = c.requires.comes.bound in
    let counted = mid.counted in
    record {
      live = live_later (g.F.ForestView.answered mid.forests) (g.F.ForestView.content mid.forests) mid.master mid.list.len mid.next (c.args.terms.now.number + 1) mid.connections (omega (arith, rising, next)) mid.live;
      counted = record {
        callbacks = omega (arith, counted.callbacks, rising, next);
        weight = omega (arith, counted.weight, rising, next);
        few = omega (arith, counted.few, rising, next);
        few_dropped = omega (arith, counted.few_dropped, rising, next);
        numbered = omega (arith, bound);
      };
      first = mid.first;
    }

pub begin-requires-clause-come : goal.begin-requires-clause-come
begin-requires-clause-come g c =
    let met = c.follow.new.self in
    let mid = c.end_idle.new.self in
    let next : met.next ≡ c.args.self.now.next = ap (λ r. r.next) (c.in_ok-step.ensures.none (ap Ok c.in_default.is)).1 in
    let left = c.end_idle.ensures.left in
    has_come met mid c.args.terms.now.number (let rising = c.requires.comes.rising in omega (arith, rising, next)) c.end_idle.ensures.next left.places left.callbacks left.weight

pub orphan-requires : goal.orphan-requires
orphan-requires g c =
    let met = c.follow.new.self in
    let mid = c.end_idle.new.self in
    let next : met.next ≡ c.args.self.now.next = ap (λ r. r.next) (c.in_ok-step.ensures.none (ap Ok c.in_default.is)).1 in
    let left = c.end_idle.ensures.left in
    record {
      come = has_come met mid c.args.terms.now.number (let rising = c.requires.comes.rising in omega (arith, rising, next)) c.end_idle.ensures.next left.places left.callbacks left.weight;
    }

pub end_idle-requires : goal.end_idle-requires
end_idle-requires g c =
    let t = taking g.A.App.meaning c.args.terms.now in
    let key = c.key_between-key.result in
    let none = c.in_ok-step.ensures.none (ap Ok c.in_default.is) in
    let still = subst (λ k. IsGone c.args.self.now.master t.moment (found c.args.self.now.connections k)) (sym c.key_between-key.ensures.key) none.0 in
    record { gone = subst (λ r. IsGone r.master t.moment (found r.connections key)) (sym none.1) still }
