use Rattle.std.proofs.Common.{◌<◌, Bool, length, get_or, Ok, refl, sym, ap, subst, ◌∙◌}
use Rattle.std.specs.Io.KnownBytes.{Keeps}
use Rattle.std.proofs.KnownBytes.{Keeps-refl}
use Rattle.std.proofs.lemmas.List.{length-set}
use Rattle.std.specs.List.{All}
use Rattle.std.proofs.lemmas.List.Elements.{All-get_or, All-drop}
use Rattle.std.proofs.lemmas.Result.{err_from_is_err_and}
use Rattle.forward_dispatch.specs.Given.{LeavesOne}
use Rattle.forward_dispatch.proofs.Leaving.{no_value, leaves_none, leaves_whole, leaves_cut}
use Rattle.forward_dispatch.proofs.on_their_way.OnTheirWay.write_first.Goals as goal

pub returns-in_err-write_next-clause-leaves : goal.returns-in_err-write_next-clause-leaves
returns-in_err-write_next-clause-leaves g c =
    let left = c.in_err-write_next.ensures.leaves in
    let way = c.args.self.now in
    let some = c.in-Some.ensures.item.3.0 in
    let first = c.in-Some.ensures.lookup in
    let below = subst (λ k. k < length way.all_answers.items) (sym first) (All-get_or (λ k. k < length way.all_answers.items) way.lanes.items 0 c.in-Some.lane.now some way.within) in
    let p = err_from_is_err_and c.from_residual.result c.from_residual.ensures.1 in
    leaves_cut way _ c.in-Some.lane.now c.index_mut.result.now c.write_next.new.self below c.index_mut.ensures.value refl left.0 left.1 some first
    (g.O.Sink.taken c.args.out.now) (g.O.Sink.taken c.write_next.new.out) _ (no_value p.0 c.from_residual.result p.1) c.the_next_leaves.ensures.cut refl refl left.2

pub returns-then-not-branch-clause-leaves : goal.returns-then-not-branch-clause-leaves
returns-then-not-branch-clause-leaves g c =
    let way = c.args.self.now in
    let old = g.O.Sink.taken c.args.out.now in
    let new = g.O.Sink.taken c.write_next.new.out in
    let some = c.in-Some.ensures.item.3.0 in
    let first = c.in-Some.ensures.lookup in
    let below = subst (λ k. k < length way.all_answers.items) (sym first) (All-get_or (λ k. k < length way.all_answers.items) way.lanes.items 0 c.in-Some.lane.now some way.within) in
    let left = subst (LeavesOne c.index_mut.result.now c.write_next.new.self old new) (c.in_ok-write_next.was ∙ ap (λ (b : Bool). Ok b) c.if-not-branch.true) c.write_next.ensures.leaves in
    leaves_none way _ c.in-Some.lane.now c.index_mut.result.now c.write_next.new.self below c.index_mut.ensures.value refl refl refl left.0 c.the_next_leaves.ensures.some
    old new (subst (Keeps old) (sym left.1) (Keeps-refl old)) _

pub invariant_of-self-2-clause-within : goal.invariant_of-self-2-clause-within
invariant_of-self-2-clause-within g c = λ k d lt.
    let way = c.args.self.now in
    subst (λ n. get_or c.pop_front.new.self.items k d < n) (sym (length-set way.all_answers.items c.in-Some.lane.now c.write_next.new.self))
    (subst (All (λ j. j < length way.all_answers.items)) (sym c.pop_front.ensures.rest) (All-drop (λ j. j < length way.all_answers.items) 1 way.lanes.items way.within) k d lt)

pub returns-clause-leaves : goal.returns-clause-leaves
returns-clause-leaves g c =
    let way = c.args.self.now in
    let old = g.O.Sink.taken c.args.out.now in
    let new = g.O.Sink.taken c.write_next.new.out in
    let some = c.in-Some.ensures.item.3.0 in
    let first = c.in-Some.ensures.lookup in
    let below = subst (λ k. k < length way.all_answers.items) (sym first) (All-get_or (λ k. k < length way.all_answers.items) way.lanes.items 0 c.in-Some.lane.now some way.within) in
    let left = subst (LeavesOne c.index_mut.result.now c.write_next.new.self old new) (c.in_ok-write_next.was ∙ ap (λ (b : Bool). Ok b) c.if-not-branch.false) c.write_next.ensures.leaves in
    leaves_whole way _ c.in-Some.lane.now c.index_mut.result.now c.write_next.new.self below c.index_mut.ensures.value refl left.0 left.1 some first
    old new _ c.the_next_leaves.ensures.whole c.the_next_leaves.ensures.some refl c.pop_front.ensures.rest left.2
