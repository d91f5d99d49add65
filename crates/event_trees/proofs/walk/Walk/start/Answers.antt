use Rattle.std.proofs.Common.{◌∙◌, ◌≡◌, ◌+◌, ap, subst, get_or, List}
use Rattle.shared_forest.specs.declared.node.Node.{Node}
use Rattle.event_trees.specs.Walk.{keeps, to_come}
use Rattle.std.specs.Prelude.{IsTrue}
use Rattle.std.proofs.lemmas.List.Elements.{recursion_from_All}
use Rattle.app_api.specs.declared.registration.Reg.{Reg}
use Rattle.event_trees.specs.Defs.{is_event}
use Rattle.event_trees.specs.Walk.{firing}
use Rattle.event_trees.proofs.Paths.{knows}
use Rattle.event_trees.proofs.Sorted.{rises}
use Rattle.event_trees.proofs.Firing.{firing-canon}
use Rattle.event_trees.proofs.WalkLaw.{start-come, top-within}
use Rattle.event_trees.proofs.walk.Walk.start.Goals as goal

pub invariant_of-result : goal.invariant_of-result
invariant_of-result c =
    let end = subst (λ (l : List Node). c.of.result.end ≡ (get_or l 0 (record { event = 0; depth = 0; below = 0; first = 0; count = 0 })).first
    + (get_or l 0 (record { event = 0; depth = 0; below = 0; first = 0; count = 0 })).count) c.nodes.ensures.nodes c.of.ensures.end in
    top-within c.args.tree.now.nodes c.args.tree.now.slots _ c.of.result.end c.nodes.ensures.tree end

pub returns-clause-listed : goal.returns-clause-listed
unfolding to_come
returns-clause-listed c = λ defs.
    let slot = subst (λ (l : List Node). c.of.result.slot ≡ (get_or l 0 (record { event = 0; depth = 0; below = 0; first = 0; count = 0 })).first) c.nodes.ensures.nodes c.of.ensures.slot in
    let end = subst (λ (l : List Node). c.of.result.end ≡ (get_or l 0 (record { event = 0; depth = 0; below = 0; first = 0; count = 0 })).first
    + (get_or l 0 (record { event = 0; depth = 0; below = 0; first = 0; count = 0 })).count) c.nodes.ensures.nodes c.of.ensures.end in
    start-come (keeps defs c.args.facts.now c.args.event) c.args.hook c.args.tree.now.nodes c.args.tree.now.slots _ c.of.result c.nodes.ensures.tree slot end c.of.ensures.node

pub returns-clause-fires : goal.returns-clause-fires
returns-clause-fires c = λ defs list are private is.
    returns-clause-listed c defs ∙ (ap (firing (keeps defs c.args.facts.now c.args.event) c.args.hook) is
    ∙ firing-canon defs c.args.facts.now c.args.hook c.args.event list (knows defs are)
    (recursion_from_All (λ (r : Reg). IsTrue (is_event defs r.event)) list private.events) (rises defs list private.sorted))
