use Rattle.std.proofs.Common.{◌≡◌, ◌∙◌, ◌-◌, ◌++◌, List, ap, drop, take, length, refl}
use Rattle.std.proofs.lemmas.List.{take_rest}
use Rattle.shared_forest.specs.declared.node.Node.{Node}
use Rattle.event_trees.specs.Build.{bumped}
use Rattle.event_trees.specs.Insert.{chain, raised, moved}
use Rattle.event_trees.proofs.InsertTree.{last-room, back-bumped}
use Rattle.event_trees.proofs.insert.nodes_with.Goals as goal

pub count_last-requires-clause-room : goal.count_last-requires-clause-room
count_last-requires-clause-room c =
    let raised_is : c.push_raised.new.out.items ≡ raised c.args.reach.depth (length c.args.path.now - c.args.reach.depth) (take c.args.reach.node c.args.nodes.now) =
    c.in_ok-push_raised.ensures ∙ ap (λ (l : List Node). l ++ raised c.args.reach.depth (length c.args.path.now - c.args.reach.depth)
    (take c.args.reach.node c.args.nodes.now)) c.in_ok-more.ensures.items in
    last-room c.args.nodes.now c.deref_mut.result.now c.args.reach.node c.args.reach.depth (length c.args.path.now - c.args.reach.depth) c.args.first
    _ (drop c.args.reach.depth c.args.path.now) _ c.requires.room (c.deref_mut.ensures.value
    ∙ (c.in_ok-push_chain.ensures ∙ ap (λ (l : List Node). l ++ chain c.args.first c.args.reach.depth (drop c.args.reach.depth c.args.path.now)) raised_is)) refl

pub returns : goal.returns
returns c =
    let raised_is : c.push_raised.new.out.items ≡ raised c.args.reach.depth (length c.args.path.now - c.args.reach.depth) (take c.args.reach.node c.args.nodes.now) =
    c.in_ok-push_raised.ensures ∙ ap (λ (l : List Node). l ++ raised c.args.reach.depth (length c.args.path.now - c.args.reach.depth)
    (take c.args.reach.node c.args.nodes.now)) c.in_ok-more.ensures.items in
    let chained : c.push_chain.new.out.items ≡ raised c.args.reach.depth (length c.args.path.now - c.args.reach.depth)
    (take c.args.reach.node c.args.nodes.now) ++ chain c.args.first c.args.reach.depth (drop c.args.reach.depth c.args.path.now) =
    c.in_ok-push_chain.ensures ∙ ap (λ (l : List Node). l ++ chain c.args.first c.args.reach.depth (drop c.args.reach.depth c.args.path.now)) raised_is in
    let back = back-bumped c.push_chain.new.out.len c.count_last.new.nodes c.deref_mut.result.now c.push_chain.new.out.items c.push_chain.new.out.ok.0 c.deref_mut.ensures.value c.count_last.ensures in
    let rest : List Node = take (length c.args.nodes.now - c.args.reach.node) (drop c.args.reach.node c.args.nodes.now) in
    c.in_ok-push_moved.ensures ∙ (ap (λ (l : List Node). l ++ moved rest) (back ∙ ap bumped chained)
    ∙ ap (λ (l : List Node). bumped (raised c.args.reach.depth (length c.args.path.now - c.args.reach.depth)
    (take c.args.reach.node c.args.nodes.now) ++ chain c.args.first c.args.reach.depth (drop c.args.reach.depth c.args.path.now)) ++ moved l)
    (take_rest c.args.nodes.now c.args.reach.node))
