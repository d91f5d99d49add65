use Rattle.std.proofs.Common.{◌∙◌, ◌-◌, ap, ℕ, length, get_or, set}
use Rattle.event_trees.proofs.NodeSteps.{uncounted-set}
use Rattle.event_trees.proofs.remove.uncount_last.Goals as goal

pub returns : goal.returns
returns c =
    ap (λ (k : ℕ). set c.args.nodes.now (length c.args.nodes.now - 1) (record
    (get_or c.args.nodes.now (length c.args.nodes.now - 1) (record { event = 0; depth = 0; below = 0; first = 0; count = 0 })) { count = k }))
    c.saturating_sub.ensures ∙ uncounted-set c.args.nodes.now (record { event = 0; depth = 0; below = 0; first = 0; count = 0 }) c.requires
