use Rattle.std.proofs.Common.{◌≡◌, ◌≤◌}
use Rattle.ip6_views.specs.Chain.{chain}
use Rattle.ip6_views.proofs.chain.tcp_start.Given as goal

-- the walk from here on finds what the whole walk finds
abbrev pub invariant-loop-kind : goal.invariant-loop-kind
invariant-loop-kind l = (l.start ≤ l.at) × (l.at ≤ l.end)
    × (chain l.left l.frame l.end l.kind l.at ≡ chain 8 l.frame l.end l.first l.start)

abbrev pub decreases-loop-kind : goal.decreases-loop-kind
decreases-loop-kind l = l.left
