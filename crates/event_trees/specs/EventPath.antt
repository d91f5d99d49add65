-- Only for proofs. The events of a path that stands in an array.
use Rattle.std.specs.Prelude.{ℕ, List, take}
use Rattle.event_trees.specs.declared.path.EventPath.{EventPath}

-- the events that it holds
abbrev pub path_of : EventPath → List ℕ
path_of p = take p.count p.events
