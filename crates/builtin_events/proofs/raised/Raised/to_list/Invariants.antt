use Rattle.std.proofs.Common.{◌≡◌, take, map}
use Rattle.builtin_events.proofs.raised.Raised.to_list.Given as goal

abbrev pub invariant-loop-event : goal.invariant-loop-event
invariant-loop-event l =
    l.raises ≡ map (λ event. record { hook = l.self.hook; event = event; facts = l.self.facts }) (take l.event-index l.event-items)
