use Rattle.std.proofs.Common.{◌≡◌, ℕ, ◌+◌, ◌-◌, ◌<◌, ◌≤◌, ◌==◌, false, true}
use Rattle.app_api.specs.Events.{START, LAST, PKT_IN, is_of_packets}
use Rattle.app_api.specs.Hearers.{is_heard_in}
use Rattle.app_api.proofs.hearers.Heard.lone.Given as goal

-- what a packet may raise below this event isn't heard, but for `pkt_in`
abbrev pub invariant-loop-event : goal.invariant-loop-event
invariant-loop-event l =
    (l.event ≤ LAST + 1) × ((event : ℕ) → START ≤ event → event < l.event → is_of_packets event ≡ true → (PKT_IN == event) ≡ false → is_heard_in l.self event ≡ false)

abbrev pub decreases-loop-event : goal.decreases-loop-event
decreases-loop-event l = LAST + 1 - l.event
