use Rattle.std.proofs.Common.{◌≡◌, ◌+◌, drop}
use Rattle.std.specs.List.{position_from}
use Rattle.std.specs.Str.{bytes_eq}
use Rattle.app_api.specs.Names.{event_names, event_named}
use Rattle.app_api.proofs.events.event_named.Given as goal

abbrev pub invariant-loop-place : goal.invariant-loop-place
invariant-loop-place l = position_from (λ known. bytes_eq l.name known) (256 + l.place) (drop l.place event_names) ≡ event_named l.name
