use Rattle.std.proofs.Common.{◌≤◌, sym, arith}
use Rattle.std.proofs.lemmas.Bool.{and_parts, leb-true}
use Rattle.std.specs.Prelude.{leb}
use Rattle.app_api.specs.Events.{START, LAST}
use Rattle.app_api.specs.EventLaws.{of_packets-built_in}
use Rattle.app_api.proofs.hearers.Heard.lone.Goals as goal

pub returns-in-One : goal.returns-in-One
returns-in-One c =
    record {
      one = sym c.in-One.ensures.hearers;
      others = λ event raised other.
          let within = and_parts (leb START event) (leb event LAST) (of_packets-built_in event raised) in
          let low : START ≤ event = leb-true START event within.0 in
          let high : event ≤ LAST = leb-true event LAST within.1 in
          c.loop-event.invariant.1 event low (omega (arith, high, c.loop-event-test.false)) raised other;
    }
