use Rattle.std.proofs.Common.{refl}
use Rattle.native_filters.specs.declared.facts.Hook.TheVariants.{Rcv}
use Rattle.app_api.specs.Events.{allows_hook}
use Rattle.builtin_events.specs.Facts.{receiver_facts}
use Rattle.builtin_events.specs.Raises.{receiver_events, receiver_raises}
use Rattle.builtin_events.specs.RaiseLaws.{order_raised, side_raised, each_raised}
use Rattle.builtin_events.proofs.laws.receiver_raises_each_event_in_order.Goals as goal

pub returns : goal.returns
unfolding receiver_raises allows_hook
returns c h from nth g =
    let facts = receiver_facts h from nth g in
    let rows = receiver_events facts g in
    record { order = order_raised Rcv facts rows refl; side = side_raised Rcv facts rows refl; all = refl; each = each_raised Rcv facts rows refl }
