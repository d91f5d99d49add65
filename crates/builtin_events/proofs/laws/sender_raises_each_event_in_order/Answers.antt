use Rattle.std.proofs.Common.{refl}
use Rattle.native_filters.specs.declared.facts.Hook.TheVariants.{Snd}
use Rattle.app_api.specs.Events.{allows_hook}
use Rattle.builtin_events.specs.Facts.{sender_facts}
use Rattle.builtin_events.specs.Raises.{sender_events, sender_raises}
use Rattle.builtin_events.specs.RaiseLaws.{order_raised, side_raised, each_raised}
use Rattle.builtin_events.proofs.laws.sender_raises_each_event_in_order.Goals as goal

pub returns : goal.returns
unfolding sender_raises allows_hook
returns c h from nth first s =
    let facts = sender_facts h from nth s in
    let rows = sender_events facts first in
    record { order = order_raised Snd facts rows refl; side = side_raised Snd facts rows refl; all = refl; each = each_raised Snd facts rows refl }
