-- Not of the headline. A callback as a walk lends it.
use Rattle.std.specs.Prelude.{Option, Some, None}
use Rattle.std.specs.Borrow.{Bor}
use Rattle.app_api.specs.declared.entry.Entry.{Entry}
use Rattle.app_api.specs.declared.entry.Seen.{Seen}
use Rattle.app_api.specs.declared.entry.Seen.TheVariants.{Nothing}
use Rattle.callback_log.specs.declared.walk.Callback.{Callback}

-- what it saw
abbrev pub seen_lent : Option (Bor Seen) → Seen
seen_lent None = Nothing
seen_lent (Some seen) = seen.now

-- its entry
abbrev pub entry_lent : Callback → Entry
entry_lent callback = record {
  index = callback.index;
  hook = callback.hook;
  event = callback.event;
  reg = callback.reg;
  seen = seen_lent callback.seen;
}
