-- Not of the headline. What the facts of a phase are made of, and the raises of a phase whose facts aren't made yet.
use Rattle.std.specs.Prelude.{List, map}
use Rattle.native_filters.specs.declared.facts.Facts.{Facts}
use Rattle.builtin_events.specs.declared.raise.Raise.{Raise}
use Rattle.builtin_events.specs.declared.raising.Raising.{Raising}
use Rattle.builtin_events.specs.declared.source.FactSource.{FactSource}
use Rattle.builtin_events.specs.declared.source.FactSource.TheVariants.{Sender, Receiver, Made}
use Rattle.builtin_events.specs.Facts.{sender_facts, receiver_facts}

abbrev pub facts_of : FactSource → Facts
facts_of (Sender head from nth sent) = sender_facts head.now from nth sent.now
facts_of (Receiver head from nth got) = receiver_facts head.now from nth got.now
facts_of (Made facts) = facts.now

-- the raises one by one: each event at that side, with those facts
abbrev pub raises_in : Raising → List Raise
raises_in raising = map (λ event. record { hook = raising.hook; event = event; facts = facts_of raising.source }) raising.events
