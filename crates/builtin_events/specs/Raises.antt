-- Which events are raised, in which order.
use Rattle.std.specs.Prelude.{ℕ, Bool, true, not, ◌==◌, nat_lt, List, [], ◌∷◌, ◌++◌, if◌then◌else◌, Option}
use Rattle.std.specs.List.{fold}
use Rattle.native_filters.specs.declared.facts.Facts.{Facts}
use Rattle.native_filters.specs.declared.facts.Hook.{Hook}
use Rattle.native_filters.specs.declared.facts.Hook.TheVariants.{Snd, Rcv}
use Rattle.packet_views.specs.declared.packet.Class.{Class}
use Rattle.packet_views.specs.declared.packet.Head.{Head}
use Rattle.tcp_emulation.specs.declared.segment.Side.{Side}
use Rattle.flow_table.specs.declared.endpoint.Endpoint.{Endpoint}
use Rattle.app_api.specs.Events.{START, PKT_IN, REXMIT, NEW_DATA, ERROR, STATE, END, ORPHAN, TIMER}
use Rattle.flow_socket.specs.declared.answers.Sent.{Sent}
use Rattle.flow_socket.specs.declared.answers.Got.{Got}
use Rattle.builtin_events.specs.declared.raise.Raise.{Raise}
use Rattle.builtin_events.specs.Facts.{sender_facts, receiver_facts, orphan_facts, timer_facts}

-- a raise where a condition holds
abbrev pub raise_if : Bool → Raise → List Raise
raise_if holds raise = if holds then raise ∷ [] else []

-- of events, each beside whether it is raised: the raises in this order, all at this hook and with these facts
abbrev pub raised_where : Hook → Facts → List (Bool × ℕ) → List Raise
raised_where hook facts rows = fold (λ raises row. raises ++ raise_if row.0 (record { hook = hook; event = row.1; facts = facts })) [] rows

-- whether the stepped end has another state after its step
abbrev pub is_changed : Facts → Bool
is_changed f = not (f.old == f.new)

-- the events at a packet's sender
abbrev pub sender_events : Facts → Bool → List (Bool × ℕ)
sender_events facts first = (first, START) ∷ (true, PKT_IN) ∷ (is_changed facts, STATE) ∷ []

-- the events at its receiver, if the packet wasn't dropped before
abbrev pub receiver_events : Facts → Got → List (Bool × ℕ)
receiver_events facts g =
    (true, PKT_IN)
    ∷ (nat_lt 0 facts.rexlen, REXMIT)
    ∷ (g.rose, NEW_DATA)
    ∷ (not (facts.fault == 0), ERROR)
    ∷ (is_changed facts, STATE)
    ∷ (g.over, END)
    ∷ []

-- at a packet's sender
unfoldable pub sender_raises : Head → Side → ℕ → Bool → Sent → List Raise
sender_raises h from nth first s = let facts = sender_facts h from nth s in raised_where Snd facts (sender_events facts first)

-- at its receiver
unfoldable pub receiver_raises : Head → Side → ℕ → Got → List Raise
receiver_raises h from nth g = let facts = receiver_facts h from nth g in raised_where Rcv facts (receiver_events facts g)

-- of a packet that belongs to no connection
unfoldable pub orphan_raises : Class → Option Head → List Raise
orphan_raises class h = record { hook = Snd; event = ORPHAN; facts = orphan_facts class h } ∷ []

-- of a connection that ended by idleness, which had so many packets
unfoldable pub timer_raise : Endpoint → Endpoint → ℕ → Raise
timer_raise client server members = record { hook = Rcv; event = TIMER; facts = timer_facts client server members }
