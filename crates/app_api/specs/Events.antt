-- The built-in events: one table of their names, of the hooks at which they are raised and of what raises them, in order of their numbers.
use Rattle.std.specs.Prelude.{ℕ, ◌+◌, ◌-◌, ◌&&◌, Bool, true, false, List, [], ◌∷◌, length, codes, slice_get, nat_le, if◌then◌else◌, Option, Some, None}
use Rattle.native_filters.specs.declared.facts.Hook.{Hook}
use Rattle.native_filters.specs.declared.facts.Hook.TheVariants.{Snd, Rcv}

-- their numbers

abbrev pub START : ℕ
START = 256

abbrev pub PKT_IN : ℕ
PKT_IN = 257

abbrev pub REXMIT : ℕ
REXMIT = 258

abbrev pub NEW_DATA : ℕ
NEW_DATA = 259

abbrev pub ERROR : ℕ
ERROR = 260

abbrev pub STATE : ℕ
STATE = 261

abbrev pub END : ℕ
END = 262

abbrev pub ORPHAN : ℕ
ORPHAN = 263

abbrev pub TIMER : ℕ
TIMER = 264

-- the last of them; each number from START on is one
abbrev pub LAST : ℕ
LAST = TIMER

-- what the table has of an event
pub record EventRow : Type 0 where
  pub name : List ℕ
  pub at_sender : Bool
  pub at_receiver : Bool
  pub by_packets : Bool

-- an event that packets of a connection raise
abbrev pub of_packets : List ℕ → Bool → Bool → EventRow
of_packets name at_sender at_receiver = record { name = name; at_sender = at_sender; at_receiver = at_receiver; by_packets = true }

-- one that they never raise
abbrev pub of_others : List ℕ → Bool → Bool → EventRow
of_others name at_sender at_receiver = record { name = name; at_sender = at_sender; at_receiver = at_receiver; by_packets = false }

-- in order of their numbers, from START on
abbrev pub built_ins : List EventRow
built_ins =
    of_packets (codes "start") true false
    ∷ of_packets (codes "pkt_in") true true
    ∷ of_packets (codes "rexmit") false true
    ∷ of_packets (codes "new_data") false true
    ∷ of_packets (codes "error") false true
    ∷ of_packets (codes "state") true true
    ∷ of_packets (codes "end") false true
    ∷ of_others (codes "orphan") true false
    ∷ of_others (codes "timer") false true
    ∷ []

-- whether a number is one of these
abbrev pub is_built_in : ℕ → Bool
is_built_in event = nat_le START event && nat_le event LAST

-- where an event stands among them, from 0. Any other number gives a place behind them all
abbrev pub place_of : ℕ → ℕ
place_of event = if nat_le START event then event - START else length built_ins

-- what a row says of a hook
abbrev pub raised_at : Option EventRow → Hook → Bool
raised_at None hook = false
raised_at (Some r) Snd = r.at_sender
raised_at (Some r) Rcv = r.at_receiver

-- whether a built-in event is raised at a hook; no other number is
unfoldable pub allows_hook : ℕ → Hook → Bool
allows_hook event hook = raised_at (slice_get built_ins (place_of event)) hook

-- what a row says of packets
abbrev pub raised_by_packets : Option EventRow → Bool
raised_by_packets None = false
raised_by_packets (Some r) = r.by_packets

-- whether packets of a connection may raise an event; no other number is raised
unfoldable pub is_of_packets : ℕ → Bool
is_of_packets event = raised_by_packets (slice_get built_ins (place_of event))

-- of the rows from a number on: the events that packets of a connection may raise at a hook
abbrev pub numbers_from : ℕ → Hook → List EventRow → List ℕ
numbers_from event hook [] = []
numbers_from event hook (r ∷ rows) =
    if r.by_packets && raised_at (Some r) hook then event ∷ numbers_from (event + 1) hook rows else numbers_from (event + 1) hook rows

-- the events that packets of a connection may raise at a hook, in order
abbrev pub of_packets_at : Hook → List ℕ
of_packets_at hook = numbers_from START hook built_ins
