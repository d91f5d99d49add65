-- The facts of one phase, of an orphan, and of a connection that ended by idleness.
use Rattle.std.specs.Prelude.{ℕ, Option, Some, if◌then◌else◌}
use Rattle.native_filters.specs.declared.facts.Facts.{Facts}
use Rattle.native_filters.specs.Facts.{no_facts}
use Rattle.packet_views.specs.declared.packet.Class.{Class}
use Rattle.packet_views.specs.declared.packet.Class.TheVariants.{Tcp, Other, Fragment, Cut, Bad}
use Rattle.packet_views.specs.declared.packet.Head.{Head}
use Rattle.packet_views.specs.Flags.{has_rst}
use Rattle.tcp_emulation.specs.States.{number_of}
use Rattle.tcp_emulation.specs.declared.segment.Side.{Side}
use Rattle.tcp_emulation.specs.declared.segment.Side.TheVariants.{Client, Server}
use Rattle.flow_table.specs.declared.endpoint.Endpoint.{Endpoint}
use Rattle.flow_table.specs.declared.endpoint.Endpoint.TheVariants.{V4, V6}
use Rattle.flow_table.specs.Endpoint.{port_of}
use Rattle.flow_socket.specs.declared.answers.Sent.{Sent}
use Rattle.flow_socket.specs.declared.answers.Got.{Got}

-- the fact `dir`: the side that sent the packet
abbrev pub side_number : Side → ℕ
side_number Client = 0
side_number Server = 1

-- the fact `class`
abbrev pub class_number : Class → ℕ
class_number Tcp = 0
class_number Other = 1
class_number Fragment = 2
class_number Cut = 3
class_number Bad = 4

-- what the headers tell
unfoldable pub head_facts : Head → Facts
head_facts h = record no_facts {
  src = h.src;
  dst = h.dst;
  sport = h.sport;
  dport = h.dport;
  seq = h.seq;
  ack = h.ack;
  flags = h.flags;
  win = h.win;
  len = h.len;
  ttl = h.ttl;
}

-- the facts at the sender: its state around the step, and its stream before the packet
unfoldable pub sender_facts : Head → Side → ℕ → Sent → Facts
sender_facts h from nth s = record (head_facts h) {
  dir = side_number from;
  nth = nth;
  old = number_of s.change.old;
  new = number_of s.change.new;
  next = s.next;
}

-- a count of payload bytes: those of a segment with RST aren't read
abbrev pub read_bytes : Head → ℕ → ℕ
read_bytes h count = if has_rst h then 0 else count

-- the facts at the receiver: its state around the step, how the payload was judged, and the stream after it
unfoldable pub receiver_facts : Head → Side → ℕ → Got → Facts
receiver_facts h from nth g = record (head_facts h) {
  dir = side_number from;
  nth = nth;
  old = number_of g.change.old;
  new = number_of g.change.new;
  fresh = read_bytes h g.placed.new;
  rexlen = read_bytes h g.placed.old;
  rexdiff = read_bytes h g.placed.differ;
  fault = g.fault;
  next = g.next;
}

-- what the headers tell of an orphan of class tcp; of another they tell nothing
abbrev pub known_facts : Class → Option Head → Facts
known_facts Tcp (Some h) = head_facts h
known_facts class h = no_facts

-- the facts of an orphan
unfoldable pub orphan_facts : Class → Option Head → Facts
orphan_facts class h = record (known_facts class h) { class = class_number class }

-- an endpoint's address as a fact: one of IPv6 has more than 64 bits, and none is told
abbrev pub fact_of_address : Endpoint → ℕ
fact_of_address (V4 addr port) = addr
fact_of_address (V6 addr port) = 0

-- the facts of a connection that ended by idleness: from its client to its server, and of how many packets it was
unfoldable pub timer_facts : Endpoint → Endpoint → ℕ → Facts
timer_facts client server members = record no_facts {
  nth = members;
  src = fact_of_address client;
  dst = fact_of_address server;
  sport = port_of client;
  dport = port_of server;
}
