-- Not of the headline. What the lists of raises say, in the words of the subject.
use Rattle.std.specs.Prelude.{◌≡◌, ℕ, Bool, List, map, IsTrue, ◌==◌}
use Rattle.std.specs.List.{list_any, list_all, AllByRecursion}
use Rattle.native_filters.specs.declared.facts.Hook.{Hook}
use Rattle.native_filters.specs.declared.facts.Hook.TheVariants.{Snd, Rcv}
use Rattle.packet_views.specs.declared.packet.Head.{Head}
use Rattle.tcp_emulation.specs.declared.segment.Side.{Side}
use Rattle.app_api.specs.Events.{START, allows_hook, of_packets_at}
use Rattle.app_api.specs.Numbers.{rise_from}
use Rattle.flow_socket.specs.declared.answers.Sent.{Sent}
use Rattle.flow_socket.specs.declared.answers.Got.{Got}
use Rattle.builtin_events.specs.declared.raise.Raise.{Raise}
use Rattle.builtin_events.specs.Facts.{sender_facts, receiver_facts}
use Rattle.builtin_events.specs.Raises.{sender_events, receiver_events, sender_raises, receiver_raises}

-- whether an event is among the raises
abbrev pub is_raised : ℕ → List Raise → Bool
is_raised event raises = list_any (λ r. r.event == event) raises

-- the events stand by rising number, so none is raised twice
abbrev pub IsInOrder : List Raise → Type 0
IsInOrder raises = IsTrue (rise_from START (map (λ r. r.event) raises))

-- each event is raised at a side at which it may be
abbrev pub IsAtItsSide : List Raise → Type 0
IsAtItsSide raises = IsTrue (list_all (λ r. allows_hook r.event r.hook) raises)

-- of these events each is raised exactly where the condition beside it holds
abbrev pub AreRaisedWhere : List (Bool × ℕ) → List Raise → Type 0
AreRaisedWhere rows raises = AllByRecursion (λ row. is_raised row.1 raises ≡ row.0) rows

-- these rows decide each event that packets may raise at the hook, and no other, in order
abbrev pub DecideEach : Hook → List (Bool × ℕ) → Type 0
DecideEach hook rows = map (λ row. row.1) rows ≡ of_packets_at hook

-- at the sender each event that packets may raise there is raised exactly where its condition holds
pub record RaisesAtSender (h : Head) (from : Side) (nth : ℕ) (first : Bool) (s : Sent) : Type 0 where
  pub order : IsInOrder (sender_raises h from nth first s)
  pub side : IsAtItsSide (sender_raises h from nth first s)
  pub all : DecideEach Snd (sender_events (sender_facts h from nth s) first)
  pub each : AreRaisedWhere (sender_events (sender_facts h from nth s) first) (sender_raises h from nth first s)

-- and at the receiver
pub record RaisesAtReceiver (h : Head) (from : Side) (nth : ℕ) (g : Got) : Type 0 where
  pub order : IsInOrder (receiver_raises h from nth g)
  pub side : IsAtItsSide (receiver_raises h from nth g)
  pub all : DecideEach Rcv (receiver_events (receiver_facts h from nth g) g)
  pub each : AreRaisedWhere (receiver_events (receiver_facts h from nth g) g) (receiver_raises h from nth g)
