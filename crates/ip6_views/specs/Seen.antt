-- Not of the headline. A sight that borrows its payload from the frame, as the definitions have it.
use Rattle.std.specs.Prelude.{◌≡◌, ◌≢◌, ⊤}
use Rattle.packet_views.specs.declared.packet.Class.{Class}
use Rattle.ip6_views.specs.declared.sight.SightTcp.{SightTcp}
use Rattle.ip6_views.specs.declared.sight.Sight.{Sight as Borrowed}
use Rattle.ip6_views.specs.Chain.{Found, Only}
use Rattle.ip6_views.specs.Sight.{Segment, Sight, Tcp, Other}

abbrev pub seen : SightTcp → Segment
seen s = record { head = s.head; sender = s.from; receiver = s.to; scale = s.scale; payload = s.payload.now }

abbrev pub shown : Borrowed → Sight
shown (Borrowed.Tcp segment) = Tcp (seen segment)
shown (Borrowed.Other class) = Other class

-- a fact on the class, if no segment was seen
abbrev pub IfOther : Borrowed → (Class → Type 0) → Type 0
IfOther (Borrowed.Tcp segment) fact = ⊤
IfOther (Borrowed.Other class) fact = fact class

-- the class of a packet without a TCP header
pub record IsOnly (found : Found) (class : Class) : Type 0 where
  pub only : found ≡ Only class
  pub not_tcp : class ≢ Class.Tcp

-- a sight that the definition gives
pub record Shows (wanted : Sight) (borrowed : Borrowed) : Type 0 where
  pub sight : shown borrowed ≡ wanted
  pub not_tcp : IfOther borrowed (λ class. class ≢ Class.Tcp)
