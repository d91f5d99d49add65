-- Not of the headline. What contracts see of a socket, and which emulated connections it stands for.
use Rattle.std.specs.Prelude.{◌≡◌, ℕ, ◌+◌, ◌≤◌, Option, Result, OnOk, OnErr}
use Rattle.packet_views.specs.declared.packet.Head.{Head}
use Rattle.tcp_emulation.specs.declared.segment.Side.{Side}
use Rattle.tcp_emulation.specs.declared.segment.Side.TheVariants.{Client, Server}
use Rattle.tcp_emulation.specs.States.{other}
use Rattle.tcp_emulation.specs.declared.ends.Ends.{Ends}
use Rattle.reassembly.specs.declared.answers.Policy.{Policy}
use Rattle.reassembly.specs.View.{StreamView, StandsFor}
use Rattle.flow_socket.specs.declared.answers.Origin.{Origin}
use Rattle.flow_socket.specs.declared.shifts.Shifts.{Shifts}
use Rattle.flow_socket.specs.Direction.{Direction}
use Rattle.flow_socket.specs.Emulation.{Emulation}

-- one direction: a stream keeps the bytes near next and forgets the others, and the greatest offer stands beside it
pub record DirectionView : Type 0 where
  pub origin : Option Origin
  pub stream : StreamView
  pub offer : Option ℕ
  pub mark : ℕ

pub record SocketView : Type 0 where
  pub ends : Ends
  pub shifts : Shifts
  pub client : DirectionView
  pub server : DirectionView
  pub last : Option Head
  pub rbuf : ℕ
  pub policy : Policy

abbrev pub view_at : Side → SocketView → DirectionView
view_at Client s = s.client
view_at Server s = s.server

-- next of the direction of one sender
abbrev pub next_at : Side → SocketView → ℕ
next_at from s = (view_at from s).stream.next

pub record DirectionStandsFor (rbuf : ℕ) (k : DirectionView) (d : Direction) : Type 0 where
  pub origin : k.origin ≡ d.origin
  pub stream : StandsFor k.stream d.receiver
  pub offer : k.offer ≡ d.receiver.offer
  pub window : k.stream.rbuf ≡ rbuf
  pub mark : k.mark ≡ d.mark

-- whatever direction it stands for, this is true of it
abbrev pub ForDirection : ℕ → DirectionView → (Direction → Type 0) → Type 0
ForDirection rbuf k IsTrueOf = (d : Direction) → DirectionStandsFor rbuf k d → IsTrueOf d

-- whatever direction it stands for, the value is what `told` makes of it
abbrev pub DirectionTells : {V : Type 0} → ℕ → DirectionView → V → (Direction → V) → Type 0
DirectionTells rbuf k value told = ForDirection rbuf k (λ d. value ≡ told d)

-- whatever direction it stood for, it then stands for what the step makes of it
abbrev pub DirectionStandsAfter : ℕ → DirectionView → DirectionView → (Direction → Direction) → Type 0
DirectionStandsAfter rbuf old new step = ForDirection rbuf old (λ d. DirectionStandsFor rbuf new (step d))

-- a socket stands for each connection with its ends and shifts, its origins, offers, marks and kept bytes, its last packet
-- and its settings
pub record SocketStandsFor (s : SocketView) (e : Emulation) : Type 0 where
  pub ends : s.ends ≡ e.ends
  pub shifts : s.shifts ≡ e.shifts
  pub client : DirectionStandsFor e.rbuf s.client e.client
  pub server : DirectionStandsFor e.rbuf s.server e.server
  pub last : s.last ≡ e.last
  pub rbuf : s.rbuf ≡ e.rbuf
  pub policy : s.policy ≡ e.policy

-- whatever connection the socket stands for, this is true of it
abbrev pub ForEmulation : SocketView → (Emulation → Type 0) → Type 0
ForEmulation s IsTrueOf = (e : Emulation) → SocketStandsFor s e → IsTrueOf e

-- whatever connection the socket stands for, the value is what `told` makes of it
abbrev pub SocketTells : {V : Type 0} → SocketView → V → (Emulation → V) → Type 0
SocketTells s value told = ForEmulation s (λ e. value ≡ told e)

-- whatever connection the socket stood for, it then stands for what the step makes of it
abbrev pub SocketStandsAfter : SocketView → SocketView → (Emulation → Emulation) → Type 0
SocketStandsAfter old new step = ForEmulation old (λ e. SocketStandsFor new (step e))

-- a step that leaves both streams
pub record KeepsStreams (old new : SocketView) : Type 0 where
  pub client : new.client.stream ≡ old.client.stream
  pub server : new.server.stream ≡ old.server.stream
  pub rbuf : new.rbuf ≡ old.rbuf

-- a step that leaves both directions as a whole
pub record KeepsDirections (old new : SocketView) : Type 0 where
  pub client : new.client ≡ old.client
  pub server : new.server ≡ old.server
  pub rbuf : new.rbuf ≡ old.rbuf

-- a step in one sender's direction, which leaves the other one and rises by a buffer at most
pub record ComesFrom {T E : Type 0} (from : Side) (old new : SocketView) (result : Result T E) : Type 0 where
  pub err : OnErr result (new ≡ old)
  pub rise : OnOk result (next_at from new ≤ next_at from old + old.rbuf)
  pub peer : OnOk result (view_at (other from) new ≡ view_at (other from) old)
  pub rbuf : new.rbuf ≡ old.rbuf
