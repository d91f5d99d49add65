-- Not of the headline. What a view tells of its frame.
use Rattle.std.specs.Prelude.{◌≡◌, ◌≢◌, ◌≤◌, ℕ, List, Option, IfSome, ⊤}
use Rattle.packet_views.specs.declared.packet.Class.{Class}
use Rattle.packet_views.specs.declared.view.View.{View}
use Rattle.packet_views.specs.declared.view.View.TheVariants.{Tcp, Other}
use Rattle.packet_views.specs.Packet.{class_of}

-- a fact on the segment's frame, if the view shows a segment
abbrev pub IfTcp : View → (List ℕ → Type 0) → Type 0
IfTcp (Tcp frame) fact = fact frame
IfTcp (Other class) fact = ⊤

-- a fact on the class, if the view shows no segment
abbrev pub IfOther : View → (Class → Type 0) → Type 0
IfOther (Tcp frame) fact = ⊤
IfOther (Other class) fact = fact class

-- the class of a frame that holds no whole TCP segment
pub record IsNoSegment (frame : List ℕ) (class : Class) : Type 0 where
  pub is : class ≡ class_of frame
  pub not_tcp : class ≢ Class.Tcp

-- the window scale that the definition gives: its shift is at most 14
pub record IsScale (scale found : Option ℕ) : Type 0 where
  pub is : found ≡ scale
  pub bound : IfSome found (λ shift. shift ≤ 14)
