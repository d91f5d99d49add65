-- Not of the headline. Where the headers and the payload lie in a frame that holds a whole TCP segment, over either version of IP.
use Rattle.std.specs.Prelude.{◌≡◌, ℕ, ◌+◌, ◌≤◌, ◌<◌, ◌^◌, List, length}
use Rattle.packet_views.specs.declared.layout.Layout.{Layout}
use Rattle.packet_views.specs.declared.packet.Class.{Class}
use Rattle.packet_views.specs.Frame.{ip_start, tcp_start, ip_end}
use Rattle.packet_views.specs.Packet.{class_of}
use Rattle.packet_views.specs.Tcp.{payload_start}

-- a place is that of the IP header, among the first bytes of the frame
pub record IsIpStart (frame : List ℕ) (ip : ℕ) : Type 0 where
  pub is : ip ≡ ip_start frame
  pub near : ip ≤ 18

pub record IsLayoutOf (frame : List ℕ) (layout : Layout) : Type 0 where
  pub ip : layout.ip ≡ ip_start frame
  pub payload : layout.payload ≡ payload_start layout.tcp frame
  pub ip_header : layout.ip + 20 ≤ layout.tcp
  pub tcp_header : layout.tcp + 20 ≤ layout.payload
  pub segment : layout.payload ≤ layout.end
  pub captured : layout.end ≤ length frame
  pub packet : layout.end < layout.tcp + 2 ^ 16

-- the layout of a frame of class tcp, whose segment lies where the IPv4 header says
pub record IsTcpLayout (frame : List ℕ) (layout : Layout) : Type 0 where
  pub class : class_of frame ≡ Class.Tcp
  pub tcp : layout.tcp ≡ tcp_start frame
  pub end : layout.end ≡ ip_end frame
  pub lies : IsLayoutOf frame layout
