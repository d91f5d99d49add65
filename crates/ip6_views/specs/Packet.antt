-- What a frame that carries IPv6 is as a packet: where its TCP header is, or its class.
use Rattle.std.specs.Prelude.{◌==◌, not, ℕ, nat_lt, if◌then◌else◌, List, length}
use Rattle.packet_views.specs.declared.packet.Class.TheVariants.{Cut, Bad}
use Rattle.packet_views.specs.Frame.{ip_version}
use Rattle.packet_views.specs.Tcp.{is_tcp_bad}
use Rattle.ip6_views.specs.Frame.{header_end, ip6_end, first_kind}
use Rattle.ip6_views.specs.Chain.{Found, TcpAt, Only, chain}

-- what the walk has found, after the test of the TCP header
abbrev pub checked : List ℕ → Found → Found
checked frame (TcpAt tcp) = if is_tcp_bad tcp (ip6_end frame) frame then Only Bad else TcpAt tcp
checked frame (Only class) = Only class

-- the TCP header of a frame that carries IPv6, or the class by the first test that holds
unfoldable pub found6_in : List ℕ → Found
found6_in frame =
    if nat_lt (length frame) (header_end frame) then Only Cut
    else if not (ip_version frame == 6) then Only Bad
    else if nat_lt (length frame) (ip6_end frame) then Only Cut
    else checked frame (chain 8 frame (ip6_end frame) (first_kind frame) (header_end frame))
