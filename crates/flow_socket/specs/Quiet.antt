-- Only for proofs. Packets that change no state of an end.
use Rattle.std.specs.Prelude.{◌≡◌, false, None}
use Rattle.packet_views.specs.declared.packet.Head.{Head}
use Rattle.packet_views.specs.Flags.{has_syn, has_fin, has_rst}
use Rattle.tcp_emulation.specs.declared.segment.Side.{Side}
use Rattle.tcp_emulation.specs.declared.state.State.TheVariants.{Established}
use Rattle.tcp_emulation.specs.States.{other}
use Rattle.tcp_emulation.specs.Ends.{end_at}
use Rattle.flow_socket.specs.Emulation.{Emulation, direction_of}

-- it has none of SYN, FIN and RST, its receiver is ESTABLISHED, and no FIN of its sender is noted
pub record IsQuiet (from : Side) (h : Head) (e : Emulation) : Type 0 where
  pub syn : has_syn h ≡ false
  pub fin : has_fin h ≡ false
  pub rst : has_rst h ≡ false
  pub established : (end_at (other from) e.ends).state ≡ Established
  pub unfinished : (direction_of from e).receiver.fin ≡ None
