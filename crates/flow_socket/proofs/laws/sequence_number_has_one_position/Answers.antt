use Rattle.reassembly.specs.Position.{position_of}
use Rattle.flow_socket.proofs.Positions.{position, only_position}
use Rattle.flow_socket.proofs.laws.sequence_number_has_one_position.Goals as goal

pub returns-clause-near : goal.returns-clause-near
returns-clause-near c = position

pub returns-clause-only : goal.returns-clause-only
returns-clause-only c next irs seq q small_irs small_seq is =
    only_position next irs seq q (position_of next irs seq) is (position next irs seq small_irs small_seq)
