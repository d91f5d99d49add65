use denote.Param.Send.{sendable}
use Rattle.std.proofs.Crossing.{crosses}
use Rattle.app_api.proofs.log.LogApp.TheSendSync as log
use Rattle.shared_forest.proofs.table.Table.TheSendSync as table
use Rattle.lane_core.proofs.Handed.{lane_send}
use Rattle.worker_tests.proofs.lanes.lane_is_handed.Goals as goal

pub handed-requires-send-T : goal.handed-requires-send-T
handed-requires-send-T c κs = search (sendable, crosses, lane_send, log.the_send, table.the_send) depth 20
