-- A lane may be handed to a thread where its application and its store may.
use denote.RattleType.{RattleType}
use denote.Param.Send.{IsSend, sendable, recorded_send, struct_send}
use denote.Struct.Declared.{shape}
use denote.Struct.Struct.{Struct}
use Rattle.std.proofs.Crossing.{crosses}
use Rattle.app_api.proofs.lists.ActiveList.TheSendSync as active
use Rattle.filter_lang.proofs.term.Term.TheLaws.TheKnot as term
use Rattle.filter_lang.proofs.term.Sum.TheSendSync as sum
use Rattle.filter_lang.proofs.term.Op.TheSendSync as op
use Rattle.event_trees.proofs.path.EventPath.TheSendSync as path
use Rattle.reassembly.proofs.answers.Policy.TheSendSync as policy
use Rattle.forest_versions.proofs.rules.RuleList.TheSendSync as rules
use Rattle.forest_versions.proofs.past.Past.TheSendSync as past
use Rattle.shared_forest.proofs.store.Shared.TheSendSync as shared
use Rattle.flow_table.proofs.table.FlowTable.TheSendSync as table
use Rattle.forest_versions.specs.contracts.master.Master as master
use Rattle.shared_forest.specs.declared.store.ForestView.{Ghosts}
use Rattle.connection_core.proofs.ledger.Ledger.TheSendSync as ledger
use Rattle.lane_core.specs.contracts.lane.Lane as lane
use Rattle.lane_core.specs.contracts.records.Records as records
use Rattle.lane_core.proofs.connection.Connection.TheSendSync as connection
use Rattle.lane_core.proofs.under_way.RecordUnderWay.TheSendSync as under_way
use Rattle.lane_core.proofs.errors.LaneError.TheSendSync as error

pub master_send : IsSend master.the_row
master_send = search (
  sendable,
  crosses,
  active.the_send,
  term.send-Term,
  sum.the_field_send,
  op.the_field_send,
  path.the_field_send,
  policy.the_field_send,
  rules.the_send,
  past.the_send,
  shared.the_field_send,
) depth 60

records_send : (F : RattleType) (g : Ghosts F.Denot) → IsSend F → IsSend (records.the_field F g).row
records_send F g f = struct_send (shape (records.the_type F g)) (
  search (sendable, crosses, master_send) depth 20,
  (
    search (sendable, f) depth 20,
    (
      search (sendable, crosses, table.the_send, connection.the_field_send) depth 20,
      (
        search (sendable, crosses, under_way.the_field_send) depth 20,
        (
          search (sendable, crosses, ledger.the_field_send) depth 20,
          (search sendable depth 20, (search sendable depth 20, tt)),
        ),
      ),
    ),
  ),
)

pub lane_send : (A F : RattleType) (g : Ghosts F.Denot) → IsSend A → IsSend F → IsSend (lane.the_row A F g)
lane_send A F g a f = let t = lane.the_type A F g in recorded_send (Struct (shape t)) t.D t.to t.to_one (struct_send (shape t) (
  search (sendable, a) depth 20,
  (
    search sendable depth 20,
    (
      records_send F g f,
      (search (sendable, crosses, error.the_field_send) depth 20, tt),
    ),
  ),
))
