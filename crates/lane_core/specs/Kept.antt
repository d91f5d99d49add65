-- Not of the headline. Which records what a lane keeps stands for.
use Rattle.std.specs.Prelude.{◌≡◌, ℕ, Bool, false, Option, Some, None, List, [], map, get_or, if◌then◌else◌}
use Rattle.packet_views.specs.declared.packet.Head.{Head}
use Rattle.packet_views.specs.declared.packet.Class.{Class}
use Rattle.flow_table.specs.Key.{EndpointPair}
use Rattle.builtin_events.specs.Raises.{orphan_raises}
use Rattle.report_text.specs.declared.record.RecordKind.TheVariants.{Orphan}
use Rattle.flow_table.specs.Table.{Flows, found}
use Rattle.app_api.specs.declared.registration.Reg.{Reg}
use Rattle.shared_forest.specs.declared.store.Shared.{Shared}
use Rattle.shared_forest.specs.Lists.{TreeLists}
use Rattle.connection_core.specs.declared.ledger.Counts.{Counts}
use Rattle.connection_core.specs.Standing.{IsFlow}
use Rattle.lane_core.specs.declared.connection.Connection.{Connection}
use Rattle.lane_core.specs.declared.under_way.RecordUnderWay.{RecordUnderWay}
use Rattle.lane_core.specs.Sight.{Segment, Sight, Moment}
use Rattle.lane_core.specs.Records.{RecordSoFar, VersionedPacket, opens, belongs_to, is_open_at, side_of, side_in, orphan_raises_of}
use Rattle.lane_core.specs.Shown.{kind_of, callbacks_of, weight}
use Rattle.lane_core.specs.Places.{place_by, place_of, IsSingle}

-- the record under way of a record so far; without `keep` it has no entries
abbrev pub slot_of : Bool → RecordSoFar → RecordUnderWay
slot_of keep so_far = record {
  name = so_far.first.number;
  kind = kind_of so_far.first.sight;
  version = so_far.version;
  notes = record { tally = so_far.history.tally; entries = if keep then so_far.history.entries else [] };
  drops = so_far.history.drops;
}

-- What is kept of an open connection: it stands for its history, its client tells the side of each segment, and its last packet is
-- known. `registered` looks up the registrations of a version, and `content` is the tree of what a store answered.
pub record IsOpen (registered : ℕ → ℕ → Option Reg) (content : Shared → TreeLists) (conn : Connection) (so_far : RecordSoFar) : Type 0 where
  pub sides : (segment : Segment) → side_of conn.client segment ≡ side_in so_far.first.sight segment
  pub version : conn.version ≡ so_far.version
  pub last : conn.last ≡ so_far.last.number
  pub heard : conn.moment ≡ so_far.last.moment
  pub kept : IsFlow (registered conn.version) (content conn.flow.forest) conn.flow so_far.history

-- what the table has for a key: nothing where no connection of it is open, else the one that is
module _ (registered : ℕ → ℕ → Option Reg) (content : Shared → TreeLists) where
  abbrev pub IsOpenAt : Option Connection → Option ℕ → List RecordSoFar → Type 0
  IsOpenAt None place so_far = place ≡ None
  IsOpenAt (Some conn) place so_far =
      (place ≡ Some conn.place) × ((d : RecordSoFar) → IsOpen registered content conn (get_or so_far conn.place d))

-- the records under way are these, each open connection is in the table, a key has at most one, and the callbacks are counted and
-- weighed
pub record AreKept (keep : Bool) (registered : ℕ → ℕ → Option Reg) (content : Shared
    → TreeLists) (flows : Flows Connection) (slots : List RecordUnderWay) (counts : Counts) (so_far : List RecordSoFar) : Type 0 where
  pub shown : slots ≡ map (slot_of keep) so_far
  pub placed : (key : EndpointPair) → IsOpenAt registered content (found flows key) (place_of key so_far) so_far
  pub single : (key : EndpointPair) → IsSingle (is_open_at key) so_far
  pub counted : counts.callbacks ≡ callbacks_of so_far
  pub weighed : counts.weight ≡ weight so_far

-- a packet of this version, with its number, its time and what is seen of it
abbrev pub arrived : ℕ → ℕ → Moment → Sight → VersionedPacket
arrived version number moment sight = record { version = version; arrival = record { number = number; moment = moment; sight = sight } }

-- a packet of this class and with this head that opens no connection and belongs to none of the open ones
pub record IsOrphan (sight : Sight) (class : Class) (head : Option Head) (so_far : List RecordSoFar) : Type 0 where
  pub kind : kind_of sight ≡ Orphan class
  pub raises : orphan_raises_of sight ≡ orphan_raises class head
  pub shut : opens sight ≡ false
  pub untaken : place_by (belongs_to sight) so_far ≡ None
