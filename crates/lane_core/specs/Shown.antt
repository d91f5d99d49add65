-- What a record of the report shows of a record so far, and what is counted over all of them.
use Rattle.std.specs.Prelude.{ℕ, ◌+◌, List, [], ◌∷◌, length, if◌then◌else◌}
use Rattle.packet_views.specs.declared.packet.Class.TheVariants as Class
use Rattle.app_api.specs.App.{Meaning}
use Rattle.report_text.specs.declared.record.RecordKind.{RecordKind}
use Rattle.report_text.specs.declared.record.RecordKind.TheVariants.{Conn, Orphan}
use Rattle.report_text.specs.declared.record.Record.{Record}
use Rattle.connection_core.specs.History.{weight_of}
use Rattle.lane_core.specs.Sight.{Sight, Tcp, Other}
use Rattle.lane_core.specs.Records.{RecordSoFar, opens}

-- the sender of the SYN that opens a connection is its client
unfoldable pub kind_of : Sight → RecordKind
kind_of (Tcp segment) = if opens (Tcp segment) then Conn segment.sender segment.receiver else Orphan Class.Tcp
kind_of (Other class) = Orphan class

-- the fields of the application; an orphan has none
abbrev pub fields_of : Meaning → RecordSoFar → List (List ℕ × ℕ)
fields_of app so_far = if opens so_far.first.sight then app.fields so_far.history.tally else []

abbrev pub record_of : Meaning → RecordSoFar → Record
record_of app so_far = record {
  name = so_far.first.number;
  kind = kind_of so_far.first.sight;
  version = so_far.version;
  entries = so_far.history.entries;
  drops = so_far.history.drops;
  fields = fields_of app so_far;
}

-- a sum over records
unfoldable pub total : (RecordSoFar → ℕ) → List RecordSoFar → ℕ
total of [] = 0
total of (so_far ∷ others) = of so_far + total of others

abbrev pub callbacks_of : List RecordSoFar → ℕ
callbacks_of so_far = total (λ r. length r.history.entries) so_far

abbrev pub drop_count : List RecordSoFar → ℕ
drop_count so_far = total (λ r. length r.history.drops) so_far

-- each callback weighs 32 and the bytes that it saw
abbrev pub weight : List RecordSoFar → ℕ
weight so_far = total (λ r. weight_of r.history.entries) so_far

-- how often private lists were altered
abbrev pub alterations : List RecordSoFar → ℕ
alterations so_far = total (λ r. r.history.altered) so_far
