-- Not of the headline. Records under way as records of the report.
use Rattle.std.specs.Prelude.{ℕ, [], if◌then◌else◌}
use Rattle.app_api.specs.declared.app.Tally.{Tally}
use Rattle.app_api.specs.App.{Meaning}
use Rattle.report_text.specs.declared.record.Record.{Record}
use Rattle.report_text.specs.declared.record.RecordKind.{RecordKind}
use Rattle.report_text.specs.Kept.{is_conn}
use Rattle.lane_core.specs.declared.under_way.RecordUnderWay.{RecordUnderWay}

-- a record under way of no callback and no dropped packet
abbrev pub new_slot : ℕ → RecordKind → ℕ → Tally → RecordUnderWay
new_slot name kind version tally =
    record { name = name; kind = kind; version = version; notes = record { tally = tally; entries = [] }; drops = [] }

-- a record under way as the report shows it; an orphan has no fields
abbrev pub ended : Meaning → RecordUnderWay → Record
ended app slot = record {
  name = slot.name;
  kind = slot.kind;
  version = slot.version;
  entries = slot.notes.entries;
  drops = slot.drops;
  fields = if is_conn slot.kind then app.fields slot.notes.tally else [];
}
