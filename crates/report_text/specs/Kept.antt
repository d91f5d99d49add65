-- Not of the headline. Records as they are kept: for which record of a report each stands.
use Rattle.std.specs.Prelude.{Bool, true, false, if◌then◌else◌, []}
use Rattle.app_api.specs.App.{Meaning}
use Rattle.report_text.specs.declared.kept.KeptRecord.{KeptRecord}
use Rattle.report_text.specs.declared.record.Record.{Record}
use Rattle.report_text.specs.declared.record.RecordKind.{RecordKind}
use Rattle.report_text.specs.declared.record.RecordKind.TheVariants.{Conn, Orphan}

abbrev pub is_conn : RecordKind → Bool
is_conn (Conn client server) = true
is_conn (Orphan class) = false

-- the record, under what an application answers: a connection has the fields of its tally, and an orphan has none
abbrev pub kept_record : Meaning → KeptRecord → Record
kept_record app kept = record {
  name = kept.name;
  kind = kept.kind;
  version = kept.version;
  entries = kept.callbacks.now;
  drops = kept.drops.now;
  fields = if is_conn kept.kind then app.fields kept.tally.now else [];
}
