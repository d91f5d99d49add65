-- The text of a report.
use Rattle.std.specs.Prelude.{ℕ, List, ◌++◌, flat_map}
use Rattle.report_text.specs.declared.record.Record.{Record}
use Rattle.report_text.specs.declared.record.Totals.{Totals}
use Rattle.report_text.specs.Lines.{first_line, callback_line, drop_line, field_line, totals_line}

-- what follows the first line of a record: its callbacks, its dropped packets and its fields, each in order
abbrev pub rest_text : Record → List ℕ
rest_text r = flat_map callback_line r.entries ++ (flat_map drop_line r.drops ++ flat_map field_line r.fields)

abbrev pub record_text : Record → List ℕ
record_text r = first_line r ++ rest_text r

abbrev pub records_text : List Record → List ℕ
records_text rs = flat_map record_text rs

-- the records in order, and then the totals
unfoldable pub report_text : List Record → Totals → List ℕ
report_text rs t = records_text rs ++ totals_line t
