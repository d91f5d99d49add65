-- The lines of a report. Each ends with a newline.
use Rattle.std.specs.Prelude.{ℕ, List, ◌++◌, codes}
use Rattle.std.specs.Fmt.{decimal}
use Rattle.app_api.specs.declared.entry.Entry.{Entry}
use Rattle.app_api.specs.declared.reaction.Reason.{Reason}
use Rattle.report_text.specs.declared.record.RecordKind.{RecordKind}
use Rattle.report_text.specs.declared.record.RecordKind.TheVariants.{Conn, Orphan}
use Rattle.report_text.specs.declared.record.Record.{Record}
use Rattle.report_text.specs.declared.record.Totals.{Totals}
use Rattle.report_text.specs.Words.{class_text, hook_text, event_text, endpoint_text, seen_text, reason_text}

-- a connection with its client and its server, or an orphan with its class
abbrev pub kind_text : ℕ → RecordKind → List ℕ
kind_text name (Conn client server) = codes "conn " ++ (decimal name ++ (codes " " ++ (endpoint_text client ++ (codes " > " ++ endpoint_text server))))
kind_text name (Orphan class) = codes "orphan " ++ (decimal name ++ (codes " " ++ class_text class))

-- the first line of a record of this name, kind and version
abbrev pub head_line : ℕ → RecordKind → ℕ → List ℕ
head_line name kind version = kind_text name kind ++ (codes " v " ++ (decimal version ++ codes "\n"))

unfoldable pub first_line : Record → List ℕ
first_line r = head_line r.name r.kind r.version

unfoldable pub callback_line : Entry → List ℕ
callback_line e =
    codes "cb " ++ (decimal e.index ++ (codes " " ++ (hook_text e.hook ++ (codes " " ++ (event_text e.event
    ++ (codes " " ++ (decimal e.reg ++ (seen_text e.seen ++ codes "\n"))))))))

-- a dropped packet's place in the capture, and who asked for the drop
unfoldable pub drop_line : ℕ × Reason → List ℕ
drop_line d = codes "drop " ++ (decimal d.0 ++ (codes " " ++ (reason_text d.1 ++ codes "\n")))

-- a field's name and its value
unfoldable pub field_line : List ℕ × ℕ → List ℕ
field_line f = codes "field " ++ (f.0 ++ (codes " " ++ (decimal f.1 ++ codes "\n")))

unfoldable pub totals_line : Totals → List ℕ
totals_line t =
    codes "end packets " ++ (decimal t.packets ++ (codes " records " ++ (decimal t.records ++ (codes " callbacks " ++ (decimal t.callbacks
    ++ (codes " drops " ++ (decimal t.drops ++ (codes " tail " ++ (decimal t.tail ++ codes "\n")))))))))
