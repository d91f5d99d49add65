-- Only for proofs. The lines of a report as data, how one is read, and where one may stand.
use Rattle.std.specs.Prelude.{ℕ, ◌+◌, ◌%◌, ◌^◌, ◌==◌, ◌&&◌, Bool, true, if◌then◌else◌, List, [], ◌∷◌, ◌++◌, length, nat_le, slice_index, bytes_eq, Option, Some, None}
use Rattle.std.specs.Option.{option_to_list}
use Rattle.app_api.specs.App.{is_field_name}
use Rattle.app_api.specs.declared.entry.Entry.{Entry}
use Rattle.app_api.specs.declared.reaction.Reason.{Reason}
use Rattle.report_text.specs.declared.record.RecordKind.{RecordKind}
use Rattle.report_text.specs.declared.record.RecordKind.TheVariants.{Conn, Orphan}
use Rattle.report_text.specs.declared.record.Record.{Record}
use Rattle.report_text.specs.declared.record.Totals.{Totals}
use Rattle.report_text.specs.declared.read.line.Line.{Line}
use Rattle.report_text.specs.declared.read.line.Line.TheVariants.{First, Callback, Dropped, Field, Last}
use Rattle.report_text.specs.declared.read.taker.Taker.{Taker}
use Rattle.report_text.specs.Kept.{is_conn}
use Rattle.report_text.specs.Lines.{first_line, callback_line, drop_line, field_line, totals_line}
use Rattle.report_text.specs.Ranges.{is_u64, is_u32, kind_fits, entry_fits, drop_fits, field_fits, totals_fit}
use Rattle.report_text.specs.Tidy.{is_tidy_entry}
use Rattle.report_text.specs.ReadWords.{first_word, skip, decimal_of, class_of, hook_of, event_of, reason_of, endpoint_of, after_endpoint, seen_of}

-- a record with nothing behind its first line
abbrev pub bare : ℕ → RecordKind → ℕ → Record
bare name kind version = record { name = name; kind = kind; version = version; entries = []; drops = []; fields = [] }

abbrev pub line_text : Line → List ℕ
line_text (First name kind version) = first_line (bare name kind version)
line_text (Callback e) = callback_line e
line_text (Dropped index reason) = drop_line (index, reason)
line_text (Field name value) = field_line (name, value)
line_text (Last t) = totals_line t

-- what tidy records say of a line alone
abbrev pub is_tidy_line : Line → Bool
is_tidy_line (First name kind version) = true
is_tidy_line (Callback e) = is_tidy_entry e
is_tidy_line (Dropped index reason) = true
is_tidy_line (Field name value) = is_field_name name
is_tidy_line (Last t) = true

-- each number in its type's range, and each byte below 256
abbrev pub line_fits : Line → Bool
line_fits (First name kind version) = is_u64 name && kind_fits kind && is_u32 version
line_fits (Callback e) = entry_fits e
line_fits (Dropped index reason) = drop_fits (index, reason)
line_fits (Field name value) = field_fits (name, value)
line_fits (Last t) = totals_fit t

abbrev pub entry_of : List ℕ → Entry
entry_of text = record {
  index = decimal_of (skip 1 text);
  hook = hook_of (skip 2 text);
  event = event_of (skip 3 text);
  reg = decimal_of (skip 4 text) % 2 ^ 8;
  seen = seen_of (skip 5 text);
}

-- the words of the totals stand between their names
abbrev pub totals_of : List ℕ → Totals
totals_of text = record {
  packets = decimal_of (skip 2 text);
  records = decimal_of (skip 4 text);
  callbacks = decimal_of (skip 6 text);
  drops = decimal_of (skip 8 text);
  tail = decimal_of (skip 10 text) % 2 ^ 32;
}

abbrev pub orphan_of : List ℕ → Line
orphan_of text = First (decimal_of (skip 1 text)) (Orphan (class_of (skip 2 text))) (decimal_of (skip 4 text) % 2 ^ 32)

-- behind the client and the word between the two
abbrev pub server_at : List ℕ → List ℕ
server_at text = skip 1 (after_endpoint (skip 2 text))

abbrev pub conn_of : List ℕ → Line
conn_of text =
    First (decimal_of (skip 1 text)) (Conn (endpoint_of (skip 2 text)) (endpoint_of (server_at text)))
    (decimal_of (skip 1 (after_endpoint (server_at text))) % 2 ^ 32)

-- the first byte of a line, and for `c` the second one, tell its kind
unfoldable pub line_of : List ℕ → Line
line_of text =
    if slice_index text 0 == 111 then orphan_of text
    else if slice_index text 0 == 100 then Dropped (decimal_of (skip 1 text)) (reason_of (skip 2 text))
    else if slice_index text 0 == 102 then Field (first_word (skip 1 text)) (decimal_of (skip 2 text))
    else if slice_index text 0 == 101 then Last (totals_of text)
    else if slice_index text 1 == 98 then Callback (entry_of text)
    else conn_of text

-- a record's name is above the last one
abbrev pub least_name : Option Record → ℕ
least_name None = 0
least_name (Some r) = r.name + 1

-- a dropped packet's place is above the last one
abbrev pub least_from : ℕ → List (ℕ × Reason) → ℕ
least_from least [] = least
least_from least (d ∷ ds) = least_from (d.0 + 1) ds

abbrev pub with_entry : Entry → Record → Option Record
with_entry e r = if length r.drops == 0 && length r.fields == 0 then Some (record r { entries = r.entries ++ e ∷ [] }) else None

abbrev pub with_drop : ℕ × Reason → Record → Option Record
with_drop d r = if nat_le (least_from 0 r.drops) d.0 && length r.fields == 0 then Some (record r { drops = r.drops ++ d ∷ [] }) else None

abbrev pub with_field : List ℕ × ℕ → Record → Option Record
with_field f r = if is_conn r.kind then Some (record r { fields = r.fields ++ f ∷ [] }) else None

abbrev pub reopened : List Record → Option Record → Option Taker
reopened done None = None
reopened done (Some r) = Some (record { done = done; last = Some r; totals = None })

-- a record behind those so far
abbrev pub with_record : List Record → Option Record → Record → Taker
with_record done last r = record { done = done ++ option_to_list last; last = Some r; totals = None }

-- a line that goes on with the last record
abbrev pub go_on : List Record → Record → Line → Option Taker
go_on done r (First name kind version) = None
go_on done r (Callback e) = reopened done (with_entry e r)
go_on done r (Dropped index reason) = reopened done (with_drop (index, reason) r)
go_on done r (Field name value) = reopened done (with_field (name, value) r)
go_on done r (Last t) = None

abbrev pub on_open : List Record → Option Record → Line → Option Taker
on_open done None line = None
on_open done (Some r) line = go_on done r line

-- a line behind the records so far, which no totals end
abbrev pub put_more : List Record → Option Record → Line → Option Taker
put_more done last (First name kind version) =
    if nat_le (least_name last) name then Some (with_record done last (bare name kind version)) else None
put_more done last (Callback e) = on_open done last (Callback e)
put_more done last (Dropped index reason) = on_open done last (Dropped index reason)
put_more done last (Field name value) = on_open done last (Field name value)
put_more done last (Last t) = Some (record { done = done; last = last; totals = Some t })

abbrev pub put_unless : Option Totals → List Record → Option Record → Line → Option Taker
put_unless None done last line = put_more done last line
put_unless (Some t) done last line = None

-- what stands after one more line, where the line may stand there
unfoldable pub put : Taker → Line → Option Taker
put s line = put_unless s.totals s.done s.last line

-- nothing yet
abbrev pub start : Taker
start = record { done = []; last = None; totals = None }

abbrev pub finished_with : List Record → Option Totals → Option (List Record × Totals)
finished_with rs None = None
finished_with rs (Some t) = Some (rs, t)

-- the records and the totals, where these were read
abbrev pub finished : Taker → Option (List Record × Totals)
finished s = finished_with (s.done ++ option_to_list s.last) s.totals

-- what stands after one more line of text: what is read of it is written again and compared
unfoldable pub taken : Taker → List ℕ → Option Taker
taken s text = if is_tidy_line (line_of text) && bytes_eq (line_text (line_of text)) text then put s (line_of text) else None
