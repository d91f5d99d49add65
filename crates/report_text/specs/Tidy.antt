-- Not of the headline. Which records a report may have. Endpoints are of IPv4 or IPv6.
use Rattle.std.specs.Prelude.{ℕ, ◌+◌, Option, Some, None, is_some, ◌&&◌, ◌||◌, ◌==◌, Bool, true, List, length, map, nat_le, nat_lt}
use Rattle.std.specs.List.{list_all}
use Rattle.app_api.specs.declared.entry.Entry.{Entry}
use Rattle.app_api.specs.declared.entry.Seen.{Seen}
use Rattle.app_api.specs.declared.entry.Seen.TheVariants.{Nothing, Next, At}
use Rattle.app_api.specs.App.{is_field_name}
use Rattle.app_api.specs.Names.{event_name}
use Rattle.app_api.specs.Numbers.{rise_from}
use Rattle.report_text.specs.declared.record.RecordKind.{RecordKind}
use Rattle.report_text.specs.declared.record.RecordKind.TheVariants.{Conn, Orphan}
use Rattle.report_text.specs.declared.record.Record.{Record}

-- a user-defined event is 1 to 255, and the built-in ones are those with a name
abbrev pub is_event : ℕ → Bool
is_event event = nat_le 1 event && nat_le event 255 || is_some (event_name event)

abbrev pub has_byte : ℕ × List ℕ → Bool
has_byte piece = nat_lt 0 (length piece.1)

-- each piece has a byte
abbrev pub is_tidy_seen : Seen → Bool
is_tidy_seen Nothing = true
is_tidy_seen (Next at missed bytes) = true
is_tidy_seen (At off pieces) = list_all has_byte pieces

abbrev pub is_tidy_entry : Entry → Bool
is_tidy_entry e = is_event e.event && is_tidy_seen e.seen

-- an orphan has no fields
abbrev pub may_have : RecordKind → List (List ℕ × ℕ) → Bool
may_have (Conn client server) fields = true
may_have (Orphan class) fields = length fields == 0

-- a field's name has one or more of a to z, digits and `_`
abbrev pub are_named : List (List ℕ × ℕ) → Bool
are_named fields = list_all (λ f. is_field_name f.0) fields

-- dropped packets stand by rising place
abbrev pub is_tidy_record : Record → Bool
is_tidy_record r =
    list_all is_tidy_entry r.entries && rise_from 0 (map (λ d. d.0) r.drops)
    && are_named r.fields && may_have r.kind r.fields

-- what is rising is at least this, after the last number
abbrev pub least_after : Option ℕ → ℕ
least_after None = 0
least_after (Some last) = last + 1

-- the names of records rise
unfoldable pub tidy : List Record → Bool
tidy rs = rise_from 0 (map (λ r. r.name) rs) && list_all is_tidy_record rs
