-- Which numbers and bytes values of the records' types have. A definition on numbers speaks of records that no value is.
use Rattle.std.specs.Prelude.{ℕ, ◌^◌, ◌&&◌, Bool, true, List, nat_lt, IsTrue}
use Rattle.std.specs.List.{list_all}
use Rattle.flow_table.specs.declared.endpoint.Endpoint.{Endpoint}
use Rattle.flow_table.specs.declared.endpoint.Endpoint.TheVariants.{V4, V6}
use Rattle.app_api.specs.declared.entry.Entry.{Entry}
use Rattle.app_api.specs.declared.entry.Seen.{Seen}
use Rattle.app_api.specs.declared.entry.Seen.TheVariants.{Nothing, Next, At}
use Rattle.app_api.specs.declared.reaction.Reason.{Reason}
use Rattle.app_api.specs.declared.reaction.Reason.TheVariants.{Reg, Rule}
use Rattle.report_text.specs.declared.record.RecordKind.{RecordKind}
use Rattle.report_text.specs.declared.record.RecordKind.TheVariants.{Conn, Orphan}
use Rattle.report_text.specs.declared.record.Record.{Record}
use Rattle.report_text.specs.declared.record.Totals.{Totals}

-- numbers of 8, 16, 32 and 64 bits
abbrev pub is_u8 : ℕ → Bool
is_u8 n = nat_lt n (2 ^ 8)

abbrev pub is_u16 : ℕ → Bool
is_u16 n = nat_lt n (2 ^ 16)

abbrev pub is_u32 : ℕ → Bool
is_u32 n = nat_lt n (2 ^ 32)

abbrev pub is_u64 : ℕ → Bool
is_u64 n = nat_lt n (2 ^ 64)

abbrev pub are_bytes : List ℕ → Bool
are_bytes bytes = list_all is_u8 bytes

abbrev pub endpoint_fits : Endpoint → Bool
endpoint_fits (V4 addr port) = is_u32 addr && is_u16 port
endpoint_fits (V6 addr port) = nat_lt addr (2 ^ 128) && is_u16 port

abbrev pub kind_fits : RecordKind → Bool
kind_fits (Conn client server) = endpoint_fits client && endpoint_fits server
kind_fits (Orphan class) = true

abbrev pub piece_fits : ℕ × List ℕ → Bool
piece_fits piece = is_u64 piece.0 && are_bytes piece.1

abbrev pub seen_fits : Seen → Bool
seen_fits Nothing = true
seen_fits (Next at missed bytes) = is_u64 at && is_u64 missed && are_bytes bytes
seen_fits (At off pieces) = is_u64 off && list_all piece_fits pieces

abbrev pub entry_fits : Entry → Bool
entry_fits e = is_u64 e.index && is_u16 e.event && is_u8 e.reg && seen_fits e.seen

abbrev pub reason_fits : Reason → Bool
reason_fits (Reg n) = is_u8 n
reason_fits (Rule n) = is_u8 n

abbrev pub drop_fits : ℕ × Reason → Bool
drop_fits d = is_u64 d.0 && reason_fits d.1

abbrev pub field_fits : List ℕ × ℕ → Bool
field_fits f = are_bytes f.0 && is_u64 f.1

abbrev pub record_fits : Record → Bool
record_fits r =
    is_u64 r.name && kind_fits r.kind && is_u32 r.version
    && list_all entry_fits r.entries && list_all drop_fits r.drops && list_all field_fits r.fields

abbrev pub totals_fit : Totals → Bool
totals_fit t = is_u64 t.packets && is_u64 t.records && is_u64 t.callbacks && is_u64 t.drops && is_u32 t.tail

-- these records and totals are such as the types of their numbers and bytes have
pub record HaveTypes (records : List Record) (totals : Totals) : Type 0 where
  pub records_fit : IsTrue (list_all record_fits records)
  pub counts_fit : IsTrue (totals_fit totals)
