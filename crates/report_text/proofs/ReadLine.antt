-- What is written is read: whole lines.
use Rattle.std.proofs.Common.{◌≡◌, ℕ, ◌%◌, ◌^◌, ◌<◌, true, false, ◌&&◌, List, [], ◌∷◌, ◌++◌, length, refl, ap, ◌∙◌, arith, append_assoc, codes}
use Rattle.std.specs.Prelude.{nat_lt}
use Rattle.std.specs.Fmt.{decimal}
use Rattle.std.specs.List.{list_all}
use Rattle.std.proofs.lemmas.Bool.Decides.{nat_tests}
use Rattle.flow_table.specs.declared.endpoint.Endpoint.{Endpoint}
use Rattle.packet_views.specs.declared.packet.Class.{Class}
use Rattle.app_api.specs.App.{is_name_byte, is_field_name}
use Rattle.app_api.specs.declared.entry.Entry.{Entry}
use Rattle.app_api.specs.declared.reaction.Reason.{Reason}
use Rattle.report_text.specs.declared.record.RecordKind.TheVariants.{Conn, Orphan}
use Rattle.report_text.specs.declared.record.Totals.{Totals}
use Rattle.report_text.specs.declared.read.line.Line.{Line}
use Rattle.report_text.specs.declared.read.line.Line.TheVariants.{First, Callback, Dropped, Field, Last}
use Rattle.report_text.specs.Words.{class_text, hook_text, event_text, endpoint_text, seen_text, reason_text}
use Rattle.report_text.specs.Lines.{first_line, callback_line, drop_line, field_line, totals_line}
use Rattle.report_text.specs.Ranges.{is_u8, is_u16, is_u32, is_u64, are_bytes, endpoint_fits, kind_fits, seen_fits, entry_fits, reason_fits, totals_fit}
use Rattle.report_text.specs.Tidy.{is_event, is_tidy_seen, is_tidy_entry}
use Rattle.report_text.specs.ReadWords.{is_mark, first_word, skip, decimal_of, class_of, hook_of, event_of, reason_of, endpoint_of, after_endpoint, seen_of}
use Rattle.report_text.specs.ReadLines.{bare, line_text, is_tidy_line, line_fits, entry_of, totals_of, line_of}
use Rattle.report_text.proofs.ReadNumbers.{plain, and_parts, first-word, plain-decimal, decimal_of-decimal}
use Rattle.report_text.proofs.ReadParts.{skip-on, skip-zero, class-read, plain-class, hook-read, plain-hook, small-read, event-read}
use Rattle.report_text.proofs.ReadSeen.{below, reason-read, seen-marked, seen-read}
use Rattle.report_text.proofs.ReadEndpoints.{endpoint-read}

-- the numbers of an entry
pub record EntryParts (e : Entry) : Type 0 where
  pub index : e.index < 2 ^ 64
  pub event : is_event e.event ≡ true
  pub reg : e.reg < 2 ^ 8
  pub seen : seen_fits e.seen ≡ true

pub entry-parts : (e : Entry) → entry_fits e ≡ true → is_tidy_entry e ≡ true → EntryParts e
entry-parts e fits tidy =
    let a = and_parts (is_u64 e.index && is_u16 e.event && is_u8 e.reg) (seen_fits e.seen) fits in
    let b = and_parts (is_u64 e.index && is_u16 e.event) (is_u8 e.reg) a.0 in
    let c = and_parts (is_u64 e.index) (is_u16 e.event) b.0 in
    let d = and_parts (is_event e.event) (is_tidy_seen e.seen) tidy in
    record { index = below e.index (2 ^ 64) c.0; event = d.0; reg = below e.reg (2 ^ 8) b.1; seen = a.1 }

entry-read : (e : Entry) → EntryParts e → entry_of (callback_line e) ≡ e
unfolding callback_line
entry-read e h =
    let t5 = seen_text e.seen ++ codes "\n" in
    let t4 = decimal e.reg ++ t5 in
    let t3 = event_text e.event ++ (codes " " ++ t4) in
    let t2 = hook_text e.hook ++ (codes " " ++ t3) in
    let t1 = decimal e.index ++ (codes " " ++ t2) in
    let line = codes "cb " ++ t1 in
    let m = seen-marked e.seen in
    let event = event-read e.event (codes " " ++ t4) h.event refl in
    let s1 = skip-on 0 line (codes "cb") (codes " " ++ t1) (skip-zero line) refl refl in
    let s2 = skip-on 1 line (decimal e.index) (codes " " ++ t2) s1 (plain-decimal e.index h.index) refl in
    let s3 = skip-on 2 line (hook_text e.hook) (codes " " ++ t3) s2 (plain-hook e.hook) refl in
    let s4 = skip-on 3 line (event_text e.event) (codes " " ++ t4) s3 event.is_plain refl in
    let s5 = skip-on 4 line (decimal e.reg) t5 s4 (plain-decimal e.reg (omega (arith, h.reg))) m in
    let n1 = ap decimal_of s1 ∙ decimal_of-decimal e.index (codes " " ++ t2) h.index refl in
    let n2 = ap hook_of s2 ∙ hook-read e.hook (codes " " ++ t3) in
    let n3 = ap event_of s3 ∙ event.read in
    let n4 = ap (λ x. decimal_of x % 2 ^ 8) s4 ∙ small-read e.reg 8 t5 h.reg (omega arith) (omega (arith, h.reg)) m in
    let n5 = ap seen_of s5 ∙ seen-read e.seen h.seen in
    λ i. record { index = n1 i; hook = n2 i; event = n3 i; reg = n4 i; seen = n5 i }

drop-read : (index : ℕ) (reason : Reason) → index < 2 ^ 64 → reason_fits reason ≡ true
    → Dropped (decimal_of (skip 1 (drop_line (index, reason)))) (reason_of (skip 2 (drop_line (index, reason)))) ≡ Dropped index reason
unfolding drop_line
drop-read index reason wide fits =
    let t2 = reason_text reason ++ codes "\n" in
    let t1 = decimal index ++ (codes " " ++ t2) in
    let line = codes "drop " ++ t1 in
    let s1 = skip-on 0 line (codes "drop") (codes " " ++ t1) (skip-zero line) refl refl in
    let s2 = skip-on 1 line (decimal index) (codes " " ++ t2) s1 (plain-decimal index wide) refl in
    let n1 = ap decimal_of s1 ∙ decimal_of-decimal index (codes " " ++ t2) wide refl in
    let n2 = ap reason_of s2 ∙ reason-read reason (codes "\n") fits refl in
    λ i. Dropped (n1 i) (n2 i)

name-plain : (b : ℕ) → is_name_byte b ≡ true → is_mark b ≡ false
name-plain b h = grind (arith, nat_tests)

pub names-plain : (name : List ℕ) → list_all is_name_byte name ≡ true → plain name ≡ true
names-plain [] h = refl
names-plain (b ∷ name) h =
    let parts = and_parts (is_name_byte b) (list_all is_name_byte name) h in
    let here = name-plain b parts.0 in rw here (names-plain name parts.1)

pub field-plain : (name : List ℕ) → is_field_name name ≡ true → plain name ≡ true
field-plain name h = names-plain name (and_parts (nat_lt 0 (length name)) (list_all is_name_byte name) h).1

field-read : (name : List ℕ) (value : ℕ) → plain name ≡ true → value < 2 ^ 64
    → Field (first_word (skip 1 (field_line (name, value)))) (decimal_of (skip 2 (field_line (name, value)))) ≡ Field name value
unfolding field_line
field-read name value p wide =
    let t2 = decimal value ++ codes "\n" in
    let t1 = name ++ (codes " " ++ t2) in
    let line = codes "field " ++ t1 in
    let s1 = skip-on 0 line (codes "field") (codes " " ++ t1) (skip-zero line) refl refl in
    let s2 = skip-on 1 line name (codes " " ++ t2) s1 p refl in
    let n1 = ap first_word s1 ∙ first-word name (codes " " ++ t2) p refl in
    let n2 = ap decimal_of s2 ∙ decimal_of-decimal value (codes "\n") wide refl in
    λ i. Field (n1 i) (n2 i)

totals-read : (t : Totals) → t.packets < 2 ^ 64 → t.records < 2 ^ 64 → t.callbacks < 2 ^ 64 → t.drops < 2 ^ 64 → t.tail < 2 ^ 32
    → totals_of (totals_line t) ≡ t
unfolding totals_line
totals-read t hp hr hc hd ht =
    let u5 = decimal t.tail ++ codes "\n" in
    let u4 = decimal t.drops ++ (codes " tail " ++ u5) in
    let u3 = decimal t.callbacks ++ (codes " drops " ++ u4) in
    let u2 = decimal t.records ++ (codes " callbacks " ++ u3) in
    let u1 = decimal t.packets ++ (codes " records " ++ u2) in
    let line = codes "end packets " ++ u1 in
    let s1 = skip-on 0 line (codes "end") (codes " packets " ++ u1) (skip-zero line) refl refl in
    let s2 = skip-on 1 line (codes "packets") (codes " " ++ u1) s1 refl refl in
    let s3 = skip-on 2 line (decimal t.packets) (codes " records " ++ u2) s2 (plain-decimal t.packets hp) refl in
    let s4 = skip-on 3 line (codes "records") (codes " " ++ u2) s3 refl refl in
    let s5 = skip-on 4 line (decimal t.records) (codes " callbacks " ++ u3) s4 (plain-decimal t.records hr) refl in
    let s6 = skip-on 5 line (codes "callbacks") (codes " " ++ u3) s5 refl refl in
    let s7 = skip-on 6 line (decimal t.callbacks) (codes " drops " ++ u4) s6 (plain-decimal t.callbacks hc) refl in
    let s8 = skip-on 7 line (codes "drops") (codes " " ++ u4) s7 refl refl in
    let s9 = skip-on 8 line (decimal t.drops) (codes " tail " ++ u5) s8 (plain-decimal t.drops hd) refl in
    let s10 = skip-on 9 line (codes "tail") (codes " " ++ u5) s9 refl refl in
    let n1 = ap decimal_of s2 ∙ decimal_of-decimal t.packets (codes " records " ++ u2) hp refl in
    let n2 = ap decimal_of s4 ∙ decimal_of-decimal t.records (codes " callbacks " ++ u3) hr refl in
    let n3 = ap decimal_of s6 ∙ decimal_of-decimal t.callbacks (codes " drops " ++ u4) hc refl in
    let n4 = ap decimal_of s8 ∙ decimal_of-decimal t.drops (codes " tail " ++ u5) hd refl in
    let n5 = ap (λ x. decimal_of x % 2 ^ 32) s10 ∙ small-read t.tail 32 (codes "\n") ht (omega arith) (omega arith) refl in
    λ i. record { packets = n1 i; records = n2 i; callbacks = n3 i; drops = n4 i; tail = n5 i }

orphan-spread : (name : ℕ) (class : Class) (version : ℕ) → first_line (bare name (Orphan class) version)
    ≡ codes "orphan " ++ (decimal name ++ (codes " " ++ (class_text class ++ (codes " v " ++ (decimal version ++ codes "\n")))))
unfolding first_line
orphan-spread name class version = simp append_assoc

orphan-read : (name : ℕ) (class : Class) (version : ℕ) → name < 2 ^ 64 → version < 2 ^ 32
    → line_of (first_line (bare name (Orphan class) version)) ≡ First name (Orphan class) version
unfolding line_of
orphan-read name class version wide small =
    let t3 = decimal version ++ codes "\n" in
    let t2 = class_text class ++ (codes " v " ++ t3) in
    let t1 = decimal name ++ (codes " " ++ t2) in
    let line = codes "orphan " ++ t1 in
    let s1 = skip-on 0 line (codes "orphan") (codes " " ++ t1) (skip-zero line) refl refl in
    let s2 = skip-on 1 line (decimal name) (codes " " ++ t2) s1 (plain-decimal name wide) refl in
    let s3 = skip-on 2 line (class_text class) (codes " v " ++ t3) s2 (plain-class class) refl in
    let s4 = skip-on 3 line (codes "v") (codes " " ++ t3) s3 refl refl in
    let n1 = ap decimal_of s1 ∙ decimal_of-decimal name (codes " " ++ t2) wide refl in
    let n2 = ap class_of s2 ∙ class-read class (codes " v " ++ t3) in
    let n3 = ap (λ x. decimal_of x % 2 ^ 32) s4 ∙ small-read version 32 (codes "\n") small (omega arith) (omega arith) refl in
    ap line_of (orphan-spread name class version) ∙ (λ i. First (n1 i) (Orphan (n2 i)) (n3 i))

conn-spread : (name : ℕ) (client server : Endpoint) (version : ℕ) → first_line (bare name (Conn client server) version)
    ≡ codes "conn " ++ (decimal name ++ (codes " " ++ (endpoint_text client ++ (codes " > " ++ (endpoint_text server
    ++ (codes " v " ++ (decimal version ++ codes "\n")))))))
unfolding first_line
conn-spread name client server version = simp append_assoc

conn-read : (name : ℕ) (client server : Endpoint) (version : ℕ) → name < 2 ^ 64 → endpoint_fits client ≡ true → endpoint_fits server ≡ true → version < 2 ^ 32
    → line_of (first_line (bare name (Conn client server) version)) ≡ First name (Conn client server) version
unfolding line_of
conn-read name client server version wide fits1 fits2 small =
    let t4 = decimal version ++ codes "\n" in
    let t3 = endpoint_text server ++ (codes " v " ++ t4) in
    let t2 = endpoint_text client ++ (codes " > " ++ t3) in
    let t1 = decimal name ++ (codes " " ++ t2) in
    let line = codes "conn " ++ t1 in
    let behind = codes "> " ++ t3 in
    let version_at = codes "v " ++ t4 in
    let e1 = endpoint-read client (codes " > " ++ t3) fits1 refl in
    let e2 = endpoint-read server (codes " v " ++ t4) fits2 refl in
    let s1 = skip-on 0 line (codes "conn") (codes " " ++ t1) (skip-zero line) refl refl in
    let s2 = skip-on 1 line (decimal name) (codes " " ++ t2) s1 (plain-decimal name wide) refl in
    let at = ap after_endpoint s2 ∙ e1.behind in
    let s3 = ap (skip 1) at ∙ skip-on 0 behind (codes ">") (codes " " ++ t3) (skip-zero behind) refl refl in
    let last = ap after_endpoint s3 ∙ e2.behind in
    let s4 = ap (skip 1) last ∙ skip-on 0 version_at (codes "v") (codes " " ++ t4) (skip-zero version_at) refl refl in
    let n1 = ap decimal_of s1 ∙ decimal_of-decimal name (codes " " ++ t2) wide refl in
    let n2 = ap endpoint_of s2 ∙ e1.read in
    let n3 = ap endpoint_of s3 ∙ e2.read in
    let n4 = ap (λ x. decimal_of x % 2 ^ 32) s4 ∙ small-read version 32 (codes "\n") small (omega arith) (omega arith) refl in
    ap line_of (conn-spread name client server version) ∙ (λ i. First (n1 i) (Conn (n2 i) (n3 i)) (n4 i))

callback-kind : (e : Entry) → line_of (callback_line e) ≡ Callback (entry_of (callback_line e))
unfolding line_of callback_line
callback-kind e = refl

drop-kind : (index : ℕ) (reason : Reason) → line_of (drop_line (index, reason))
    ≡ Dropped (decimal_of (skip 1 (drop_line (index, reason)))) (reason_of (skip 2 (drop_line (index, reason))))
unfolding line_of drop_line
drop-kind index reason = refl

field-kind : (name : List ℕ) (value : ℕ) → line_of (field_line (name, value))
    ≡ Field (first_word (skip 1 (field_line (name, value)))) (decimal_of (skip 2 (field_line (name, value))))
unfolding line_of field_line
field-kind name value = refl

totals-kind : (t : Totals) → line_of (totals_line t) ≡ Last (totals_of (totals_line t))
unfolding line_of totals_line
totals-kind t = refl

-- the numbers of totals
pub record TotalsParts (t : Totals) : Type 0 where
  pub packets : t.packets < 2 ^ 64
  pub records : t.records < 2 ^ 64
  pub callbacks : t.callbacks < 2 ^ 64
  pub drops : t.drops < 2 ^ 64
  pub tail : t.tail < 2 ^ 32

pub totals-parts : (t : Totals) → totals_fit t ≡ true → TotalsParts t
totals-parts t fits =
    let a = and_parts (is_u64 t.packets && is_u64 t.records && is_u64 t.callbacks && is_u64 t.drops) (is_u32 t.tail) fits in
    let b = and_parts (is_u64 t.packets && is_u64 t.records && is_u64 t.callbacks) (is_u64 t.drops) a.0 in
    let c = and_parts (is_u64 t.packets && is_u64 t.records) (is_u64 t.callbacks) b.0 in
    let d = and_parts (is_u64 t.packets) (is_u64 t.records) c.0 in
    record {
      packets = below t.packets (2 ^ 64) d.0;
      records = below t.records (2 ^ 64) d.1;
      callbacks = below t.callbacks (2 ^ 64) c.1;
      drops = below t.drops (2 ^ 64) b.1;
      tail = below t.tail (2 ^ 32) a.1;
    }

-- what is written of a line is read as the line
pub line-read : (l : Line) → line_fits l ≡ true → is_tidy_line l ≡ true → line_of (line_text l) ≡ l
line-read (First name (Conn client server) version) fits tidy =
    let a = and_parts (is_u64 name && kind_fits (Conn client server)) (is_u32 version) fits in
    let b = and_parts (is_u64 name) (kind_fits (Conn client server)) a.0 in
    let c = and_parts (endpoint_fits client) (endpoint_fits server) b.1 in
    conn-read name client server version (below name (2 ^ 64) b.0) c.0 c.1 (below version (2 ^ 32) a.1)
line-read (First name (Orphan class) version) fits tidy =
    let a = and_parts (is_u64 name && kind_fits (Orphan class)) (is_u32 version) fits in
    let b = and_parts (is_u64 name) (kind_fits (Orphan class)) a.0 in
    orphan-read name class version (below name (2 ^ 64) b.0) (below version (2 ^ 32) a.1)
line-read (Callback e) fits tidy = callback-kind e ∙ ap Callback (entry-read e (entry-parts e fits tidy))
line-read (Dropped index reason) fits tidy =
    let a = and_parts (is_u64 index) (reason_fits reason) fits in
    drop-kind index reason ∙ drop-read index reason (below index (2 ^ 64) a.0) a.1
line-read (Field name value) fits tidy =
    let a = and_parts (are_bytes name) (is_u64 value) fits in
    field-kind name value ∙ field-read name value (field-plain name tidy) (below value (2 ^ 64) a.1)
line-read (Last t) fits tidy =
    let h = totals-parts t fits in
    totals-kind t ∙ ap Last (totals-read t h.packets h.records h.callbacks h.drops h.tail)
