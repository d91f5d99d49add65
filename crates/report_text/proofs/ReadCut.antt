-- A line ends at its first newline, so a text is cut into lines in one way.
use Rattle.std.proofs.Common.{◌≡◌, ℕ, suc, ◌+◌, ◌^◌, ◌<◌, Bool, true, false, not, ◌&&◌, List, [], ◌∷◌, ◌++◌, length, take, drop, refl, ap, sym, subst, ◌∙◌, arith, append_assoc, codes, inl, inr}
use Rattle.std.specs.Prelude.{nat_lt, slice_index, ◌==◌, if◌then◌else◌, ◌*◌, ◌/◌, ◌%◌, flat_map}
use Rattle.std.specs.Fmt.{decimal, digits}
use Rattle.std.specs.Int.{w32, to_be_bytes}
use Rattle.std.specs.List.{list_all, position_or_len}
use Rattle.std.specs.Net.Text.{dotted_text}
use Rattle.std.proofs.Math.Numerals.{one-add}
use Rattle.std.proofs.lemmas.Bool.{cases_eq}
use Rattle.std.proofs.lemmas.Bool.Decides.{nat_tests}
use Rattle.flow_table.specs.declared.endpoint.Endpoint.{Endpoint}
use Rattle.flow_table.specs.declared.endpoint.Endpoint.TheVariants.{V4, V6}
use Rattle.packet_views.specs.declared.packet.Class.{Class}
use Rattle.app_api.specs.declared.entry.Entry.{Entry}
use Rattle.app_api.specs.declared.entry.Seen.{Seen}
use Rattle.app_api.specs.declared.entry.Seen.TheVariants.{Nothing, Next, At}
use Rattle.app_api.specs.declared.reaction.Reason.{Reason}
use Rattle.app_api.specs.declared.reaction.Reason.TheVariants.{Reg, Rule}
use Rattle.report_text.specs.declared.record.RecordKind.{RecordKind}
use Rattle.report_text.specs.declared.record.RecordKind.TheVariants.{Conn, Orphan}
use Rattle.report_text.specs.declared.record.Totals.{Totals}
use Rattle.report_text.specs.declared.read.line.Line.{Line}
use Rattle.report_text.specs.declared.read.line.Line.TheVariants.{First, Callback, Dropped, Field, Last}
use Rattle.report_text.specs.Words.{class_text, hook_text, event_text, groups_of, groups_text, v6_text, endpoint_text, bytes_text, piece_text, seen_text, reason_text}
use Rattle.report_text.specs.Lines.{kind_text, first_line, callback_line, drop_line, field_line, totals_line}
use Rattle.report_text.specs.Ranges.{is_u16, is_u32, is_u64, are_bytes, endpoint_fits, kind_fits, seen_fits, reason_fits}
use Rattle.report_text.specs.ReadWords.{is_mark}
use Rattle.report_text.specs.ReadLines.{bare, line_text, is_tidy_line, line_fits}
use Rattle.report_text.proofs.ReadNumbers.{plain, plain-head, and_parts, not_true, plain-decimal, plain-hex}
use Rattle.report_text.proofs.ReadParts.{plain-class, plain-hook, event-read}
use Rattle.report_text.proofs.ReadSeen.{below, plain-bytes, fit_pieces}
use Rattle.report_text.proofs.ReadLine.{EntryParts, entry-parts, totals-parts, field-plain}

-- a text whose first newline is its last byte
abbrev pub one_line : List ℕ → Bool
one_line [] = false
one_line (b ∷ t) = if b == 10 then length t == 0 else one_line t

-- no newline
abbrev pub flat : List ℕ → Bool
flat w = list_all (λ b. not (b == 10)) w

mark-newline : (b : ℕ) → is_mark b ≡ false → (b == 10) ≡ false
mark-newline b h = grind (arith, nat_tests)

plain-flat : (w : List ℕ) → plain w ≡ true → flat w ≡ true
plain-flat [] h = refl
plain-flat (b ∷ w) h =
    let parts = plain-head b w h in
    let here = mark-newline b parts.0 in rw here (plain-flat w parts.1)

flat-head : (b : ℕ) (w : List ℕ) → flat (b ∷ w) ≡ true → ((b == 10) ≡ false) × (flat w ≡ true)
flat-head b w h = let parts = and_parts (not (b == 10)) (flat w) h in (not_true (b == 10) parts.0, parts.1)

flat-append : (a b : List ℕ) → flat a ≡ true → flat b ≡ true → flat (a ++ b) ≡ true
flat-append [] b ha hb = hb
flat-append (x ∷ a) b ha hb =
    let parts = flat-head x a ha in
    let here = parts.0 in rw here (flat-append a b parts.1 hb)

pub one_line-on : (w t : List ℕ) → flat w ≡ true → one_line (w ++ t) ≡ one_line t
one_line-on [] t h = refl
one_line-on (b ∷ w) t h =
    let parts = flat-head b w h in
    let here = parts.0 in rw here (one_line-on w t parts.1)

flat-decimal : (n : ℕ) → n < 2 ^ 64 → flat (decimal n) ≡ true
flat-decimal n h = plain-flat (decimal n) (plain-decimal n h)

flat-hex : (n : ℕ) → n < 2 ^ 16 → flat (digits 16 false n) ≡ true
flat-hex n h = plain-flat (digits 16 false n) (plain-hex n h)

-- a number and what follows it
flat-number : (n : ℕ) (t : List ℕ) → n < 2 ^ 64 → flat t ≡ true → flat (decimal n ++ t) ≡ true
flat-number n t h ht = flat-append (decimal n) t (flat-decimal n h) ht

dotted-spread : (a b c d : ℕ) → dotted_text a b c d
    ≡ decimal a ++ (codes "." ++ (decimal b ++ (codes "." ++ (decimal c ++ (codes "." ++ decimal d)))))
dotted-spread a b c d = simp append_assoc

flat-dotted : (a b c d port : ℕ) → a < 256 → b < 256 → c < 256 → d < 256 → port < 2 ^ 16
    → flat (dotted_text a b c d ++ (codes ":" ++ decimal port)) ≡ true
flat-dotted a b c d port ha hb hc hd hp =
    flat-append (dotted_text a b c d) (codes ":" ++ decimal port)
    (subst (λ x. flat x ≡ true) (sym (dotted-spread a b c d))
    (flat-number a (codes "." ++ (decimal b ++ (codes "." ++ (decimal c ++ (codes "." ++ decimal d))))) (omega arith)
    (flat-number b (codes "." ++ (decimal c ++ (codes "." ++ decimal d))) (omega arith)
    (flat-number c (codes "." ++ decimal d) (omega arith) (flat-decimal d (omega arith))))))
    (flat-decimal port (omega arith))

flat-groups : (gs : List ℕ) → list_all is_u16 gs ≡ true → flat (groups_text gs) ≡ true
flat-groups [] h = refl
flat-groups (g ∷ gs) h =
    let parts = and_parts (is_u16 g) (list_all is_u16 gs) h in
    flat-append (digits 16 false g) (groups_text gs) (flat-hex g (below g (2 ^ 16) parts.0)) (flat-groups gs parts.1)

pair-fits : (x y : ℕ) → x < 256 → y < 256 → is_u16 (x * 256 + y) ≡ true
pair-fits x y hx hy = grind (arith, nat_tests)

byte-small : (n p : ℕ) → n / p % 256 < 256
byte-small n p = omega arith

group-fits : (n p q : ℕ) → is_u16 (n / p % 256 * 256 + n / q % 256) ≡ true
group-fits n p q = pair-fits (n / p % 256) (n / q % 256) (byte-small n p) (byte-small n q)

low-fits : (n : ℕ) → is_u16 (n / 256 % 256 * 256 + n % 256) ≡ true
low-fits n = pair-fits (n / 256 % 256) (n % 256) (omega arith) (omega arith)

groups-fit : (addr : ℕ) → list_all is_u16 (groups_of addr) ≡ true
unfolding groups_of
groups-fit addr =
    rw (
      group-fits addr (2 ^ 120) (2 ^ 112),
      group-fits addr (2 ^ 104) (2 ^ 96),
      group-fits addr (2 ^ 88) (2 ^ 80),
      group-fits addr (2 ^ 72) (2 ^ 64),
      group-fits addr (2 ^ 56) (2 ^ 48),
      group-fits addr (2 ^ 40) (2 ^ 32),
      group-fits addr (2 ^ 24) (2 ^ 16),
      low-fits addr,
    ) refl

head-fits : (gs : List ℕ) → list_all is_u16 gs ≡ true → slice_index gs 0 < 2 ^ 16
head-fits [] h = omega arith
head-fits (g ∷ gs) h = below g (2 ^ 16) (and_parts (is_u16 g) (list_all is_u16 gs) h).0

tail-fits : (gs : List ℕ) → list_all is_u16 gs ≡ true → list_all is_u16 (drop 1 gs) ≡ true
tail-fits [] h = refl
tail-fits (g ∷ gs) h = (and_parts (is_u16 g) (list_all is_u16 gs) h).1

flat-endpoint : (e : Endpoint) → endpoint_fits e ≡ true → flat (endpoint_text e) ≡ true
unfolding endpoint_text v6_text
flat-endpoint (V4 addr port) h =
    let parts = and_parts (is_u32 addr) (is_u16 port) h in
    let o = to_be_bytes w32 addr in
    flat-dotted (slice_index o 0) (slice_index o 1) (slice_index o 2) (slice_index o 3) port
    (omega arith) (omega arith) (omega arith) (omega arith) (below port (2 ^ 16) parts.1)
flat-endpoint (V6 addr port) h =
    let parts = and_parts (nat_lt addr (2 ^ 128)) (is_u16 port) h in
    let port_fits = below port (2 ^ 16) parts.1 in
    let fit = groups-fit addr in
    flat-append (digits 16 false (slice_index (groups_of addr) 0)) (groups_text (drop 1 (groups_of addr)) ++ (codes "]:" ++ decimal port))
    (flat-hex (slice_index (groups_of addr) 0) (head-fits (groups_of addr) fit))
    (flat-append (groups_text (drop 1 (groups_of addr))) (codes "]:" ++ decimal port)
    (flat-groups (drop 1 (groups_of addr)) (tail-fits (groups_of addr) fit)) (flat-decimal port (omega arith)))

flat-pieces : (ps : List (ℕ × List ℕ)) → fit_pieces ps ≡ true → flat (flat_map piece_text ps) ≡ true
flat-pieces [] h = refl
flat-pieces ((pos, bs) ∷ ps) h =
    let parts = and_parts (is_u64 pos && are_bytes bs) (fit_pieces ps) h in
    let here = and_parts (is_u64 pos) (are_bytes bs) parts.0 in
    flat-append (piece_text (pos, bs)) (flat_map piece_text ps)
    (flat-number pos (codes ":" ++ bytes_text bs) (below pos (2 ^ 64) here.0) (plain-flat (bytes_text bs) (plain-bytes bs here.1)))
    (flat-pieces ps parts.1)

flat-seen : (s : Seen) → seen_fits s ≡ true → flat (seen_text s) ≡ true
flat-seen Nothing h = refl
flat-seen (Next at missed bytes) h =
    let parts = and_parts (is_u64 at && is_u64 missed) (are_bytes bytes) h in
    let more = and_parts (is_u64 at) (is_u64 missed) parts.0 in
    flat-number at (codes " " ++ (decimal missed ++ (codes " " ++ bytes_text bytes))) (below at (2 ^ 64) more.0)
    (flat-number missed (codes " " ++ bytes_text bytes) (below missed (2 ^ 64) more.1) (plain-flat (bytes_text bytes) (plain-bytes bytes parts.1)))
flat-seen (At off pieces) h =
    let parts = and_parts (is_u64 off) (fit_pieces pieces) h in
    flat-number off (flat_map piece_text pieces) (below off (2 ^ 64) parts.0) (flat-pieces pieces parts.1)

flat-reason : (r : Reason) → reason_fits r ≡ true → flat (reason_text r) ≡ true
flat-reason (Reg n) h = let small = below n (2 ^ 8) h in flat-decimal n (omega (arith, small))
flat-reason (Rule n) h = let small = below n (2 ^ 8) h in flat-decimal n (omega (arith, small))

flat-class : (c : Class) → flat (class_text c) ≡ true
flat-class c = plain-flat (class_text c) (plain-class c)

flat-kind : (name : ℕ) (k : RecordKind) → name < 2 ^ 64 → kind_fits k ≡ true → flat (kind_text name k) ≡ true
flat-kind name (Conn client server) wide h =
    let parts = and_parts (endpoint_fits client) (endpoint_fits server) h in
    flat-number name (codes " " ++ (endpoint_text client ++ (codes " > " ++ endpoint_text server))) wide
    (flat-append (endpoint_text client) (codes " > " ++ endpoint_text server) (flat-endpoint client parts.0) (flat-endpoint server parts.1))
flat-kind name (Orphan class) wide h = flat-number name (codes " " ++ class_text class) wide (flat-class class)

-- a number and what ends the line
ends-number : (n : ℕ) (t : List ℕ) → n < 2 ^ 64 → one_line t ≡ true → one_line (decimal n ++ t) ≡ true
ends-number n t h e = one_line-on (decimal n) t (flat-decimal n h) ∙ e

first-ends : (name : ℕ) (k : RecordKind) (version : ℕ) → name < 2 ^ 64 → kind_fits k ≡ true → version < 2 ^ 32
    → one_line (first_line (bare name k version)) ≡ true
unfolding first_line
first-ends name k version wide fits small =
    one_line-on (kind_text name k) (codes " v " ++ (decimal version ++ codes "\n")) (flat-kind name k wide fits)
    ∙ ends-number version (codes "\n") (omega arith) refl

entry-ends : (e : Entry) → EntryParts e → one_line (callback_line e) ≡ true
unfolding callback_line
entry-ends e h =
    let t5 = seen_text e.seen ++ codes "\n" in
    let t4 = decimal e.reg ++ t5 in
    let t3 = event_text e.event ++ (codes " " ++ t4) in
    let t2 = hook_text e.hook ++ (codes " " ++ t3) in
    let event = event-read e.event (codes " " ++ t4) h.event refl in
    one_line-on (decimal e.index) (codes " " ++ t2) (flat-decimal e.index h.index)
    ∙ one_line-on (hook_text e.hook) (codes " " ++ t3) (plain-flat (hook_text e.hook) (plain-hook e.hook))
    ∙ one_line-on (event_text e.event) (codes " " ++ t4) (plain-flat (event_text e.event) event.is_plain)
    ∙ one_line-on (decimal e.reg) t5 (flat-decimal e.reg (omega (arith, h.reg)))
    ∙ one_line-on (seen_text e.seen) (codes "\n") (flat-seen e.seen h.seen)

drop-ends : (index : ℕ) (reason : Reason) → index < 2 ^ 64 → reason_fits reason ≡ true → one_line (drop_line (index, reason)) ≡ true
unfolding drop_line
drop-ends index reason wide fits =
    one_line-on (decimal index) (codes " " ++ (reason_text reason ++ codes "\n")) (flat-decimal index wide)
    ∙ one_line-on (reason_text reason) (codes "\n") (flat-reason reason fits)

field-ends : (name : List ℕ) (value : ℕ) → plain name ≡ true → value < 2 ^ 64 → one_line (field_line (name, value)) ≡ true
unfolding field_line
field-ends name value p wide =
    one_line-on name (codes " " ++ (decimal value ++ codes "\n")) (plain-flat name p) ∙ ends-number value (codes "\n") wide refl

totals-end : (t : Totals) → t.packets < 2 ^ 64 → t.records < 2 ^ 64 → t.callbacks < 2 ^ 64 → t.drops < 2 ^ 64 → t.tail < 2 ^ 32
    → one_line (totals_line t) ≡ true
unfolding totals_line
totals-end t hp hr hc hd ht =
    let u5 = decimal t.tail ++ codes "\n" in
    let u4 = decimal t.drops ++ (codes " tail " ++ u5) in
    let u3 = decimal t.callbacks ++ (codes " drops " ++ u4) in
    let u2 = decimal t.records ++ (codes " callbacks " ++ u3) in
    ends-number t.packets (codes " records " ++ u2) hp
    (ends-number t.records (codes " callbacks " ++ u3) hr
    (ends-number t.callbacks (codes " drops " ++ u4) hc
    (ends-number t.drops (codes " tail " ++ u5) hd
    (ends-number t.tail (codes "\n") (omega arith) refl))))

pub line-ends : (l : Line) → line_fits l ≡ true → is_tidy_line l ≡ true → one_line (line_text l) ≡ true
line-ends (First name kind version) fits tidy =
    let a = and_parts (is_u64 name && kind_fits kind) (is_u32 version) fits in
    let b = and_parts (is_u64 name) (kind_fits kind) a.0 in
    first-ends name kind version (below name (2 ^ 64) b.0) b.1 (below version (2 ^ 32) a.1)
line-ends (Callback e) fits tidy = entry-ends e (entry-parts e fits tidy)
line-ends (Dropped index reason) fits tidy =
    let a = and_parts (is_u64 index) (reason_fits reason) fits in
    drop-ends index reason (below index (2 ^ 64) a.0) a.1
line-ends (Field name value) fits tidy =
    let a = and_parts (are_bytes name) (is_u64 value) fits in
    field-ends name value (field-plain name tidy) (below value (2 ^ 64) a.1)
line-ends (Last t) fits tidy =
    let h = totals-parts t fits in totals-end t h.packets h.records h.callbacks h.drops h.tail

not-empty : (n : ℕ) → (suc n == 0) ≡ true → ⊥
not-empty n h = grind (arith, nat_tests)

pub nil-of : {X : Type 0} (w : List X) → (length w == 0) ≡ true → w ≡ []
nil-of [] h = refl
nil-of (b ∷ w) h = absurd (not-empty (length w) h)

pub is-newline : (b : ℕ) → b ≡ 10 → (b == 10) ≡ true
is-newline b h = rw h refl

pub no-newline : (b : ℕ) → (b ≡ 10 → ⊥) → (b == 10) ≡ false
no-newline b h = grind (arith, nat_tests)

-- what stands before and behind the first newline
pub line-cut : (w v x y : List ℕ) → one_line w ≡ true → one_line v ≡ true → w ++ x ≡ v ++ y → (w ≡ v) × (x ≡ y)
line-cut [] v x y hw hv same = cc
line-cut (b ∷ w) [] x y hw hv same = cc
line-cut (b ∷ w) (c ∷ v) x y hw hv same =
    let head : b ≡ c = cc in
    let tail : w ++ x ≡ v ++ y = cc in
    elim (cases_eq b 10) [
      | inl is ↦
          let w_none = nil-of w (rw (is-newline b is) at hw) in
          let v_none = nil-of v (rw (is-newline c (sym head ∙ is)) at hv) in (
            ap (λ z. z ∷ w) head ∙ ap (λ z. c ∷ z) (w_none ∙ sym v_none),
            sym (ap (λ z. z ++ x) w_none) ∙ tail ∙ ap (λ z. z ++ y) v_none,
          )
      | inr other ↦
          let there : c ≡ 10 → ⊥ = λ e. other (head ∙ e) in
          let more = line-cut w v x y (rw (no-newline b other) at hw) (rw (no-newline c there) at hv) tail in
          ((λ i. head i ∷ more.0 i), more.1)
    ]

-- the front of a text through its first newline
pub front-ends : (t : List ℕ) → position_or_len (λ b. b == 10) t < length t → one_line (take (suc (position_or_len (λ b. b == 10) t)) t) ≡ true
front-ends [] h = absurd (omega arith)
front-ends (b ∷ t) h =
    elim (cases_eq b 10) [
      | inl is ↦ let yes : (b == 10) ≡ true = is-newline b is in rw yes refl
      | inr other ↦
          let nope : (b == 10) ≡ false = no-newline b other in
          let more : position_or_len (λ c. c == 10) t < length t = omega (arith, rw nope at h) in
          rw nope (rw one-add (front-ends t more))
    ]
