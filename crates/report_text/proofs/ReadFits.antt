-- What is read has numbers in their types' ranges, and bytes.
use Rattle.std.proofs.Common.{◌≡◌, ℕ, zero, suc, ◌+◌, ◌*◌, ◌%◌, ◌^◌, ◌<◌, Bool, true, false, ◌&&◌, List, [], ◌∷◌, length, refl, arith, Some, Result, Ok, Err}
use Rattle.std.specs.Prelude.{nat_lt, slice_index, ◌==◌, if◌then◌else◌, bytes_eq}
use Rattle.std.specs.Char.{digit_value}
use Rattle.std.specs.Int.{w32, from_be_bytes}
use Rattle.std.specs.List.{list_all, position_from}
use Rattle.std.specs.Option.{unwrap_or}
use Rattle.std.proofs.lemmas.Bool.Decides.{nat_tests}
use Rattle.hex.specs.Hex.{decode_of, IsBytes}
use Rattle.hex.specs.declared.error.FromHexError.{FromHexError}
use Rattle.hex.proofs.HexLemmas.{decode_of-ok}
use Rattle.app_api.specs.App.{is_name_byte}
use Rattle.app_api.specs.Names.{event_names, event_named}
use Rattle.app_api.specs.declared.entry.Seen.TheVariants.{Nothing, Next, At}
use Rattle.app_api.specs.declared.reaction.Reason.TheVariants.{Reg, Rule}
use Rattle.report_text.specs.declared.record.RecordKind.TheVariants.{Conn, Orphan}
use Rattle.report_text.specs.declared.read.line.Line.{Line}
use Rattle.report_text.specs.declared.read.line.Line.TheVariants.{Callback, Dropped, Field, Last}
use Rattle.report_text.specs.Ranges.{is_u8, is_u16, is_u32, is_u64, are_bytes, endpoint_fits, kind_fits, seen_fits, entry_fits, reason_fits, totals_fit}
use Rattle.report_text.specs.ReadWords.{is_mark, first_word, skip, number_from, number, decimal_of, class_of, event_of, reason_of, group_of, joined, v4_of, v6_of, endpoint_of, is_v6, decoded, bytes_of, pieces_of, seen_of}
use Rattle.report_text.specs.ReadLines.{is_tidy_line, line_fits, entry_of, totals_of, orphan_of, server_at, conn_of, line_of}
use Rattle.report_text.proofs.ReadNumbers.{and_parts}
use Rattle.report_text.proofs.ReadSeen.{below, fit_pieces}

-- what holds of both branches
pub of_if : {X : Type 0} (P : X → Type 0) (b : Bool) (x y : X) → P x → P y → P (if b then x else y)
of_if P true x y px py = px
of_if P false x y px py = py

pub both : (a b : Bool) → a ≡ true → b ≡ true → (a && b) ≡ true
both true b ha hb = hb
both false b ha hb = cc

pub within : (n k : ℕ) → n < k → nat_lt n k ≡ true
within n k h = grind (arith, nat_tests)

number-small : (radix n : ℕ) (t : List ℕ) → n < 2 ^ 64 → number_from radix n t < 2 ^ 64
unfolding number_from
number-small radix n [] h = h
number-small radix n (b ∷ t) h =
    of_if (λ x. x < 2 ^ 64) (is_mark b) n (number_from radix ((n * radix % 2 ^ 64 + digit_value b) % 2 ^ 64) t) h
    (number-small radix ((n * radix % 2 ^ 64 + digit_value b) % 2 ^ 64) t (omega arith))

decimal-fits : (t : List ℕ) → is_u64 (decimal_of t) ≡ true
decimal-fits t = within (decimal_of t) (2 ^ 64) (number-small 10 0 t (omega arith))

mod-fits : (n k : ℕ) → 0 < k → nat_lt (n % k) k ≡ true
mod-fits n k some = grind (arith, nat_tests)

named-fits : (names : List (List ℕ)) (w : List ℕ) (at : ℕ) → at + length names < 2 ^ 16
    → is_u16 (unwrap_or (position_from (λ name. bytes_eq w name) at names) 0) ≡ true
named-fits [] w at h = refl
named-fits (name ∷ names) w at h =
    of_if (λ o. is_u16 (unwrap_or o 0) ≡ true) (bytes_eq w name) (Some at) (position_from (λ known. bytes_eq w known) (at + 1) names)
    (within at (2 ^ 16) (omega arith)) (named-fits names w (at + 1) (omega arith))

event-fits : (t : List ℕ) → is_u16 (event_of t) ≡ true
event-fits t =
    of_if (λ x. is_u16 x ≡ true) (nat_lt (slice_index t 0) 97) (decimal_of t % 2 ^ 16) (unwrap_or (event_named (first_word t)) 0)
    (mod-fits (decimal_of t) (2 ^ 16) (omega arith)) (named-fits event_names (first_word t) 256 (omega arith))

reason-fits : (t : List ℕ) → reason_fits (reason_of t) ≡ true
reason-fits t =
    let small = mod-fits (decimal_of (skip 1 t)) (2 ^ 8) (omega arith) in
    of_if (λ r. reason_fits r ≡ true) (slice_index t 1 == 101) (Reg (decimal_of (skip 1 t) % 2 ^ 8)) (Rule (decimal_of (skip 1 t) % 2 ^ 8)) small small

v4-fits : (t : List ℕ) → endpoint_fits (v4_of t) ≡ true
v4-fits t =
    both (is_u32 (from_be_bytes w32 (decimal_of t % 2 ^ 8 ∷ decimal_of (skip 1 t) % 2 ^ 8 ∷ decimal_of (skip 2 t) % 2 ^ 8 ∷ decimal_of (skip 3 t) % 2 ^ 8 ∷ [])))
    (is_u16 (decimal_of (skip 4 t) % 2 ^ 16)) (within _ (2 ^ 32) (omega arith)) (mod-fits (decimal_of (skip 4 t)) (2 ^ 16) (omega arith))

joined-small : (n : ℕ) (gs : List ℕ) → n < 2 ^ 128 → list_all is_u16 gs ≡ true → joined n gs < 2 ^ 128
unfolding joined
joined-small n [] h all = h
joined-small n (g ∷ gs) h all =
    let parts = and_parts (is_u16 g) (list_all is_u16 gs) all in
    let small = below g (2 ^ 16) parts.0 in
    joined-small (n % 2 ^ 112 * 2 ^ 16 + g) gs (omega (arith, small)) parts.1

group-small : (k : ℕ) (t : List ℕ) → is_u16 (group_of k t) ≡ true
group-small k t = mod-fits (number 16 (skip k t)) (2 ^ 16) (omega arith)

v6-fits : (t : List ℕ) → endpoint_fits (v6_of t) ≡ true
v6-fits t =
    let groups = group_of 1 t ∷ group_of 2 t ∷ group_of 3 t ∷ group_of 4 t ∷ group_of 5 t ∷ group_of 6 t ∷ group_of 7 t ∷ group_of 8 t ∷ [] in
    let all : list_all is_u16 groups ≡ true = rw (group-small 1 t, group-small 2 t, group-small 3 t, group-small 4 t, group-small 5 t, group-small 6 t, group-small 7 t, group-small 8 t) refl in
    both (nat_lt (joined 0 groups) (2 ^ 128)) (is_u16 (decimal_of (skip 10 t) % 2 ^ 16))
    (within (joined 0 groups) (2 ^ 128) (joined-small 0 groups (omega arith) all)) (mod-fits (decimal_of (skip 10 t)) (2 ^ 16) (omega arith))

endpoint-fits : (t : List ℕ) → endpoint_fits (endpoint_of t) ≡ true
endpoint-fits t = of_if (λ e. endpoint_fits e ≡ true) (is_v6 t) (v6_of t) (v4_of t) (v6-fits t) (v4-fits t)

pub bytes-test : (bs : List ℕ) → IsBytes bs → are_bytes bs ≡ true
bytes-test [] h = refl
bytes-test (b ∷ bs) h = both (is_u8 b) (are_bytes bs) (within b (2 ^ 8) (h 0)) (bytes-test bs (λ i. h (suc i)))

decoded-fits : (w : List ℕ) (r : Result (List ℕ) FromHexError) → decode_of w ≡ r → are_bytes (decoded r) ≡ true
decoded-fits w (Ok bytes) h = bytes-test bytes (decode_of-ok w bytes h).3
decoded-fits w (Err e) h = refl

bytes-fit : (t : List ℕ) → are_bytes (bytes_of t) ≡ true
bytes-fit t = decoded-fits (first_word t) (decode_of (first_word t)) refl

pieces-fit : (most : ℕ) (t : List ℕ) → fit_pieces (pieces_of most t) ≡ true
unfolding pieces_of
pieces-fit zero t = refl
pieces-fit (suc most) [] = refl
pieces-fit (suc most) (b ∷ t) =
    both (is_u64 (decimal_of (b ∷ t)) && are_bytes (bytes_of (skip 1 (b ∷ t)))) (fit_pieces (pieces_of most (skip 2 (b ∷ t))))
    (both (is_u64 (decimal_of (b ∷ t))) (are_bytes (bytes_of (skip 1 (b ∷ t)))) (decimal-fits (b ∷ t)) (bytes-fit (skip 1 (b ∷ t))))
    (pieces-fit most (skip 2 (b ∷ t)))

seen-fits : (t : List ℕ) → seen_fits (seen_of t) ≡ true
seen-fits t =
    let one = decimal-fits (skip 1 t) in
    let two = decimal-fits (skip 2 t) in
    of_if (λ s. seen_fits s ≡ true) (slice_index t 0 == 112) (Next (decimal_of (skip 1 t)) (decimal_of (skip 2 t)) (bytes_of (skip 3 t)))
    (if slice_index t 0 == 97 then At (decimal_of (skip 1 t)) (pieces_of (length t) (skip 2 t)) else Nothing)
    (both (is_u64 (decimal_of (skip 1 t)) && is_u64 (decimal_of (skip 2 t))) (are_bytes (bytes_of (skip 3 t)))
    (both (is_u64 (decimal_of (skip 1 t))) (is_u64 (decimal_of (skip 2 t))) one two) (bytes-fit (skip 3 t)))
    (of_if (λ s. seen_fits s ≡ true) (slice_index t 0 == 97) (At (decimal_of (skip 1 t)) (pieces_of (length t) (skip 2 t))) Nothing
    (both (is_u64 (decimal_of (skip 1 t))) (fit_pieces (pieces_of (length t) (skip 2 t))) one (pieces-fit (length t) (skip 2 t))) refl)

entry-fits : (t : List ℕ) → entry_fits (entry_of t) ≡ true
entry-fits t =
    let e = entry_of t in
    both (is_u64 e.index && is_u16 e.event && is_u8 e.reg) (seen_fits e.seen)
    (both (is_u64 e.index && is_u16 e.event) (is_u8 e.reg)
    (both (is_u64 e.index) (is_u16 e.event) (decimal-fits (skip 1 t)) (event-fits (skip 3 t)))
    (mod-fits (decimal_of (skip 4 t)) (2 ^ 8) (omega arith))) (seen-fits (skip 5 t))

totals-fit : (t : List ℕ) → totals_fit (totals_of t) ≡ true
totals-fit t =
    let x = totals_of t in
    both (is_u64 x.packets && is_u64 x.records && is_u64 x.callbacks && is_u64 x.drops) (is_u32 x.tail)
    (both (is_u64 x.packets && is_u64 x.records && is_u64 x.callbacks) (is_u64 x.drops)
    (both (is_u64 x.packets && is_u64 x.records) (is_u64 x.callbacks)
    (both (is_u64 x.packets) (is_u64 x.records) (decimal-fits (skip 2 t)) (decimal-fits (skip 4 t)))
    (decimal-fits (skip 6 t))) (decimal-fits (skip 8 t)))
    (mod-fits (decimal_of (skip 10 t)) (2 ^ 32) (omega arith))

name-byte : (b : ℕ) → is_name_byte b ≡ true → is_u8 b ≡ true
name-byte b h = grind (arith, nat_tests)

name-bytes : (name : List ℕ) → list_all is_name_byte name ≡ true → are_bytes name ≡ true
name-bytes [] h = refl
name-bytes (b ∷ name) h =
    let parts = and_parts (is_name_byte b) (list_all is_name_byte name) h in
    both (is_u8 b) (are_bytes name) (name-byte b parts.0) (name-bytes name parts.1)

orphan-fits : (t : List ℕ) → line_fits (orphan_of t) ≡ true
orphan-fits t =
    let version = decimal_of (skip 4 t) % 2 ^ 32 in
    both (is_u64 (decimal_of (skip 1 t)) && kind_fits (Orphan (class_of (skip 2 t)))) (is_u32 version)
    (both (is_u64 (decimal_of (skip 1 t))) (kind_fits (Orphan (class_of (skip 2 t)))) (decimal-fits (skip 1 t)) refl)
    (mod-fits (decimal_of (skip 4 t)) (2 ^ 32) (omega arith))

-- a connection's numbers
abbrev conn_version : List ℕ → ℕ
conn_version t = decimal_of (skip 1 (Rattle.report_text.specs.ReadWords.after_endpoint (server_at t)))

conn-fits : (t : List ℕ) → line_fits (conn_of t) ≡ true
conn-fits t =
    let client = endpoint_of (skip 2 t) in
    let server = endpoint_of (server_at t) in
    both (is_u64 (decimal_of (skip 1 t)) && kind_fits (Conn client server)) (is_u32 (conn_version t % 2 ^ 32))
    (both (is_u64 (decimal_of (skip 1 t))) (kind_fits (Conn client server)) (decimal-fits (skip 1 t))
    (both (endpoint_fits client) (endpoint_fits server) (endpoint-fits (skip 2 t)) (endpoint-fits (server_at t))))
    (mod-fits (conn_version t) (2 ^ 32) (omega arith))

field-fits : (t : List ℕ) → is_tidy_line (Field (first_word (skip 1 t)) (decimal_of (skip 2 t))) ≡ true
    → line_fits (Field (first_word (skip 1 t)) (decimal_of (skip 2 t))) ≡ true
field-fits t tidy =
    let name = first_word (skip 1 t) in
    both (are_bytes name) (is_u64 (decimal_of (skip 2 t)))
    (name-bytes name (and_parts (nat_lt 0 (length name)) (list_all is_name_byte name) tidy).1) (decimal-fits (skip 2 t))

-- a line that may stand and fits
abbrev Fits : Line → Type 0
Fits l = is_tidy_line l ≡ true → line_fits l ≡ true

pub read-fits : (t : List ℕ) → is_tidy_line (line_of t) ≡ true → line_fits (line_of t) ≡ true
unfolding line_of
read-fits t =
    of_if Fits (slice_index t 0 == 111) (orphan_of t) _ (λ tidy. orphan-fits t)
    (of_if Fits (slice_index t 0 == 100) (Dropped (decimal_of (skip 1 t)) (reason_of (skip 2 t))) _
    (λ tidy. both (is_u64 (decimal_of (skip 1 t))) (reason_fits (reason_of (skip 2 t))) (decimal-fits (skip 1 t)) (reason-fits (skip 2 t)))
    (of_if Fits (slice_index t 0 == 102) (Field (first_word (skip 1 t)) (decimal_of (skip 2 t))) _ (field-fits t)
    (of_if Fits (slice_index t 0 == 101) (Last (totals_of t)) _ (λ tidy. totals-fit t)
    (of_if Fits (slice_index t 1 == 98) (Callback (entry_of t)) (conn_of t) (λ tidy. entry-fits t) (λ tidy. conn-fits t)))))
