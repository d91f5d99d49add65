-- What is written is read: reasons, bytes and what a callback saw.
use Rattle.std.proofs.Common.{◌≡◌, ℕ, zero, suc, ◌/◌, ◌%◌, ◌^◌, ◌<◌, ◌≤◌, Bool, true, false, not, ◌&&◌, List, [], ◌∷◌, ◌++◌, length, drop, get_or, refl, ap, ◌∙◌, arith, append_assoc, codes, length-append}
use Rattle.std.specs.Prelude.{nat_lt, slice_index, flat_map}
use Rattle.std.specs.Fmt.{decimal}
use Rattle.std.specs.List.{list_all}
use Rattle.std.proofs.lemmas.List.Sums.{AllPass-from_list_all}
use Rattle.std.proofs.lemmas.Bool.Decides.{nat_tests}
use Rattle.hex.specs.Hex.{encode_with, lower_digits, decode_of, IsBytes}
use Rattle.hex.proofs.HexLemmas.{decode_of-encode_lower}
use Rattle.app_api.specs.declared.entry.Seen.{Seen}
use Rattle.app_api.specs.declared.entry.Seen.TheVariants.{Nothing, Next, At}
use Rattle.app_api.specs.declared.reaction.Reason.{Reason}
use Rattle.app_api.specs.declared.reaction.Reason.TheVariants.{Reg, Rule}
use Rattle.report_text.specs.Words.{bytes_text, piece_text, seen_text, reason_text}
use Rattle.report_text.specs.Ranges.{is_u8, is_u64, are_bytes, reason_fits, seen_fits}
use Rattle.report_text.specs.ReadWords.{is_mark, decimal_of, reason_of, decoded, bytes_of, pieces_of, seen_of}
use Rattle.report_text.proofs.ReadNumbers.{plain, marked, and_parts, not_true, first-word, plain-decimal, decimal_of-decimal}
use Rattle.report_text.proofs.ReadLoops.{pieces_of-none, pieces_of-suc}
use Rattle.report_text.proofs.ReadParts.{skip-on, skip-zero, small-read}

pub below : (n k : ℕ) → nat_lt n k ≡ true → n < k
below n k h = grind (arith, nat_tests)

pub reason-read : (r : Reason) (t : List ℕ) → reason_fits r ≡ true → marked t ≡ true → reason_of (reason_text r ++ t) ≡ r
reason-read (Reg n) t fits m =
    let small = below n (2 ^ 8) fits in
    let line = reason_text (Reg n) ++ t in
    let at = skip-on 0 line (codes "reg") (codes " " ++ (decimal n ++ t)) (skip-zero line) refl refl in
    rw at (rw (small-read n 8 t small (omega arith) (omega arith) m) refl)
reason-read (Rule n) t fits m =
    let small = below n (2 ^ 8) fits in
    let line = reason_text (Rule n) ++ t in
    let at = skip-on 0 line (codes "rule") (codes " " ++ (decimal n ++ t)) (skip-zero line) refl refl in
    rw at (rw (small-read n 8 t small (omega arith) (omega arith) m) refl)

pub bytes-small : (bs : List ℕ) → are_bytes bs ≡ true → IsBytes bs
bytes-small [] h i = omega arith
bytes-small (b ∷ bs) h zero = below b (2 ^ 8) (and_parts (is_u8 b) (are_bytes bs) h).0
bytes-small (b ∷ bs) h (suc i) = bytes-small bs (and_parts (is_u8 b) (are_bytes bs) h).1 i

pub bytes-head : (b : ℕ) (bs : List ℕ) → are_bytes (b ∷ bs) ≡ true → (b < 256) × (are_bytes bs ≡ true)
bytes-head b bs h = let parts = and_parts (is_u8 b) (are_bytes bs) h in (below b (2 ^ 8) parts.0, parts.1)

nibble-plain : (k : ℕ) → k < 16 → is_mark (slice_index lower_digits k) ≡ false
nibble-plain k h = not_true (is_mark (get_or lower_digits k 0)) (AllPass-from_list_all (λ b. not (is_mark b)) lower_digits refl k 0 h)

plain-encoded : (bs : List ℕ) → are_bytes bs ≡ true → plain (encode_with lower_digits bs) ≡ true
unfolding encode_with
plain-encoded [] h = refl
plain-encoded (b ∷ bs) h =
    let parts = bytes-head b bs h in
    let high = nibble-plain (b / 16) (omega (arith, parts.0)) in
    let low = nibble-plain (b % 16) (omega arith) in
    rw (high, low) (plain-encoded bs parts.1)

pub plain-bytes : (bs : List ℕ) → are_bytes bs ≡ true → plain (bytes_text bs) ≡ true
plain-bytes [] h = refl
plain-bytes (b ∷ bs) h = plain-encoded (b ∷ bs) h

bytes-decoded : (bs : List ℕ) → are_bytes bs ≡ true → decoded (decode_of (bytes_text bs)) ≡ bs
bytes-decoded [] h = refl
bytes-decoded (b ∷ bs) h = ap decoded (decode_of-encode_lower (b ∷ bs) (bytes-small (b ∷ bs) h))

pub bytes-read : (bs t : List ℕ) → are_bytes bs ≡ true → marked t ≡ true → bytes_of (bytes_text bs ++ t) ≡ bs
bytes-read bs t h m = ap (λ w. decoded (decode_of w)) (first-word (bytes_text bs) t (plain-bytes bs h) m) ∙ bytes-decoded bs h

-- pieces that fit
abbrev pub fit_pieces : List (ℕ × List ℕ) → Bool
fit_pieces pieces = list_all (λ piece. is_u64 piece.0 && are_bytes piece.1) pieces

pub pieces-marked : (ps : List (ℕ × List ℕ)) (t : List ℕ) → marked t ≡ true → marked (flat_map piece_text ps ++ t) ≡ true
pieces-marked [] t m = m
pieces-marked (p ∷ ps) t m = refl

-- what follows a blank
piece-spread : (pos : ℕ) (bs more t : List ℕ)
    → drop 1 ((piece_text (pos, bs) ++ more) ++ t) ≡ decimal pos ++ (codes ":" ++ (bytes_text bs ++ (more ++ t)))
piece-spread pos bs more t = simp append_assoc

nonempty : (a b : List ℕ) → 0 < length (a ++ (codes ":" ++ b))
nonempty a b = simp length-append (omega arith)

pub pieces-read : (most : ℕ) (ps : List (ℕ × List ℕ)) → length ps ≤ most → fit_pieces ps ≡ true
    → pieces_of most (drop 1 (flat_map piece_text ps ++ codes "\n")) ≡ ps
pieces-read most [] few fits = pieces_of-none most [] refl
pieces-read zero (p ∷ ps) few fits = absurd (omega arith)
pieces-read (suc most) ((pos, bs) ∷ ps) few fits =
    let parts = and_parts (is_u64 pos && are_bytes bs) (fit_pieces ps) fits in
    let here = and_parts (is_u64 pos) (are_bytes bs) parts.0 in
    let wide = below pos (2 ^ 64) here.0 in
    let rest = flat_map piece_text ps ++ codes "\n" in
    let m = pieces-marked ps (codes "\n") refl in
    let at = decimal pos ++ (codes ":" ++ (bytes_text bs ++ rest)) in
    let is = piece-spread pos bs (flat_map piece_text ps) (codes "\n") in
    let one = skip-on 0 at (decimal pos) (codes ":" ++ (bytes_text bs ++ rest)) (skip-zero at) (plain-decimal pos wide) refl in
    let two = skip-on 1 at (bytes_text bs) rest one (plain-bytes bs here.1) m in
    let value = decimal_of-decimal pos (codes ":" ++ (bytes_text bs ++ rest)) wide refl in
    let bytes = ap bytes_of one ∙ bytes-read bs rest here.1 m in
    let ih = ap (pieces_of most) two ∙ pieces-read most ps (omega arith) parts.1 in
    ap (pieces_of (suc most)) is ∙ pieces_of-suc most at (nonempty (decimal pos) (bytes_text bs ++ rest))
    ∙ (λ i. (value i, bytes i) ∷ ih i)

pub pieces-length : (ps : List (ℕ × List ℕ)) → length ps ≤ length (flat_map piece_text ps)
pieces-length [] = omega arith
pieces-length (p ∷ ps) = simp length-append (omega (arith, pieces-length ps))

at-spread : (off : ℕ) (ps : List (ℕ × List ℕ))
    → drop 1 (seen_text (At off ps) ++ codes "\n") ≡ codes "at " ++ (decimal off ++ (flat_map piece_text ps ++ codes "\n"))
at-spread off ps = simp append_assoc

next-spread : (at missed : ℕ) (bytes : List ℕ)
    → drop 1 (seen_text (Next at missed bytes) ++ codes "\n")
    ≡ codes "peek " ++ (decimal at ++ (codes " " ++ (decimal missed ++ (codes " " ++ (bytes_text bytes ++ codes "\n")))))
next-spread at missed bytes = simp append_assoc

pub seen-marked : (s : Seen) → marked (seen_text s ++ codes "\n") ≡ true
seen-marked Nothing = refl
seen-marked (Next at missed bytes) = refl
seen-marked (At off pieces) = refl

enough : (off : ℕ) (ps : List (ℕ × List ℕ)) → length ps ≤ length (codes "at " ++ (decimal off ++ (flat_map piece_text ps ++ codes "\n")))
enough off ps = simp length-append (omega (arith, pieces-length ps))

seen-at : (off : ℕ) (ps : List (ℕ × List ℕ)) → off < 2 ^ 64 → fit_pieces ps ≡ true
    → seen_of (codes "at " ++ (decimal off ++ (flat_map piece_text ps ++ codes "\n"))) ≡ At off ps
seen-at off ps wide fits =
    let rest = flat_map piece_text ps ++ codes "\n" in
    let m = pieces-marked ps (codes "\n") refl in
    let at = codes "at " ++ (decimal off ++ rest) in
    let one = skip-on 0 at (codes "at") (codes " " ++ (decimal off ++ rest)) (skip-zero at) refl refl in
    let two = skip-on 1 at (decimal off) rest one (plain-decimal off wide) m in
    let value = ap decimal_of one ∙ decimal_of-decimal off rest wide m in
    let pieces = ap (pieces_of (length at)) two ∙ pieces-read (length at) ps (enough off ps) fits in
    λ i. At (value i) (pieces i)

seen-next : (at missed : ℕ) (bytes : List ℕ) → at < 2 ^ 64 → missed < 2 ^ 64 → are_bytes bytes ≡ true
    → seen_of (codes "peek " ++ (decimal at ++ (codes " " ++ (decimal missed ++ (codes " " ++ (bytes_text bytes ++ codes "\n")))))) ≡ Next at missed bytes
seen-next at missed bytes wide far fits =
    let third = bytes_text bytes ++ codes "\n" in
    let second = decimal missed ++ (codes " " ++ third) in
    let first = decimal at ++ (codes " " ++ second) in
    let line = codes "peek " ++ first in
    let one = skip-on 0 line (codes "peek") (codes " " ++ first) (skip-zero line) refl refl in
    let two = skip-on 1 line (decimal at) (codes " " ++ second) one (plain-decimal at wide) refl in
    let three = skip-on 2 line (decimal missed) (codes " " ++ third) two (plain-decimal missed far) refl in
    let a = ap decimal_of one ∙ decimal_of-decimal at (codes " " ++ second) wide refl in
    let b = ap decimal_of two ∙ decimal_of-decimal missed (codes " " ++ third) far refl in
    let d = ap bytes_of three ∙ bytes-read bytes (codes "\n") fits refl in
    λ i. Next (a i) (b i) (d i)

pub seen-read : (s : Seen) → seen_fits s ≡ true → seen_of (drop 1 (seen_text s ++ codes "\n")) ≡ s
seen-read Nothing fits = refl
seen-read (Next at missed bytes) fits =
    let parts = and_parts (is_u64 at && is_u64 missed) (are_bytes bytes) fits in
    let more = and_parts (is_u64 at) (is_u64 missed) parts.0 in
    ap seen_of (next-spread at missed bytes)
    ∙ seen-next at missed bytes (below at (2 ^ 64) more.0) (below missed (2 ^ 64) more.1) parts.1
seen-read (At off pieces) fits =
    let parts = and_parts (is_u64 off) (fit_pieces pieces) fits in
    ap seen_of (at-spread off pieces) ∙ seen-at off pieces (below off (2 ^ 64) parts.0) parts.1
