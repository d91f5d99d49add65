-- What the records of a capture say, step by step.
use Rattle.std.proofs.Common.{◌≡◌, ℕ, zero, suc, ◌+◌, ◌<◌, ◌≤◌, List, ◌++◌, length, take, drop, Bool, IsTrue, true, false, ◌&&◌, nat_lt, nat_le, ◌==◌, refl, sym, ap, ◌∙◌, arith}
use Rattle.std.proofs.lemmas.Bool.Decides.{nat_tests}
use Rattle.std.proofs.lemmas.List.{take-append-le}
use Rattle.std.proofs.KnownBytes.{starts_with_rest}
use Rattle.std.proofs.Math.Seq.{take-append_seam, drop-append_seam}
use Rattle.std.specs.Io.{StartsWith}
use Rattle.pcap_source.specs.Order.{number_in}
use Rattle.pcap_source.specs.Capture.{tail, too_long, too_many, ended, with_frame, record_at, record_length, captured_length, is_whole, frames_from}
use Rattle.pcap_source.specs.declared.order.Order.{Order}

and-false : (b : Bool) → (b && false) ≡ false
and-false true = refl
and-false false = refl

-- the head of a record is its first 16 bytes
pub take-head : (head rest : List ℕ) → length head ≡ 16 → take 16 (head ++ rest) ≡ head
take-head head rest is = ap (λ n. take n (head ++ rest)) (sym is) ∙ take-append_seam head rest

pub drop-head : (head rest : List ℕ) → length head ≡ 16 → drop 16 (head ++ rest) ≡ rest
drop-head head rest is = ap (λ n. drop n (head ++ rest)) (sym is) ∙ drop-append_seam head rest

-- fewer bytes than a head has are a tail
pub frames_from-short : (order : Order) (n offset : ℕ) (bytes : List ℕ) → length bytes < 16 → frames_from order n offset bytes ≡ ended (tail (length bytes))
unfolding frames_from
frames_from-short order zero offset bytes short =
    let test : nat_lt (length bytes) 16 ≡ true = grind (arith, nat_tests) in rw test refl
frames_from-short order (suc n) offset bytes short =
    let test : nat_lt (length bytes) 16 ≡ true = grind (arith, nat_tests) in
    let cut : nat_le (record_length order bytes) (length bytes) ≡ false = grind (arith, nat_tests) in
    let never : is_whole order bytes ≡ false = rw cut (and-false (nat_le (captured_length order bytes) 262144)) in
    rw (never, test) refl

-- behind as many records as are allowed
pub frames_from-too_many : (order : Order) (offset : ℕ) (bytes : List ℕ) → 16 ≤ length bytes → frames_from order 0 offset bytes ≡ ended (too_many offset)
unfolding frames_from
frames_from-too_many order offset bytes long =
    let test : nat_lt (length bytes) 16 ≡ false = grind (arith, nat_tests) in rw test refl

-- a captured length over the limit
pub frames_from-too_long : (order : Order) (n offset : ℕ) (bytes : List ℕ) → 16 ≤ length bytes → 262144 < captured_length order bytes
    → frames_from order (suc n) offset bytes ≡ ended (too_long offset)
unfolding frames_from
frames_from-too_long order n offset bytes long over =
    let test : nat_lt (length bytes) 16 ≡ false = grind (arith, nat_tests) in
    let more : (suc n == 0) ≡ false = grind (arith, nat_tests) in
    let bound : nat_le (captured_length order bytes) 262144 ≡ false = grind (arith, nat_tests) in
    let limit : nat_lt 262144 (captured_length order bytes) ≡ true = grind (arith, nat_tests) in
    rw (bound, test, more, limit) refl

-- fewer captured bytes than the head tells
pub frames_from-cut : (order : Order) (n offset : ℕ) (bytes : List ℕ) → 16 ≤ length bytes → captured_length order bytes ≤ 262144
    → length bytes < record_length order bytes → frames_from order (suc n) offset bytes ≡ ended (tail (length bytes))
unfolding frames_from
frames_from-cut order n offset bytes long within cut =
    let test : nat_lt (length bytes) 16 ≡ false = grind (arith, nat_tests) in
    let more : (suc n == 0) ≡ false = grind (arith, nat_tests) in
    let bound : nat_le (captured_length order bytes) 262144 ≡ true = grind (arith, nat_tests) in
    let whole : nat_le (record_length order bytes) (length bytes) ≡ false = grind (arith, nat_tests) in
    let limit : nat_lt 262144 (captured_length order bytes) ≡ false = grind (arith, nat_tests) in
    rw (bound, whole, test, more, limit) refl

-- a whole record
pub frames_from-whole : (order : Order) (n offset : ℕ) (bytes : List ℕ) → captured_length order bytes ≤ 262144
    → record_length order bytes ≤ length bytes
    → frames_from order (suc n) offset bytes ≡ with_frame (record_at order bytes) (frames_from order n (offset + record_length order bytes) (drop (record_length order bytes) bytes))
unfolding frames_from
frames_from-whole order n offset bytes within whole =
    let bound : nat_le (captured_length order bytes) 262144 ≡ true = grind (arith, nat_tests) in
    let fits : nat_le (record_length order bytes) (length bytes) ≡ true = grind (arith, nat_tests) in
    rw (bound, fits) refl

-- a record whose head stands in a front of the bytes, and for whose captured length there are enough of them, stands whole in the bytes
pub is_whole-front : (order : Order) (captured count : ℕ) (front bytes : List ℕ) → StartsWith bytes front → 16 ≤ length front → captured ≡ captured_length order front
    → count ≤ length bytes → captured ≤ 262144 → IsTrue (nat_le (16 + captured) count) → IsTrue (is_whole order bytes)
is_whole-front order captured count front bytes begins headed is least within test =
    let fits : 16 + captured ≤ count = grind (arith, nat_tests, test) in
    let rest = drop (length front) bytes in
    let parts : bytes ≡ front ++ rest = starts_with_rest bytes front begins in
    let head : take 16 bytes ≡ take 16 front = ap (take 16) parts ∙ take-append-le 16 front rest headed in
    let told : captured_length order bytes ≡ captured = ap (λ h. number_in order 4 (drop 8 h)) head ∙ sym is in
    let bound : nat_le (captured_length order bytes) 262144 ≡ true = rw told (grind (arith, nat_tests)) in
    let whole : nat_le (record_length order bytes) (length bytes) ≡ true = rw told (grind (arith, nat_tests)) in
    rw (bound, whole) refl
