-- The definition takes the longest list of whole records.
use Rattle.std.proofs.Common.{◌≡◌, ℕ, zero, suc, ◌+◌, ◌-◌, ◌<◌, ◌≤◌, List, ◌∷◌, ◌++◌, length, take, drop, Bool, true, false, All, refl, sym, ap, subst, ◌∙◌, arith, add-zero, append_assoc, length-append, length-drop, length-take-le}
use Rattle.std.proofs.lemmas.Bool.Decides.{nat_tests}
use Rattle.std.proofs.lemmas.List.{take-append-drop}
use lib.Seq.{drop-drop}
use Rattle.pcap_source.specs.Captured.{Captured}
use Rattle.pcap_source.specs.Capture.{Frames, captured_length, ended, ending_of, frames_from, is_whole, record_at, record_length, with_frame}
use Rattle.pcap_source.specs.Laws.{IsLongestFront, written}
use Rattle.pcap_source.specs.Reading.{IsRecord}
use Rattle.pcap_source.specs.declared.order.Order.{Order}

frames_from-step : (order : Order) (n offset : ℕ) (bytes : List ℕ) → is_whole order bytes ≡ true
    → frames_from order (suc n) offset bytes ≡ with_frame (record_at order bytes) (frames_from order n (offset + record_length order bytes) (drop (record_length order bytes) bytes))
unfolding frames_from
frames_from-step order n offset bytes whole = rw whole refl

frames_from-last : (order : Order) (n offset : ℕ) (bytes : List ℕ) → (0 < n → is_whole order bytes ≡ false)
    → frames_from order n offset bytes ≡ ended (ending_of order n offset bytes)
unfolding frames_from
frames_from-last order zero offset bytes none = refl
frames_from-last order (suc n) offset bytes none = rw (none (omega arith)) refl

whole_fits : (order : Order) (bytes : List ℕ) → is_whole order bytes ≡ true → record_length order bytes ≤ length bytes
whole_fits order bytes whole = grind (arith, nat_tests)

within_limit : (order : Order) (bytes : List ℕ) → is_whole order bytes ≡ true → captured_length order bytes ≤ 262144
within_limit order bytes whole = grind (arith, nat_tests)

-- the record at the front is whole
record_is : (order : Order) (bytes : List ℕ) → is_whole order bytes ≡ true → IsRecord order (record_at order bytes)
record_is order bytes whole =
    let fits : record_length order bytes ≤ length bytes = whole_fits order bytes whole in
    let sized : length (take (captured_length order bytes) (drop 16 bytes)) ≡ captured_length order bytes =
    length-take-le (captured_length order bytes) (drop 16 bytes) (omega (arith, fits, length-drop 16 bytes)) in
    let limit : captured_length order bytes ≤ 262144 = within_limit order bytes whole in
    record {
      head = length-take-le 16 bytes (omega (arith, fits));
      whole = refl;
      told = sized;
      bounded = omega (arith, sized, limit);
    }

-- it stands in front of what is behind it
record_parts : (order : Order) (bytes : List ℕ) (frames : List Captured) (rest : List ℕ) → drop (record_length order bytes) bytes ≡ written frames ++ rest
    → bytes ≡ written (record_at order bytes ∷ frames) ++ rest
record_parts order bytes frames rest behind =
    let captured = captured_length order bytes in
    let head = take 16 bytes in
    let body = take captured (drop 16 bytes) in
    let split : drop 16 bytes ≡ body ++ (written frames ++ rest) =
    sym (take-append-drop captured (drop 16 bytes)) ∙ ap (λ l. body ++ l) (drop-drop captured 16 bytes ∙ behind) in
    sym (take-append-drop 16 bytes) ∙ ap (λ l. head ++ l) (split ∙ sym (append_assoc body (written frames) rest))
    ∙ sym (append_assoc head (body ++ written frames) rest)

All-one_more : (P : Captured → Type 0) (frame : Captured) (frames : List Captured) → P frame → All P frames → All P (frame ∷ frames)
All-one_more P frame frames first others zero d within = first
All-one_more P frame frames first others (suc k) d within = others k d (omega arith)

-- no record: all is rest
none : (order : Order) (n offset : ℕ) (bytes : List ℕ) → (0 < n → is_whole order bytes ≡ false)
    → IsLongestFront order n offset bytes (ended (ending_of order n offset bytes))
none order n offset bytes last = record {
  rest = bytes;
  parts = refl;
  whole = λ k d within. absurd (omega arith);
  few = omega arith;
  longest = last;
  ending = ap (λ k. ending_of order k offset bytes) (omega arith) ∙ ap (λ o. ending_of order (n - 0) o bytes) (sym (add-zero offset));
}

-- a record, and then others
more : (order : Order) (n offset : ℕ) (bytes : List ℕ) (others : Frames) → is_whole order bytes ≡ true
    → IsLongestFront order n (offset + record_length order bytes) (drop (record_length order bytes) bytes) others
    → IsLongestFront order (suc n) offset bytes (with_frame (record_at order bytes) others)
more order n offset bytes others whole front =
    let few = front.few in
    let one = record_is order bytes whole in
    let place : offset + record_length order bytes + length (written others.frames) ≡ offset + length (written (record_at order bytes ∷ others.frames)) =
    omega (
      arith,
      one.head,
      one.told,
      length-append (take 16 bytes) (take (captured_length order bytes) (drop 16 bytes) ++ written others.frames),
      length-append (take (captured_length order bytes) (drop 16 bytes)) (written others.frames),
    ) in
    record {
      rest = front.rest;
      parts = record_parts order bytes others.frames front.rest front.parts;
      whole = All-one_more (IsRecord order) (record_at order bytes) others.frames one front.whole;
      few = omega arith;
      longest = λ short. front.longest (omega arith);
      ending = front.ending ∙ ap (λ k. ending_of order k (offset + record_length order bytes + length (written others.frames)) front.rest) (omega arith)
          ∙ ap (λ o. ending_of order (suc n - length (record_at order bytes ∷ others.frames)) o front.rest) place;
    }

-- by whether a whole record stands at the front
longest_by : (order : Order) (n offset : ℕ) (bytes : List ℕ) (b : Bool) → is_whole order bytes ≡ b
    → IsLongestFront order n (offset + record_length order bytes) (drop (record_length order bytes) bytes)
    (frames_from order n (offset + record_length order bytes) (drop (record_length order bytes) bytes))
    → IsLongestFront order (suc n) offset bytes (frames_from order (suc n) offset bytes)
longest_by order n offset bytes true whole front =
    subst (IsLongestFront order (suc n) offset bytes) (sym (frames_from-step order n offset bytes whole)) (more order n offset bytes _ whole front)
longest_by order n offset bytes false last front =
    subst (IsLongestFront order (suc n) offset bytes) (sym (frames_from-last order (suc n) offset bytes (λ _. last))) (none order (suc n) offset bytes (λ _. last))

pub frames_from-longest : (order : Order) (n offset : ℕ) (bytes : List ℕ) → IsLongestFront order n offset bytes (frames_from order n offset bytes)
frames_from-longest order zero offset bytes =
    let never : 0 < 0 → is_whole order bytes ≡ false = λ no. absurd (omega arith) in
    subst (IsLongestFront order zero offset bytes) (sym (frames_from-last order zero offset bytes never)) (none order zero offset bytes never)
frames_from-longest order (suc n) offset bytes =
    longest_by order n offset bytes (is_whole order bytes) refl
    (frames_from-longest order n (offset + record_length order bytes) (drop (record_length order bytes) bytes))
