-- What `next` may answer after it has read a head, and then a body.
use Rattle.std.proofs.Common.{◌≡◌, ◌⊎◌, inl, inr, rules, ℕ, suc, ◌+◌, ◌-◌, ◌<◌, ◌≤◌, List, [], ◌++◌, length, take, drop, None, Some, Ok, Err, refl, sym, ap, subst, ◌∙◌, arith, append_assoc, length-append, length-take-le, take_all}
use Rattle.std.proofs.Math.Seq.{take-append_seam, drop-append_seam, drop-append-add}
use Rattle.std.specs.declared.option.Option.{Option}
use Rattle.std.specs.Io.KnownBytes.{Consumes}
use Rattle.mos_bytes.specs.Reads.{Fills, FillsPart}
use Rattle.pcap_source.specs.Captured.{Captured}
use Rattle.pcap_source.specs.Order.{number_in}
use Rattle.pcap_source.specs.Capture.{tail, ended, with_frame, record_at, captured_by, record_length, captured_length, frames_from}
use Rattle.pcap_source.specs.Reading.{IsRecord, IsTold, NextGives, reading}
use Rattle.pcap_source.specs.declared.order.Order.{Order}
use Rattle.pcap_source.specs.declared.capture.Step.TheVariants.{Frame, Tail, End}
use Rattle.pcap_source.specs.declared.errors.NextError.{NextError}
use Rattle.pcap_source.specs.declared.errors.NextError.TheVariants.{TooLong, TooMany, ReadFault, NoMemory}
use Rattle.pcap_source.proofs.Cuts.{take-head, drop-head, frames_from-short, frames_from-too_many, frames_from-too_long, frames_from-cut, frames_from-whole}

-- a buffer that wasn't filled holds all that was left
all_left : (n : ℕ) (before after buf : List ℕ) → Fills (Some before) (Some after) n buf → n < length buf → length before ≡ n
all_left n before after buf fills short =
    let front : length (take n buf) ≡ n = length-take-le n buf fills.within in
    ap length fills.consumed ∙ length-append (take n buf) after ∙ omega (arith, front, ap length (fills.short short))

-- a buffer that was filled holds the front of what was left
whole : (n : ℕ) (before after buf : List ℕ) → Fills (Some before) (Some after) n buf → length buf ≤ n → before ≡ buf ++ after
whole n before after buf fills full = fills.consumed ∙ ap (λ l. l ++ after) (take_all n buf full)

-- a source that failed, and of which nothing is left, had less left than the buffer has room for
part_left : (before after buf : List ℕ) → FillsPart (Some before) (Some after) buf → after ≡ [] → length before < length buf
part_left before after buf part none =
    let within = part.within in
    let front : length (take part.count buf) ≡ part.count = length-take-le part.count buf (omega arith) in
    omega (arith, front, ap length part.consumed, length-append (take part.count buf) after, ap length none)

module _ (order : Order) (count offset behind : ℕ) (frame : Captured) where
  pub gives-End : (n : ℕ) (a b : Option (List ℕ)) (head : List ℕ) → Fills a b n head → length head ≡ 16 → n ≡ 0
      → NextGives (reading order count offset) (reading order (count + 1) behind) a b frame (Ok End)
  gives-End n None b head fills is none = tt
  gives-End n (Some before) None head fills is none = absurd fills.consumed
  gives-End n (Some before) (Some after) head fills is none =
      let all : length before ≡ 0 = all_left n before after head fills (omega arith) ∙ none in (
        frames_from-short order (1048576 - count) offset before (omega arith) ∙ ap (λ k. ended (tail k)) all,
        fills.short (omega arith),
      )

  pub gives-Tail : (n : ℕ) (a b : Option (List ℕ)) (head : List ℕ) → Fills a b n head → length head ≡ 16 → 0 < n → n < 16
      → NextGives (reading order count offset) (reading order (count + 1) behind) a b frame (Ok (Tail n))
  gives-Tail n None b head fills is some short = tt
  gives-Tail n (Some before) None head fills is some short = absurd fills.consumed
  gives-Tail n (Some before) (Some after) head fills is some short =
      let all : length before ≡ n = all_left n before after head fills (omega arith) in (
        frames_from-short order (1048576 - count) offset before (omega arith) ∙ ap (λ k. ended (tail k)) all,
        some,
        fills.short (omega arith),
      )

  pub gives-TooMany : (n : ℕ) (a b : Option (List ℕ)) (head : List ℕ) → Fills a b n head → length head ≡ 16 → 16 ≤ n → count ≡ 1048576
      → NextGives (reading order count offset) (reading order (count + 1) behind) a b frame (Err (TooMany offset))
  gives-TooMany n None b head fills is full many = tt
  gives-TooMany n (Some before) None head fills is full many = absurd fills.consumed
  gives-TooMany n (Some before) (Some after) head fills is full many =
      let all : before ≡ head ++ after = whole n before after head fills (omega arith) in
      let long : 16 ≤ length before = omega (arith, ap length all, length-append head after) in
      let last : 1048576 - count ≡ 0 = omega arith in
      ap (λ k. frames_from order k offset before) last ∙ frames_from-too_many order offset before long

  -- what the head tells of the captured length is what the definition reads
  told : (head rest : List ℕ) → length head ≡ 16 → captured_length order (head ++ rest) ≡ number_in order 4 (drop 8 head)
  told head rest is = ap (λ h. number_in order 4 (drop 8 h)) (take-head head rest is)

  pub gives-TooLong : (n : ℕ) (a b : Option (List ℕ)) (head : List ℕ) → Fills a b n head → length head ≡ 16 → 16 ≤ n → count < 1048576
      → 262144 < number_in order 4 (drop 8 head) → NextGives (reading order count offset) (reading order (count + 1) behind) a b frame (Err (TooLong offset))
  gives-TooLong n None b head fills is full few over = tt
  gives-TooLong n (Some before) None head fills is full few over = absurd fills.consumed
  gives-TooLong n (Some before) (Some after) head fills is full few over =
      let all : before ≡ head ++ after = whole n before after head fills (omega arith) in
      let long : 16 ≤ length before = omega (arith, ap length all, length-append head after) in
      let length_is : captured_length order before ≡ number_in order 4 (drop 8 head) = ap (captured_length order) all ∙ told head after is in
      let more : 1048576 - count ≡ suc (1048576 - (count + 1)) = omega arith in
      ap (λ k. frames_from order k offset before) more ∙ frames_from-too_long order (1048576 - (count + 1)) offset before long (omega (arith, length_is, over))

  pub gives-cut : (n m : ℕ) (a b d : Option (List ℕ)) (head body : List ℕ) → Fills a b n head → length head ≡ 16 → 16 ≤ n → count < 1048576
      → length body ≡ number_in order 4 (drop 8 head) → length body ≤ 262144 → Fills b d m body → m < length body
      → NextGives (reading order count offset) (reading order (count + 1) behind) a d frame (Ok (Tail (16 + m)))
  gives-cut n m None b d head body fills is full few body_is within more short = tt
  gives-cut n m (Some before) None d head body fills is full few body_is within more short = absurd fills.consumed
  gives-cut n m (Some before) (Some mid) None head body fills is full few body_is within more short = absurd more.consumed
  gives-cut n m (Some before) (Some mid) (Some after) head body fills is full few body_is within rest short =
      let all : before ≡ head ++ mid = whole n before mid head fills (omega arith) in
      let left : length mid ≡ m = all_left m mid after body rest short in
      let size : length before ≡ 16 + m = omega (arith, ap length all, length-append head mid) in
      let length_is : captured_length order before ≡ length body = ap (captured_length order) all ∙ told head mid is ∙ sym body_is in
      let more : 1048576 - count ≡ suc (1048576 - (count + 1)) = omega arith in (
        ap (λ k. frames_from order k offset before) more
            ∙ frames_from-cut order (1048576 - (count + 1)) offset before (omega arith) (omega (arith, length_is)) (omega (arith, length_is, size))
            ∙ ap (λ k. ended (tail k)) size,
        omega arith,
        rest.short short,
      )

  -- the source failed before the head was read
  pub gives-head-fault : (a b : Option (List ℕ)) (head : List ℕ) → FillsPart a b head → length head ≡ 16
      → NextGives (reading order count offset) (reading order (count + 1) behind) a b frame (Err ReadFault)
  gives-head-fault None b head part is = tt
  gives-head-fault (Some before) None head part is = absurd part.consumed
  gives-head-fault (Some before) (Some after) head part is = λ none.
      let short = part.within in
      (length before, frames_from-short order (1048576 - count) offset before (omega (arith, part_left before after head part none)))

  -- the source failed, or memory was refused, before the captured bytes were read
  pub gives-body-Err : (n : ℕ) (a b d : Option (List ℕ)) (head body : List ℕ) (e : NextError) → Fills a b n head → length head ≡ 16 → 16 ≤ n → count < 1048576
      → number_in order 4 (drop 8 head) ≤ 262144 → (IsTold b → IsTold d) → (e ≡ ReadFault) ⊎ (e ≡ NoMemory) → (e ≡ ReadFault → FillsPart b d body)
      → (e ≡ ReadFault → length body ≡ number_in order 4 (drop 8 head))
      → NextGives (reading order count offset) (reading order (count + 1) behind) a d frame (Err e)
  gives-body-Err n None b d head body e fills is full few within kept only part sized = tt
  gives-body-Err n (Some before) None d head body e fills is full few within kept only part sized = absurd fills.consumed
  gives-body-Err n (Some before) (Some mid) None head body e fills is full few within kept only part sized = absurd (kept tt)
  gives-body-Err n (Some before) (Some mid) (Some after) head body (TooLong o) fills is full few within kept only part sized = elim only [ inl e ↦ search rules | inr e ↦ search rules ]
  gives-body-Err n (Some before) (Some mid) (Some after) head body (TooMany o) fills is full few within kept only part sized = elim only [ inl e ↦ search rules | inr e ↦ search rules ]
  gives-body-Err n (Some before) (Some mid) (Some after) head body NoMemory fills is full few within kept only part sized = tt
  gives-body-Err n (Some before) (Some mid) (Some after) head body ReadFault fills is full few within kept only part sized = λ none.
      let all : before ≡ head ++ mid = whole n before mid head fills (omega arith) in
      let size : length before ≡ 16 + length mid = omega (arith, ap length all, length-append head mid) in
      let short : length mid < length body = part_left mid after body (part refl) none in
      let length_is : captured_length order before ≡ number_in order 4 (drop 8 head) = ap (captured_length order) all ∙ told head mid is in
      let more : 1048576 - count ≡ suc (1048576 - (count + 1)) = omega arith in (
        length before,
        ap (λ k. frames_from order k offset before) more
            ∙ frames_from-cut order (1048576 - (count + 1)) offset before (omega arith) (omega (arith, length_is)) (omega (arith, length_is, size, short, sized refl)),
      )

-- the record at the front, where others follow
record_at-whole : (order : Order) (head body rest : List ℕ) → length head ≡ 16 → length body ≡ number_in order 4 (drop 8 head)
    → record_at order (head ++ (body ++ rest)) ≡ captured_by order head body
record_at-whole order head body rest is body_is =
    rw (take-head head (body ++ rest) is, drop-head head (body ++ rest) is, ← body_is, take-append_seam body rest) refl

pub gives-Frame : (order : Order) (count offset n m : ℕ) (a b d : Option (List ℕ)) (head body : List ℕ) → Fills a b n head → length head ≡ 16 → 16 ≤ n → count < 1048576
    → length body ≡ number_in order 4 (drop 8 head) → length body ≤ 262144 → Fills b d m body → length body ≤ m
    → NextGives (reading order count offset) (reading order (count + 1) (offset + 16 + length body)) a d
    (captured_by order head body)
    (Ok Frame)
gives-Frame order count offset n m None b d head body fills is full few body_is within rest all = tt
gives-Frame order count offset n m (Some before) None d head body fills is full few body_is within rest all = absurd fills.consumed
gives-Frame order count offset n m (Some before) (Some mid) None head body fills is full few body_is within rest all = absurd rest.consumed
gives-Frame order count offset n m (Some before) (Some mid) (Some after) head body fills is full few body_is within rest all =
    let parts : before ≡ head ++ (body ++ after) = whole n before mid head fills (omega arith) ∙ ap (λ l. head ++ l) (whole m mid after body rest all) in
    let length_is : captured_length order before ≡ length body =
    ap (captured_length order) parts ∙ ap (λ h. number_in order 4 (drop 8 h)) (take-head head (body ++ after) is) ∙ sym body_is in
    let size : length before ≡ 16 + (length body + length after) = omega (arith, ap length parts, length-append head (body ++ after), length-append body after) in
    let more : 1048576 - count ≡ suc (1048576 - (count + 1)) = omega arith in
    let rest_of = 1048576 - (count + 1) in
    let frame = captured_by order head body in
    let sized : record_length order before ≡ length head + length body = omega (arith, length_is) in
    let behind : drop (record_length order before) before ≡ after =
    ap (λ k. drop k before) sized ∙ ap (drop (length head + length body)) parts ∙ drop-append-add head (body ++ after) (length body) ∙ drop-append_seam body after in
    let place : offset + record_length order before ≡ offset + 16 + length body = omega (arith, length_is) in
    ap (λ k. frames_from order k offset before) more
    ∙ frames_from-whole order rest_of offset before (omega (arith, length_is)) (omega (arith, length_is, size))
    ∙ ap (λ r. with_frame r (frames_from order rest_of (offset + record_length order before) (drop (record_length order before) before)))
    (ap (record_at order) parts ∙ record_at-whole order head body after is body_is)
    ∙ ap (λ o. with_frame frame (frames_from order rest_of o (drop (record_length order before) before))) place
    ∙ ap (λ l. with_frame frame (frames_from order rest_of (offset + 16 + length body) l)) behind

-- the same where head and data were consumed at once
pub gives-whole : (order : Order) (count offset : ℕ) (a d : Option (List ℕ)) (frame : Captured) → Consumes a d (frame.head ++ frame.bytes) → IsRecord order frame → count < 1048576
    → NextGives (reading order count offset) (reading order (count + 1) (offset + 16 + length frame.bytes)) a d frame (Ok Frame)
gives-whole order count offset None d frame consumed is few = tt
gives-whole order count offset (Some before) None frame consumed is few = absurd consumed
gives-whole order count offset (Some before) (Some after) frame consumed is few =
    let head = frame.head in
    let body = frame.bytes in
    let first : Fills (Some before) (Some (body ++ after)) 16 head = record {
      within = omega (arith, is.head);
      consumed = consumed ∙ append_assoc head body after ∙ ap (λ l. l ++ (body ++ after)) (sym (take_all 16 head (omega (arith, is.head))));
      short = λ less. absurd (omega (arith, is.head, less));
    } in
    let last : Fills (Some (body ++ after)) (Some after) (length body) body = record {
      within = omega arith;
      consumed = ap (λ l. l ++ after) (sym (take_all (length body) body (omega arith)));
      short = λ less. absurd (omega (arith, less));
    } in
    subst (λ f. NextGives (reading order count offset) (reading order (count + 1) (offset + 16 + length body)) (Some before) (Some after) f (Ok Frame)) (sym is.whole)
    (gives-Frame order count offset 16 (length body) (Some before) (Some (body ++ after)) (Some after) head body first is.head (omega arith) few is.told is.bounded last (omega arith))
