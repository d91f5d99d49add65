-- Records that are written are read again.
use Rattle.std.proofs.Common.{◌≡◌, ℕ, zero, suc, ◌+◌, ◌≤◌, List, [], ◌∷◌, ◌++◌, length, take, drop, Bool, true, false, nat_lt, All, refl, sym, ap, subst, ◌∙◌, arith, append_assoc, length-append, length-take-le, Ok, Err}
use Rattle.std.proofs.lemmas.Bool.Decides.{nat_tests}
use Rattle.std.proofs.Math.Seq.{take-append_seam, drop-append_seam}
use Rattle.std.specs.Prelude.{if◌then◌else◌, Result}
use Rattle.pcap_source.specs.Captured.{Captured}
use Rattle.pcap_source.specs.Order.{number_in}
use Rattle.pcap_source.specs.Capture.{Frames, tail, with_frame, captured_by, record_at, record_length, captured_length, frames_from, frames_by, header_of, header_by, order_of, capture_of}
use Rattle.pcap_source.specs.Laws.{written, marked}
use Rattle.pcap_source.specs.Reading.{IsRecord}
use Rattle.pcap_source.specs.declared.order.Order.{Order}
use Rattle.pcap_source.specs.declared.errors.OpenError.{OpenError}
use Rattle.pcap_source.proofs.Cuts.{take-head, drop-head, frames_from-short, frames_from-whole}
use Rattle.pcap_source.proofs.Longest.{frames_from-longest}
use Rattle.pcap_source.proofs.Opened.{header_of-whole}

-- ---- one record

module _ (order : Order) (frame : Captured) (rest : List ℕ) (is : IsRecord order frame) where
  abbrev all : List ℕ
  all = frame.head ++ (frame.bytes ++ rest)

  head_told : take 16 all ≡ frame.head
  head_told = take-head frame.head (frame.bytes ++ rest) is.head

  length_told : captured_length order all ≡ length frame.bytes
  length_told = ap (λ h. number_in order 4 (drop 8 h)) head_told ∙ sym is.told

  bytes_told : take (captured_length order all) (drop 16 all) ≡ frame.bytes
  bytes_told =
      ap (λ l. take (captured_length order all) l) (drop-head frame.head (frame.bytes ++ rest) is.head)
      ∙ ap (λ n. take n (frame.bytes ++ rest)) length_told ∙ take-append_seam frame.bytes rest

  read_again : record_at order all ≡ frame
  read_again =
      ap (λ h. captured_by order h (take (captured_length order all) (drop 16 all))) head_told
      ∙ ap (λ b. captured_by order frame.head b) bytes_told ∙ sym is.whole

  behind : drop (record_length order all) all ≡ rest
  behind =
      let long : record_length order all ≡ length (frame.head ++ frame.bytes) =
      ap (λ n. 16 + n) length_told ∙ ap (λ n. n + length frame.bytes) (sym is.head) ∙ sym (length-append frame.head frame.bytes) in
      ap (λ n. drop n all) long ∙ ap (λ l. drop (length (frame.head ++ frame.bytes)) l) (sym (append_assoc frame.head frame.bytes rest))
      ∙ drop-append_seam (frame.head ++ frame.bytes) rest

  fits : record_length order all ≤ length all
  fits = omega (arith, length_told, is.head, length-append frame.head (frame.bytes ++ rest), length-append frame.bytes rest)

  pub one_more : (n offset : ℕ)
      → frames_from order (suc n) offset all ≡ with_frame frame (frames_from order n (offset + record_length order all) rest)
  one_more n offset =
      frames_from-whole order n offset all (omega (arith, length_told, is.bounded)) fits
      ∙ ap (λ f. with_frame f (frames_from order n (offset + record_length order all) (drop (record_length order all) all))) read_again
      ∙ ap (λ l. with_frame frame (frames_from order n (offset + record_length order all) l)) behind

-- ---- all records

all_later : (P : Captured → Type 0) (frame : Captured) (frames : List Captured) → All P (frame ∷ frames) → All P frames
all_later P frame frames holds k d within = holds (suc k) d (omega arith)

pub again : (order : Order) (n offset : ℕ) (frames : List Captured) → All (IsRecord order) frames → length frames ≤ n
    → frames_from order n offset (written frames) ≡ record { frames = frames; ending = tail 0 }
again order n offset [] are few = frames_from-short order n offset [] (omega arith)
again order zero offset (frame ∷ frames) are few = absurd (omega arith)
again order (suc n) offset (frame ∷ frames) are few =
    let is = are 0 frame (omega arith) in
    one_more order frame (written frames) is n offset
    ∙ ap (with_frame frame) (again order n (offset + record_length order (all order frame (written frames) is)) frames (all_later (IsRecord order) frame frames are) (omega arith))

-- ---- some of them

all_more : (P : Captured → Type 0) (frame : Captured) (frames : List Captured) → P frame → All P frames → All P (frame ∷ frames)
all_more P frame frames first others zero d within = first
all_more P frame frames first others (suc k) d within = others k d (omega arith)

all_here : (P : Captured → Type 0) (mark : Bool) (frame : Captured) (frames : List Captured) → P frame → All P frames → All P (if mark then frame ∷ frames else frames)
all_here P true frame frames first others = all_more P frame frames first others
all_here P false frame frames first others = others

marked_all : (P : Captured → Type 0) (marks : List Bool) (frames : List Captured) → All P frames → All P (marked marks frames)
unfolding marked
marked_all P [] frames are = λ k d within. absurd (omega arith)
marked_all P (mark ∷ marks) [] are = are
marked_all P (mark ∷ marks) (frame ∷ frames) are =
    all_here P mark frame (marked marks frames) (are 0 frame (omega arith)) (marked_all P marks frames (all_later P frame frames are))

fewer_here : (mark : Bool) (frame : Captured) (some frames : List Captured) → length some ≤ length frames → length (if mark then frame ∷ some else some) ≤ length (frame ∷ frames)
fewer_here true frame some frames fewer = omega arith
fewer_here false frame some frames fewer = omega arith

marked_fewer : (marks : List Bool) (frames : List Captured) → length (marked marks frames) ≤ length frames
unfolding marked
marked_fewer [] frames = omega arith
marked_fewer (mark ∷ marks) [] = omega arith
marked_fewer (mark ∷ marks) (frame ∷ frames) = fewer_here mark frame (marked marks frames) frames (marked_fewer marks frames)

-- ---- a capture of some records

long_here : (b : Bool) (bytes : List ℕ) (order : Order) (other : Result Order OpenError) (e : OpenError) → nat_lt (length bytes) 24 ≡ b
    → (if b then Err e else other) ≡ Ok order → (24 ≤ length bytes) × (other ≡ Ok order)
long_here true bytes order other e short is = absurd (cc)
long_here false bytes order other e short is = (grind (arith, nat_tests), is)

of_accepted : (bytes : List ℕ) (f : Frames) (marks : List Bool) (order : Order) → header_of bytes ≡ Ok order → frames_from order 1048576 24 (drop 24 bytes) ≡ f
    → capture_of (take 24 bytes ++ written (marked marks f.frames)) ≡ Ok (record { frames = marked marks f.frames; ending = tail 0 })
of_accepted bytes f marks order accepted are =
    let some = marked marks f.frames in
    let judged = long_here (nat_lt (length bytes) 24) bytes order (header_by (order_of (take 24 bytes)) (take 24 bytes)) (OpenError.ShortHeader (length bytes)) refl accepted in
    let sized : length (take 24 bytes) ≡ 24 = length-take-le 24 bytes judged.0 in
    let front = frames_from-longest order 1048576 24 (drop 24 bytes) in
    let records : All (IsRecord order) f.frames = subst (λ (g : Frames). All (IsRecord order) g.frames) are front.whole in
    let few : length f.frames ≤ 1048576 = subst (λ (g : Frames). length g.frames ≤ 1048576) are front.few in
    let header : header_of (take 24 bytes ++ written some) ≡ Ok order = header_of-whole (take 24 bytes) (written some) sized ∙ judged.1 in
    let rest : drop 24 (take 24 bytes ++ written some) ≡ written some =
    ap (λ n. drop n (take 24 bytes ++ written some)) (sym sized) ∙ drop-append_seam (take 24 bytes) (written some) in
    ap (λ h. frames_by h (take 24 bytes ++ written some)) header
    ∙ ap (λ l. Ok (frames_from order 1048576 24 l)) rest
    ∙ ap Ok (again order 1048576 24 some (marked_all (IsRecord order) marks f.frames records) (omega (arith, marked_fewer marks f.frames, few)))

of_header : (bytes : List ℕ) (f : Frames) (marks : List Bool) (header : Result Order OpenError) → header_of bytes ≡ header → frames_by header bytes ≡ Ok f
    → capture_of (take 24 bytes ++ written (marked marks f.frames)) ≡ Ok (record { frames = marked marks f.frames; ending = tail 0 })
of_header bytes f marks (Ok order) accepted are = of_accepted bytes f marks order accepted (cc)
of_header bytes f marks (Err e) refused are = absurd (cc)

pub some_are_a_capture : (bytes : List ℕ) (f : Frames) (marks : List Bool) → capture_of bytes ≡ Ok f
    → capture_of (take 24 bytes ++ written (marked marks f.frames)) ≡ Ok (record { frames = marked marks f.frames; ending = tail 0 })
some_are_a_capture bytes f marks are = of_header bytes f marks (header_of bytes) refl are
