-- Records that are taken one behind the other where they stand.
use Rattle.std.proofs.Common.{◌≡◌, ℕ, zero, suc, ◌+◌, ◌-◌, ◌≤◌, List, [], ◌∷◌, ◌++◌, length, take, drop, refl, sym, ap, subst, ◌∙◌, arith, append_assoc, length-append, length-take-le}
use Rattle.std.specs.declared.option.Option.{Option}
use Rattle.std.specs.declared.option.Option.TheVariants.{None, Some}
use Rattle.std.specs.Io.{StartsWith}
use Rattle.std.proofs.KnownBytes.{starts_with_rest}
use Rattle.std.proofs.Math.Seq.{drop-nil, take-append_seam, drop-append_seam}
use Rattle.std.proofs.lemmas.List.{take-append-drop, take_all, length-drop}
use Rattle.mos_bytes.specs.Reads.{BeginsWith}
use Rattle.pcap_source.specs.Captured.{Captured}
use Rattle.pcap_source.specs.Capture.{record_at, with_frame}
use Rattle.pcap_source.specs.InPlace.{IsPassed, TakesInPlace, left_behind}
use Rattle.pcap_source.specs.declared.capture.WholeRecord.{WholeRecord}
use Rattle.pcap_source.specs.Reading.{CaptureState, frames_at}

-- ---- bytes behind others

drop-more : (at n : ℕ) (l : List ℕ) → drop n (drop at l) ≡ drop (at + n) l
drop-more zero n l = ap (λ k. drop k l) (let same : n ≡ 0 + n = omega arith in same)
drop-more (suc at) n [] = drop-nil n ∙ sym (drop-nil (suc at + n))
drop-more (suc at) n (x ∷ l) = drop-more at n l ∙ ap (λ k. drop k (x ∷ l)) (let same : suc (at + n) ≡ suc at + n = omega arith in same)

begins-behind : (l front : List ℕ) (at : ℕ) → StartsWith l front → at ≤ length front → StartsWith (drop at l) (drop at front)
begins-behind l front at begins within =
    let rest = drop (length front) l in
    let parts : l ≡ take at front ++ (drop at front ++ rest) =
    starts_with_rest l front begins ∙ ap (λ f. f ++ rest) (sym (take-append-drop at front)) ∙ append_assoc (take at front) (drop at front) rest in
    let behind : drop at l ≡ drop at front ++ rest =
    ap (drop at) parts ∙ ap (λ k. drop k (take at front ++ (drop at front ++ rest))) (sym (length-take-le at front within)) ∙ drop-append_seam (take at front) (drop at front ++ rest) in
    ap (take (length (drop at front))) behind ∙ take-append_seam (drop at front) rest

-- bytes from a place on, as a slice has them
pub from_place : (at : ℕ) (l : List ℕ) → take (length l - at) (drop at l) ≡ drop at l
from_place at l = take_all (length l - at) (drop at l) (omega (arith, length-drop at l))

-- ---- a record that was taken where it stands

-- it has at least the bytes of its head
pub whole_headed : (old new : CaptureState) (front : List ℕ) (whole : WholeRecord) → TakesInPlace old new front whole → 16 ≤ whole.len
whole_headed old new front whole taken =
    let all = ap length taken.bytes in
    let parts = length-append (record_at old.order front).head (record_at old.order front).bytes in
    let head = taken.is_record.head in
    let size = length-take-le whole.len front taken.within in
    omega (arith, all, parts, head, size)

-- its head is at the front of its bytes
pub head_in_place : (old new : CaptureState) (front : List ℕ) (whole : WholeRecord) → TakesInPlace old new front whole → take 16 (take whole.len front) ≡ (record_at old.order front).head
head_in_place old new front whole taken =
    let frame = record_at old.order front in
    ap (take 16) (sym taken.bytes) ∙ ap (λ k. take k (frame.head ++ frame.bytes)) (sym taken.is_record.head) ∙ take-append_seam frame.head frame.bytes

-- what is told of it, and the bytes where it stands, are all that it says
pub frame_in_place : (old new : CaptureState) (front : List ℕ) (whole : WholeRecord) → TakesInPlace old new front whole
    → record { seconds = whole.seconds; fraction = whole.fraction; original = whole.original; head = take 16 (take whole.len front); bytes = drop 16 (take whole.len front) } ≡ record_at old.order front
frame_in_place old new front whole taken =
    let frame = record_at old.order front in
    let head = take 16 (take whole.len front) in
    let bytes = drop 16 (take whole.len front) in
    let made : ℕ → ℕ → ℕ → List ℕ → List ℕ → Captured = λ s f o h b. record { seconds = s; fraction = f; original = o; head = h; bytes = b } in
    ap (λ s. made s whole.fraction whole.original head bytes) taken.seconds ∙ ap (λ f. made frame.seconds f whole.original head bytes) taken.fraction
    ∙ ap (λ o. made frame.seconds frame.fraction o head bytes) taken.original ∙ ap (λ h. made frame.seconds frame.fraction frame.original h bytes) (head_in_place old new front whole taken)
    ∙ ap (made frame.seconds frame.fraction frame.original frame.head) (sym taken.captured)

-- one that was taken in the bytes from a place on
pub taken_behind : (old new : CaptureState) (front : List ℕ) (at : ℕ) (whole : WholeRecord)
    → TakesInPlace old new (take (length front - at) (drop at front)) whole → TakesInPlace old new (drop at front) whole
taken_behind old new front at whole taken = subst (λ f. TakesInPlace old new f whole) (from_place at front) taken

-- it is the next record in what is left behind that place
pub next_behind : (left : Option (List ℕ)) (front : List ℕ) (at n : ℕ) (old new : CaptureState) (frame : Captured) (rest : List ℕ) → BeginsWith left front → at ≤ length front
    → ((l : List ℕ) → StartsWith l (drop at front) → frames_at old l ≡ with_frame frame (frames_at new (drop n l)))
    → left_behind at left ≡ Some rest → (left_behind (at + n) left ≡ Some (drop n rest)) × (frames_at old rest ≡ with_frame frame (frames_at new (drop n rest)))
next_behind None front at n old new frame rest begins within gives told = absurd (cc)
next_behind (Some l) front at n old new frame rest begins within gives told =
    let same : drop at l ≡ rest = cc in (
      ap (λ k. Some k) (sym (drop-more at n l) ∙ ap (drop n) same),
      subst (λ r. frames_at old r ≡ with_frame frame (frames_at new (drop n r))) same (gives (drop at l) (begins-behind l front at begins within)),
    )

-- ---- what was walked over is passed over

pub behind_none : (left : Option (List ℕ)) → left_behind 0 left ≡ left
behind_none None = refl
behind_none (Some left) = refl

pub front_within : (left : Option (List ℕ)) (front rest : List ℕ) (count : ℕ) → BeginsWith left front → count ≤ length front → left ≡ Some rest → count ≤ length rest
front_within None front rest count begins within told = absurd (cc)
front_within (Some l) front rest count begins within told =
    let same : l ≡ rest = cc in
    let parts = starts_with_rest l front begins in
    omega (arith, within, ap length same, ap length parts, length-append front (drop (length front) l))

pub passed_behind : (old new : Option (List ℕ)) (front rest : List ℕ) (count : ℕ) → BeginsWith old front → count ≤ length front → IsPassed old new count
    → left_behind count old ≡ Some rest → new ≡ Some rest
passed_behind None new front rest count begins within passed told = absurd (cc)
passed_behind (Some l) new front rest count begins within passed told = passed l refl (front_within (Some l) front l count begins within refl) ∙ told
