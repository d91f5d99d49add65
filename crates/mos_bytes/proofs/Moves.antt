-- What moves from a source into a buffer.
use Rattle.std.proofs.Common.{◌≡◌, ℕ, ◌+◌, ◌-◌, ◌≤◌, List, ◌++◌, length, take, drop, slice_range, sym, ap, ◌∙◌, arith, drop_at, length-take-le, length-take, le_refl}
use Rattle.std.proofs.lemmas.List.{take-append-drop, take-append-le, take-take}
use Rattle.std.proofs.lemmas.Slice.{take-put_mid_below}
use Rattle.std.proofs.Math.Seq.{take-append_seam, take-add}
use Rattle.std.specs.declared.option.Option.{Option}
use Rattle.std.specs.Io.KnownBytes.{Consumes}
use borrow.Rule.Slice.PartMut.{put_mid, post_of}
use lib.Seq.{drop-drop}

-- a loop that fills a buffer from a source: its front is what was consumed so far
pub record Filling {S L : Type 0} (left : S → Option (List ℕ)) (faults : S → ℕ) (lasting : S → L) (old now : S) (buf : List ℕ) (filled : ℕ) : Type 0 where
  pub within : filled ≤ length buf
  pub consumed : Consumes (left old) (left now) (take filled buf)
  pub later : faults old ≤ faults now
  pub lasts : lasting now ≡ lasting old

-- a loop that keeps what it reads from a source, within a limit
pub record Reading {S L : Type 0} (left : S → Option (List ℕ)) (faults : S → ℕ) (lasting : S → L) (old now : S) (bytes : List ℕ) (limit : ℕ) : Type 0 where
  pub within : length bytes ≤ limit
  pub consumed : Consumes (left old) (left now) bytes
  pub later : faults old ≤ faults now
  pub lasts : lasting now ≡ lasting old

-- a list loses the front that was copied over the front of another
pub front_copied : (n place : ℕ) (xs rest : List ℕ) → n ≤ length (drop place xs)
    → drop place xs ≡ take n (take n (drop place xs) ++ rest) ++ drop (place + n) xs
front_copied n place xs rest within =
    let front = take n (drop place xs) in
    let copied : take n (front ++ rest) ≡ front = ap (λ k. take k (front ++ rest)) (sym (length-take-le n (drop place xs) within)) ∙ take-append_seam front rest in
    sym (take-append-drop n (drop place xs)) ∙ ap (λ l. front ++ l) (drop-drop n place xs) ∙ ap (λ l. l ++ drop (place + n) xs) (sym copied)

take_split : (a b : ℕ) (old new : List ℕ) → a ≤ b → take a new ≡ take a old → take a old ++ slice_range new a b ≡ take b new
take_split a b old new h front =
    let same : a + (b - a) ≡ b = omega arith in
    ap (λ l. l ++ slice_range new a b) (sym front) ∙ sym (take-add a (b - a) new) ∙ ap (λ n. take n new) same

slice_range-put_mid : (a k n : ℕ) (xs ys : List ℕ) → a ≤ length xs → n ≤ length ys → slice_range (put_mid a k xs ys) a (a + n) ≡ take n ys
slice_range-put_mid a k n xs ys within fits =
    let same : (a + n) - a ≡ n = omega arith in
    let after = post_of a k xs in
    ap (take ((a + n) - a)) (drop_at (take a xs) (ys ++ after) a (length-take-le a xs within)) ∙ ap (λ m. take m (ys ++ after)) same ∙ take-append-le n ys after fits

-- the front of a buffer grows by the front of what a read put behind it
pub front_grows : (a k n : ℕ) (xs ys : List ℕ) → a ≤ length xs → n ≤ length ys → take a xs ++ take n ys ≡ take (a + n) (put_mid a k xs ys)
front_grows a k n xs ys within fits =
    ap (λ l. take a xs ++ l) (sym (slice_range-put_mid a k n xs ys within fits))
    ∙ take_split a (a + n) xs (put_mid a k xs ys) (omega arith) (take-put_mid_below a k xs ys a (le_refl a) within)

-- the same where the list is a piece of what a vector lends from this place on
pub read_front : (n place piece : ℕ) (left lent items to rest : List ℕ) → lent ≡ items → left ≡ drop place items
    → n ≤ length (take piece (drop place lent)) → to ≡ take n (take piece (drop place lent)) ++ rest
    → left ≡ take n to ++ drop (place + n) items
read_front n place piece left lent items to rest same is_left within copied =
    let bounded : n ≤ length (drop place lent) = omega (arith, length-take piece (drop place lent)) in
    let front : take n (take piece (drop place lent)) ≡ take n (drop place lent) =
    take-take n piece (drop place lent) (omega (arith, length-take piece (drop place lent))) in
    is_left ∙ ap (drop place) (sym same) ∙ front_copied n place lent rest bounded
    ∙ ap (λ l. take n (l ++ rest) ++ drop (place + n) lent) (sym front)
    ∙ ap (λ l. take n l ++ drop (place + n) lent) (sym copied) ∙ ap (λ l. take n to ++ drop (place + n) l) same

-- what a room holds in front of a place, after a write through what it lends
pub room_front : (place len : ℕ) (written behind front : List ℕ) → len ≡ length written → take place written ≡ front
    → take place (take len (written ++ behind)) ≡ front
room_front place len written behind front all is_front =
    ap (λ k. take place (take k (written ++ behind))) all ∙ ap (take place) (take-append_seam written behind) ∙ is_front
