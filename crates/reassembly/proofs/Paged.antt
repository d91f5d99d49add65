-- The pages after a write into one of them, and where a position stands in its page.
use Rattle.std.proofs.Common.{get_or-take, get_or-drop, Bool, ◌≡◌, ℕ, ◌+◌, ◌-◌, ◌*◌, ◌/◌, ◌%◌, ◌<◌, ◌≤◌, true, false, cond, not, ◌&&◌, refl, ap, ap₂, ◌∙◌, sym, arith, List, [], length, take, drop, eqb, leb, ltb, lt-ltb, le-ltb, ltb-true, le-leb, leb-true, true≢false, ⊎_elim, Some, slice_index}
use Rattle.std.proofs.lemmas.Bool.{cases_lt, cases_eq, lt-leb, and_parts}
use borrow.Rule.Slice.PartMut.{put_mid}
use Rattle.std.specs.declared.alloc.Global.{Global}
use Rattle.std.specs.declared.vec.Vec.{Vec}
use Rattle.slab.specs.Slab.{get, Updates}
use Rattle.reassembly.specs.declared.answers.Policy.{Policy}
use Rattle.reassembly.specs.declared.laying.Judged.{Judged}
use Rattle.reassembly.specs.declared.pages.Pages.{Pages}
use Rattle.reassembly.specs.declared.runs.Run.{Run}
use Rattle.reassembly.specs.Segment.{is_last, has_byte, count_below}
use Rattle.reassembly.specs.Runs.{is_covered}
use Rattle.reassembly.specs.Laying.{laid_byte, tally_of, tally_sum}
use Rattle.reassembly.specs.Pages.{bytes_of, page_at, byte_of, IsHeld, IsKeyed, IsChangedAt, IsSamePlace, laid_in, AreLaid, tally_in}
use Rattle.reassembly.proofs.Counts.{count_below-same, count_below-le, count_below-stretch}
use Rattle.reassembly.proofs.Laid.{laid_window, tally_is}
use Rattle.reassembly.proofs.Parts.{length-mid}

pub page_of_key : (s : Pages) (k : ℕ) → k < length s.keys.items → page_at s k ≡ bytes_of (get s.slab (slice_index s.keys.items k))
page_of_key s k l = rw (lt-ltb k (length s.keys.items) l) refl

pub no_page : (s : Pages) (k : ℕ) → length s.keys.items ≤ k → page_at s k ≡ []
no_page s k l = rw (le-ltb k (length s.keys.items) l) refl

-- a page was written in place of the k-th
pub record IsWritten (old new : Pages) (k : ℕ) (page : Vec ℕ Global) : Type 0 where
  pub keyed : IsKeyed old
  pub within : k < length old.keys.items
  pub base : new.base ≡ old.base
  pub keys : new.keys.items ≡ old.keys.items
  pub updates : Updates old.slab new.slab (slice_index old.keys.items k) (Some page)

pub written_page : (old new : Pages) (k : ℕ) (page : Vec ℕ Global) → IsWritten old new k page → page_at new k ≡ page.items
written_page old new k page w =
    let len : length new.keys.items ≡ length old.keys.items = ap length w.keys in
    let within : k < length old.keys.items = w.within in
    page_of_key new k (omega arith)
    ∙ ap (λ (keys : List ℕ). bytes_of (get new.slab (slice_index keys k))) w.keys
    ∙ ap bytes_of w.updates.changed

pub written_others : (old new : Pages) (k : ℕ) (page : Vec ℕ Global) → IsWritten old new k page → (j : ℕ) → (j ≡ k → ⊥) → page_at new j ≡ page_at old j
written_others old new k page w j other =
    let len : length new.keys.items ≡ length old.keys.items = ap length w.keys in
    ⊎_elim
    (λ (l : j < length old.keys.items).
    page_of_key new j (omega arith)
    ∙ ap (λ (keys : List ℕ). bytes_of (get new.slab (slice_index keys j))) w.keys
    ∙ ap bytes_of (w.updates.others (slice_index old.keys.items j) (λ same. other (w.keyed.apart j k l w.within same)))
    ∙ sym (page_of_key old j l))
    (λ (l : length old.keys.items ≤ j). no_page new j (omega arith) ∙ sym (no_page old j l))
    (cases_lt j (length old.keys.items))

pub written_keyed : (old new : Pages) (k : ℕ) (page : Vec ℕ Global) → IsWritten old new k page → IsKeyed new
written_keyed old new k page w =
    let len : length new.keys.items ≡ length old.keys.items = ap length w.keys in
    record {
      present = λ j l. rw w.keys (⊎_elim
          (λ (same : slice_index old.keys.items j ≡ slice_index old.keys.items k). rw (same, w.updates.changed) refl)
          (λ (other : slice_index old.keys.items j ≡ slice_index old.keys.items k → ⊥). rw (w.updates.others (slice_index old.keys.items j) other) (w.keyed.present j (omega arith)))
          (cases_eq (slice_index old.keys.items j) (slice_index old.keys.items k)));
      apart = λ i j l m e. w.keyed.apart i j (omega arith) (omega arith) (rw w.keys at e);
    }

pub written : (old new : Pages) (k : ℕ) (page : Vec ℕ Global) → IsWritten old new k page → IsChangedAt old new k
written old new k page w = record { base = w.base; keys = w.keys; keyed = written_keyed old new k page w; others = written_others old new k page w }

-- the positions low + i of a page, whose first is the page's position `from`
pub record IsPart (s : Pages) (low k from : ℕ) : Type 0 where
  pub base : s.base ≤ low
  pub place : k ≡ (low - s.base) / 2048
  pub offset : from ≡ (low - s.base) % 2048

pub byte_in_page : (s : Pages) (low k from i : ℕ) → IsPart s low k from → from + i < 2048 → byte_of s (low + i) ≡ slice_index (page_at s k) (from + i)
byte_in_page s low k from i part l =
    let b : s.base ≤ low = part.base in
    let q : (low + i - s.base) / 2048 ≡ k = omega (arith, part.place, part.offset) in
    let r : (low + i - s.base) % 2048 ≡ from + i = omega (arith, part.place, part.offset) in
    ap₂ (λ a b. slice_index (page_at s a) b) q r

pub held_in_page : (s : Pages) (low k from i : ℕ) → IsPart s low k from → from + i < 2048 → IsHeld s (low + i) → from + i < length (page_at s k)
held_in_page s low k from i part l h =
    let b : s.base ≤ low = part.base in
    let q : (low + i - s.base) / 2048 ≡ k = omega (arith, part.place, part.offset) in
    let r : (low + i - s.base) % 2048 ≡ from + i = omega (arith, part.place, part.offset) in
    rw (q, r) at h

-- the page of a position that is held is there
pub held_within : (s : Pages) (p : ℕ) → IsHeld s p → (p - s.base) / 2048 < length s.keys.items
held_within s p h = ⊎_elim
    (λ (l : (p - s.base) / 2048 < length s.keys.items). l)
    (λ (l : length s.keys.items ≤ (p - s.base) / 2048).
    let none : length (page_at s ((p - s.base) / 2048)) ≡ 0 = ap length (no_page s ((p - s.base) / 2048) l) in
    absurd (omega (arith, h, none)))
    (cases_lt ((p - s.base) / 2048) (length s.keys.items))

-- pages that keep their base and their lengths hold what they held
pub still_held : (old new : Pages) → new.base ≡ old.base → ((k : ℕ) → length (page_at old k) ≤ length (page_at new k)) → (p : ℕ) → IsHeld old p → IsHeld new p
still_held old new base longer p h =
    let l : length (page_at old ((p - old.base) / 2048)) ≤ length (page_at new ((p - old.base) / 2048)) = longer ((p - old.base) / 2048) in
    let m : (p - old.base) % 2048 < length (page_at new ((p - old.base) / 2048)) = omega (arith, l, h) in
    rw base m

-- a part of a list, by index
pub part_byte : (n from : ℕ) (xs : List ℕ) (i : ℕ) → i < n → slice_index (take n (drop from xs)) i ≡ slice_index xs (from + i)
part_byte n from xs i l = get_or-take n (drop from xs) i 0 l ∙ get_or-drop from xs i 0

stays : (here kept : Bool) (x y : ℕ) → (here ≡ true → ⊥) → cond (here && not kept) x y ≡ y
stays true kept x y none = absurd (none refl)
stays false kept x y none = refl

-- bytes were laid into one page
pub record IsLaidIn (old new : Pages) (low k from : ℕ) (bytes cells : List ℕ) : Type 0 where
  pub part : IsPart old low k from
  pub changed : IsChangedAt old new k
  pub page : page_at new k ≡ put_mid from (length bytes) (page_at old k) cells
  pub some : 1 ≤ length bytes
  pub fits : from + length bytes ≤ 2048
  pub within : from + length bytes ≤ length (page_at old k)
  pub len : length cells ≡ length bytes

pub laid_place : (old new : Pages) (low k from : ℕ) (bytes cells : List ℕ) → IsLaidIn old new low k from bytes cells → IsSamePlace old new
laid_place old new low k from bytes cells h = record {
  base = h.changed.base;
  keyed = h.changed.keyed;
  held = still_held old new h.changed.base (λ j. ⊎_elim
      (λ (same : j ≡ k). rw (same, h.page, length-mid from (length bytes) (page_at old k) cells h.within h.len) (omega arith))
      (λ (other : j ≡ k → ⊥). rw (h.changed.others j other) (omega arith))
      (cases_eq j k));
}

pub laid_page : (old new : Pages) (runs : List Run) (low k from : ℕ) (policy : Policy) (bytes cells : List ℕ) → IsLaidIn old new low k from bytes cells
    → ((i : ℕ) → i < length bytes → slice_index cells i ≡ laid_byte runs low policy (take (length bytes) (drop from (page_at old k))) bytes i)
    → AreLaid old new runs low policy bytes
laid_page old new runs low k from policy bytes cells h laid p l =
    let base : old.base ≤ low = h.part.base in
    let place : k ≡ (low - old.base) / 2048 = h.part.place in
    let rest : from ≡ (low - old.base) % 2048 = h.part.offset in
    let fits : from + length bytes ≤ 2048 = h.fits in
    let first : ℕ = old.base + 2048 * k in
    let start : from ≡ low - first = omega arith in
    let offset : byte_of new p ≡ slice_index (page_at new ((p - old.base) / 2048)) ((p - old.base) % 2048) = ap (λ b. slice_index (page_at new ((p - b) / 2048)) ((p - b) % 2048)) h.changed.base in
    offset ∙ ⊎_elim
    (λ (same : (p - old.base) / 2048 ≡ k).
    let place_in : (p - old.base) % 2048 ≡ p - first = omega arith in
    let window : slice_index (put_mid (low - first) (length bytes) (page_at old k) cells) (p - first) ≡ cond
    (has_byte low bytes p && not (is_covered runs p && not (is_last policy))) (slice_index bytes (p - low)) (slice_index (page_at old k) (p - first))
    = laid_window runs first low (length bytes) policy (page_at old k) bytes cells (omega arith) refl
    (let w : from + length bytes ≤ length (page_at old k) = h.within in omega arith) h.len (rw start at laid) p (omega arith) in
    ap₂ (λ a b. slice_index (page_at new a) b) same place_in
    ∙ ap (λ (xs : List ℕ). slice_index xs (p - first)) h.page
    ∙ ap (λ a. slice_index (put_mid a (length bytes) (page_at old k) cells) (p - first)) start
    ∙ window
    ∙ ap (λ x. cond (has_byte low bytes p && not (is_covered runs p && not (is_last policy))) (slice_index bytes (p - low)) x) (sym (ap₂ (λ a b. slice_index (page_at old a) b) same place_in)))
    (λ (other : (p - old.base) / 2048 ≡ k → ⊥).
    ap (λ (xs : List ℕ). slice_index xs ((p - old.base) % 2048)) (h.changed.others ((p - old.base) / 2048) other)
    ∙ sym (stays (has_byte low bytes p) (is_covered runs p && not (is_last policy)) (slice_index bytes (p - low)) (byte_of old p) (λ t.
    let both = and_parts (leb low p) (ltb p (low + length bytes)) t in
    let f : low ≤ p = leb-true low p both.0 in
    let g : p < low + length bytes = ltb-true p (low + length bytes) both.1 in
    other (omega arith))))
    (cases_eq ((p - old.base) / 2048) k)

pub judged_page : (old : Pages) (runs : List Run) (low k from : ℕ) (bytes : List ℕ) → IsPart old low k from → from + length bytes ≤ 2048
    → tally_of runs low (take (length bytes) (drop from (page_at old k))) bytes (length bytes) ≡ tally_in old runs low bytes (length bytes)
judged_page old runs low k from bytes part fits =
    let made : ℕ → Judged = λ d. record { new = count_below (λ i. not (is_covered runs (low + i))) (length bytes); old = count_below (λ i. is_covered runs (low + i)) (length bytes); differ = d } in
    ap made (count_below-same
    (λ i. is_covered runs (low + i) && not (eqb (slice_index (take (length bytes) (drop from (page_at old k))) i) (slice_index bytes i)))
    (λ i. is_covered runs (low + i) && not (eqb (byte_of old (low + i)) (slice_index bytes i)))
    (length bytes)
    (λ i l. ap (λ x. is_covered runs (low + i) && not (eqb x (slice_index bytes i)))
    (part_byte (length bytes) from (page_at old k) i l ∙ sym (byte_in_page old low k from i part (omega arith)))))

-- how many of the first n bytes
pub record AreFew (t : Judged) (n : ℕ) : Type 0 where
  pub new : t.new ≤ n
  pub old : t.old ≤ n
  pub differ : t.differ ≤ n

pub tally_in_few : (s : Pages) (runs : List Run) (low : ℕ) (bytes : List ℕ) (n : ℕ) (t : Judged) → t ≡ tally_in s runs low bytes n → AreFew t n
tally_in_few s runs low bytes n t e = rw e (record {
  new = count_below-le (λ i. not (is_covered runs (low + i))) n;
  old = count_below-le (λ i. is_covered runs (low + i)) n;
  differ = count_below-le (λ i. is_covered runs (low + i) && not (eqb (byte_of s (low + i)) (slice_index bytes i))) n;
})

-- the first n bytes were laid, and then a part of m bytes
pub record IsLaidOn (before now : Pages) (runs : List Run) (low : ℕ) (policy : Policy) (bytes part : List ℕ) (n m k : ℕ) : Type 0 where
  pub base : now.base ≡ before.base
  pub from : before.base ≤ low
  pub laid : (p : ℕ) → before.base ≤ p → byte_of now p ≡ laid_in before runs low policy bytes n p
  pub sum : n + m ≡ k
  pub part_is : (i : ℕ) → i < m → slice_index part i ≡ slice_index bytes (n + i)
  pub part_len : length part ≡ m

-- a position past the first n bytes is as it was
beyond : (before now : Pages) (runs : List Run) (low : ℕ) (policy : Policy) (bytes part : List ℕ) (n m k : ℕ) → IsLaidOn before now runs low policy bytes part n m k
    → (p : ℕ) → low + n ≤ p → byte_of now p ≡ byte_of before p
beyond before now runs low policy bytes part n m k h p l =
    let from : before.base ≤ low = h.from in
    let past : ltb p (low + n) ≡ false = le-ltb p (low + n) l in
    h.laid p (omega arith) ∙ stays (leb low p && ltb p (low + n)) (is_covered runs p && not (is_last policy)) (slice_index bytes (p - low))
    (byte_of before p) (λ t. true≢false (sym (and_parts (leb low p) (ltb p (low + n)) t).1 ∙ past))

pub laid_on : (before now after : Pages) (runs : List Run) (low : ℕ) (policy : Policy) (bytes part : List ℕ) (n m k : ℕ) → IsLaidOn before now runs low policy bytes part n m k
    → AreLaid now after runs (low + n) policy part
    → (p : ℕ) → before.base ≤ p → byte_of after p ≡ laid_in before runs low policy bytes k p
laid_on before now after runs low policy bytes part n m k h next p l =
    let sum : n + m ≡ k = h.sum in
    let len : length part ≡ m = h.part_len in
    let kept : Bool = is_covered runs p && not (is_last policy) in
    let seg : ℕ = slice_index bytes (p - low) in
    let step : byte_of after p ≡ laid_in now runs (low + n) policy part (length part) p = next p (rw h.base l) in
    ⊎_elim
    (λ (below : p < low + n).
    let e1 : ltb p (low + n) ≡ true = lt-ltb p (low + n) below in
    let e2 : ltb p (low + k) ≡ true = lt-ltb p (low + k) (omega arith) in
    let none : leb (low + n) p ≡ false = lt-leb (low + n) p below in
    step
    ∙ stays (leb (low + n) p && ltb p (low + n + length part)) kept (slice_index part (p - (low + n))) (byte_of now p)
    (λ t. true≢false (sym (and_parts (leb (low + n) p) (ltb p (low + n + length part)) t).0 ∙ none))
    ∙ h.laid p l
    ∙ ap (λ b. cond ((leb low p && b) && not kept) seg (byte_of before p)) (e1 ∙ sym e2))
    (λ (from : low + n ≤ p). ⊎_elim
    (λ (within : p < low + k).
    let a1 : leb (low + n) p ≡ true = le-leb (low + n) p from in
    let a2 : ltb p (low + n + length part) ≡ true = lt-ltb p (low + n + length part) (omega arith) in
    let b1 : leb low p ≡ true = le-leb low p (omega arith) in
    let b2 : ltb p (low + k) ≡ true = lt-ltb p (low + k) within in
    let back : n + (p - (low + n)) ≡ p - low = omega arith in
    let byte : slice_index part (p - (low + n)) ≡ seg = h.part_is (p - (low + n)) (omega arith) ∙ ap (slice_index bytes) back in
    step
    ∙ ap₂ (λ x y. cond ((leb (low + n) p && ltb p (low + n + length part)) && not kept) x y) byte (beyond before now runs low policy bytes part n m k h p from)
    ∙ ap₂ (λ x y. cond ((x && y) && not kept) seg (byte_of before p)) (a1 ∙ sym b1) (a2 ∙ sym b2))
    (λ (past : low + k ≤ p).
    let a2 : ltb p (low + n + length part) ≡ false = le-ltb p (low + n + length part) (omega arith) in
    let b2 : ltb p (low + k) ≡ false = le-ltb p (low + k) past in
    step
    ∙ stays (leb (low + n) p && ltb p (low + n + length part)) kept (slice_index part (p - (low + n))) (byte_of now p)
    (λ t. true≢false (sym (and_parts (leb (low + n) p) (ltb p (low + n + length part)) t).1 ∙ a2))
    ∙ beyond before now runs low policy bytes part n m k h p from
    ∙ sym (stays (leb low p && ltb p (low + k)) kept seg (byte_of before p) (λ t. true≢false (sym (and_parts (leb low p) (ltb p (low + k)) t).1 ∙ b2))))
    (cases_lt p (low + k)))
    (cases_lt p (low + n))

pub judged_on : (before now : Pages) (runs : List Run) (low : ℕ) (policy : Policy) (bytes part : List ℕ) (n m k : ℕ) → IsLaidOn before now runs low policy bytes part n m k
    → tally_sum (tally_in before runs low bytes n) (tally_in now runs (low + n) part (length part)) ≡ tally_in before runs low bytes k
judged_on before now runs low policy bytes part n m k h =
    let sum : n + length part ≡ k = ap (λ x. n + x) h.part_len ∙ h.sum in
    let place : (i : ℕ) → low + (n + i) ≡ low + n + i = λ i. omega arith in
    let covered : (i : ℕ) → is_covered runs (low + (n + i)) ≡ is_covered runs (low + n + i) = λ i. ap (is_covered runs) (place i) in
    let new = count_below-stretch (λ i. not (is_covered runs (low + i))) (λ i. not (is_covered runs (low + n + i))) n (length part) k sum (λ i l. ap not (covered i)) in
    let old = count_below-stretch (λ i. is_covered runs (low + i)) (λ i. is_covered runs (low + n + i)) n (length part) k sum (λ i l. covered i) in
    let differ = count_below-stretch
    (λ i. is_covered runs (low + i) && not (eqb (byte_of before (low + i)) (slice_index bytes i)))
    (λ i. is_covered runs (low + n + i) && not (eqb (byte_of now (low + n + i)) (slice_index part i)))
    n (length part) k sum
    (λ i l. ap₂ (λ a b. a && not b) (covered i) (ap₂ eqb
    (ap (byte_of before) (place i) ∙ sym (beyond before now runs low policy bytes part n m k h (low + n + i) (omega arith)))
    (sym (h.part_is i (rw h.part_len at l))))) in
    tally_is (tally_sum (tally_in before runs low bytes n) (tally_in now runs (low + n) part (length part))) (tally_in before runs low bytes k) (sym new) (sym old) (sym differ)
