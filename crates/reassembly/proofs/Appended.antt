-- Bytes that go on where a page ends.
use Rattle.std.proofs.Common.{◌≡◌, ℕ, ◌+◌, ◌-◌, ◌/◌, ◌%◌, ◌<◌, ◌≤◌, Bool, true, false, cond, refl, ap, ◌∙◌, sym, arith, List, ◌++◌, length, length-append, leb, ltb, lt-ltb, le-leb, le-ltb, leb-true, ltb-true, ⊎_elim, slice_index}
use Rattle.std.specs.Prelude.{OnOk, Ok, Err, is_ok}
use Rattle.std.specs.declared.result.Result.{Result}
use Rattle.std.proofs.lemmas.Bool.{cases_lt, cases_eq, lt-leb, and_parts}
use Rattle.std.proofs.lemmas.List.{get_or_append_left, get_or-append_right, get_or_past}
use Rattle.reassembly.specs.declared.pages.Pages.{Pages}
use Rattle.reassembly.specs.Segment.{has_byte}
use Rattle.reassembly.specs.Pages.{page_at, byte_of, IsChangedAt, AreAppended}
use Rattle.reassembly.proofs.Paged.{IsPart}

-- bytes were added behind those of a page
record IsAddedTo (old new : Pages) (low k from : ℕ) (bytes : List ℕ) : Type 0 where
  pub part : IsPart old low k from
  pub changed : IsChangedAt old new k
  pub full : length (page_at old k) ≡ from
  pub page : page_at new k ≡ page_at old k ++ bytes
  pub fits : from + length bytes ≤ 2048

chosen : (a b : Bool) (x y z : ℕ) → a ≡ b → z ≡ cond b x y → z ≡ cond a x y
chosen a b x y z e h = h ∙ ap (λ c. cond c x y) (sym e)

unchosen : (a : Bool) (x y : ℕ) → (a ≡ true → ⊥) → y ≡ cond a x y
unchosen true x y none = absurd (none refl)
unchosen false x y none = refl

added_bytes : (old new : Pages) (low k from : ℕ) (bytes : List ℕ) → IsAddedTo old new low k from bytes → AreAppended old new low bytes
added_bytes old new low k from bytes h p l =
    let base : old.base ≤ low = h.part.base in
    let place : k ≡ (low - old.base) / 2048 = h.part.place in
    let rest : from ≡ (low - old.base) % 2048 = h.part.offset in
    let fits : from + length bytes ≤ 2048 = h.fits in
    let full : length (page_at old k) ≡ from = h.full in
    let at : ℕ = (p - old.base) % 2048 in
    let seg : ℕ = slice_index bytes (p - low) in
    let offset : byte_of new p ≡ slice_index (page_at new ((p - old.base) / 2048)) at = ap (λ b. slice_index (page_at new ((p - b) / 2048)) ((p - b) % 2048)) h.changed.base in
    ⊎_elim
    (λ (same : (p - old.base) / 2048 ≡ k).
    let now : byte_of new p ≡ slice_index (page_at old k ++ bytes) at
    = offset ∙ (ap (λ a. slice_index (page_at new a) at) same ∙ ap (λ (xs : List ℕ). slice_index xs at) h.page) in
    let was : byte_of old p ≡ slice_index (page_at old k) at = ap (λ a. slice_index (page_at old a) at) same in
    ⊎_elim
    (λ (under : p < low).
    let out : has_byte low bytes p ≡ false = rw (lt-leb low p under) refl in
    chosen (has_byte low bytes p) false seg (byte_of old p) (byte_of new p) out
    (now ∙ (get_or_append_left (page_at old k) bytes 0 at (omega arith) ∙ sym was)))
    (λ (over : low ≤ p). ⊎_elim
    (λ (inside : p < low + length bytes).
    let here : has_byte low bytes p ≡ true = rw (le-leb low p over, lt-ltb p (low + length bytes) inside) refl in
    let place_in : at - from ≡ p - low = omega arith in
    chosen (has_byte low bytes p) true seg (byte_of old p) (byte_of new p) here
    (now ∙ (get_or-append_right (page_at old k) bytes from at 0 full (omega arith) ∙ ap (slice_index bytes) place_in)))
    (λ (past : low + length bytes ≤ p).
    let out : has_byte low bytes p ≡ false = rw (le-leb low p over, le-ltb p (low + length bytes) past) refl in
    let len : length (page_at old k ++ bytes) ≡ from + length bytes = length-append (page_at old k) bytes ∙ ap (λ n. n + length bytes) full in
    chosen (has_byte low bytes p) false seg (byte_of old p) (byte_of new p) out
    (now ∙ (get_or_past (page_at old k ++ bytes) at 0 (omega arith) ∙ sym (was ∙ get_or_past (page_at old k) at 0 (omega arith)))))
    (cases_lt p (low + length bytes)))
    (cases_lt p low))
    (λ (other : (p - old.base) / 2048 ≡ k → ⊥).
    let out : has_byte low bytes p ≡ true → ⊥ = λ t.
    let both = and_parts (leb low p) (ltb p (low + length bytes)) t in
    let f : low ≤ p = leb-true low p both.0 in
    let g : p < low + length bytes = ltb-true p (low + length bytes) both.1 in
    other (omega arith) in
    offset ∙ (ap (λ (xs : List ℕ). slice_index xs at) (h.changed.others ((p - old.base) / 2048) other)
    ∙ unchosen (has_byte low bytes p) seg (byte_of old p) out))
    (cases_eq ((p - old.base) / 2048) k)

-- the same where the page may have had no room
pub bytes_added : {A E : Type 0} (r : Result A E) (old new : Pages) (low k from : ℕ) (bytes : List ℕ) → IsPart old low k from → IsChangedAt old new k
    → length (page_at old k) ≡ from → page_at new k ≡ cond (is_ok r) (page_at old k ++ bytes) (page_at old k) → from + length bytes ≤ 2048
    → OnOk r (AreAppended old new low bytes)
bytes_added (Ok x) old new low k from bytes part changed full page fits = added_bytes old new low k from bytes (record { part = part; changed = changed; full = full; page = page; fits = fits })
bytes_added (Err e) old new low k from bytes part changed full page fits = tt
