-- What a reader's steps leave as it was in the body of a block.
use Rattle.std.proofs.Common.{◌≡◌, ℕ, zero, suc, ◌+◌, ◌-◌, ◌*◌, ◌<◌, ◌≤◌, List, [], ◌++◌, length, take, drop, Bool, true, false, ◌==◌, cond, refl, sym, ap, ◌∙◌, arith, length-append, length-take, length-take-le, ⊎_elim}
use Rattle.std.proofs.lemmas.Bool.{cases_Bool, cond-false, leb-true}
use Rattle.std.proofs.lemmas.List.{drop-drop, drop_at, drop-take, get_or-take, get_or_append_left}
use Rattle.std.proofs.Math.Seq.{take-append-add, drop-append-add}
use Rattle.std.specs.Prelude.{slice_index}
use Rattle.pcapng_source.specs.Given.{prepended, nothing, refused_with, whole}
use Rattle.pcap_source.specs.Order.{number_in}
use Rattle.pcapng_source.specs.Fields.{SectionState, has, is_resolution, is_section, option_size, resolution_in, with_resolution}
use Rattle.pcapng_source.specs.Blocks.{blocks_from, classic_header, closed}
use Rattle.pcapng_source.specs.Reading.{Goes, IsFitting, Judges, met_at, behind, behind_options, behind_words, rest_at}
use Rattle.pcapng_source.specs.declared.fault.NgFault.TheVariants.{BadBlock}
use Rattle.pcapng_source.specs.declared.reader.Reader.{Reader}
use Rattle.pcapng_source.specs.declared.reader.Stage.TheVariants.{Start, Plain, Head, Body, OptionHead, Resolution, Trailer, Refused}
use Rattle.pcapng_source.proofs.Numbers.{number_in-front, has-front}
use Rattle.pcapng_source.proofs.Firm.{is_section-front}
use Rattle.pcapng_source.proofs.Blocks.{closed-drop, has-short}
use Rattle.pcapng_source.proofs.Enters.{blocks-short}
use Rattle.pcapng_source.proofs.Resolutions.{resolution-behind, resolution-count, resolution-here}
use Rattle.pcapng_source.proofs.Steps.{refuses, rest-at, weight-at}

-- k bytes of a body are passed
pub behind-drop : (section : SectionState) (r : Reader) (k n : ℕ) (bytes : List ℕ) → behind section r (k + n) bytes ≡ behind section r n (drop k bytes)
behind-drop section r k n bytes =
    ap (λ l. closed r.section.order r.block.total r.block.offset (k + n) bytes (blocks_from section r.place.allowed r.place.offset l))
    (ap (λ m. drop m bytes) (let it : k + n + 4 ≡ k + (n + 4) = omega arith in it) ∙ sym (drop-drop (n + 4) k bytes))
    ∙ closed-drop r.section.order r.block.total r.block.offset k n bytes _

-- the section behind a block matters only where the block is whole
pub behind-there : (one other : SectionState) (r : Reader) (n : ℕ) (bytes : List ℕ) → (n + 4 ≤ length bytes → one ≡ other) → behind one r n bytes ≡ behind other r n bytes
behind-there one other r n bytes same = ⊎_elim
    (λ there. ap (λ s. behind s r n bytes) (same (leb-true (n + 4) (length bytes) there)))
    (λ short. cond-false (has (n + 4) bytes) _ nothing short ∙ sym (cond-false (has (n + 4) bytes) _ nothing short))
    (cases_Bool (has (n + 4) bytes))

-- ---- from data and skipped bytes to what follows them

-- nothing is owed or skipped any more
body-at : (r : Reader) (left : List ℕ) → r.owed ≡ 0 → r.skip ≡ 0 → rest_at Body r left ≡ behind_words r r.options left
body-at r left owed skip =
    ap (λ k. prepended (take k left) (behind_words r r.options (drop (r.owed + r.skip) left))) owed
    ∙ ap (λ k. behind_words r r.options (drop k left)) (let it : r.owed + r.skip ≡ 0 = omega arith in it)

words-at : (r : Reader) (n : ℕ) (left : List ℕ) → 0 < n → behind_words r n left ≡ behind_options r (4 * (n - 1) + 4) left
words-at r zero left some = absurd (omega arith)
words-at r (suc n) left some = ap (λ k. behind_options r k left) (let it : 4 * suc n ≡ 4 * (suc n - 1) + 4 = omega arith in it)

pub leaves-body : (r : Reader) → r.stage ≡ Body → IsFitting r → r.owed ≡ 0 → r.skip ≡ 0 → r.options ≡ 0
    → Goes r (record r { word = []; stage = Trailer })
leaves-body r is fits owed skip none = record {
  same = λ left. sym (rest-at r Body left is ∙ ap (prepended r.made) (body-at r left owed skip ∙ ap (λ n. behind_words r n left) none));
  fits = fits;
  lighter = omega (arith, weight-at r Body is);
  met = sym (ap met_at is);
}

-- ---- the second total length

trailer-at : (r : Reader) (left : List ℕ) (same : Bool) → length r.word ≡ 4 → (number_in r.section.order 4 r.word == r.block.total) ≡ same
    → rest_at Trailer r left ≡ cond same (blocks_from r.section r.place.allowed r.place.offset left) (refused_with (BadBlock r.block.offset))
trailer-at r left same whole is =
    rw (has-front 4 r.word left (omega arith), number_in-front r.section.order 4 r.word left (omega arith), is, drop_at r.word left 4 whole) refl

pub closes : (r : Reader) → r.stage ≡ Trailer → length r.word ≡ 4 → (number_in r.section.order 4 r.word == r.block.total) ≡ true
    → Judges r (record r { head = []; stage = Head })
closes r is whole same = record {
  goes = record {
    same = λ left. sym (rest-at r Trailer left is ∙ ap (prepended r.made) (trailer-at r left true whole same));
    fits = omega arith;
    lighter = omega (arith, weight-at r Trailer is);
    met = sym (ap met_at is);
  };
  ready = (omega arith, blocks-short _ _ _ _ (omega arith));
}

pub closes-badly : (r : Reader) → r.stage ≡ Trailer → length r.word ≡ 4 → IsFitting r → (number_in r.section.order 4 r.word == r.block.total) ≡ false
    → Judges r (record r { stage = Refused (BadBlock r.block.offset) 0 })
closes-badly r is whole fits same = refuses r Trailer (BadBlock r.block.offset) is refl fits (λ left. trailer-at r left false whole same)

-- ---- the first four bytes

begun-at : (r : Reader) (left : List ℕ) (section : Bool) → length r.word ≡ 4 → is_section r.word ≡ section
    → rest_at Start r left ≡ cond section (prepended classic_header (blocks_from r.section r.place.allowed r.place.offset (r.word ++ left))) (whole (r.word ++ left))
begun-at r left section long is =
    rw (has-front 4 r.word left (omega arith), is_section-front r.word left (omega arith), is) refl

pub begins : (r : Reader) → r.stage ≡ Start → r.made ≡ [] → length r.word ≡ 4 → is_section r.word ≡ true
    → Judges r (record r { head = r.word; made = classic_header; stage = Head })
begins r is none long section = record {
  goes = record {
    same = λ left. sym (rest-at r Start left is ∙ ap (λ l. prepended l (rest_at Start r left)) none ∙ begun-at r left true long section);
    fits = rw (has-short 8 r.word (omega arith)) (omega arith);
    lighter = omega (arith, weight-at r Start is);
    met = sym (ap met_at is);
  };
  ready = (
    rw (has-short 8 r.word (omega arith)) (omega arith),
    blocks-short _ _ _ (r.word ++ []) (omega (arith, length-append r.word [])),
  );
}

pub begins-plain : (r : Reader) → r.stage ≡ Start → r.made ≡ [] → length r.word ≡ 4 → is_section r.word ≡ false
    → Judges r (record r { head = []; made = r.word; stage = Plain })
begins-plain r is none long section = record {
  goes = record {
    same = λ left. sym (rest-at r Start left is ∙ ap (λ l. prepended l (rest_at Start r left)) none ∙ begun-at r left false long section);
    fits = omega arith;
    lighter = omega arith;
    met = sym (ap met_at is);
  };
  ready = tt;
}

-- ---- options

-- the options from a held word on, where the block is whole
options-at : (word left : List ℕ) (n : ℕ) → length word ≡ 4 → take (4 * n + 4) (word ++ left) ≡ word ++ take (4 * n) left
options-at word left n whole =
    ap (λ k. take k (word ++ left)) (let it : 4 * n + 4 ≡ length word + 4 * n = omega arith in it) ∙ take-append-add word left (4 * n)

-- the interface is resolved, and what is left of the options is skipped
resolved-at : (r : Reader) (resolution : ℕ) (left : List ℕ) → length r.word ≡ 4
    → behind (with_resolution r.section resolution) r (4 * r.options + 4) (r.word ++ left)
    ≡ rest_at Body (record r { stage = Body; section = with_resolution r.section resolution; owed = 0; skip = 4 * r.options; options = 0 }) left
resolved-at r resolution left whole =
    ap (λ k. behind (with_resolution r.section resolution) r k (r.word ++ left)) (let it : 4 * r.options + 4 ≡ 4 * r.options + 4 + 0 = omega arith in it)
    ∙ behind-drop (with_resolution r.section resolution) r (4 * r.options + 4) 0 (r.word ++ left)
    ∙ ap (behind (with_resolution r.section resolution) r 0)
    (ap (λ k. drop k (r.word ++ left)) (let it : 4 * r.options + 4 ≡ length r.word + 4 * r.options = omega arith in it)
    ∙ drop-append-add r.word left (4 * r.options) ∙ ap (λ k. drop k left) (let it : 4 * r.options ≡ 0 + 4 * r.options = omega arith in it))

pub resolves : (r : Reader) (resolution : ℕ) → r.stage ≡ Resolution → length r.word ≡ 4 → IsFitting r → slice_index r.word 0 ≡ resolution
    → Judges r (record r { stage = Body; section = with_resolution r.section resolution; owed = 0; skip = 4 * r.options; options = 0 })
resolves r resolution is whole fits read = record {
  goes = record {
    same = λ left. sym (rest-at r Resolution left is ∙ ap (prepended r.made)
        (ap (λ n. behind (with_resolution r.section n) r (4 * r.options + 4) (r.word ++ left)) (get_or_append_left r.word left 0 0 (omega arith) ∙ read)
        ∙ resolved-at r resolution left whole));
    fits = fits;
    lighter = omega (arith, weight-at r Resolution is);
    met = sym (ap met_at is);
  };
  ready = tt;
}

-- an option behind which the interface has no resolution of its own
pub ends-options : (r : Reader) → r.stage ≡ OptionHead → length r.word ≡ 4 → IsFitting r
    → ((area : List ℕ) → length area ≡ 4 * r.options → resolution_in r.section.order (4 * r.options + 4) (r.word ++ area) ≡ 6)
    → Judges r (record r { stage = Body; section = with_resolution r.section 6; owed = 0; skip = 4 * r.options; options = 0 })
ends-options r is whole fits none = record {
  goes = record {
    same = λ left. sym (rest-at r OptionHead left is ∙ ap (prepended r.made)
        (behind-there (with_resolution r.section (resolution_in r.section.order (4 * r.options + 4) (take (4 * r.options + 4) (r.word ++ left))))
        (with_resolution r.section 6) r (4 * r.options + 4) (r.word ++ left)
        (λ there. ap (with_resolution r.section) (ap (resolution_in r.section.order (4 * r.options + 4)) (options-at r.word left r.options whole)
        ∙ none (take (4 * r.options) left) (length-take-le (4 * r.options) left (omega (arith, length-append r.word left)))))
        ∙ resolved-at r 6 left whole));
    fits = fits;
    lighter = omega (arith, weight-at r OptionHead is);
    met = sym (ap met_at is);
  };
  ready = tt;
}

-- the option tells the resolution
pub tells : (r : Reader) → r.stage ≡ OptionHead → length r.word ≡ 4 → IsFitting r → 0 < r.options → 0 < number_in r.section.order 2 r.word
    → option_size r.section.order r.word ≡ 8 → is_resolution r.section.order r.word ≡ true
    → Judges r (record r { options = r.options - 1; word = []; stage = Resolution })
tells r is whole fits more some size told = record {
  goes = record {
    same = λ left. sym (rest-at r OptionHead left is ∙ ap (prepended r.made)
        (behind-there (with_resolution r.section (resolution_in r.section.order (4 * r.options + 4) (take (4 * r.options + 4) (r.word ++ left))))
        (with_resolution r.section (slice_index left 0)) r (4 * r.options + 4) (r.word ++ left)
        (λ there.
        let area = take (4 * r.options) left in
        let long : length area ≡ 4 * r.options = length-take-le (4 * r.options) left (omega (arith, length-append r.word left)) in
        ap (with_resolution r.section) (ap (resolution_in r.section.order (4 * r.options + 4)) (options-at r.word left r.options whole)
        ∙ ap (λ n. resolution_in r.section.order n (r.word ++ area)) (let it : 4 * r.options + 4 ≡ suc (4 * r.options + 3) = omega arith in it)
        ∙ resolution-here r.section.order r.word area whole (4 * r.options + 3) told some (omega arith)
        ∙ get_or-take (4 * r.options) left 0 0 (omega arith)))
        ∙ ap (λ k. behind (with_resolution r.section (slice_index left 0)) r k (r.word ++ left)) (let it : 4 * r.options + 4 ≡ 4 + (4 * (r.options - 1) + 4) = omega arith in it)
        ∙ behind-drop (with_resolution r.section (slice_index left 0)) r 4 (4 * (r.options - 1) + 4) (r.word ++ left)
        ∙ ap (behind (with_resolution r.section (slice_index left 0)) r (4 * (r.options - 1) + 4)) (drop_at r.word left 4 whole)));
    fits = fits;
    lighter = omega (arith, weight-at r OptionHead is);
    met = sym (ap met_at is);
  };
  ready = omega arith;
}

-- the option is another one, with so many words, and options follow it
pub passes : (r : Reader) (words : ℕ) → r.stage ≡ OptionHead → length r.word ≡ 4 → IsFitting r → words < r.options → 0 < number_in r.section.order 2 r.word
    → option_size r.section.order r.word ≡ 4 * words + 4 → is_resolution r.section.order r.word ≡ false
    → Judges r (record r { stage = Body; owed = 0; skip = 4 * words; options = r.options - words })
passes r words is whole fits more some size told = record {
  goes = record {
    same = λ left.
        let order = r.section.order in
        let area = take (4 * r.options) left in
        let rest = r.options - words in
        let bytes = drop (4 * words) left in
        let behind_it = take (4 * (rest - 1) + 4) bytes in
        sym (rest-at r OptionHead left is ∙ ap (prepended r.made)
        (behind-there (with_resolution r.section (resolution_in order (4 * r.options + 4) (take (4 * r.options + 4) (r.word ++ left))))
        (with_resolution r.section (resolution_in order (4 * (rest - 1) + 4) behind_it)) r (4 * r.options + 4) (r.word ++ left)
        (λ there.
        let long : length area ≡ 4 * r.options = length-take-le (4 * r.options) left (omega (arith, length-append r.word left)) in
        let moved : drop (option_size order r.word - 4) area ≡ behind_it =
        ap (λ k. drop k area) (let it : option_size order r.word - 4 ≡ 4 * words = omega arith in it)
        ∙ ap (λ k. drop (4 * words) (take k left)) (let it : 4 * r.options ≡ 4 * words + (4 * (rest - 1) + 4) = omega arith in it)
        ∙ drop-take (4 * words) (4 * (rest - 1) + 4) left in
        let few : length behind_it ≤ 4 * (rest - 1) + 4 = omega (arith, length-take (4 * (rest - 1) + 4) bytes) in
        ap (with_resolution r.section) (ap (resolution_in order (4 * r.options + 4)) (options-at r.word left r.options whole)
        ∙ ap (λ n. resolution_in order n (r.word ++ area)) (let it : 4 * r.options + 4 ≡ suc (4 * r.options + 3) = omega arith in it)
        ∙ resolution-behind order r.word area whole (4 * r.options + 3) told some (omega arith)
        ∙ ap (resolution_in order (4 * r.options + 3)) moved
        ∙ resolution-count order (4 * r.options + 3) (4 * (rest - 1) + 4) behind_it (omega arith) few))
        ∙ ap (λ k. behind (with_resolution r.section (resolution_in order (4 * (rest - 1) + 4) behind_it)) r k (r.word ++ left))
        (let it : 4 * r.options + 4 ≡ 4 + 4 * words + (4 * (rest - 1) + 4) = omega arith in it)
        ∙ behind-drop (with_resolution r.section (resolution_in order (4 * (rest - 1) + 4) behind_it)) r (4 + 4 * words) (4 * (rest - 1) + 4) (r.word ++ left)
        ∙ ap (behind (with_resolution r.section (resolution_in order (4 * (rest - 1) + 4) behind_it)) r (4 * (rest - 1) + 4))
        (ap (λ k. drop k (r.word ++ left)) (let it : 4 + 4 * words ≡ length r.word + 4 * words = omega arith in it) ∙ drop-append-add r.word left (4 * words))
        ∙ sym (words-at r rest bytes (omega arith))
        ∙ ap (λ k. behind_words r rest (drop k left)) (let it : 4 * words ≡ 0 + 4 * words = omega arith in it)));
    fits = fits;
    lighter = omega (arith, weight-at r OptionHead is);
    met = sym (ap met_at is);
  };
  ready = tt;
}
