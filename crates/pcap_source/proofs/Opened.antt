-- What `open` may answer after it has read the header.
use Rattle.std.proofs.Common.{◌≡◌, ◌⊎◌, ℕ, ◌%◌, ◌==◌, ◌≤◌, List, ◌++◌, length, take, drop, Bool, true, false, not, nat_lt, if◌then◌else◌, inl, inr, None, Some, Ok, Err, refl, sym, ap, ◌∙◌, arith, length-append, take_all}
use Rattle.std.proofs.lemmas.Bool.Decides.{nat_tests}
use Rattle.std.proofs.Math.Seq.{take-append_seam, drop-append_seam}
use Rattle.std.specs.declared.option.Option.{Option}
use Rattle.mos_bytes.specs.Reads.{Fills}
use Rattle.pcap_source.specs.Capture.{header_of, header_by, order_of}
use Rattle.pcap_source.specs.Order.{number_in}
use Rattle.pcap_source.specs.Reading.{OpenGives}
use Rattle.pcap_source.specs.declared.order.Order.{Order}
use Rattle.pcap_source.specs.declared.errors.OpenError.{OpenError}
use Rattle.pcap_source.specs.declared.errors.OpenError.TheVariants.{BadMagic, BadVersion, BadLink, ShortHeader, ReadFault}

-- with 24 bytes there, the header is judged by them
pub header_of-whole : (header rest : List ℕ) → length header ≡ 24 → header_of (header ++ rest) ≡ header_by (order_of header) header
header_of-whole header rest is =
    let front : take 24 (header ++ rest) ≡ header = ap (λ n. take n (header ++ rest)) (sym is) ∙ take-append_seam header rest in
    let long : nat_lt (length (header ++ rest)) 24 ≡ false = grind (arith, nat_tests, length-append header rest) in
    rw (long, front) refl

whole : (n : ℕ) (before after header : List ℕ) → Fills (Some before) (Some after) n header → length header ≤ n → before ≡ header ++ after
whole n before after header fills full = fills.consumed ∙ ap (λ l. l ++ after) (take_all n header full)

-- a header of 24 bytes is refused for what stands in it
abbrev Judges : OpenError → Type 0
Judges e = (e ≡ BadMagic) ⊎ ((e ≡ BadVersion) ⊎ (e ≡ BadLink))

judged_in : (version link : Bool) (order : Order) (e : OpenError) → (if version then Err BadVersion else (if link then Err BadLink else Ok order)) ≡ Err e → Judges e
judged_in true link order e is = inr (inl (cc))
judged_in false true order e is = inr (inr (cc))
judged_in false false order e is = cc

judges : (found : Option Order) (header : List ℕ) (e : OpenError) → header_by found header ≡ Err e → Judges e
judges None header e is = inl (cc)
judges (Some order) header e is = judged_in (not (number_in order 2 (drop 4 header) == 2)) (not (number_in order 4 (drop 20 header) % 65536 == 1)) order e is

judges-read : (found : Option Order) (header : List ℕ) → header_by found header ≡ Err ReadFault → ⊥
judges-read found header is = elim (judges found header ReadFault is) [ inl e ↦ cc | inr (inl e) ↦ cc | inr (inr e) ↦ cc ]

-- a refusal of the header
refused : (bytes after header : List ℕ) (e : OpenError) → header_by (order_of header) header ≡ Err e → header_of bytes ≡ Err e → OpenGives (Some bytes) (Some after) (Err e)
refused bytes after header BadMagic judged is = is
refused bytes after header BadVersion judged is = is
refused bytes after header BadLink judged is = is
refused bytes after header (ShortHeader n) judged is = is
refused bytes after header ReadFault judged is = absurd (judges-read (order_of header) header judged)

pub gives-Err : (n : ℕ) (a b : Option (List ℕ)) (header : List ℕ) (e : OpenError) → Fills a b n header → length header ≡ 24 → 24 ≤ n
    → header_by (order_of header) header ≡ Err e → OpenGives a b (Err e)
gives-Err n None b header e fills is full judged = tt
gives-Err n (Some before) None header e fills is full judged = absurd fills.consumed
gives-Err n (Some before) (Some after) header e fills is full judged =
    refused before after header e judged (ap header_of (whole n before after header fills (omega arith)) ∙ header_of-whole header after is ∙ judged)

-- the header is accepted
pub gives-Ok : (n : ℕ) (a b : Option (List ℕ)) (header : List ℕ) (order : Order) → Fills a b n header → length header ≡ 24 → 24 ≤ n
    → header_by (order_of header) header ≡ Ok order
    → OpenGives a b (Ok (record { header = header; order = order; count = 0; offset = 24; is_live = true }))
gives-Ok n None b header order fills is full judged = tt
gives-Ok n (Some before) None header order fills is full judged = absurd fills.consumed
gives-Ok n (Some before) (Some after) header order fills is full judged =
    let parts : before ≡ header ++ after = whole n before after header fills (omega arith) in (
      ap header_of parts ∙ header_of-whole header after is ∙ judged,
      sym (ap (take 24) parts ∙ ap (λ k. take k (header ++ after)) (sym is) ∙ take-append_seam header after),
      sym (ap (drop 24) parts ∙ ap (λ k. drop k (header ++ after)) (sym is) ∙ drop-append_seam header after),
    )
