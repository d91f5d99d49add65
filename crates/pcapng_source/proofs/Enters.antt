-- From the head of a block into its body.
use Rattle.std.proofs.Common.{◌≡◌, ℕ, zero, suc, ◌+◌, ◌-◌, ◌<◌, ◌≤◌, List, [], ◌++◌, length, drop, Bool, true, false, cond, None, Some, refl, sym, ap, subst, ◌∙◌, arith, length-append}
use Rattle.std.proofs.lemmas.List.{drop-drop, append-nil}
use Rattle.std.proofs.Math.Seq.{drop-append-add}
use Rattle.pcapng_source.specs.Given.{prepended, nothing, refused_with}
use Rattle.pcap_source.specs.Order.{number_in}
use Rattle.pcapng_source.specs.Fields.{SectionState, head_length, is_section, kind_by, block_kind, section_by, section_in, total_of}
use Rattle.pcapng_source.specs.Packets.{block_record}
use Rattle.pcapng_source.specs.Refusals.{refusal_of}
use Rattle.pcapng_source.specs.Blocks.{blocks_from, closed}
use Rattle.pcap_source.specs.declared.order.Order.{Order}
use Rattle.pcapng_source.specs.declared.kind.Kind.{Kind}
use Rattle.pcapng_source.specs.declared.kind.Kind.TheVariants.{SectionHeader}
use Rattle.pcapng_source.specs.declared.fault.NgFault.{NgFault}
use Rattle.pcapng_source.proofs.Firm.{refusal_firm, is_section-front, kind_of-front, order_told-front, total_of-front}
use Rattle.pcapng_source.proofs.Accepted.{kind_in}
use Rattle.pcapng_source.proofs.Blocks.{head_length-least, has-short, blocks-refused, blocks-wait, blocks-open, closed-drop}

-- fewer bytes than are judged
pub blocks-short : (before : SectionState) (n offset : ℕ) (bytes : List ℕ) → length bytes < 8 → blocks_from before n offset bytes ≡ nothing
unfolding blocks_from
blocks-short before zero offset bytes short = rw (has-short 8 bytes short) refl
blocks-short before (suc n) offset bytes short =
    let none : refusal_of before offset bytes ≡ None = rw (has-short 8 bytes short) refl in
    let least = head_length-least (block_kind (section_in before bytes).order bytes) in
    blocks-wait before n offset bytes none (omega arith)

-- a head that is refused as far as it is there
pub head-refused : (before : SectionState) (n offset : ℕ) (head left : List ℕ) (fault : NgFault) → 8 ≤ length head → 0 < n
    → refusal_of before offset head ≡ Some fault → blocks_from before n offset (head ++ left) ≡ refused_with fault
head-refused before n offset head left fault long some is =
    let more : suc (n - 1) ≡ n = omega arith in
    ap (λ k. blocks_from before k offset (head ++ left)) (sym more)
    ∙ blocks-refused before (n - 1) offset (head ++ left) fault ((refusal_firm before offset head left long).refused fault is)

-- a head that waits for more bytes
pub head-waits : (before : SectionState) (n offset : ℕ) (head : List ℕ) → 0 < n → refusal_of before offset head ≡ None
    → length head < head_length (block_kind before.order head) → blocks_from before n offset (head ++ []) ≡ nothing
head-waits before n offset head some is short =
    let more : suc (n - 1) ≡ n = omega arith in
    ap (blocks_from before n offset) (append-nil head) ∙ ap (λ k. blocks_from before k offset head) (sym more)
    ∙ blocks-wait before (n - 1) offset head is
    (subst (λ k. length head < head_length k) (sym (kind_in before head (is_section head) refl)) short)

-- the section by a whole head
section_in-by : (before : SectionState) (head left : List ℕ) (section : Bool) → is_section head ≡ section → 8 ≤ length head → (section ≡ true → 12 ≤ length head)
    → section_in before (head ++ left) ≡ section_in before head
section_in-by before head left true is long told =
    rw (is_section-front head left (omega arith), is, order_told-front head left (told refl)) refl
section_in-by before head left false is long told = rw (is_section-front head left (omega arith), is) refl

whole_is_told : (order : Order) (head : List ℕ) (section : Bool) → is_section head ≡ section → length head ≡ head_length (block_kind order head) → section ≡ true → 12 ≤ length head
whole_is_told order head true is whole told = let size : length head ≡ 14 = whole ∙ ap (λ b. head_length (cond b SectionHeader (kind_by (number_in order 4 head)))) is in omega arith
whole_is_told order head false is whole told = cc

pub section_in-front : (before : SectionState) (head left : List ℕ) (kind : Kind) → block_kind before.order head ≡ kind → length head ≡ head_length kind
    → section_in before (head ++ left) ≡ section_in before head
section_in-front before head left kind is whole =
    let least = head_length-least kind in
    section_in-by before head left (is_section head) refl (omega arith)
    (whole_is_told before.order head (is_section head) refl (whole ∙ ap head_length (sym is)))

-- a whole head that isn't refused: its record, and the body behind it, of which k bytes are no options
pub head-opens : (before : SectionState) (n offset : ℕ) (head left : List ℕ) (kind : Kind) (k size total : ℕ)
    → refusal_of before offset head ≡ None → block_kind before.order head ≡ kind → length head ≡ head_length kind → 0 < n
    → total_of (section_in before head).order head ≡ total → head_length kind + (k + (size + 4)) ≡ total
    → blocks_from before n offset (head ++ left)
    ≡ prepended (block_record kind (section_in before head) (head ++ left))
    (closed (section_in before head).order total offset size (drop k left)
    (blocks_from (section_by kind (section_in before head) (head ++ left)) (n - 1) (offset + total) (drop (size + 4) (drop k left))))
head-opens before n offset head left kind k size total accepted is whole some total_is parts =
    let least = head_length-least kind in
    let bytes = head ++ left in
    let s = section_in before head in
    let same : section_in before bytes ≡ s = section_in-front before head left kind is whole in
    let firm = refusal_firm before offset head left (omega arith) in
    let there : head_length (block_kind before.order head) ≡ length head = ap head_length is ∙ sym whole in
    let done : refusal_of before offset bytes ≡ None = firm.decided (omega arith) ∙ accepted in
    let named : block_kind (section_in before bytes).order bytes ≡ kind = kind_in before bytes (is_section bytes) refl ∙ kind_of-front before.order head left (omega arith) ∙ is in
    let fits : head_length kind ≤ length bytes = omega (arith, length-append head left) in
    let sized : total_of s.order bytes ≡ total = total_of-front s.order head left (omega arith) ∙ total_is in
    let more : suc (n - 1) ≡ n = omega arith in
    let front : drop (head_length kind + k) bytes ≡ drop k left =
    ap (λ m. drop (m + k) bytes) (sym whole) ∙ drop-append-add head left k in
    let rest : drop total bytes ≡ drop (size + 4) (drop k left) =
    ap (λ m. drop m bytes) (let it : total ≡ head_length kind + k + (size + 4) = omega arith in it)
    ∙ sym (drop-drop (size + 4) (head_length kind + k) bytes) ∙ ap (drop (size + 4)) front in
    let others = blocks_from (section_by kind s bytes) (n - 1) (offset + total) (drop (size + 4) (drop k left)) in
    let opened : blocks_from before (suc (n - 1)) offset bytes
    ≡ prepended (block_record kind s bytes) (closed s.order total offset (total - 4) bytes (blocks_from (section_by kind s bytes) (n - 1) (offset + total) (drop total bytes))) =
    blocks-open before (n - 1) offset bytes kind done named fits
    ∙ ap (λ t. prepended (block_record kind t bytes) (closed t.order (total_of t.order bytes) offset (total_of t.order bytes - 4) bytes
    (blocks_from (section_by kind t bytes) (n - 1) (offset + total_of t.order bytes) (drop (total_of t.order bytes) bytes)))) same
    ∙ ap (λ t. prepended (block_record kind s bytes) (closed s.order t offset (t - 4) bytes (blocks_from (section_by kind s bytes) (n - 1) (offset + t) (drop t bytes)))) sized in
    ap (λ m. blocks_from before m offset bytes) (sym more) ∙ opened
    ∙ ap (λ l. prepended (block_record kind s bytes) (closed s.order total offset (total - 4) bytes (blocks_from (section_by kind s bytes) (n - 1) (offset + total) l))) rest
    ∙ ap (λ m. prepended (block_record kind s bytes) (closed s.order total offset m bytes others)) (let it : total - 4 ≡ head_length kind + k + size = omega arith in it)
    ∙ ap (prepended (block_record kind s bytes)) (closed-drop s.order total offset (head_length kind + k) size bytes others
    ∙ ap (λ l. closed s.order total offset size l others) front)
