-- What the blocks give, one after another.
use Rattle.std.proofs.Common.{◌≡◌, ℕ, suc, ◌+◌, ◌-◌, ◌<◌, ◌≤◌, List, ◌++◌, length, drop, true, false, cond, None, Some, refl, ap, ◌∙◌, arith, length-drop, append_assoc}
use Rattle.std.proofs.lemmas.Bool.{cond-false, cond-true, le-leb, lt-leb}
use Rattle.std.proofs.lemmas.Bool.Decides.{nat_tests}
use Rattle.std.proofs.lemmas.List.{drop-drop}
use Rattle.pcapng_source.specs.Given.{Given, prepended, nothing, refused_with}
use Rattle.pcapng_source.specs.Fields.{SectionState, has, head_length, block_kind, section_behind, section_by, section_in, total_of}
use Rattle.pcapng_source.specs.Packets.{block_record}
use Rattle.pcapng_source.specs.Refusals.{refusal_of}
use Rattle.pcapng_source.specs.Blocks.{accepted_block, blocks_from, closed, given_by}
use Rattle.pcap_source.specs.declared.order.Order.{Order}
use Rattle.pcapng_source.specs.declared.kind.Kind.{Kind}
use Rattle.pcapng_source.specs.declared.kind.Kind.TheVariants.{SectionHeader, InterfaceBlock, SimplePacket, EnhancedPacket, OtherBlock}
use Rattle.pcapng_source.specs.declared.fault.NgFault.{NgFault}
use Rattle.pcapng_source.specs.declared.fault.NgFault.TheVariants.{TooManyBlocks}

pub head_length-least : (kind : Kind) → 8 ≤ head_length kind
head_length-least SectionHeader = omega arith
head_length-least InterfaceBlock = omega arith
head_length-least SimplePacket = omega arith
head_length-least EnhancedPacket = omega arith
head_length-least OtherBlock = omega arith

pub has-short : (n : ℕ) (bytes : List ℕ) → length bytes < n → has n bytes ≡ false
has-short n bytes short = lt-leb n (length bytes) short

-- behind as many blocks as are allowed
pub blocks-many : (before : SectionState) (offset : ℕ) (bytes : List ℕ) → has 8 bytes ≡ true → blocks_from before 0 offset bytes ≡ refused_with (TooManyBlocks offset)
unfolding blocks_from
blocks-many before offset bytes long = rw long refl

-- the blocks behind the one at the front
abbrev pub others_of : SectionState → ℕ → ℕ → List ℕ → Given
others_of before n offset bytes = blocks_from (section_behind (section_in before bytes) bytes) n
    (offset + total_of (section_in before bytes).order bytes) (drop (total_of (section_in before bytes).order bytes) bytes)

blocks-step : (before : SectionState) (n offset : ℕ) (bytes : List ℕ) → blocks_from before (suc n) offset bytes
    ≡ given_by (refusal_of before offset bytes) (accepted_block (section_in before bytes) offset bytes (others_of before n offset bytes))
unfolding blocks_from
blocks-step before n offset bytes = refl

-- a block that is refused at its head
pub blocks-refused : (before : SectionState) (n offset : ℕ) (bytes : List ℕ) (fault : NgFault) → refusal_of before offset bytes ≡ Some fault
    → blocks_from before (suc n) offset bytes ≡ refused_with fault
blocks-refused before n offset bytes fault is =
    blocks-step before n offset bytes
    ∙ ap (λ r. given_by r (accepted_block (section_in before bytes) offset bytes (others_of before n offset bytes))) is

-- a block that isn't
blocks-accepted : (before : SectionState) (n offset : ℕ) (bytes : List ℕ) → refusal_of before offset bytes ≡ None
    → blocks_from before (suc n) offset bytes ≡ accepted_block (section_in before bytes) offset bytes (others_of before n offset bytes)
blocks-accepted before n offset bytes is =
    blocks-step before n offset bytes
    ∙ ap (λ r. given_by r (accepted_block (section_in before bytes) offset bytes (others_of before n offset bytes))) is

-- a head that isn't whole
pub blocks-wait : (before : SectionState) (n offset : ℕ) (bytes : List ℕ) → refusal_of before offset bytes ≡ None
    → length bytes < head_length (block_kind (section_in before bytes).order bytes) → blocks_from before (suc n) offset bytes ≡ nothing
blocks-wait before n offset bytes is short =
    blocks-accepted before n offset bytes is
    ∙ cond-false (has (head_length (block_kind (section_in before bytes).order bytes)) bytes) _ nothing
    (has-short (head_length (block_kind (section_in before bytes).order bytes)) bytes short)

-- a whole head that isn't refused
pub blocks-open : (before : SectionState) (n offset : ℕ) (bytes : List ℕ) (kind : Kind) → refusal_of before offset bytes ≡ None
    → block_kind (section_in before bytes).order bytes ≡ kind → head_length kind ≤ length bytes
    → blocks_from before (suc n) offset bytes
    ≡ prepended (block_record kind (section_in before bytes) bytes)
    (closed (section_in before bytes).order (total_of (section_in before bytes).order bytes) offset (total_of (section_in before bytes).order bytes - 4) bytes
    (blocks_from (section_by kind (section_in before bytes) bytes) n (offset + total_of (section_in before bytes).order bytes) (drop (total_of (section_in before bytes).order bytes) bytes)))
blocks-open before n offset bytes kind is same whole =
    let s = section_in before bytes in
    let total = total_of s.order bytes in
    blocks-accepted before n offset bytes is
    ∙ ap (λ k. cond (has (head_length k) bytes) (prepended (block_record k s bytes)
    (closed s.order total offset (total - 4) bytes (blocks_from (section_by k s bytes) n (offset + total) (drop total bytes)))) nothing) same
    ∙ cond-true (has (head_length kind) bytes) _ nothing (le-leb (head_length kind) (length bytes) whole)

-- the second total length, where k bytes before it are passed
pub closed-drop : (order : Order) (total offset k n : ℕ) (bytes : List ℕ) (others : Given)
    → closed order total offset (k + n) bytes others ≡ closed order total offset n (drop k bytes) others
closed-drop order total offset k n bytes others =
    let there : has (k + n + 4) bytes ≡ has (n + 4) (drop k bytes) = rw (length-drop k bytes) (grind (arith, nat_tests)) in
    let last : drop n (drop k bytes) ≡ drop (k + n) bytes = drop-drop n k bytes in
    rw (there, last) refl

-- bytes in front of bytes
pub after-after : (front more : List ℕ) (given : Given) → prepended (front ++ more) given ≡ prepended front (prepended more given)
after-after front more given = ap (λ l. record { bytes = l; refusal = given.refusal }) (append_assoc front more given.bytes)
