-- What is refused by a front of the bytes is refused by all of them, and a whole head is accepted for good.
use Rattle.std.proofs.Common.{◌≡◌, ℕ, ◌<◌, ◌≤◌, List, ◌++◌, length, drop, Bool, true, false, ◌==◌, not, cond, Option, None, Some, refl, sym, ap, subst, ◌∙◌, arith, ⊎_elim}
use Rattle.std.proofs.lemmas.Bool.{cases_Bool, cond-true, leb-true, leb-false}
use Rattle.std.specs.List.{slice_get}
use Rattle.pcap_source.specs.Order.{number_in}
use Rattle.pcapng_source.specs.Fields.{SectionState, has, head_length, is_section, is_total, kind_by, block_kind, order_told, total_of}
use Rattle.pcapng_source.specs.Packets.{captured_of, interface_of, within_snap}
use Rattle.pcapng_source.specs.Refusals.{block_by, section_fault, kind_refusal, packet_by, refusal_of}
use Rattle.pcap_source.specs.declared.order.Order.{Order}
use Rattle.pcap_source.specs.declared.order.Order.TheVariants.{Big, Little}
use Rattle.pcapng_source.specs.declared.kind.Kind.{Kind}
use Rattle.pcapng_source.specs.declared.kind.Kind.TheVariants.{SectionHeader, InterfaceBlock, SimplePacket, EnhancedPacket, OtherBlock}
use Rattle.pcapng_source.specs.declared.section.Interface.{Interface}
use Rattle.pcapng_source.specs.declared.fault.NgFault.{NgFault}
use Rattle.pcapng_source.specs.declared.fault.NgFault.TheVariants.{BadBlock, BadVersion, BadLink}
use Rattle.pcapng_source.proofs.Numbers.{number_in-front, number_at-front, has-there, has-front}

-- a refusal by a front, and one by all of the bytes; `whole` says that the front has all that is ever judged
pub record Firm (whole : Type 0) (a b : Option NgFault) : Type 0 where
  pub decided : whole → b ≡ a
  pub refused : (fault : NgFault) → a ≡ Some fault → b ≡ Some fault

firm_same : (whole : Type 0) (a b : Option NgFault) → b ≡ a → Firm whole a b
firm_same whole a b same = record { decided = λ _. same; refused = λ fault is. same ∙ is }

-- a test that reads no byte behind the front
firm_then : (whole : Type 0) (test : Bool) (x y z : Option NgFault) → Firm whole x y → Firm whole (cond test x z) (cond test y z)
firm_then whole true x y z firm = firm
firm_then whole false x y z firm = firm_same whole z z refl

firm_else : (whole : Type 0) (test : Bool) (x y z : Option NgFault) → Firm whole x y → Firm whole (cond test z x) (cond test z y)
firm_else whole true x y z firm = firm_same whole z z refl
firm_else whole false x y z firm = firm

-- a test that waits for more bytes
firm_has : (whole : Type 0) (k : ℕ) (front left : List ℕ) (x y : Option NgFault) → (whole → k ≤ length front) → (k ≤ length front → Firm whole x y)
    → Firm whole (cond (has k front) x None) (cond (has k (front ++ left)) y None)
firm_has whole k front left x y needs firm = ⊎_elim
    (λ there.
    let within : k ≤ length front = leb-true k (length front) there in
    rw (there, has-front k front left within) (firm within))
    (λ short. rw short (record {
      decided = λ w. let over : length front < k = leb-false k (length front) short in let within : k ≤ length front = needs w in absurd (omega arith);
      refused = λ fault is. cc;
    }))
    (cases_Bool (has k front))

pub total_of-front : (order : Order) (front left : List ℕ) → 8 ≤ length front → total_of order (front ++ left) ≡ total_of order front
total_of-front order front left long = number_at-front order 4 4 front left (omega arith)

pub is_section-front : (front left : List ℕ) → 4 ≤ length front → is_section (front ++ left) ≡ is_section front
is_section-front front left long = ap (λ n. n == 0x0a0d0d0a) (number_in-front Big 4 front left long)

pub kind_of-front : (order : Order) (front left : List ℕ) → 4 ≤ length front → block_kind order (front ++ left) ≡ block_kind order front
kind_of-front order front left long = rw (is_section-front front left long, number_in-front order 4 front left long) refl

pub order_told-front : (front left : List ℕ) → 12 ≤ length front → order_told (front ++ left) ≡ order_told front
order_told-front front left long = rw (number_at-front Big 4 8 front left (omega arith), number_at-front Little 4 8 front left (omega arith)) refl

pub interface_of-front : (section : SectionState) (front left : List ℕ) → 12 ≤ length front
    → interface_of EnhancedPacket section (front ++ left) ≡ interface_of EnhancedPacket section front
interface_of-front section front left long = ap (slice_get section.interfaces) (number_at-front section.order 4 8 front left (omega arith))

pub enhanced-front : (order : Order) (interface : Interface) (front left : List ℕ) → 24 ≤ length front
    → captured_of EnhancedPacket order interface (front ++ left) ≡ captured_of EnhancedPacket order interface front
enhanced-front order interface front left long = number_at-front order 4 20 front left (omega arith)

pub simple-front : (order : Order) (interface : Interface) (front left : List ℕ) → 12 ≤ length front
    → captured_of SimplePacket order interface (front ++ left) ≡ captured_of SimplePacket order interface front
simple-front order interface front left long = ap (within_snap interface.snap) (number_at-front order 4 8 front left (omega arith))

packet_firm : (whole : Type 0) (needed : ℕ) (kind : Kind) (order : Order) (interface : Option Interface) (offset : ℕ) (front left : List ℕ)
    → (whole → needed ≤ length front) → 8 ≤ needed
    → ((i : Interface) → needed ≤ length front → captured_of kind order i (front ++ left) ≡ captured_of kind order i front)
    → Firm whole (packet_by needed kind order interface offset front) (packet_by needed kind order interface offset (front ++ left))
packet_firm whole needed kind order None offset front left needs long captured = firm_same whole _ _ refl
packet_firm whole needed kind order (Some i) offset front left needs long captured =
    firm_else whole (not (i.link == 1)) _ _ (Some (BadLink offset))
    (firm_has whole needed front left _ _ needs (λ fits. firm_same whole _ _
    (rw (total_of-front order front left (omega arith), captured i fits) refl)))

kind_firm : (kind : Kind) (section : SectionState) (offset : ℕ) (front left : List ℕ) → 8 ≤ length front
    → Firm (head_length kind ≤ length front) (kind_refusal kind section offset front) (kind_refusal kind section offset (front ++ left))
kind_firm SectionHeader section offset front left long = firm_same _ _ _ refl
kind_firm InterfaceBlock section offset front left long = firm_same _ _ _ refl
kind_firm OtherBlock section offset front left long = firm_same _ _ _ refl
kind_firm SimplePacket section offset front left long =
    packet_firm _ 12 SimplePacket section.order (slice_get section.interfaces 0) offset front left (λ whole. whole) (omega arith)
    (λ i fits. simple-front section.order i front left fits)
kind_firm EnhancedPacket section offset front left long =
    firm_has _ 12 front left _ _ (λ whole. omega arith) (λ fits. subst
    (λ i. Firm (28 ≤ length front) (packet_by 24 EnhancedPacket section.order (interface_of EnhancedPacket section front) offset front)
    (packet_by 24 EnhancedPacket section.order i offset (front ++ left)))
    (sym (interface_of-front section front left fits))
    (packet_firm _ 24 EnhancedPacket section.order (interface_of EnhancedPacket section front) offset front left (λ whole. omega arith) (omega arith)
    (λ i there. enhanced-front section.order i front left there)))

block_firm : (kind : Kind) (section : SectionState) (offset : ℕ) (front left : List ℕ) → 8 ≤ length front
    → Firm (head_length kind ≤ length front) (block_by kind section offset front) (block_by kind section offset (front ++ left))
block_firm kind section offset front left long = subst
    (λ total. Firm (head_length kind ≤ length front) (block_by kind section offset front) (cond (is_total kind total) (kind_refusal kind section offset (front ++ left)) (Some (BadBlock offset))))
    (sym (total_of-front section.order front left long))
    (firm_then _ (is_total kind (total_of section.order front)) _ _ (Some (BadBlock offset)) (kind_firm kind section offset front left long))

header_firm : (order : Option Order) (offset : ℕ) (front left : List ℕ) → 12 ≤ length front
    → Firm (14 ≤ length front) (section_fault order offset front) (section_fault order offset (front ++ left))
header_firm None offset front left long = firm_same _ _ _ refl
header_firm (Some order) offset front left long = subst
    (λ total. Firm (14 ≤ length front) (section_fault (Some order) offset front) (cond (not (is_total SectionHeader total)) (Some (BadBlock offset))
    (cond (has 14 (front ++ left)) (cond (number_in order 2 (drop 12 (front ++ left)) == 1) None (Some (BadVersion offset))) None)))
    (sym (total_of-front order front left (omega arith)))
    (firm_else _ (not (is_total SectionHeader (total_of order front))) _ _ (Some (BadBlock offset))
    (firm_has _ 14 front left _ _ (λ whole. whole) (λ fits. firm_same _ _ _ (rw (number_at-front order 2 12 front left fits) refl))))

-- by whether a section header stands at the front
firm_by : (before : SectionState) (offset : ℕ) (front left : List ℕ) (section : Bool) → is_section front ≡ section → 8 ≤ length front
    → Firm (head_length (cond section SectionHeader (kind_by (number_in before.order 4 front))) ≤ length front)
    (cond section (cond (has 12 front) (section_fault (order_told front) offset front) None) (block_by (block_kind before.order front) before offset front))
    (cond section (cond (has 12 (front ++ left)) (section_fault (order_told (front ++ left)) offset (front ++ left)) None) (block_by (block_kind before.order (front ++ left)) before offset (front ++ left)))
firm_by before offset front left true is long =
    firm_has _ 12 front left _ _ (λ whole. omega arith) (λ fits. subst
    (λ order. Firm (14 ≤ length front) (section_fault (order_told front) offset front) (section_fault order offset (front ++ left)))
    (sym (order_told-front front left fits))
    (header_firm (order_told front) offset front left fits))
firm_by before offset front left false is long = subst
    (λ kind. Firm (head_length (kind_by (number_in before.order 4 front)) ≤ length front) (block_by (block_kind before.order front) before offset front) (block_by kind before offset (front ++ left)))
    (sym (kind_of-front before.order front left (omega arith)))
    (subst (λ kind. Firm (head_length (kind_by (number_in before.order 4 front)) ≤ length front) (block_by kind before offset front) (block_by kind before offset (front ++ left)))
    (let plain : kind_by (number_in before.order 4 front) ≡ block_kind before.order front = rw is refl in plain)
    (block_firm (kind_by (number_in before.order 4 front)) before offset front left long))

pub refusal_firm : (before : SectionState) (offset : ℕ) (front left : List ℕ) → 8 ≤ length front
    → Firm (head_length (block_kind before.order front) ≤ length front) (refusal_of before offset front) (refusal_of before offset (front ++ left))
refusal_firm before offset front left long =
    let one : refusal_of before offset front ≡ cond (is_section front) (cond (has 12 front) (section_fault (order_told front) offset front) None)
    (block_by (block_kind before.order front) before offset front) =
    cond-true (has 8 front) _ None (has-there 8 front long) in
    let two : refusal_of before offset (front ++ left) ≡ cond (is_section front)
    (cond (has 12 (front ++ left)) (section_fault (order_told (front ++ left)) offset (front ++ left)) None)
    (block_by (block_kind before.order (front ++ left)) before offset (front ++ left)) =
    cond-true (has 8 (front ++ left)) _ None (has-front 8 front left long)
    ∙ ap (λ b. cond b (cond (has 12 (front ++ left)) (section_fault (order_told (front ++ left)) offset (front ++ left)) None)
    (block_by (block_kind before.order (front ++ left)) before offset (front ++ left))) (is_section-front front left (omega arith)) in
    let it = firm_by before offset front left (is_section front) refl long in
    record { decided = λ w. two ∙ it.decided w ∙ sym one; refused = λ fault is. two ∙ it.refused fault (sym one ∙ is) }
