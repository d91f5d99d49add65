-- What is known of a head that isn't refused.
use Rattle.std.proofs.Common.{◌≡◌, ℕ, ◌+◌, ◌%◌, ◌≤◌, List, length, Bool, true, false, nat_le, nat_lt, ◌&&◌, ◌==◌, not, cond, Option, None, Some, refl, sym, ap, subst, ◌∙◌, arith}
use Rattle.std.proofs.lemmas.Bool.{cond-false, cond-true, leb-true, ltb-false, eqb-true, and_parts, not-false}
use Rattle.pcap_source.specs.Order.{number_in}
use Rattle.pcapng_source.specs.Fields.{SectionState, has, head_length, is_section, is_total, kind_by, block_kind, least_total, order_told, section_in, total_of}
use Rattle.pcapng_source.specs.Packets.{captured_of}
use Rattle.pcapng_source.specs.Refusals.{block_by, section_fault, kind_refusal, length_by, packet_by, refusal_of}
use Rattle.pcap_source.specs.declared.order.Order.{Order}
use Rattle.pcapng_source.specs.declared.kind.Kind.{Kind}
use Rattle.pcapng_source.specs.declared.kind.Kind.TheVariants.{SectionHeader, InterfaceBlock, SimplePacket, EnhancedPacket, OtherBlock}
use Rattle.pcapng_source.specs.declared.section.Interface.{Interface}
use Rattle.pcapng_source.specs.declared.fault.NgFault.{NgFault}
use Rattle.pcapng_source.specs.declared.fault.NgFault.TheVariants.{BadBlock}
use Rattle.pcapng_source.proofs.Numbers.{has-there}

-- a total length that a block may have
pub record Total (kind : Kind) (total : ℕ) : Type 0 where
  pub words : total % 4 ≡ 0
  pub least : least_total kind ≤ total
  pub most : total ≤ 16777216

pub total_is : (kind : Kind) (total : ℕ) → is_total kind total ≡ true → Total kind total
total_is kind total is =
    let parts = and_parts (total % 4 == 0) (nat_le (least_total kind) total && nat_le total 16777216) is in
    let bounds = and_parts (nat_le (least_total kind) total) (nat_le total 16777216) parts.1 in
    record { words = eqb-true (total % 4) 0 parts.0; least = leb-true _ _ bounds.0; most = leb-true _ _ bounds.1 }

none_then : (test : Bool) (x : Option NgFault) (fault : NgFault) → cond test x (Some fault) ≡ None → (test ≡ true) × (x ≡ None)
none_then true x fault is = (refl, is)
none_then false x fault is = cc

none_else : (test : Bool) (x : Option NgFault) (fault : NgFault) → cond test (Some fault) x ≡ None → (test ≡ false) × (x ≡ None)
none_else true x fault is = cc
none_else false x fault is = (refl, is)

-- the kind of a block doesn't depend on the section that it begins
pub kind_in : (before : SectionState) (bytes : List ℕ) (section : Bool) → is_section bytes ≡ section
    → block_kind (section_in before bytes).order bytes ≡ block_kind before.order bytes
kind_in before bytes true is = rw is refl
kind_in before bytes false is = rw is refl

-- the refusal of a block of this kind that is no section header
pub refusal-plain : (before : SectionState) (offset : ℕ) (head : List ℕ) (kind : Kind) → is_section head ≡ false → 8 ≤ length head
    → block_kind before.order head ≡ kind → refusal_of before offset head ≡ block_by kind before offset head
refusal-plain before offset head kind other long is =
    cond-true (has 8 head) _ None (has-there 8 head long) ∙ cond-false (is_section head) _ _ other ∙ ap (λ k. block_by k before offset head) is

-- a block that is no section header
pub block_accepted : (before : SectionState) (offset : ℕ) (head : List ℕ) (kind : Kind) → is_section head ≡ false → 8 ≤ length head
    → block_kind before.order head ≡ kind → refusal_of before offset head ≡ None
    → (is_total kind (total_of before.order head) ≡ true) × (kind_refusal kind before offset head ≡ None)
block_accepted before offset head kind other long is accepted =
    none_then _ _ (BadBlock offset) (sym (refusal-plain before offset head kind other long is) ∙ accepted)

-- a section header: its magic number tells an order
header_accepted : (order : Option Order) (offset : ℕ) (head : List ℕ) → section_fault order offset head ≡ None
    → (it : Order) × (order ≡ Some it) × (is_total SectionHeader (total_of it head) ≡ true)
header_accepted None offset head accepted = cc
header_accepted (Some it) offset head accepted =
    let total = none_else (not (is_total SectionHeader (total_of it head))) _ (BadBlock offset) accepted in
    (it, refl, not-false _ total.0)

-- the kinds of blocks that begin no section
abbrev pub IsPlain : Kind → Type 0
IsPlain SectionHeader = ⊥
IsPlain InterfaceBlock = Unit {0}
IsPlain SimplePacket = Unit {0}
IsPlain EnhancedPacket = Unit {0}
IsPlain OtherBlock = Unit {0}

plain-by : (order : Order) (head : List ℕ) (kind : Kind) (section : Bool) → is_section head ≡ section → block_kind order head ≡ kind → IsPlain kind → section ≡ false
plain-by order head kind true is named plain = absurd (subst IsPlain (sym named ∙ (let it : block_kind order head ≡ SectionHeader = rw is refl in it)) plain)
plain-by order head kind false is named plain = refl

pub plain_section : (order : Order) (head : List ℕ) (kind : Kind) → block_kind order head ≡ kind → IsPlain kind → is_section head ≡ false
plain_section order head kind named plain = plain-by order head kind (is_section head) refl named plain

by_kind : (order : Order) (number : ℕ) (a b c : Bool) → IsPlain (cond a InterfaceBlock (cond b SimplePacket (cond c EnhancedPacket OtherBlock)))
by_kind order number true b c = tt
by_kind order number false true c = tt
by_kind order number false false true = tt
by_kind order number false false false = tt

section-by : (order : Order) (head : List ℕ) (section : Bool) → is_section head ≡ section → block_kind order head ≡ SectionHeader → section ≡ true
section-by order head true is named = refl
section-by order head false is named =
    let other : kind_by (number_in order 4 head) ≡ SectionHeader = (let it : kind_by (number_in order 4 head) ≡ block_kind order head = rw is refl in it) ∙ named in
    absurd (subst IsPlain other (by_kind order 0 (number_in order 4 head == 1) (number_in order 4 head == 3) (number_in order 4 head == 6)))

pub is_section_header : (order : Order) (head : List ℕ) → block_kind order head ≡ SectionHeader → is_section head ≡ true
is_section_header order head named = section-by order head (is_section head) refl named

-- a section header that isn't refused
pub section-accepted : (before : SectionState) (offset : ℕ) (head : List ℕ) → is_section head ≡ true → 12 ≤ length head → refusal_of before offset head ≡ None
    → (it : Order) × (order_told head ≡ Some it) × (is_total SectionHeader (total_of it head) ≡ true)
section-accepted before offset head is long accepted =
    let body : refusal_of before offset head ≡ section_fault (order_told head) offset head =
    cond-true (has 8 head) _ None (has-there 8 head (omega arith)) ∙ cond-true (is_section head) _ _ is ∙ cond-true (has 12 head) _ None (has-there 12 head long) in
    header_accepted (order_told head) offset head (sym body ∙ accepted)

-- a captured length that isn't refused
length-accepted : (head total captured offset : ℕ) → length_by head total captured offset ≡ None → head + captured + 4 ≤ total
length-accepted head total captured offset accepted =
    let outer = none_else (nat_lt 262144 captured) _ _ accepted in
    let inner = none_else (nat_lt total (head + captured + 4)) _ _ outer.1 in
    ltb-false total (head + captured + 4) inner.0

-- a packet that isn't refused
pub packet-accepted : (needed : ℕ) (kind : Kind) (order : Order) (interface : Option Interface) (offset : ℕ) (bytes : List ℕ) → needed ≤ length bytes
    → packet_by needed kind order interface offset bytes ≡ None
    → (it : Interface) × (interface ≡ Some it) × (head_length kind + captured_of kind order it bytes + 4 ≤ total_of order bytes)
packet-accepted needed kind order None offset bytes there accepted = cc
packet-accepted needed kind order (Some it) offset bytes there accepted =
    let link = none_else (not (it.link == 1)) _ _ accepted in
    (it, refl, length-accepted (head_length kind) (total_of order bytes) (captured_of kind order it bytes) offset (sym (cond-true (has needed bytes) _ None (has-there needed bytes there)) ∙ link.1))
