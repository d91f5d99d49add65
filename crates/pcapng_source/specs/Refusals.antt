-- Which blocks are refused, and why: each as soon as the bytes are there that the refusal reads.
use Rattle.std.specs.Prelude.{ℕ, ◌+◌, List, length, drop, ◌==◌, not, nat_lt, nat_le, if◌then◌else◌, Option, None, Some}
use Rattle.pcap_source.specs.Order.{number_in}
use Rattle.pcapng_source.specs.Fields.{SectionState, has, head_length, is_section, is_total, block_kind, order_told, total_of}
use Rattle.pcapng_source.specs.Packets.{captured_of, interface_of}
use Rattle.pcap_source.specs.declared.order.Order.{Order}
use Rattle.pcapng_source.specs.declared.kind.Kind.{Kind}
use Rattle.pcapng_source.specs.declared.kind.Kind.TheVariants.{SectionHeader, InterfaceBlock, SimplePacket, EnhancedPacket}
use Rattle.pcapng_source.specs.declared.section.Interface.{Interface}
use Rattle.pcapng_source.specs.declared.fault.NgFault.{NgFault}
use Rattle.pcapng_source.specs.declared.fault.NgFault.TheVariants.{BadBlock, BadVersion, TooManyInterfaces, BadLink, TooLong}

-- a section header of which 12 bytes are there, in the order that its magic number tells: its total length, and then its
-- major version, which stands behind the magic number and is 1
abbrev pub section_fault : Option Order → ℕ → List ℕ → Option NgFault
section_fault None offset bytes = Some (BadBlock offset)
section_fault (Some order) offset bytes = if not (is_total SectionHeader (total_of order bytes)) then Some (BadBlock offset)
    else if has 14 bytes then (if number_in order 2 (drop 12 bytes) == 1 then None else Some (BadVersion offset)) else None

-- a captured length: at most 262,144 bytes, and those stand before the second total length
abbrev pub length_by : ℕ → ℕ → ℕ → ℕ → Option NgFault
length_by head total captured offset = if nat_lt 262144 captured then Some (TooLong offset)
    else if nat_lt total (head + captured + 4) then Some (BadBlock offset) else None

-- a packet of this interface: it is there, its link type is Ethernet, and then the captured length, which stands in so
-- many bytes
abbrev pub packet_by : ℕ → Kind → Order → Option Interface → ℕ → List ℕ → Option NgFault
packet_by needed kind order None offset bytes = Some (BadBlock offset)
packet_by needed kind order (Some interface) offset bytes = if not (interface.link == 1) then Some (BadLink offset)
    else if has needed bytes then length_by (head_length kind) (total_of order bytes) (captured_of kind order interface bytes) offset else None

-- a block of this kind, behind its total length
abbrev pub kind_refusal : Kind → SectionState → ℕ → List ℕ → Option NgFault
kind_refusal InterfaceBlock section offset bytes = if nat_le 64 (length section.interfaces) then Some (TooManyInterfaces offset) else None
kind_refusal SimplePacket section offset bytes =
    packet_by 12 SimplePacket section.order (interface_of SimplePacket section bytes) offset bytes
kind_refusal EnhancedPacket section offset bytes = if has 12 bytes
    then packet_by 24 EnhancedPacket section.order (interface_of EnhancedPacket section bytes) offset bytes else None
kind_refusal _ section offset bytes = None

-- a block of this kind
abbrev pub block_by : Kind → SectionState → ℕ → List ℕ → Option NgFault
block_by kind section offset bytes = if is_total kind (total_of section.order bytes) then kind_refusal kind section offset bytes else Some (BadBlock offset)

-- The refusal of the block at the front, which stands at this offset behind blocks of this section, but for its second
-- total length. Nothing of it is refused before 8 bytes are there.
abbrev pub refusal_of : SectionState → ℕ → List ℕ → Option NgFault
refusal_of before offset bytes = if has 8 bytes
    then (if is_section bytes then (if has 12 bytes then section_fault (order_told bytes) offset bytes else None)
    else block_by (block_kind before.order bytes) before offset bytes) else None
