-- The fields of a block. The pcapng form, in a profile of our own. Blocks follow each other, and each is
--     type u32, total length u32, body, total length u32 again.
-- Its numbers are in the byte order of its section. A section header tells that order itself.
use Rattle.std.specs.Prelude.{ℕ, zero, suc, ◌+◌, ◌-◌, ◌*◌, ◌/◌, ◌%◌, List, [], ◌∷◌, ◌++◌, length, take, drop, Bool, ◌&&◌, ◌||◌, ◌==◌, not, nat_le, nat_lt, slice_index, if◌then◌else◌, Option, None, Some, unwrap_or}
use Rattle.pcap_source.specs.Order.{number_in}
use Rattle.pcap_source.specs.declared.order.Order.{Order}
use Rattle.pcap_source.specs.declared.order.Order.TheVariants.{Big, Little}
use Rattle.pcapng_source.specs.declared.kind.Kind.{Kind}
use Rattle.pcapng_source.specs.declared.kind.Kind.TheVariants.{SectionHeader, InterfaceBlock, SimplePacket, EnhancedPacket, OtherBlock}
use Rattle.pcapng_source.specs.declared.section.Interface.{Interface}
use Rattle.pcapng_source.specs.declared.section.Resolution.{Resolution}
use Rattle.pcapng_source.specs.declared.section.Resolution.TheVariants.{PowerOfTen, PowerOfTwo}

-- so many bytes are there
abbrev pub has : ℕ → List ℕ → Bool
has n bytes = nat_le n (length bytes)

-- ---- sections

-- a section: the order of its bytes, and the interfaces that were described so far
pub record SectionState : Type 0 where
  pub order : Order
  pub interfaces : List Interface

-- these bytes begin with the type of a section header, which reads alike in either order
abbrev pub is_section : List ℕ → Bool
is_section bytes = number_in Big 4 bytes == 0x0a0d0d0a

-- the order in which the magic number of a section header, its bytes 8 to 11, is 1a2b3c4d
abbrev pub order_told : List ℕ → Option Order
order_told bytes = if number_in Big 4 (drop 8 bytes) == 0x1a2b3c4d then Some Big
    else if number_in Little 4 (drop 8 bytes) == 0x1a2b3c4d then Some Little else None

-- the section that the block at the front is in, behind blocks of another one: a section header begins its own
abbrev pub section_in : SectionState → List ℕ → SectionState
section_in before bytes = if is_section bytes then record { order = unwrap_or (order_told bytes) Big; interfaces = [] } else before

-- ---- blocks

-- a block's kind by the number of its type
abbrev pub kind_by : ℕ → Kind
kind_by number = if number == 1 then InterfaceBlock else if number == 3 then SimplePacket else if number == 6 then EnhancedPacket else OtherBlock

-- the kind of the block at the front
abbrev pub block_kind : Order → List ℕ → Kind
block_kind order bytes = if is_section bytes then SectionHeader else kind_by (number_in order 4 bytes)

-- how many bytes of a block are read before the rest of it is given or skipped
abbrev pub head_length : Kind → ℕ
head_length SectionHeader = 14
head_length InterfaceBlock = 16
head_length SimplePacket = 12
head_length EnhancedPacket = 28
head_length OtherBlock = 8

-- how many bytes a block has at least: those and the total length again
abbrev pub least_total : Kind → ℕ
least_total SectionHeader = 28
least_total kind = head_length kind + 4

-- how many bytes the block at the front has
abbrev pub total_of : Order → List ℕ → ℕ
total_of order bytes = number_in order 4 (drop 4 bytes)

-- a total length that a block of this kind may have
abbrev pub is_total : Kind → ℕ → Bool
is_total kind total = total % 4 == 0 && (nat_le (least_total kind) total && nat_le total 16777216)

-- ---- interfaces: behind the type and the total length link type u16, two bytes, snap length u32, options

-- how many bytes the option at the front has: code u16, length u16, and the value, padded to a multiple of 4
abbrev pub option_size : Order → List ℕ → ℕ
option_size order options = 4 + (number_in order 2 (drop 2 options) + 3) / 4 * 4

-- no option stands at the front: there are too few bytes, or code 0 ends the options
abbrev pub is_past_options : Order → List ℕ → Bool
is_past_options order options = not (has 4 options) || (number_in order 2 options == 0 || not (has (option_size order options) options))

-- the option at the front has code 9 and length 1: its value is the time resolution
abbrev pub is_resolution : Order → List ℕ → Bool
is_resolution order options = number_in order 2 options == 9 && number_in order 2 (drop 2 options) == 1

-- the time resolution that a byte tells: with its highest bit clear a power of ten, else the other bits are a power of two
abbrev pub resolution_told : ℕ → Resolution
resolution_told byte = if nat_lt byte 128 then PowerOfTen byte else PowerOfTwo (byte - 128)

-- the limit that a snap length tells: 0 is none
abbrev pub snap_told : ℕ → Option ℕ
snap_told length = if length == 0 then None else Some length

-- the byte of the time resolution by the first n options: 6, for microseconds, where none tells it
unfoldable pub resolution_in : Order → ℕ → List ℕ → ℕ
resolution_in order zero options = 6
resolution_in order (suc n) options = if is_past_options order options then 6
    else if is_resolution order options then slice_index options 4
    else resolution_in order n (drop (option_size order options) options)

-- the interface that the block at the front describes, where its options have so many bytes
abbrev pub interface_by : Order → ℕ → List ℕ → Interface
interface_by order size bytes = record {
  link = number_in order 2 (drop 8 bytes);
  snap = snap_told (number_in order 4 (drop 12 bytes));
  resolution = resolution_told (resolution_in order size (take size (drop 16 bytes)));
}

-- one interface more
abbrev pub with_interface : SectionState → Interface → SectionState
with_interface section interface = record { order = section.order; interfaces = section.interfaces ++ interface ∷ [] }

-- the last interface gets the resolution that a byte tells
abbrev pub last_resolved : List Interface → ℕ → List Interface
last_resolved [] byte = []
last_resolved (interface ∷ []) byte = record interface { resolution = resolution_told byte } ∷ []
last_resolved (first ∷ (second ∷ others)) byte = first ∷ last_resolved (second ∷ others) byte

abbrev pub with_resolution : SectionState → ℕ → SectionState
with_resolution section byte = record { order = section.order; interfaces = last_resolved section.interfaces byte }

-- the section behind a block of this kind in it
abbrev pub section_by : Kind → SectionState → List ℕ → SectionState
section_by InterfaceBlock section bytes = with_interface section (interface_by section.order (total_of section.order bytes - 20) bytes)
section_by _ section bytes = section

-- the section behind the block at the front, which is in this section
abbrev pub section_behind : SectionState → List ℕ → SectionState
section_behind section bytes = section_by (block_kind section.order bytes) section bytes
