-- What a file gives: a classic capture in place of a pcapng file, and any other file as it is.
use Rattle.std.specs.Prelude.{ℕ, zero, suc, ◌+◌, ◌-◌, List, [], ◌∷◌, drop, Bool, ◌&&◌, ◌==◌, if◌then◌else◌, Option, None, Some}
use Rattle.pcapng_source.specs.Given.{Given, prepended, nothing, refused_with, whole}
use Rattle.pcap_source.specs.Order.{number_in}
use Rattle.pcapng_source.specs.Fields.{SectionState, has, head_length, is_section, block_kind, section_behind, section_in, total_of}
use Rattle.pcapng_source.specs.Packets.{block_record}
use Rattle.pcapng_source.specs.Refusals.{refusal_of}
use Rattle.pcap_source.specs.declared.order.Order.{Order}
use Rattle.pcap_source.specs.declared.order.Order.TheVariants.{Big}
use Rattle.pcapng_source.specs.declared.fault.NgFault.{NgFault}
use Rattle.pcapng_source.specs.declared.fault.NgFault.TheVariants.{TooManyBlocks, BadBlock}

-- Behind n more bytes of a block stands its total length again, and then come others. Where they aren't all there the block
-- is the last one, and nothing more is given.
abbrev pub closed : Order → ℕ → ℕ → ℕ → List ℕ → Given → Given
closed order total offset n bytes others = if has (n + 4) bytes
    then (if number_in order 4 (drop n bytes) == total then others else refused_with (BadBlock offset)) else nothing

-- a block in this section that isn't refused at its head: the record of its packet, and others behind it
abbrev pub accepted_block : SectionState → ℕ → List ℕ → Given → Given
accepted_block section offset bytes others = if has (head_length (block_kind section.order bytes)) bytes
    then prepended (block_record (block_kind section.order bytes) section bytes)
    (closed section.order (total_of section.order bytes) offset (total_of section.order bytes - 4) bytes others) else nothing

-- the same where it may be refused
abbrev pub given_by : Option NgFault → Given → Given
given_by None given = given
given_by (Some fault) given = refused_with fault

-- what the blocks give that stand at this offset behind blocks of this section, where n of them are allowed
unfoldable pub blocks_from : SectionState → ℕ → ℕ → List ℕ → Given
blocks_from before zero offset bytes = if has 8 bytes then refused_with (TooManyBlocks offset) else nothing
blocks_from before (suc n) offset bytes = given_by (refusal_of before offset bytes)
    (accepted_block (section_in before bytes) offset bytes
    (blocks_from (section_behind (section_in before bytes) bytes) n (offset + total_of (section_in before bytes).order bytes) (drop (total_of (section_in before bytes).order bytes) bytes)))

-- the global header of the classic capture: microseconds, version 2.4, zone and accuracy 0, records of up to 262,144 bytes, Ethernet
unfoldable pub classic_header : List ℕ
classic_header = 0xa1 ∷ 0xb2 ∷ 0xc3 ∷ 0xd4 ∷ 0 ∷ 2 ∷ 0 ∷ 4 ∷ 0 ∷ 0 ∷ 0 ∷ 0 ∷ 0 ∷ 0 ∷ 0 ∷ 0 ∷ 0 ∷ 4 ∷ 0 ∷ 0 ∷ 0 ∷ 0 ∷ 0 ∷ 1 ∷ []

-- these bytes are a pcapng file
abbrev pub is_pcapng : List ℕ → Bool
is_pcapng bytes = has 4 bytes && is_section bytes

-- What a file of these bytes gives, where up to n blocks follow this section: the classic capture of a pcapng file, and
-- any other file as it is.
abbrev pub file_from : SectionState → ℕ → ℕ → List ℕ → Given
file_from section n offset bytes = if is_pcapng bytes then prepended classic_header (blocks_from section n offset bytes) else whole bytes

-- What a file gives, of up to 4,194,304 blocks. No section begins before the first block.
unfoldable pub any : List ℕ → Given
any bytes = file_from (record { order = Big; interfaces = [] }) 4194304 0 bytes
