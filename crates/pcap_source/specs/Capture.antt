-- What the bytes of a capture say. The classic pcap form, in a profile of our own: version 2, Ethernet, either order of
-- bytes, either unit of time.
use Rattle.std.specs.Prelude.{ℕ, zero, suc, ◌+◌, ◌%◌, List, [], ◌∷◌, length, take, drop, Bool, ◌&&◌, ◌||◌, ◌==◌, not, nat_lt, nat_le, if◌then◌else◌, Option, Some, None, Result, Ok, Err}
use Rattle.pcap_source.specs.Captured.{Captured}
use Rattle.pcap_source.specs.Order.{number_in}
use Rattle.pcap_source.specs.declared.order.Order.{Order}
use Rattle.pcap_source.specs.declared.order.Order.TheVariants.{Big, Little}
use Rattle.pcap_source.specs.declared.errors.OpenError.{OpenError}
use Rattle.pcap_source.specs.declared.errors.OpenError.TheVariants.{BadMagic, BadVersion, BadLink, ShortHeader}

-- ---- the global header: magic u32, major u16, minor u16, zone i32, sigfigs u32, snaplen u32, network u32

-- the magic number of captures in microseconds, and that of captures in nanoseconds
abbrev pub is_magic : ℕ → Bool
is_magic n = (n == 0xa1b2c3d4) || (n == 0xa1b23c4d)

-- the order of bytes in which a header begins with a magic number
abbrev pub order_of : List ℕ → Option Order
order_of header = if is_magic (number_in Big 4 header) then Some Big
    else if is_magic (number_in Little 4 header) then Some Little else None

-- a header in the order that was found: major version 2, then Ethernet in the low 16 bits of the link type
abbrev pub header_by : Option Order → List ℕ → Result Order OpenError
header_by None header = Err BadMagic
header_by (Some order) header = if not (number_in order 2 (drop 4 header) == 2) then Err BadVersion
    else if not (number_in order 4 (drop 20 header) % 65536 == 1) then Err BadLink else Ok order

-- what the global header at the front of these bytes says: the order of bytes, or why it is refused
abbrev pub header_of : List ℕ → Result Order OpenError
header_of bytes = if nat_lt (length bytes) 24 then Err (ShortHeader (length bytes))
    else header_by (order_of (take 24 bytes)) (take 24 bytes)

-- ---- the records: a head of seconds u32, fraction u32, captured length u32, original length u32, then the captured bytes

-- how many bytes were captured, by the head of the record at the front
abbrev pub captured_length : Order → List ℕ → ℕ
captured_length order bytes = number_in order 4 (drop 8 (take 16 bytes))

-- how many bytes the record at the front has
abbrev pub record_length : Order → List ℕ → ℕ
record_length order bytes = 16 + captured_length order bytes

-- what a head and the captured bytes behind it say
abbrev pub captured_by : Order → List ℕ → List ℕ → Captured
captured_by order head bytes = record {
  seconds = number_in order 4 head;
  fraction = number_in order 4 (drop 4 head);
  original = number_in order 4 (drop 12 head);
  head = head;
  bytes = bytes;
}

-- the record at the front
abbrev pub record_at : Order → List ℕ → Captured
record_at order bytes = captured_by order (take 16 bytes) (take (captured_length order bytes) (drop 16 bytes))

-- a whole record of an allowed length stands at the front
abbrev pub is_whole : Order → List ℕ → Bool
is_whole order bytes = nat_le (captured_length order bytes) 262144 && nat_le (record_length order bytes) (length bytes)

-- how the whole records of a capture end
pub data Ending : Type 0 where
  -- with so many bytes that are no whole record, which is ignored: a capture tool that was stopped leaves one
  tail : ℕ → Ending
  -- with a record at this offset whose captured length is over the limit, whether its bytes follow or not
  too_long : ℕ → Ending
  -- with a further record at this offset, behind as many as are allowed
  too_many : ℕ → Ending

-- how these bytes at this offset end a capture, where no whole record is taken from them and n more are allowed
abbrev pub ending_of : Order → ℕ → ℕ → List ℕ → Ending
ending_of order n offset bytes = if nat_lt (length bytes) 16 then tail (length bytes)
    else if n == 0 then too_many offset
    else if nat_lt 262144 (captured_length order bytes) then too_long offset
    else tail (length bytes)

-- the whole records of a capture, and how they end
pub record Frames : Type 0 where
  pub frames : List Captured
  pub ending : Ending

-- no record
abbrev pub ended : Ending → Frames
ended ending = record { frames = []; ending = ending }

-- a record, and then others
abbrev pub with_frame : Captured → Frames → Frames
with_frame frame others = record { frames = frame ∷ others.frames; ending = others.ending }

-- the longest list of whole records that stand one after another in these bytes at this offset, of which n are allowed
unfoldable pub frames_from : Order → ℕ → ℕ → List ℕ → Frames
frames_from order zero offset bytes = ended (ending_of order zero offset bytes)
frames_from order (suc n) offset bytes = if is_whole order bytes
    then with_frame (record_at order bytes) (frames_from order n (offset + record_length order bytes) (drop (record_length order bytes) bytes))
    else ended (ending_of order (suc n) offset bytes)

-- the records behind an accepted header
abbrev pub frames_by : Result Order OpenError → List ℕ → Result Frames OpenError
frames_by (Err e) bytes = Err e
frames_by (Ok order) bytes = Ok (frames_from order 1048576 24 (drop 24 bytes))

-- what a whole capture says: its records and how they end, or why its header is refused
abbrev pub capture_of : List ℕ → Result Frames OpenError
capture_of bytes = frames_by (header_of bytes) bytes
