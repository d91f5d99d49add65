-- Not of the headline. What a capture that is read front to back gives, where its source tells the bytes that are left.
use Rattle.std.specs.Prelude.{◌≡◌, ℕ, ◌+◌, ◌-◌, ◌<◌, ◌≤◌, Bool, true, List, [], length, take, drop, ⊤, IsTrue, Option, Some, None, Result, Ok, Err}
use Rattle.pcap_source.specs.Captured.{Captured}
use Rattle.pcap_source.specs.Capture.{Frames, ended, with_frame, frames_from, header_of, captured_by, tail, too_long, too_many}
use Rattle.pcap_source.specs.Order.{number_in}
use Rattle.pcap_source.specs.declared.order.Order.{Order}
use Rattle.pcap_source.specs.declared.capture.Step.{Step}
use Rattle.pcap_source.specs.declared.capture.Step.TheVariants.{Frame, Tail, End}
use Rattle.pcap_source.specs.declared.errors.NextError.{NextError}
use Rattle.pcap_source.specs.declared.errors.NextError.TheVariants.{TooLong, TooMany, ReadFault, NoMemory}
use Rattle.pcap_source.specs.declared.errors.OpenError.{OpenError}
use Rattle.pcap_source.specs.declared.errors.OpenError.TheVariants.{ReadFault as OpenFault}

-- an opened capture: its header of 24 bytes, its order of bytes, how many records were read, how many bytes were read up
-- to here, and whether the next record may be read
pub record CaptureState : Type 0 where
  pub header : List ℕ
  pub order : Order
  pub count : ℕ
  pub offset : ℕ
  pub is_live : Bool

-- a capture from which the next record may be read; its header plays no part in that
abbrev pub reading : Order → ℕ → ℕ → CaptureState
reading order count offset = record { header = []; order = order; count = count; offset = offset; is_live = true }

-- `next` left a capture behind the record in the frame
pub record Moves (old new : CaptureState) (frame : Captured) : Type 0 where
  pub header : new.header ≡ old.header
  pub order : new.order ≡ old.order
  pub count : new.count ≡ old.count + 1
  pub offset : new.offset ≡ old.offset + 16 + length frame.bytes
  pub within : new.count ≤ 1048576

-- the frame is what its head and its bytes say, and has as many bytes as its head tells
pub record IsRecord (order : Order) (frame : Captured) : Type 0 where
  pub head : length frame.head ≡ 16
  pub whole : frame ≡ captured_by order frame.head frame.bytes
  pub told : length frame.bytes ≡ number_in order 4 (drop 8 frame.head)
  pub bounded : length frame.bytes ≤ 262144

-- what holds where `next` took no record
abbrev pub OnNoFrame : Result Step NextError → Type 0 → Type 0
OnNoFrame (Ok Frame) P = ⊤
OnNoFrame (Ok (Tail n)) P = P
OnNoFrame (Ok End) P = P
OnNoFrame (Err e) P = P

-- what these bytes say from here on
abbrev pub frames_at : CaptureState → List ℕ → Frames
frames_at capture bytes = frames_from capture.order (1048576 - capture.count) capture.offset bytes

-- `open` on these bytes, of which it leaves others
abbrev pub OpensAs : List ℕ → List ℕ → Result CaptureState OpenError → Type 0
OpensAs bytes after (Ok capture) = (header_of bytes ≡ Ok capture.order) × (capture.header ≡ take 24 bytes) × (after ≡ drop 24 bytes)
OpensAs bytes after (Err OpenFault) = after ≡ [] → length bytes < 24
OpensAs bytes after (Err e) = header_of bytes ≡ Err e

-- the same where the source tells its bytes
abbrev pub OpenGives : Option (List ℕ) → Option (List ℕ) → Result CaptureState OpenError → Type 0
OpenGives None new result = ⊤
OpenGives (Some bytes) None result = ⊥
OpenGives (Some bytes) (Some after) result = OpensAs bytes after result

-- no whole record is left, and what is left isn't refused
abbrev pub IsTail : Frames → Type 0
IsTail frames = (n : ℕ) × (frames ≡ ended (tail n))

-- `next` where the bytes said `before`, then say `others`, and these are left
abbrev pub StepsAs : Frames → Frames → List ℕ → Captured → Result Step NextError → Type 0
StepsAs before others left frame (Ok Frame) = before ≡ with_frame frame others
StepsAs before others left frame (Ok (Tail n)) = (before ≡ ended (tail n)) × (0 < n) × (left ≡ [])
StepsAs before others left frame (Ok End) = (before ≡ ended (tail 0)) × (left ≡ [])
StepsAs before others left frame (Err (TooLong offset)) = before ≡ ended (too_long offset)
StepsAs before others left frame (Err (TooMany offset)) = before ≡ ended (too_many offset)
StepsAs before others left frame (Err ReadFault) = left ≡ [] → IsTail before
StepsAs before others left frame (Err NoMemory) = ⊤

-- the same where the source tells its bytes
abbrev pub NextGives : CaptureState → CaptureState → Option (List ℕ) → Option (List ℕ) → Captured → Result Step NextError → Type 0
NextGives old new None after frame result = ⊤
NextGives old new (Some bytes) None frame result = ⊥
NextGives old new (Some bytes) (Some after) frame result = StepsAs (frames_at old bytes) (frames_at new after) after frame result

-- A refusal of `next` tells the place where the record begins. Too many are refused exactly behind 1,048,576 records.
abbrev pub RefusesAt : CaptureState → Result Step NextError → Type 0
RefusesAt old (Ok step) = ⊤
RefusesAt old (Err (TooLong offset)) = (offset ≡ old.offset) × (old.count < 1048576)
RefusesAt old (Err (TooMany offset)) = (offset ≡ old.offset) × (old.count ≡ 1048576)
RefusesAt old (Err ReadFault) = ⊤
RefusesAt old (Err NoMemory) = ⊤

-- an opened capture stands behind its header of 24 bytes, which was accepted in the capture's order of bytes
pub record Opened (capture : CaptureState) : Type 0 where
  pub header : length capture.header ≡ 24
  pub order : header_of capture.header ≡ Ok capture.order
  pub count : capture.count ≡ 0
  pub offset : capture.offset ≡ 24
  pub live : IsTrue capture.is_live

-- a source tells what is left in it
abbrev pub IsTold : Option (List ℕ) → Type 0
IsTold None = ⊥
IsTold (Some bytes) = ⊤
