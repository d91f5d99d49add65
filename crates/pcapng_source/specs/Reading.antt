-- Not of the headline. What a reader stands for, between the bytes that it has read and those that come next.
use Rattle.std.specs.Prelude.{◌≡◌, ℕ, zero, suc, ◌+◌, ◌-◌, ◌*◌, ◌<◌, ◌≤◌, ⊤, List, [], ◌++◌, length, take, drop, Bool, false, ◌==◌, min, slice_index, if◌then◌else◌, Option, None, Some}
use Rattle.pcapng_source.specs.Given.{Given, prepended, nothing, refused_with, whole}
use Rattle.pcapng_source.specs.Fields.{SectionState, has, head_length, block_kind, resolution_in, with_resolution}
use Rattle.pcapng_source.specs.Refusals.{refusal_of}
use Rattle.pcapng_source.specs.Blocks.{file_from, blocks_from, closed}
use Rattle.pcap_source.specs.declared.order.Order.{Order}
use Rattle.pcapng_source.specs.declared.kind.Kind.{Kind}
use Rattle.pcapng_source.specs.declared.fault.NgFault.{NgFault}
use Rattle.pcapng_source.specs.declared.reader.Reader.{Reader}
use Rattle.pcapng_source.specs.declared.reader.Next.{Next}
use Rattle.pcapng_source.specs.declared.reader.Next.TheVariants.{Give, Skip, Hold, Refuse}
use Rattle.pcapng_source.specs.declared.reader.Stage.{Stage}
use Rattle.pcapng_source.specs.declared.reader.Stage.TheVariants.{Start, Plain, Head, Body, OptionHead, Resolution, Trailer, Refused}

-- behind n more bytes of the block at hand: its second total length, and then the blocks behind it, of which this is the section
abbrev pub behind : SectionState → Reader → ℕ → List ℕ → Given
behind section r n bytes = closed r.section.order r.block.total r.block.offset n bytes
    (blocks_from section r.place.allowed r.place.offset (drop (n + 4) bytes))

-- the same where these n bytes are options
abbrev pub behind_options : Reader → ℕ → List ℕ → Given
behind_options r n bytes = behind (with_resolution r.section (resolution_in r.section.order n (take n bytes))) r n bytes

-- the same where so many words of options are left
abbrev pub behind_words : Reader → ℕ → List ℕ → Given
behind_words r zero bytes = behind r.section r 0 bytes
behind_words r (suc n) bytes = behind_options r (4 * suc n) bytes

-- what is given in a stage, where these bytes come next
abbrev pub rest_at : Stage → Reader → List ℕ → Given
rest_at Start r left = file_from r.section r.place.allowed r.place.offset (r.word ++ left)
rest_at Plain r left = whole left
rest_at Head r left = blocks_from r.section r.place.allowed r.place.offset (r.head ++ left)
rest_at Body r left = prepended (take r.owed left) (behind_words r r.options (drop (r.owed + r.skip) left))
rest_at OptionHead r left = behind_options r (4 * r.options + 4) (r.word ++ left)
rest_at Resolution r left = behind (with_resolution r.section (slice_index (r.word ++ left) 0)) r (4 * r.options + 4) (r.word ++ left)
rest_at Trailer r left = behind r.section r 0 (r.word ++ left)
rest_at (Refused fault met) r left = refused_with fault

-- what a reader gives, where these bytes come next
abbrev pub rest_of : Reader → List ℕ → Given
rest_of r left = prepended r.made (rest_at r.stage r left)

-- how many bytes of a head are held before the next step
abbrev pub stop_of : Order → List ℕ → ℕ
stop_of order head = if has 8 head then head_length (block_kind order head) else 8

-- no more of a head is held than that
abbrev pub IsFitting : Reader → Type 0
IsFitting r = length r.head ≤ stop_of r.section.order r.head

-- how many of the next bytes are to be held
abbrev pub wanted_at : Stage → Reader → ℕ
wanted_at Start r = 4 - length r.word
wanted_at Plain r = 0
wanted_at Head r = stop_of r.section.order r.head - length r.head
wanted_at Body r = 0
wanted_at OptionHead r = 4 - length r.word
wanted_at Resolution r = 4 - length r.word
wanted_at Trailer r = 4 - length r.word
wanted_at (Refused fault met) r = 0

-- how many of the next bytes may be given as they are, of so many
abbrev pub direct_at : Stage → Reader → ℕ → ℕ
direct_at Start r count = 0
direct_at Plain r count = count
direct_at Head r count = 0
direct_at Body r count = min count r.owed
direct_at OptionHead r count = 0
direct_at Resolution r count = 0
direct_at Trailer r count = 0
direct_at (Refused fault met) r count = 0

-- the bytes that come next are given as they are, to the end of the file
abbrev pub is_plain_at : Stage → Reader → Bool
is_plain_at Start r = false
is_plain_at Plain r = length r.made == 0
is_plain_at Head r = false
is_plain_at Body r = false
is_plain_at OptionHead r = false
is_plain_at Resolution r = false
is_plain_at Trailer r = false
is_plain_at (Refused fault met) r = false

-- how many of the next bytes are skipped
abbrev pub skipped_at : Stage → Reader → ℕ
skipped_at Start r = 0
skipped_at Plain r = 0
skipped_at Head r = 0
skipped_at Body r = if r.owed == 0 then r.skip else 0
skipped_at OptionHead r = 0
skipped_at Resolution r = 0
skipped_at Trailer r = 0
skipped_at (Refused fault met) r = 0

-- behind the data of a packet, but for what pads it
pub record IsBehindData (r : Reader) : Type 0 where
  pub stage : r.stage ≡ Body
  pub owed : r.owed ≡ 0
  pub options : r.options ≡ 0
  pub padding : r.skip ≤ 3

-- behind the data of a packet so many of these bytes come before the body of the next block, whose head is whole among them
pub record IsBorder (r : Reader) (front : List ℕ) (count : ℕ) : Type 0 where
  pub behind : IsBehindData r
  pub there : count ≤ length front
  pub head : count ≡ r.skip + 4 + stop_of r.section.order (drop (r.skip + 4) front)

-- these bytes, which come behind the data of a packet, end in the head of the next block or before it
abbrev pub EndsInHead : Reader → List ℕ → Type 0
EndsInHead r bytes = length bytes ≤ r.skip + 4 + stop_of r.section.order (drop (r.skip + 4) bytes)

-- no byte would be given if none came any more, and no refusal
abbrev pub IsOpen : Reader → Type 0
IsOpen r = rest_at r.stage r [] ≡ nothing

-- what is held was judged
abbrev pub ready_at : Stage → Reader → Type 0
ready_at Start r = length r.word < 4
ready_at Plain r = ⊤
ready_at Head r = (length r.head < stop_of r.section.order r.head) × IsOpen r
ready_at Body r = ⊤
ready_at OptionHead r = length r.word < 4
ready_at Resolution r = length r.word < 4
ready_at Trailer r = length r.word < 4
ready_at (Refused fault met) r = ⊤

-- and in a body there is something to give or to skip: the next step takes further bytes
abbrev pub settled_at : Stage → Reader → Type 0
settled_at Start r = length r.word < 4
settled_at Plain r = ⊤
settled_at Head r = (length r.head < stop_of r.section.order r.head) × IsOpen r
settled_at Body r = 0 < r.owed + r.skip
settled_at OptionHead r = length r.word < 4
settled_at Resolution r = length r.word < 4
settled_at Trailer r = length r.word < 4
settled_at (Refused fault met) r = ⊤

-- a bound on the steps to come in which nothing is given
abbrev pub weight_at : Stage → Reader → ℕ
weight_at Start r = 268435456 * (r.place.allowed + 1) + (4 - length r.word)
weight_at Plain r = 0
weight_at Head r = 268435456 * r.place.allowed + (28 - length r.head)
weight_at Body r = 268435456 * r.place.allowed + 8 * (r.owed + r.skip + 4 * r.options) + 72
weight_at OptionHead r = 268435456 * r.place.allowed + 32 * r.options + 80 + (4 - length r.word)
weight_at Resolution r = 268435456 * r.place.allowed + 32 * r.options + 80 + (4 - length r.word)
weight_at Trailer r = 268435456 * r.place.allowed + 64 + (4 - length r.word)
weight_at (Refused fault met) r = 0

abbrev pub weight_of : Reader → ℕ
weight_of r = weight_at r.stage r

-- the refusal before which a reader stands, where a read has met it
abbrev pub fault_at : Stage → Option NgFault
fault_at Start = None
fault_at Plain = None
fault_at Head = None
fault_at Body = None
fault_at OptionHead = None
fault_at Resolution = None
fault_at Trailer = None
fault_at (Refused fault zero) = None
fault_at (Refused fault (suc n)) = Some fault

-- how many reads met a refusal
abbrev pub met_at : Stage → ℕ
met_at Start = 0
met_at Plain = 0
met_at Head = 0
met_at Body = 0
met_at OptionHead = 0
met_at Resolution = 0
met_at Trailer = 0
met_at (Refused fault met) = met

-- before a refused block
abbrev pub IsRefused : Stage → Type 0
IsRefused Start = ⊥
IsRefused Plain = ⊥
IsRefused Head = ⊥
IsRefused Body = ⊥
IsRefused OptionHead = ⊥
IsRefused Resolution = ⊥
IsRefused Trailer = ⊥
IsRefused (Refused fault met) = ⊤

-- no byte waits in front of a refusal that a read has met
abbrev pub IsSpent : Reader → Type 0
IsSpent r = 0 < met_at r.stage → r.made ≡ []

-- no byte waits to be given
pub record IsBare (r : Reader) : Type 0 where
  pub made : r.made ≡ []
  pub fits : IsFitting r

-- what it holds was judged
pub record IsJudged (r : Reader) : Type 0 where
  pub ready : ready_at r.stage r
  pub fits : IsFitting r

-- behind the data of a packet, of which nothing waits to be given
pub record IsAtBorder (r : Reader) : Type 0 where
  pub behind : IsBehindData r
  pub bare : IsBare r

-- so many of the next bytes, one at least, may be given as they are
pub record MayGive (r : Reader) (count : ℕ) : Type 0 where
  pub bare : IsBare r
  pub is_open : IsOpen r
  pub some : 0 < count
  pub few : count ≤ direct_at r.stage r count

-- so many of them may be skipped
pub record MaySkip (r : Reader) (count : ℕ) : Type 0 where
  pub bare : IsBare r
  pub is_open : IsOpen r
  pub some : 0 < count
  pub few : count ≤ skipped_at r.stage r

-- so many of them are to be held
pub record Wants (r : Reader) (count : ℕ) : Type 0 where
  pub bare : IsBare r
  pub settled : settled_at r.stage r
  pub some : 0 < count
  pub all : count ≡ wanted_at r.stage r

-- between two calls
pub record IsSteady (r : Reader) : Type 0 where
  pub fits : IsFitting r
  pub spent : IsSpent r

-- it may read on into a buffer that has room
pub record CanRead (r : Reader) (buf : List ℕ) : Type 0 where
  pub room : 0 < length buf
  pub steady : IsSteady r

-- it holds a whole word in this stage, which isn't judged yet
pub record HoldsWord (there : Stage) (r : Reader) : Type 0 where
  pub stage : r.stage ≡ there
  pub word : length r.word ≡ 4
  pub made : r.made ≡ []
  pub fits : IsFitting r

-- it holds a head, or a front of one
pub record HoldsHead (r : Reader) : Type 0 where
  pub stage : r.stage ≡ Head
  pub made : r.made ≡ []
  pub fits : IsFitting r

-- it goes on in the same stage
pub record Stays (old new : Reader) : Type 0 where
  pub fits : IsFitting new
  pub stage : new.stage ≡ old.stage

-- it has read over these bytes, which came next
pub record ReadsOver (old new : Reader) (bytes : List ℕ) : Type 0 where
  pub rest : (left : List ℕ) → rest_of new left ≡ rest_of old (bytes ++ left)
  pub lighter : 0 < length bytes → weight_of new < weight_of old
  pub stays : Stays old new

-- no read has met a refusal
pub record IsUnmet (r : Reader) : Type 0 where
  pub fits : IsFitting r
  pub met : met_at r.stage ≡ 0

-- it has gone over these bytes, which came next, and no read has met a refusal
pub record GoesOver (old new : Reader) (bytes : List ℕ) : Type 0 where
  pub rest : (left : List ℕ) → rest_of new left ≡ rest_of old (bytes ++ left)
  pub unmet : IsUnmet new

-- a reader goes on by what it holds alone: it gives the same, and no later
pub record Goes (old new : Reader) : Type 0 where
  pub same : (left : List ℕ) → rest_of new left ≡ rest_of old left
  pub fits : IsFitting new
  pub lighter : weight_of new ≤ weight_of old
  pub met : met_at new.stage ≡ met_at old.stage

-- the same, and what it holds then was judged
pub record Judges (old new : Reader) : Type 0 where
  pub goes : Goes old new
  pub ready : ready_at new.stage new

-- the same, and where no byte waits to be given, the next step takes further bytes
pub record Settles (old new : Reader) : Type 0 where
  pub goes : Goes old new
  pub settled : new.made ≡ [] → settled_at new.stage new
  pub stays : IsRefused old.stage → new ≡ old

-- a block whose head isn't refused, as far as it is held
pub record IsUnrefused (r : Reader) : Type 0 where
  pub stage : r.stage ≡ Head
  pub made : r.made ≡ []
  pub fits : IsFitting r
  pub long : 8 ≤ length r.head
  pub allowed : 0 < r.place.allowed
  pub accepted : refusal_of r.section r.place.offset r.head ≡ None

-- a block of this kind whose head is held whole and isn't refused
pub record IsWhole (kind : Kind) (r : Reader) : Type 0 where
  pub unrefused : IsUnrefused r
  pub named : block_kind r.section.order r.head ≡ kind
  pub whole : length r.head ≡ head_length kind

-- what a reader does with the bytes that come next, where there is so much room for them: some of them in any case
abbrev pub NextIs : Reader → ℕ → Next → Type 0
NextIs r room (Give n) = (0 < n) × (n ≤ room) × (n ≤ direct_at r.stage r n) × IsOpen r
NextIs r room (Skip n) = (0 < n) × (n ≤ skipped_at r.stage r) × IsOpen r
NextIs r room (Hold n) = (0 < n) × (n ≡ wanted_at r.stage r)
NextIs r room Refuse = IsRefused r.stage
