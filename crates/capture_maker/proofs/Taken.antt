-- The reader of captures takes the generated capture whole.
use Rattle.std.proofs.Common.{◌≡◌, ℕ, zero, suc, ◌+◌, ◌≤◌, nat_lt, List, [], ◌∷◌, ◌++◌, true, false, length, map, take, drop, Ok, refl, sym, ap, ◌∙◌, arith, append_assoc, length-append, drop_at}
use Rattle.std.proofs.lemmas.Bool.Decides.{nat_tests}
use Rattle.std.proofs.Math.Seq.{take-append_seam}
use Rattle.pcap_source.specs.Capture.{captured_length, ended, frames_from, frames_by, header_of, is_whole, record_at, record_length, tail, with_frame}
use Rattle.pcap_source.specs.Captured.{Captured}
use Rattle.pcap_source.specs.Order.{number_in}
use Rattle.pcap_source.specs.declared.order.Order.TheVariants.{Big}
use Rattle.capture_maker.specs.Frames.{four_bytes, frame_of, record_head, packet_record}
use Rattle.capture_maker.specs.Laws.{IsTaken}
use Rattle.capture_maker.specs.Made.{global_header, made, packet_records}
use Rattle.capture_maker.specs.Table.{step_segment}
use Rattle.capture_maker.specs.Turns.{turns_of}
use Rattle.capture_maker.specs.declared.step.Segment.{Segment}
use Rattle.capture_maker.specs.declared.turns.Turn.{Turn}
use Rattle.capture_maker.proofs.Sizes.{few_payload, length-frame_of, length-head_of, length-turns_of}

-- the head tells the frame's length
told : (index : ℕ) (s : Segment) (rest : List ℕ) → s.count ≤ 100 → captured_length Big (record_head index s ++ rest) ≡ 54 + s.count
unfolding record_head four_bytes number_in
told index s rest few = omega arith

-- a turn's record in front of others
record_front : (index : ℕ) (t : Turn) (rest : List ℕ) → packet_record index t ++ rest ≡ record_head index (step_segment t.step t.connection) ++ (frame_of t.connection (step_segment t.step t.connection) ++ rest)
record_front index t rest = append_assoc (record_head index (step_segment t.step t.connection)) (frame_of t.connection (step_segment t.step t.connection)) rest

front_told : (index : ℕ) (t : Turn) (rest : List ℕ) → captured_length Big (packet_record index t ++ rest) ≡ 54 + (step_segment t.step t.connection).count
front_told index t rest =
    let s = step_segment t.step t.connection in
    ap (captured_length Big) (record_front index t rest) ∙ told index s (frame_of t.connection s ++ rest) (few_payload t.step t.connection)

front_whole : (index : ℕ) (t : Turn) (rest : List ℕ) → is_whole Big (packet_record index t ++ rest) ≡ true
front_whole index t rest =
    let s = step_segment t.step t.connection in
    let len = front_told index t rest in
    let few = few_payload t.step t.connection in
    let all : length (packet_record index t ++ rest) ≡ 16 + (54 + s.count) + length rest =
    omega (arith, length-append (packet_record index t) rest, length-append (record_head index s) (frame_of t.connection s), length-head_of index s, length-frame_of t.connection s) in
    grind (arith, nat_tests)

front_gone : (index : ℕ) (t : Turn) (rest : List ℕ) → drop (record_length Big (packet_record index t ++ rest)) (packet_record index t ++ rest) ≡ rest
front_gone index t rest =
    let s = step_segment t.step t.connection in
    let len : length (packet_record index t) ≡ record_length Big (packet_record index t ++ rest) =
    omega (arith, front_told index t rest, length-append (record_head index s) (frame_of t.connection s), length-head_of index s, length-frame_of t.connection s) in
    drop_at (packet_record index t) rest (record_length Big (packet_record index t ++ rest)) len

-- its bytes are the frame
front_frame : (index : ℕ) (t : Turn) (rest : List ℕ) → (record_at Big (packet_record index t ++ rest)).bytes ≡ frame_of t.connection (step_segment t.step t.connection)
front_frame index t rest =
    let s = step_segment t.step t.connection in
    let frame = frame_of t.connection s in
    ap (λ l. take (captured_length Big (packet_record index t ++ rest)) (drop 16 l)) (record_front index t rest)
    ∙ ap (take (captured_length Big (packet_record index t ++ rest))) (drop_at (record_head index s) (frame ++ rest) 16 (length-head_of index s))
    ∙ ap (λ k. take k (frame ++ rest)) (front_told index t rest ∙ sym (length-frame_of t.connection s))
    ∙ take-append_seam frame rest

-- the records of these turns, as the reader cuts them
abbrev cut : ℕ → List Turn → List Captured
cut index [] = []
cut index (t ∷ ts) = record_at Big (packet_record index t ++ packet_records (index + 1) ts) ∷ cut (index + 1) ts

step_of : (k offset : ℕ) (bytes : List ℕ) → is_whole Big bytes ≡ true
    → frames_from Big (suc k) offset bytes ≡ with_frame (record_at Big bytes) (frames_from Big k (offset + record_length Big bytes) (drop (record_length Big bytes) bytes))
unfolding frames_from
step_of k offset bytes whole = rw whole refl

end_of : (k offset : ℕ) → frames_from Big k offset [] ≡ ended (tail 0)
unfolding frames_from number_in
end_of zero offset = refl
end_of (suc k) offset = refl

all_cut : (ts : List Turn) (k index offset : ℕ) → length ts ≤ k → frames_from Big k offset (packet_records index ts) ≡ record { frames = cut index ts; ending = tail 0 }
all_cut [] k index offset few = end_of k offset
all_cut (t ∷ ts) zero index offset few = absurd (omega arith)
all_cut (t ∷ ts) (suc k) index offset few =
    let rest = packet_records (index + 1) ts in
    let bytes = packet_record index t ++ rest in
    step_of k offset bytes (front_whole index t rest)
    ∙ ap (λ l. with_frame (record_at Big bytes) (frames_from Big k (offset + record_length Big bytes) l)) (front_gone index t rest)
    ∙ ap (with_frame (record_at Big bytes)) (all_cut ts k (index + 1) (offset + record_length Big bytes) (omega arith))

length-cut : (index : ℕ) (ts : List Turn) → length (cut index ts) ≡ length ts
length-cut index [] = refl
length-cut index (t ∷ ts) = ap suc (length-cut (index + 1) ts)

cut_frames : (index : ℕ) (ts : List Turn) → map (λ f. f.bytes) (cut index ts) ≡ map (λ t. frame_of t.connection (step_segment t.step t.connection)) ts
cut_frames index [] = refl
cut_frames index (t ∷ ts) =
    let frame = frame_of t.connection (step_segment t.step t.connection) in
    ap (λ b. b ∷ map (λ f. f.bytes) (cut (index + 1) ts)) (front_frame index t (packet_records (index + 1) ts))
    ∙ ap (λ l. frame ∷ l) (cut_frames (index + 1) ts)

header_is : (bytes : List ℕ) → header_of (global_header ++ bytes) ≡ Ok Big
unfolding global_header number_in
header_is bytes =
    let long : nat_lt (length (global_header ++ bytes)) 24 ≡ false = grind (arith, nat_tests) in
    rw long refl

behind_header : (bytes : List ℕ) → drop 24 (global_header ++ bytes) ≡ bytes
unfolding global_header
behind_header bytes = refl

pub taken_whole : (n : ℕ) → n ≤ 100000 → IsTaken n
unfolding made
taken_whole n few =
    let turns = turns_of n in
    let bytes = global_header ++ packet_records 0 turns in
    let count = length-turns_of n in
    record {
      taken = record { frames = cut 0 turns; ending = tail 0 };
      accepted = ap (λ h. frames_by h bytes) (header_is (packet_records 0 turns))
          ∙ ap (λ l. Ok (frames_from Big 1048576 24 l)) (behind_header (packet_records 0 turns))
          ∙ ap Ok (all_cut turns 1048576 0 24 (omega arith));
      packets = length-cut 0 turns ∙ count;
      frames = cut_frames 0 turns;
      no_tail = refl;
    }
