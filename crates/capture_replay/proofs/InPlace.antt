-- What a run comes to by the records that it reads where they stand.
use Rattle.std.proofs.Common.{◌≡◌, ℕ, ◌+◌, ◌-◌, ◌≤◌, Option, Some, None, List, [], ◌∷◌, ◌++◌, length, take, drop, Ok, refl, sym, ap, subst, ◌∙◌, ◌≢◌, inl, inr}
use Rattle.std.specs.Prelude.{◌⊎◌}
use Rattle.std.specs.Io.{StartsWith}
use Rattle.mos_bytes.specs.Reads.{BeginsWith}
use Rattle.pcap_source.specs.Captured.{Captured}
use Rattle.pcap_source.specs.Capture.{record_at, with_frame}
use Rattle.pcap_source.specs.InPlace.{IsPassed, TakesInPlace, left_behind}
use Rattle.pcap_source.specs.declared.capture.WholeRecord.{WholeRecord}
use Rattle.worker_pool.proofs.Walking.{from_place, head_in_place, next_behind, passed_behind}
use Rattle.pcap_source.specs.Reading.{CaptureState, frames_at}
use Rattle.pcap_source.specs.declared.capture.Step.TheVariants.{Frame}
use Rattle.lane_core.specs.Sight.{Moment, arrivals}
use Rattle.run_outcome.specs.Greatest.{greatest, greatest_from, later_of}
use Rattle.pcap_source.specs.declared.errors.NextError.{NextError}
use Rattle.pcap_source.specs.declared.errors.NextError.TheVariants as Next
use Rattle.capture_replay.specs.declared.refusal.ReplayError.{ReplayError}
use Rattle.capture_replay.specs.declared.refusal.ReplayError.TheVariants as Replay
use Rattle.capture_replay.specs.Refusal.{record_refusal}
use Rattle.capture_replay.specs.Runs.{StopsAs}
use Rattle.capture_replay.specs.Outcome.{Outcome}
use Rattle.capture_replay.specs.Reading.{IsSeen, Replaying}
use Rattle.capture_replay.proofs.Replaying.{StepTold}

-- ---- the greatest moment

greatest-push : (so_far : Option Moment) (n : ℕ) (frames : List Captured) (frame : Captured)
    → greatest_from so_far (arrivals n (frames ++ frame ∷ [])) ≡ Some (later_of (greatest_from so_far (arrivals n frames)) (record { seconds = frame.seconds; fraction = frame.fraction }))
unfolding greatest_from
greatest-push so_far n [] frame = refl
greatest-push so_far n (f ∷ frames) frame = greatest-push (Some (later_of so_far (record { seconds = f.seconds; fraction = f.fraction }))) (n + 1) frames frame

pub latest_with : (last : Option Moment) (moment : Moment) (frames : List Captured) (frame : Captured) → moment ≡ record { seconds = frame.seconds; fraction = frame.fraction }
    → last ≡ greatest (arrivals 0 frames) → Some (later_of last moment) ≡ greatest (arrivals 0 (frames ++ frame ∷ []))
latest_with last moment frames frame same is =
    ap (λ l. Some (later_of l moment)) is ∙ ap (λ m. Some (later_of (greatest (arrivals 0 frames)) m)) same ∙ sym (greatest-push None 0 frames frame)

-- ---- a record that was taken where it stands

pub told_in : (left : Option (List ℕ)) (front : List ℕ) (at n : ℕ) (old new : CaptureState) (frame : Captured) (rest : List ℕ) → BeginsWith left front → at ≤ length front
    → ((l : List ℕ) → StartsWith l (drop at front) → frames_at old l ≡ with_frame frame (frames_at new (drop n l)))
    → left_behind at left ≡ Some rest → StepTold old new rest (left_behind (at + n) left) frame (Ok Frame)
told_in left front at n old new frame rest begins within gives told =
    let next = next_behind left front at n old new frame rest begins within gives told in
    record { rest = drop n rest; told = next.0; steps = next.1 }

-- its time, its head and its captured bytes are what it says
seen_here : (old new : CaptureState) (front : List ℕ) (whole : WholeRecord) → TakesInPlace old new front whole
    → IsSeen (record_at old.order front) (record { seconds = whole.seconds; fraction = whole.fraction }) (take 16 (take whole.len front)) (drop 16 (take whole.len front))
seen_here old new front whole taken =
    let frame = record_at old.order front in record {
      moment_is = ap (λ s. record { seconds = s; fraction = whole.fraction }) taken.seconds ∙ ap (λ f. record { seconds = frame.seconds; fraction = f }) taken.fraction;
      head_is = head_in_place old new front whole taken;
      bytes_is = sym taken.captured;
    }

-- and so are its slices
pub seen_behind : (old new : CaptureState) (front : List ℕ) (at : ℕ) (whole : WholeRecord)
    → TakesInPlace old new (take (length front - at) (drop at front)) whole
    → let there = take whole.len (take (length front - at) (drop at front)) in
    IsSeen (record_at old.order (drop at front)) (record { seconds = whole.seconds; fraction = whole.fraction }) (take 16 there) (take (length there - 16) (drop 16 there))
seen_behind old new front at whole taken =
    let there = take whole.len (take (length front - at) (drop at front)) in
    subst (λ bytes. IsSeen (record_at old.order (drop at front)) (record { seconds = whole.seconds; fraction = whole.fraction }) (take 16 there) bytes) (sym (from_place 16 there))
    (subst (λ f. IsSeen (record_at old.order f) (record { seconds = whole.seconds; fraction = whole.fraction }) (take 16 there) (drop 16 there)) (from_place at front)
    (seen_here old new (take (length front - at) (drop at front)) whole taken))

-- ---- what was walked over is passed over

pub passed_replays : (old new : Option (List ℕ)) (front bytes : List ℕ) (count : ℕ) (capture : CaptureState) (frames : List Captured) → BeginsWith old front → count ≤ length front
    → IsPassed old new count → Replaying bytes (left_behind count old) capture frames → Replaying bytes new capture frames
passed_replays old new front bytes count capture frames begins within passed r = record {
  rest = r.rest;
  told = passed_behind old new front r.rest count begins within passed r.told;
  holds = r.holds;
  header = r.header;
}

-- a run stops where these can't be read
pub stopped_passing : (o : Outcome ReplayError) (e : NextError) → (e ≡ Next.ReadFault) ⊎ (e ≡ Next.NoMemory) → StopsAs o (record_refusal e)
stopped_passing o e (inl fault) = subst (λ x. StopsAs o (record_refusal x)) (sym fault) (inr (inl refl))
stopped_passing o e (inr memory) = subst (λ x. StopsAs o (record_refusal x)) (sym memory) (inr (inr (inl refl)))

pub light_passing : (e : NextError) → record_refusal e ≢ Replay.Heavy
light_passing (Next.TooLong offset) is = cc
light_passing (Next.TooMany offset) is = cc
light_passing Next.ReadFault is = cc
light_passing Next.NoMemory is = cc
