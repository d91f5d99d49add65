-- What a lane has come to, with one frame more.
use Rattle.std.proofs.Common.{◌≡◌, ◌≢◌, ℕ, ◌+◌, ◌<◌, Bool, true, false, Option, Some, None, List, [], ◌∷◌, ◌++◌, length, take, refl, sym, ap, subst, ◌∙◌, arith, add-zero}
use Rattle.std.proofs.lemmas.Bool.{and_parts}
use Rattle.std.proofs.lemmas.List.{map-append}
use Rattle.std.proofs.lemmas.Grind.{common_steps}
use Rattle.std.specs.Prelude.{not, ◌&&◌, nat_lt, if◌then◌else◌, Result, Err, is_ok, IsOk}
use Rattle.app_api.specs.App.{Meaning}
use Rattle.app_api.specs.declared.reaction.Verdict.{Verdict}
use Rattle.pcap_source.specs.Captured.{Captured}
use Rattle.control_script.specs.declared.stamped.Stamped.{Stamped}
use Rattle.control_script.specs.Order.{commands_of}
use Rattle.control_script.specs.Versions.{ceil}
use Rattle.lane_core.specs.declared.errors.LaneError.{LaneError}
use Rattle.lane_core.specs.Sight.{Moment, arrival_at, arrival_of, arrivals}
use Rattle.lane_core.specs.Records.{added, records, records_from, verdict_on, versioned}
use Rattle.lane_core.specs.Run.{LaneEvent}
use Rattle.lane_core.specs.Laws.{LastPacketIsAdded, WeightNeverFalls}
use Rattle.lane_core.specs.Shown.{weight, total}
use Rattle.capture_replay.specs.declared.output.Output.{Output}
use Rattle.run_outcome.specs.Greatest.{greatest, greatest_from}
use Rattle.capture_replay.specs.Records.{control_at, packets_of, records_of}
use Rattle.run_outcome.specs.Forwarded.{bytes_under as left_by}
use Rattle.capture_replay.specs.Outcome.{is_forward, is_heavy}
use Rattle.capture_replay.specs.Reading.{Follows, IsOver, IsRead, IsSeen, gained, is_heavy_so_far, packet_at, packet_of, records_so_far}

-- ---- one frame more

-- what is seen of a captured record is the packet that it is
pub seen_arrival : (number : ℕ) (frame : Captured) (moment : Moment) (head bytes : List ℕ) → IsSeen frame moment head bytes
    → arrival_at number moment bytes ≡ arrival_of number frame
seen_arrival number frame moment head bytes seen =
    ap (λ m. arrival_at number m bytes) seen.moment_is ∙ ap (arrival_at number (record { seconds = frame.seconds; fraction = frame.fraction })) seen.bytes_is

-- what a packet leaves is what one frame more adds
pub gained_is : (app : Meaning) (script : List Stamped) (output : Output) (frames : List Captured) (frame : Captured) (number : ℕ) (moment : Moment) (head bytes : List ℕ)
    → IsSeen frame moment head bytes → length frames ≡ number → (verdict : Verdict)
    → verdict ≡ verdict_on app (control_at app script) (packet_at script number (arrival_at number moment bytes)) (records_so_far app script (packets_of script) frames)
    → (if is_forward output then left_by verdict frame else []) ≡ gained app script output frames frame
gained_is app script output frames frame number moment head bytes seen count verdict is =
    ap (λ v. if is_forward output then left_by v frame else [])
    (is ∙ ap (λ a. verdict_on app (control_at app script) (packet_at script number a) (records_so_far app script (packets_of script) frames)) (seen_arrival number frame moment head bytes seen)
    ∙ ap (λ n. verdict_on app (control_at app script) (packet_of script n frame) (records_so_far app script (packets_of script) frames)) (sym count))

arrivals-last : (n : ℕ) (frames : List Captured) (frame : Captured) → arrivals n (frames ++ frame ∷ []) ≡ arrivals n frames ++ arrival_of (n + length frames) frame ∷ []
arrivals-last n [] frame = ap (λ k. arrival_of k frame ∷ []) (sym (add-zero n))
arrivals-last n (first ∷ frames) frame =
    let count : (n + 1) + length frames ≡ n + length (first ∷ frames) = omega arith in
    ap (λ l. arrival_of n first ∷ l) (arrivals-last (n + 1) frames frame ∙ ap (λ k. arrivals (n + 1) frames ++ arrival_of k frame ∷ []) count)

pub packets_last : (script : List Stamped) (frames : List Captured) (frame : Captured) (number : ℕ) → length frames ≡ number
    → packets_of script (frames ++ frame ∷ []) ≡ packets_of script frames ++ packet_of script number frame ∷ []
packets_last script frames frame number count =
    ap (versioned (ceil script)) (arrivals-last 0 frames frame)
    ∙ map-append (λ a. record { version = ceil script a.number; arrival = a }) (arrivals 0 frames) (arrival_of (0 + length frames) frame ∷ [])
    ∙ ap (λ k. packets_of script frames ++ packet_of script k frame ∷ []) (let zero_more : 0 + length frames ≡ number = omega (arith, count) in zero_more)

module _ (app : Meaning) (script : List Stamped) where
  pub records_last : LastPacketIsAdded → (frames : List Captured) (frame : Captured) (number : ℕ) → length frames ≡ number
      → records_so_far app script (packets_of script) (frames ++ frame ∷ []) ≡ added app (control_at app script) (packet_of script number frame) (records_so_far app script (packets_of script) frames)
  records_last law frames frame number count =
      ap (records app (control_at app script)) (packets_last script frames frame number count) ∙ law app (control_at app script) (packets_of script frames) (packet_of script number frame)

  pub over-limit : (n : ℕ) → 134217728 < n → nat_lt 134217728 n ≡ true
  over-limit n over = grind (arith, common_steps)

  is_over : (n : ℕ) → nat_lt 134217728 n ≡ true → 134217728 < n
  is_over n over = grind (arith, common_steps)

  pub under-limit : (n : ℕ) → (134217728 < n → ⊥) → nat_lt 134217728 n ≡ false
  under-limit n under = by (nat_lt 134217728 n) refl
    where
      by : (b : Bool) → nat_lt 134217728 n ≡ b → b ≡ false
      by true is = absurd (under (grind (arith, common_steps)))
      by false is = refl

  not-true : (b : Bool) → not b ≡ true → b ≡ false
  not-true true is = absurd (cc)
  not-true false is = refl

  pub heavy_is_kept : (output : Output) (frames : List Captured) → is_heavy app script (packets_of script) output frames ≡ true → is_forward output ≡ false
  heavy_is_kept output frames heavy = not-true (is_forward output) (and_parts (not (is_forward output)) (nat_lt 134217728 (weight (records_of app script (packets_of script) frames))) heavy).0

  -- whether it is too heavy at the end
  pub over_at_end : (output : Output) (frames : List Captured) → not (is_forward output) ≡ true
      → 134217728 < weight (records_of app script (packets_of script) frames) → is_heavy app script (packets_of script) output frames ≡ true
  over_at_end output frames kept over =
      ap (λ b. b && nat_lt 134217728 (weight (records_of app script (packets_of script) frames))) kept ∙ over-limit _ over

  light-at-end : (b : Bool) (output : Output) (frames : List Captured) → not (is_forward output) ≡ b
      → (b ≡ true → 134217728 < weight (records_of app script (packets_of script) frames) → ⊥) → is_heavy app script (packets_of script) output frames ≡ false
  light-at-end true output frames kept under =
      ap (λ b. b && nat_lt 134217728 (weight (records_of app script (packets_of script) frames))) kept ∙ under-limit _ (under refl)
  light-at-end false output frames kept under =
      ap (λ b. b && nat_lt 134217728 (weight (records_of app script (packets_of script) frames))) kept

  pub under_at_end : (output : Output) (frames : List Captured)
      → (not (is_forward output) ≡ true → 134217728 < weight (records_of app script (packets_of script) frames) → ⊥) → is_heavy app script (packets_of script) output frames ≡ false
  under_at_end output frames under = light-at-end (not (is_forward output)) output frames refl under

  -- what is too heavy before the end is so at the end
  pub heavy_at_end : WeightNeverFalls → (output : Output) (frames : List Captured) → is_heavy_so_far app script output frames ≡ true → is_heavy app script (packets_of script) output frames ≡ true
  heavy_at_end falls output frames heavy =
      let parts = and_parts (not (is_forward output)) (nat_lt 134217728 (weight (records_so_far app script (packets_of script) frames))) heavy in
      let more = falls.at_end app (control_at app script) (greatest (arrivals 0 frames)) (records_so_far app script (packets_of script) frames) in
      let was = is_over (weight (records_so_far app script (packets_of script) frames)) parts.1 in
      over_at_end output frames parts.0 (omega (arith, was, more))

  -- what is too heavy stays so
  pub still_heavy : LastPacketIsAdded → WeightNeverFalls → (output : Output) (frames : List Captured) (frame : Captured)
      → is_heavy_so_far app script output frames ≡ true → is_heavy_so_far app script output (frames ++ frame ∷ []) ≡ true
  still_heavy law falls output frames frame heavy =
      let parts = and_parts (not (is_forward output)) (nat_lt 134217728 (weight (records_so_far app script (packets_of script) frames))) heavy in
      let more = falls.packet app (control_at app script) (packet_of script (length frames) frame) (records_so_far app script (packets_of script) frames) in
      let was = is_over (weight (records_so_far app script (packets_of script) frames)) parts.1 in
      let now : 134217728 < weight (added app (control_at app script) (packet_of script (length frames) frame) (records_so_far app script (packets_of script) frames)) = omega (arith, was, more) in
      ap (λ b. b && nat_lt 134217728 (weight (records_so_far app script (packets_of script) (frames ++ frame ∷ [])))) parts.0
      ∙ ap (λ rs. nat_lt 134217728 (weight rs)) (records_last law frames frame (length frames) refl) ∙ over-limit _ now

  -- whether it is too heavy with one frame more
  pub heavy_by : (output : Output) (frames : List Captured) (frame : Captured) (number : ℕ) → length frames ≡ number → not (is_forward output) ≡ true
      → IsOver app script (packets_of script frames ++ packet_of script number frame ∷ []) → is_heavy_so_far app script output (frames ++ frame ∷ []) ≡ true
  heavy_by output frames frame number count kept over =
      ap (λ b. b && nat_lt 134217728 (weight (records_so_far app script (packets_of script) (frames ++ frame ∷ [])))) kept
      ∙ ap (λ ps. nat_lt 134217728 (weight (records app (control_at app script) ps))) (packets_last script frames frame number count) ∙ over-limit _ over

  light-of : (b : Bool) (output : Output) (frames : List Captured) (frame : Captured) (number : ℕ) → length frames ≡ number → not (is_forward output) ≡ b
      → (b ≡ true → IsOver app script (packets_of script frames ++ packet_of script number frame ∷ []) → ⊥) → is_heavy_so_far app script output (frames ++ frame ∷ []) ≡ false
  light-of true output frames frame number count kept under =
      ap (λ b. b && nat_lt 134217728 (weight (records_so_far app script (packets_of script) (frames ++ frame ∷ [])))) kept
      ∙ ap (λ ps. nat_lt 134217728 (weight (records app (control_at app script) ps))) (packets_last script frames frame number count) ∙ under-limit _ (under refl)
  light-of false output frames frame number count kept under =
      ap (λ b. b && nat_lt 134217728 (weight (records_so_far app script (packets_of script) (frames ++ frame ∷ [])))) kept

  pub light_by : (output : Output) (frames : List Captured) (frame : Captured) (number : ℕ) → length frames ≡ number
      → (not (is_forward output) ≡ true → IsOver app script (packets_of script frames ++ packet_of script number frame ∷ []) → ⊥) → is_heavy_so_far app script output (frames ++ frame ∷ []) ≡ false
  light_by output frames frame number count under = light-of (not (is_forward output)) output frames frame number count refl under

-- ---- what a lane has come to

pub not_failed : (o : Option LaneError) (b : Bool) → b ≡ false → (o ≢ None → b ≡ true) → o ≡ None
not_failed None b is bad = refl
not_failed (Some e) b is bad = absurd (let failed = bad (λ none. cc) in cc)

module _ (app : Meaning) (script : List Stamped) (output : Output) (frames : List Captured) (frame : Captured) (number : ℕ) (count : length frames ≡ number) where
  -- a lane that failed before
  pub read_still : (given : ℕ) (failed : Option LaneError) (stands : List LaneEvent → Type 0) → LastPacketIsAdded → WeightNeverFalls → failed ≢ None
      → IsRead app script output given failed stands frames → IsRead app script output given failed stands (frames ++ frame ∷ [])
  read_still given failed stands law falls bad r = record {
    follows = λ good. absurd (bad good);
    light = λ good. absurd (bad good);
    heavy = λ any. still_heavy app script law falls output frames frame (r.heavy bad);
  }

  -- a lane that takes the packet
  pub read_more : (given : ℕ) (failed : Option LaneError) (stands : List LaneEvent → Type 0) → failed ≡ None
      → Follows script given stands (packets_of script frames ++ packet_of script number frame ∷ [])
      → (not (is_forward output) ≡ true → IsOver app script (packets_of script frames ++ packet_of script number frame ∷ []) → ⊥)
      → IsRead app script output given failed stands (frames ++ frame ∷ [])
  read_more given failed stands good follows light = record {
    follows = λ any. subst (Follows script given stands) (sym (packets_last script frames frame number count)) follows;
    light = λ any. light_by app script output frames frame number count light;
    heavy = λ bad. absurd (bad good);
  }

  -- a lane that fails at it
  pub read_heavy : (given : ℕ) (failed : Option LaneError) (stands : List LaneEvent → Type 0) → failed ≢ None → not (is_forward output) ≡ true
      → IsOver app script (packets_of script frames ++ packet_of script number frame ∷ [])
      → IsRead app script output given failed stands (frames ++ frame ∷ [])
  read_heavy given failed stands bad kept over = record {
    follows = λ good. absurd (bad good);
    light = λ good. absurd (bad good);
    heavy = λ any. heavy_by app script output frames frame number count kept over;
  }

-- ---- no frame yet

light-at-first : (app : Meaning) (script : List Stamped) (b : Bool) → (b && nat_lt 134217728 (weight (records_so_far app script (packets_of script) []))) ≡ false
unfolding records_from total
light-at-first app script true = refl
light-at-first app script false = refl

pub none_read : (app : Meaning) (script : List Stamped) (output : Output) (given : ℕ) (failed : Option LaneError) (stands : List LaneEvent → Type 0) → failed ≡ None → given ≡ 0 → stands []
    → IsRead app script output given failed stands []
none_read app script output given failed stands good none first = record {
  follows = λ any. record { events = []; stands_for = first; commands = ap (λ n. take n (commands_of script)) (sym none); packets = refl };
  light = λ any. light-at-first app script (not (is_forward output));
  heavy = λ bad. absurd (bad good);
}

-- no packet has no greatest moment
pub none_greatest : None ≡ greatest []
unfolding greatest_from
none_greatest = refl

-- what is an error isn't a success
pub fails_forward : {T E : Type 0} (b : Bool) (r : Result T E) (e : E) → r ≡ Err e → (b ≡ false → IsOk r) → b ≡ true
fails_forward true r e bad good = refl
fails_forward false r e bad good = absurd (let ok = good refl in let same = sym (ap is_ok bad) ∙ ok in cc)
