-- The end of a run on several lanes: what they end with is what is written, or why it isn't.
use Rattle.std.proofs.Common.{◌≡◌, ℕ, Bool, true, false, Option, List, [], ◌++◌, length, map, take, Ok, Err, refl, sym, ap, subst, ◌∙◌, arith, inl, inr}
use Rattle.std.specs.Prelude.{◌⊎◌, ◌&&◌, IsErrOf, not, nat_lt, if◌then◌else◌}
use Rattle.std.specs.Io.KnownBytes.{Appends}
use Rattle.std.proofs.KnownBytes.{Appends-nil}
use Rattle.mos_bytes.specs.Writes.{AppendsFront}
use Rattle.mos_bytes.proofs.Writes.{AppendsFront-nil}
use Rattle.app_api.specs.App.{Meaning}
use Rattle.pcap_source.specs.Captured.{Captured}
use Rattle.pcap_source.specs.Capture.{Frames, Ending, tail, too_long, too_many, capture_of}
use Rattle.pcap_source.specs.declared.errors.CaptureFault.TheVariants as Fault
use Rattle.control_script.specs.declared.stamped.Stamped.{Stamped}
use Rattle.control_script.specs.Order.{commands_of, are_in_order}
use Rattle.lane_core.specs.Sight.{arrivals}
use Rattle.lane_core.specs.Records.{VersionedPacket}
use Rattle.lane_core.specs.Shown.{record_of, weight}
use Rattle.worker_pool.specs.Run.{EndsOver, IsWhole}
use Rattle.run_outcome.specs.Allowed.{MayHave}
use Rattle.run_outcome.specs.Totals.{totals_of}
use Rattle.worker_pool.specs.declared.job.LanesEnd.{LanesEnd}
use Rattle.worker_pool.specs.declared.job.PoolError.{PoolError}
use Rattle.worker_pool.specs.declared.job.PoolError.TheVariants as Pool
use Rattle.capture_replay.specs.declared.output.Output.{Output}
use Rattle.capture_replay.specs.declared.refusal.ReplayError.{ReplayError}
use Rattle.capture_replay.specs.declared.refusal.ReplayError.TheVariants as Replay
use Rattle.capture_replay.specs.Records.{packets_with, records_of, frames_in}
use Rattle.capture_replay.specs.Forward.{forwarded}
use Rattle.capture_replay.specs.Outcome.{is_forward, is_heavy, streamed, closing, ended, followed, weighed, refused, outcome_by, outcome_over}
use Rattle.capture_replay.specs.Refusal.{pool_refusal}
use Rattle.capture_replay.specs.Runs.{Finishes, StopsAs, RunsAs}
use Rattle.capture_replay.specs.Lanes.{FinishesWith, StopsWith}
use Rattle.capture_replay.specs.Laws.{ceilings_of, CeilingsMayBeHad}
use Rattle.capture_replay.proofs.Ceilings.{HasVersions}
use Rattle.capture_replay.proofs.Closing.{ends_well, ends_badly}
use Rattle.capture_replay.proofs.Reading.{over-limit, under-limit}

-- a run on lanes that tells no fault of writing is refused with none
pub no_write_told : {T U : Type 0} (e : PoolError) → (IsErrOf {T = T} (Err e) Pool.WriteFault → ⊥) → IsErrOf {T = U} (Err (pool_refusal e)) Replay.WriteFault → ⊥
no_write_told (Pool.TooLong offset) never is = cc
no_write_told (Pool.TooMany offset) never is = cc
no_write_told Pool.ReadFault never is = cc
no_write_told Pool.WriteFault never is = never refl
no_write_told Pool.Heavy never is = cc
no_write_told Pool.NoMemory never is = cc

module _ (app : Meaning) (script : List Stamped) (lanes : ℕ) (output : Output) (bytes : List ℕ) where
  -- nothing could be said of the capture, or the run stopped before its end, whatever its versions
  pub stopped_any : CeilingsMayBeHad → are_in_order script ≡ true → (old : Option (List ℕ)) (e : ReplayError)
      → ((vs : List ℕ) → StopsAs (outcome_over app script (packets_with app script vs) output bytes) e)
      → StopsWith app script lanes output bytes e old old
  stopped_any law ordered old e stops = record {
    versions = ceilings_of app script bytes;
    may_have = law app script lanes bytes ordered;
    stops = stops (ceilings_of app script bytes);
    front = AppendsFront-nil old _;
  }

  -- the capture was opened
  module _ (f : Frames) (opened : capture_of bytes ≡ Ok f) (kept : is_forward output ≡ false) where
    outcome-at : (vs : List ℕ) (ending : Ending) → f.ending ≡ ending
        → outcome_over app script (packets_with app script vs) output bytes ≡ followed app script (packets_with app script vs) output (take 24 bytes) f.frames ending
    unfolding outcome_over
    outcome-at vs ending is = ap (λ read. outcome_by app script (packets_with app script vs) output (take 24 bytes) read) opened
        ∙ ap (λ ending. followed app script (packets_with app script vs) output (take 24 bytes) f.frames ending) is

    may-have : (vs : List ℕ) → MayHave app script lanes f.frames vs → MayHave app script lanes (frames_in (capture_of bytes)) vs
    may-have vs may = subst (λ fs. MayHave app script lanes fs vs) (sym (ap frames_in opened)) may

    heavy-by : (vs : List ℕ) (b : Bool) → nat_lt 134217728 (weight (records_of app script (packets_with app script vs) f.frames)) ≡ b
        → is_heavy app script (packets_with app script vs) output f.frames ≡ b
    heavy-by vs b is = ap (λ c. not c && nat_lt 134217728 (weight (records_of app script (packets_with app script vs) f.frames))) kept ∙ is

    -- it can't be read on, or weighs too much
    pub stopped : CeilingsMayBeHad → are_in_order script ≡ true → (old : Option (List ℕ)) (e : PoolError) → EndsOver app script lanes f (Err e)
        → StopsWith app script lanes output bytes (pool_refusal e) old old
    stopped law ordered old (Pool.TooLong offset) is = stopped_any law ordered old (Replay.Capture Fault.TooLong offset) (λ vs. inl (ap (λ o. o.ends) (outcome-at vs (too_long offset) is)))
    stopped law ordered old (Pool.TooMany offset) is = stopped_any law ordered old (Replay.TooMany offset) (λ vs. inl (ap (λ o. o.ends) (outcome-at vs (too_many offset) is)))
    stopped law ordered old Pool.ReadFault is = stopped_any law ordered old Replay.ReadFault (λ vs. inr (inl refl))
    stopped law ordered old Pool.WriteFault is = absurd is
    stopped law ordered old Pool.NoMemory is = stopped_any law ordered old Replay.NoMemory (λ vs. inr (inr (inl refl)))
    stopped law ordered old Pool.Heavy is =
        let heavy = is.2 in
        let given = packets_with app script heavy.versions in
        record {
          versions = heavy.versions;
          may_have = may-have heavy.versions heavy.allowed;
          stops = inl (ap (λ o. o.ends) (outcome-at heavy.versions (tail is.0) is.1)
              ∙ ap (λ b. (if b then refused Replay.Heavy else ended app script given output (take 24 bytes) f.frames is.0).ends) (heavy-by heavy.versions true (over-limit app script _ heavy.heavy)));
          front = AppendsFront-nil old _;
        }

    -- it was read whole
    module _ (n : ℕ) (ending : f.ending ≡ tail n) (end : LanesEnd) (whole : IsWhole app script lanes f.frames n end) where
      abbrev given : List Captured → List VersionedPacket
      given = packets_with app script end.versions

      light : is_heavy app script given output f.frames ≡ false
      light = heavy-by end.versions false (under-limit app script _ (λ over. let most = whole.light in omega (arith, over, most)))

      nothing-streamed : (old : Option (List ℕ)) → Appends old old (streamed app script given output (take 24 bytes) f.frames)
      nothing-streamed old = subst (λ b. Appends old old (if b then take 24 bytes ++ forwarded app script given f.frames else [])) (sym kept) (Appends-nil old)

      closing-is : closing output end.records end.totals ≡ closing output (map (record_of app) (records_of app script given f.frames))
          (totals_of (records_of app script given f.frames) (length f.frames) n)
      closing-is = ap (λ l. closing output l end.totals) whole.records_are ∙ ap (closing output (map (record_of app) (records_of app script given f.frames))) whole.totals_are

      -- and all was written
      pub finished : HasVersions → (old new : Option (List ℕ)) → Appends old new (closing output end.records end.totals) → FinishesWith app script lanes output bytes end.versions old new
      finished has old new written = record {
        may_have = may-have end.versions whole.allowed;
        finishes = subst (λ o. Finishes o end.versions old new) (sym (outcome-at end.versions (tail n) ending))
            (ends_well app script given output f.frames (take 24 bytes) n end.versions old old new light
            (sym (has app (commands_of script) _ _ _ (arrivals 0 f.frames) end.versions whole.allowed)) (nothing-streamed old)
            (subst (Appends old new) closing-is written));
      }

      -- or a front of it, where writing failed
      pub broke_off : (old new : Option (List ℕ)) (e : ReplayError) → ((e ≡ Replay.WriteFault) × (is_forward output ≡ false)) ⊎ (e ≡ Replay.NoMemory)
          → AppendsFront old new (closing output end.records end.totals)
          → StopsWith app script lanes output bytes e old new
      broke_off old new e which part =
          let both : RunsAs (weighed app script given output (take 24 bytes) f.frames n) old new (Err e) =
          ends_badly app script given output f.frames (take 24 bytes) n e old old new light which (nothing-streamed old) (subst (AppendsFront old new) closing-is part) in
          record {
            versions = end.versions;
            may_have = may-have end.versions whole.allowed;
            stops = subst (λ o. StopsAs o e) (sym (outcome-at end.versions (tail n) ending)) both.0;
            front = subst (λ o. AppendsFront old new o.text) (sym (outcome-at end.versions (tail n) ending)) both.1;
          }
