-- A forward run on several lanes: the header, and then what the lanes let pass, is what is written, or a front of it.
use Rattle.std.proofs.Common.{◌≡◌, ◌≢◌, ℕ, true, Option, List, [], ◌∷◌, ◌++◌, length, take, Ok, Err, refl, sym, ap, subst, ◌∙◌, arith, append-nil, inl, inr}
use Rattle.std.specs.Io.KnownBytes.{Appends}
use Rattle.std.proofs.KnownBytes.{Appends-nil, Appends-trans}
use Rattle.mos_bytes.specs.Writes.{AppendsFront}
use Rattle.mos_bytes.proofs.Writes.{AppendsFront-after, AppendsFront-more}
use Rattle.app_api.specs.App.{Meaning}
use Rattle.pcap_source.specs.Captured.{Captured}
use Rattle.pcap_source.specs.Capture.{Frames, Ending, tail, too_long, too_many, capture_of}
use Rattle.control_script.specs.declared.stamped.Stamped.{Stamped}
use Rattle.control_script.specs.Order.{commands_of, are_in_order}
use Rattle.lane_core.specs.Sight.{arrivals}
use Rattle.lane_core.specs.Records.{VersionedPacket}
use Rattle.run_outcome.specs.Allowed.{MayHave}
use Rattle.forward_run.specs.Forward.{RefusedAs, ForwardsOver}
use Rattle.worker_pool.specs.declared.job.PoolError.{PoolError}
use Rattle.worker_pool.specs.declared.job.PoolError.TheVariants as Pool
use Rattle.capture_replay.specs.declared.output.Output.{Output}
use Rattle.capture_replay.specs.declared.output.Output.TheVariants.{Report, Forward, Summary}
use Rattle.capture_replay.specs.declared.refusal.ReplayError.TheVariants as Replay
use Rattle.capture_replay.specs.Records.{packets_with, frames_in}
use Rattle.capture_replay.specs.Forward.{forwarded}
use Rattle.capture_replay.specs.Outcome.{is_forward, followed, outcome_by, outcome_over}
use Rattle.capture_replay.specs.Refusal.{pool_refusal}
use Rattle.capture_replay.specs.Runs.{Finishes, StopsAs}
use Rattle.capture_replay.specs.Lanes.{FinishesWith, StopsWith}
use Rattle.capture_replay.specs.Laws.{ceilings_of, CeilingsMayBeHad}
use Rattle.capture_replay.proofs.Ceilings.{HasVersions}
use Rattle.capture_replay.proofs.Closing.{ends_well}

pub forward_is : (output : Output) → is_forward output ≡ true → output ≡ Forward
forward_is Report is = absurd (cc)
forward_is Forward is = refl
forward_is (Summary n) is = absurd (cc)

not-empty : (header text : List ℕ) → length header ≡ 24 → header ++ text ≢ []
not-empty [] text len = absurd (omega (arith, len))
not-empty (x ∷ header) text len = λ none. cc

-- an opened capture, whose header has these bytes
module _ (app : Meaning) (script : List Stamped) (lanes : ℕ) (bytes header : List ℕ) (f : Frames) (opened : capture_of bytes ≡ Ok f)
    (header-is : header ≡ take 24 bytes) (len : length header ≡ 24) where
  abbrev given : List ℕ → List Captured → List VersionedPacket
  given vs = packets_with app script vs

  outcome-at : (vs : List ℕ) → outcome_over app script (given vs) Forward bytes ≡ followed app script (given vs) Forward header f.frames f.ending
  unfolding outcome_over
  outcome-at vs = ap (λ h. outcome_by app script (given vs) Forward h (capture_of bytes)) (sym header-is) ∙ ap (λ read. outcome_by app script (given vs) Forward header read) opened

  text-by : (vs : List ℕ) (ending : Ending) → (followed app script (given vs) Forward header f.frames ending).text ≡ header ++ forwarded app script (given vs) f.frames
  text-by vs (tail n) = append-nil _
  text-by vs (too_long offset) = refl
  text-by vs (too_many offset) = refl

  text-is : (vs : List ℕ) → (outcome_over app script (given vs) Forward bytes).text ≡ header ++ forwarded app script (given vs) f.frames
  text-is vs = ap (λ o. o.text) (outcome-at vs) ∙ text-by vs f.ending

  may-have : (vs : List ℕ) → MayHave app script lanes f.frames vs → MayHave app script lanes (frames_in (capture_of bytes)) vs
  may-have vs may = subst (λ fs. MayHave app script lanes fs vs) (sym (ap frames_in opened)) may

  write-fault : (vs : List ℕ) → StopsAs (outcome_over app script (given vs) Forward bytes) Replay.WriteFault
  write-fault vs = inr (inr (inr (refl, λ none. not-empty header (forwarded app script (given vs) f.frames) len (sym (text-is vs) ∙ none))))

  -- the header can't be written
  pub no_header : CeilingsMayBeHad → are_in_order script ≡ true → (old new : Option (List ℕ)) → AppendsFront old new header → StopsWith app script lanes Forward bytes Replay.WriteFault old new
  no_header law ordered old new part = record {
    versions = ceilings_of app script bytes;
    may_have = law app script lanes bytes ordered;
    stops = write-fault (ceilings_of app script bytes);
    front = subst (AppendsFront old new) (sym (text-is (ceilings_of app script bytes))) (AppendsFront-more old new header _ part);
  }

  stops-by : (vs : List ℕ) (e : PoolError) → RefusedAs f e → StopsAs (outcome_over app script (given vs) Forward bytes) (pool_refusal e)
  stops-by vs (Pool.TooLong offset) is = inl (ap (λ o. o.ends) (outcome-at vs ∙ ap (λ ending. followed app script (given vs) Forward header f.frames ending) is))
  stops-by vs (Pool.TooMany offset) is = inl (ap (λ o. o.ends) (outcome-at vs ∙ ap (λ ending. followed app script (given vs) Forward header f.frames ending) is))
  stops-by vs Pool.ReadFault is = inr (inl refl)
  stops-by vs Pool.WriteFault is = write-fault vs
  stops-by vs Pool.Heavy is = absurd is
  stops-by vs Pool.NoMemory is = inr (inr (inl refl))

  -- it ended behind the header
  pub cut_short : (old mid new : Option (List ℕ)) (e : PoolError) → Appends old mid header → ForwardsOver app script lanes f mid new (Err e)
      → StopsWith app script lanes Forward bytes (pool_refusal e) old new
  cut_short old mid new e written ends =
      let front = ends.1 in
      record {
        versions = front.versions;
        may_have = may-have front.versions front.may_have;
        stops = stops-by front.versions e ends.0;
        front = subst (AppendsFront old new) (sym (text-is front.versions)) (AppendsFront-after old mid new header _ written front.front);
      }

  -- all was written
  pub all_left : HasVersions → (old mid new : Option (List ℕ)) (versions : List ℕ) → Appends old mid header
      → ForwardsOver app script lanes f mid new (Ok versions) → FinishesWith app script lanes Forward bytes versions old new
  all_left has old mid new versions written ends =
      let all = ends.2 in
      record {
        may_have = may-have versions all.may_have;
        finishes = subst (λ o. Finishes o versions old new) (sym (outcome-at versions ∙ ap (λ ending. followed app script (given versions) Forward header f.frames ending) ends.1))
            (ends_well app script (given versions) Forward f.frames header ends.0 versions old new new refl (sym (has app (commands_of script) _ _ _ (arrivals 0 f.frames) versions all.may_have))
            (Appends-trans old mid new header _ written all.written) (Appends-nil new));
      }
