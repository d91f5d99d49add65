-- A run over a file of either form: from what it comes to over the bytes that the file gives, and what its source met behind them.
use Rattle.std.proofs.Common.{◌≡◌, ◌≢◌, ℕ, ◌<◌, ◌≤◌, Bool, true, false, Option, Some, None, List, [], length, take, Result, Ok, Err, refl, sym, ap, subst, ◌∙◌, arith, append-nil, inl, inr, ⊎_elim}
use Rattle.std.proofs.lemmas.List.{length-take}
use Rattle.std.specs.Prelude.{◌⊎◌, IsOk, IfErr, IsErrOf, min, option_map, if◌then◌else◌}
use Rattle.mos_bytes.specs.declared.source.Source.{Ghosts as Source}
use Rattle.mos_bytes.specs.Writes.{AppendsFront}
use Rattle.mos_bytes.proofs.Writes.{AppendsFront-nil}
use Rattle.capture_maker.specs.Made.{made as made_bytes}
use Rattle.app_api.specs.App.{Meaning}
use Rattle.pcap_source.specs.Captured.{Captured}
use Rattle.pcap_source.specs.Capture.{Frames, Ending, tail, too_long, too_many, capture_of}
use Rattle.pcap_source.specs.declared.errors.OpenError.{OpenError}
use Rattle.pcapng_source.specs.Given.{Given, whole}
use Rattle.pcapng_source.specs.Blocks.{any, classic_header}
use Rattle.pcapng_source.specs.Laws.{HasHeader}
use Rattle.pcapng_source.specs.Sources.{IsReadWhole, MeetsRefusal, Stands, any_ended, any_lasting, any_left, any_source, any_start, met_fault}
use Rattle.pcapng_source.specs.declared.any_source.AnySource.{AnySource}
use Rattle.pcapng_source.specs.declared.fault.NgFault.{NgFault}
use Rattle.pcapng_source.specs.declared.fault.NgFault.TheVariants as Ng
use Rattle.control_script.specs.declared.stamped.Stamped.{Stamped}
use Rattle.lane_core.specs.Records.{VersionedPacket}
use Rattle.worker_pool.specs.Source.{EndsInTail}
use Rattle.capture_replay.specs.declared.output.Output.{Output}
use Rattle.capture_replay.specs.declared.output.Output.TheVariants.{Report, Forward, Summary}
use Rattle.capture_replay.specs.declared.refusal.ReplayError.{ReplayError}
use Rattle.capture_replay.specs.declared.refusal.ReplayError.TheVariants as Replay
use Rattle.mos_run.specs.declared.refusal.RunError.{RunError}
use Rattle.mos_run.specs.declared.refusal.RunError.TheVariants as Run
use Rattle.capture_replay.specs.Records.{packets_with}
use Rattle.capture_replay.specs.Outcome.{Outcome, ended, followed, is_forward, is_heavy, made_for, outcome_by, outcome_over, refused, streamed, weighed}
use Rattle.std.specs.Result.{result_map_both}
use Rattle.mos_run.specs.Outcome.{StopsAs, followed_in_file, outcome, outcome_in_file, told_as}
use Rattle.mos_run.specs.Explained.{explained, met_in}
use Rattle.mos_run.specs.Refusal.{file_refusal, replay_refusal, status_of}
use Rattle.mos_run.specs.Request.{Asked, Wanted, given_under}
use Rattle.capture_replay.specs.Runs.{Finishes, bytes_under, AreUnrefused, StopsAs as ReplayStopsAs}
use Rattle.mos_run.specs.Run.{RunsUnder}
use Rattle.mos_run.specs.Runs.{Replays}

-- ---- what is told in place of a fault

pub not_a_fault : (fault : NgFault) → file_refusal fault ≢ Run.ReadFault
not_a_fault (Ng.TooManyBlocks offset) is = cc
not_a_fault (Ng.BadBlock offset) is = cc
not_a_fault (Ng.BadVersion offset) is = cc
not_a_fault (Ng.TooManyInterfaces offset) is = cc
not_a_fault (Ng.BadLink offset) is = cc
not_a_fault (Ng.TooLong offset) is = cc

-- what isn't a fault of the source stays, and so does one where no refusal was met
pub unmet : (fault : Option NgFault) (e : ReplayError) → (e ≡ Replay.ReadFault → fault ≢ None → ⊥) → met_in fault e ≡ replay_refusal e
unmet None e never = refl
unmet (Some fault) (Replay.Capture kind offset) never = refl
unmet (Some fault) (Replay.TooMany offset) never = refl
unmet (Some fault) Replay.Heavy never = refl
unmet (Some fault) Replay.ReadFault never = absurd (never refl (λ is. cc))
unmet (Some fault) Replay.WriteFault never = refl
unmet (Some fault) Replay.NoMemory never = refl

-- ---- what a replay came to, as a run tells it

told-stops : (o : Outcome ReplayError) (e : ReplayError) → ReplayStopsAs o e → StopsAs (told_as o) (replay_refusal e)
told-stops o e (inl ends) = inl (ap (λ (r : Result (List ℕ) ReplayError). result_map_both (λ versions. versions) replay_refusal r) ends)
told-stops o e (inr (inl fault)) = inr (inl (ap replay_refusal fault))
told-stops o e (inr (inr (inl memory))) = inr (inr (inl (ap replay_refusal memory)))
told-stops o e (inr (inr (inr write))) = inr (inr (inr (ap replay_refusal write.0, write.1)))

told-done : (o : Outcome ReplayError) (versions : List ℕ) (old new : Option (List ℕ)) → Finishes o versions old new → Finishes (told_as o) versions old new
told-done o versions old new done = record { answered = ap (λ (r : Result (List ℕ) ReplayError). result_map_both (λ versions. versions) replay_refusal r) done.answered; written = done.written }

-- ---- one outcome

module _ (app : Meaning) (script : List Stamped) (given : List Captured → List VersionedPacket) where
  forward-text : (output : Output) (header : List ℕ) (frames : List Captured) (n : ℕ) → is_forward output ≡ true
      → (weighed app script given output header frames n).text ≡ streamed app script given output header frames
  forward-text Report header frames n is = absurd (cc)
  forward-text Forward header frames n is = append-nil _
  forward-text (Summary k) header frames n is = absurd (cc)

  weighed-ends : (output : Output) (header : List ℕ) (frames : List Captured) (n : ℕ) (heavy : Bool) (e : ReplayError)
      → (if heavy then refused Replay.Heavy else ended app script given output header frames n).ends ≡ Err e → e ≡ Replay.Heavy
  weighed-ends output header frames n true e is = cc
  weighed-ends output header frames n false e is = absurd (cc)

  module _ (output : Output) (header : List ℕ) (old new : Option (List ℕ)) (refusal : NgFault) (fault : Option NgFault) (e : ReplayError)
      (met : (f : NgFault) → fault ≡ Some f → refusal ≡ f) (light : e ≢ Replay.Heavy) (begun : is_forward output ≡ false → (new ≡ old) × (e ≢ Replay.WriteFault)) where
    same : (o : Outcome ReplayError) → (e ≡ Replay.ReadFault → fault ≢ None → ⊥) → ReplayStopsAs o e × AppendsFront old new o.text
        → StopsAs (told_as o) (met_in fault e) × AppendsFront old new o.text
    same o never stops = (subst (StopsAs (told_as o)) (sym (unmet fault e never)) (told-stops o e stops.0), stops.1)

    stays : (x : ReplayError) → e ≡ x → x ≢ Replay.ReadFault → met_in fault e ≡ replay_refusal x
    stays x is other = unmet fault e (λ bad some. other (sym is ∙ bad)) ∙ ap replay_refusal is

    front-by : (b : Bool) → is_forward output ≡ b → (frames : List Captured) (n : ℕ)
        → AppendsFront old new (weighed app script given output header frames n).text → AppendsFront old new (streamed app script given output header frames)
    front-by true is frames n part = subst (AppendsFront old new) (forward-text output header frames n is) part
    front-by false is frames n part = subst (λ x. AppendsFront old x (streamed app script given output header frames)) (sym (begun is).0) (AppendsFront-nil old _)

    some-by : (b : Bool) → is_forward output ≡ b → (frames : List Captured) (n : ℕ) → e ≡ Replay.WriteFault
        → (weighed app script given output header frames n).text ≢ [] → streamed app script given output header frames ≢ []
    some-by true is frames n write some none = some (forward-text output header frames n is ∙ none)
    some-by false is frames n write some none = (begun is).1 write

    -- at the refusal of the file, behind whole records and a tail
    told-at : (frames : List Captured) (n : ℕ) (f : Option NgFault) → fault ≡ f → e ≡ Replay.ReadFault
        → StopsAs (followed_in_file app script given output header frames (tail n) refusal) (met_in fault e)
    told-at frames n None none is = inr (inl (ap (λ x. met_in x e) none ∙ ap replay_refusal is))
    told-at frames n (Some f) some is =
        inl (ap (λ x. Err (file_refusal x)) (met f some) ∙ sym (ap (λ x. Err (met_in x e)) some ∙ ap (λ x. Err (met_in (Some f) x)) is))

    at-tail : (frames : List Captured) (n : ℕ) → ReplayStopsAs (weighed app script given output header frames n) e
        → StopsAs (followed_in_file app script given output header frames (tail n) refusal) (met_in fault e)
    at-tail frames n (inl ends) = absurd (light (weighed-ends output header frames n (is_heavy app script given output frames) e ends))
    at-tail frames n (inr (inl is)) = told-at frames n fault refl is
    at-tail frames n (inr (inr (inl memory))) = inr (inr (inl (stays Replay.NoMemory memory (λ is. cc))))
    at-tail frames n (inr (inr (inr write))) = inr (inr (inr (stays Replay.WriteFault write.0 (λ is. cc), some-by (is_forward output) refl frames n write.0 write.1)))

    at-ending : (frames : List Captured) (ending : Ending) → (e ≡ Replay.ReadFault → fault ≢ None → (n : ℕ) × (ending ≡ tail n))
        → ReplayStopsAs (followed app script given output header frames ending) e × AppendsFront old new (followed app script given output header frames ending).text
        → StopsAs (followed_in_file app script given output header frames ending refusal) (met_in fault e)
        × AppendsFront old new (followed_in_file app script given output header frames ending refusal).text
    at-ending frames (tail n) cut stops = (at-tail frames n stops.0, front-by (is_forward output) refl frames n stops.1)
    at-ending frames (too_long offset) cut stops = same _ (λ is some. let bad = (cut is some).1 in cc) stops
    at-ending frames (too_many offset) cut stops = same _ (λ is some. let bad = (cut is some).1 in cc) stops

    at-capture : (capture : Result Frames OpenError) → (e ≡ Replay.ReadFault → fault ≢ None → (f : Frames) × (capture ≡ Ok f) × EndsInTail f)
        → ReplayStopsAs (outcome_by app script given output header capture) e × AppendsFront old new (outcome_by app script given output header capture).text
        → StopsAs (outcome_in_file app script given output header capture (Some refusal)) (met_in fault e)
        × AppendsFront old new (outcome_in_file app script given output header capture (Some refusal)).text
    at-capture (Ok f) cut stops = at-ending f.frames f.ending (λ is some. let c = cut is some in let eq = c.1 in let one : f ≡ c.0 = cc in let t = c.2 in (t.0, ap (λ x. x.ending) one ∙ t.1)) stops
    at-capture (Err x) cut stops = same _ (λ is some. let bad = (cut is some).1 in cc) stops

-- ---- what the run comes to

long-enough : (bytes : List ℕ) → take 24 bytes ≡ classic_header → 24 ≤ length bytes
unfolding classic_header
long-enough bytes is =
    let same : min 24 (length bytes) ≡ 24 = sym (length-take 24 bytes) ∙ ap length is in
    omega (arith, same)

module _ (w : Wanted) (bytes : List ℕ) (old new : Option (List ℕ)) where
  -- where a replay comes to this over the bytes
  pub over_given : (refusal fault : Option NgFault) (result : Result (List ℕ) ReplayError)
      → ((f : NgFault) → fault ≡ Some f → refusal ≡ Some f)
      → (refusal ≢ None → 24 ≤ length bytes)
      → (IsOk result ⊎ IsErrOf result Replay.Heavy → refusal ≡ None)
      → (is_forward w.output ≡ false → ((new ≡ old) × (IsErrOf result Replay.WriteFault → ⊥)) ⊎ (refusal ≡ None))
      → (IsErrOf result Replay.ReadFault → fault ≢ None → AreUnrefused bytes)
      → Replays w bytes old new result
      → RunsUnder (Asked w (record { bytes = bytes; refusal = refusal })) old new (explained fault result)
  unfolding outcome outcome_over
  over_given None None (Ok versions) met long all begun cut runs = record { allowed = runs.allowed; finishes = told-done _ versions old new runs.finishes; typed = runs.typed }
  over_given None None (Err e) met long all begun cut runs = record {
    versions = runs.versions;
    allowed = runs.allowed;
    holds = (told-stops _ e runs.stops, runs.front);
  }
  over_given None (Some f) result met long all begun cut runs = absurd (let bad = met f refl in cc)
  over_given (Some f) fault (Ok versions) met long all begun cut runs = absurd (let bad = all (inl refl) in cc)
  over_given (Some f) fault (Err e) met long all begun cut runs =
      record {
        versions = runs.versions;
        allowed = runs.allowed;
        holds = at-capture w.app w.commands (packets_with w.app w.commands runs.versions) w.output (take 24 bytes) old new f fault e
            (λ g is. let same = met g is in cc)
            (λ heavy. let bad = all (inr (ap (λ x. Err x) heavy)) in cc)
            (λ kept. idle (begun kept))
            (capture_of bytes) (λ is some. unrefused (cut (ap (λ x. Err x) is) some)) (runs.stops, runs.front);
      }
    where
      idle : ((new ≡ old) × (IsErrOf {T = List ℕ} (Err e) Replay.WriteFault → ⊥)) ⊎ (Some f ≡ None) → (new ≡ old) × (e ≢ Replay.WriteFault)
      idle (inl still) = (still.0, λ is. still.1 (ap (λ x. Err x) is))
      idle (inr none) = absurd (cc)

      unrefused : AreUnrefused bytes → (g : Frames) × (capture_of bytes ≡ Ok g) × EndsInTail g
      unrefused (inl short) = let most = long (λ none. cc) in absurd (omega (arith, short, most))
      unrefused (inr it) = it

-- ---- what stands of a result that is explained

run-same : {T : Type 0} (a b : RunError) → IsErrOf {T = T} (Err a) b → a ≡ b
run-same a b is = cc

unchanged : (fault : Option NgFault) (e x : ReplayError) → e ≡ x → x ≢ Replay.ReadFault → met_in fault e ≡ replay_refusal x
unchanged fault e x is other = unmet fault e (λ bad some. other (sym is ∙ bad)) ∙ ap replay_refusal is

pub ok_before : (fault : Option NgFault) (result : Result (List ℕ) ReplayError) → IsOk (explained fault result) → IsOk result
ok_before fault (Ok versions) ok = refl
ok_before fault (Err e) ok = ok

pub silent_after : (P : Type 0) (fault : Option NgFault) (result : Result (List ℕ) ReplayError) → IfErr result (λ e. e ≢ Replay.WriteFault → e ≢ Replay.NoMemory → P)
    → IfErr (explained fault result) (λ e. e ≢ Run.WriteFault → e ≢ Run.NoMemory → P)
silent_after P fault (Ok versions) silent = tt
silent_after P fault (Err e) silent = λ write memory.
    silent (λ is. write (unchanged fault e Replay.WriteFault is (λ bad. cc))) (λ is. memory (unchanged fault e Replay.NoMemory is (λ bad. cc)))

file-late : (fault : NgFault) → 2 < status_of (file_refusal fault)
file-late (Ng.TooManyBlocks offset) = omega arith
file-late (Ng.BadBlock offset) = omega arith
file-late (Ng.BadVersion offset) = omega arith
file-late (Ng.TooManyInterfaces offset) = omega arith
file-late (Ng.BadLink offset) = omega arith
file-late (Ng.TooLong offset) = omega arith

replay-late : (e : ReplayError) → 2 < status_of (replay_refusal e)
replay-late (Replay.Capture kind offset) = omega arith
replay-late (Replay.TooMany offset) = omega arith
replay-late Replay.Heavy = omega arith
replay-late Replay.ReadFault = omega arith
replay-late Replay.WriteFault = omega arith
replay-late Replay.NoMemory = omega arith

met-late : (fault : Option NgFault) (e : ReplayError) → 2 < status_of (met_in fault e)
met-late None e = replay-late e
met-late (Some fault) (Replay.Capture kind offset) = replay-late (Replay.Capture kind offset)
met-late (Some fault) (Replay.TooMany offset) = replay-late (Replay.TooMany offset)
met-late (Some fault) Replay.Heavy = replay-late Replay.Heavy
met-late (Some fault) Replay.ReadFault = file-late fault
met-late (Some fault) Replay.WriteFault = replay-late Replay.WriteFault
met-late (Some fault) Replay.NoMemory = replay-late Replay.NoMemory

-- a replay is refused with none of the statuses of words and scripts
pub late_after : (fault : Option NgFault) (result : Result (List ℕ) ReplayError) → IfErr (explained fault result) (λ e. 2 < status_of e)
late_after fault (Ok versions) = tt
late_after fault (Err e) = met-late fault e

-- a fault of the source is told only where it was told, and no refusal was met
fault-by : (fault : Option NgFault) (e : ReplayError) → met_in fault e ≡ Run.ReadFault → (e ≡ Replay.ReadFault) × (fault ≡ None)
fault-by None (Replay.Capture kind offset) is = absurd (cc)
fault-by None (Replay.TooMany offset) is = absurd (cc)
fault-by None Replay.Heavy is = absurd (cc)
fault-by None Replay.ReadFault is = (refl, refl)
fault-by None Replay.WriteFault is = absurd (cc)
fault-by None Replay.NoMemory is = absurd (cc)
fault-by (Some fault) (Replay.Capture kind offset) is = absurd (cc)
fault-by (Some fault) (Replay.TooMany offset) is = absurd (cc)
fault-by (Some fault) Replay.Heavy is = absurd (cc)
fault-by (Some fault) Replay.ReadFault is = absurd (not_a_fault fault is)
fault-by (Some fault) Replay.WriteFault is = absurd (cc)
fault-by (Some fault) Replay.NoMemory is = absurd (cc)

pub fault_before : (fault : Option NgFault) (result : Result (List ℕ) ReplayError) → IsErrOf (explained fault result) Run.ReadFault → IsErrOf result Replay.ReadFault × (fault ≡ None)
fault_before fault (Ok versions) is = absurd (cc)
fault_before fault (Err e) is = let both = fault-by fault e (run-same (met_in fault e) Run.ReadFault is) in (ap (λ x. Err x) both.0, both.1)

-- and so is a fault of writing
no-write : (fault : NgFault) → file_refusal fault ≢ Run.WriteFault
no-write (Ng.TooManyBlocks offset) is = cc
no-write (Ng.BadBlock offset) is = cc
no-write (Ng.BadVersion offset) is = cc
no-write (Ng.TooManyInterfaces offset) is = cc
no-write (Ng.BadLink offset) is = cc
no-write (Ng.TooLong offset) is = cc

write-by : (fault : Option NgFault) (e : ReplayError) → met_in fault e ≡ Run.WriteFault → e ≡ Replay.WriteFault
write-by None (Replay.Capture kind offset) is = absurd (cc)
write-by None (Replay.TooMany offset) is = absurd (cc)
write-by None Replay.Heavy is = absurd (cc)
write-by None Replay.ReadFault is = absurd (cc)
write-by None Replay.WriteFault is = refl
write-by None Replay.NoMemory is = absurd (cc)
write-by (Some fault) (Replay.Capture kind offset) is = absurd (cc)
write-by (Some fault) (Replay.TooMany offset) is = absurd (cc)
write-by (Some fault) Replay.Heavy is = absurd (cc)
write-by (Some fault) Replay.ReadFault is = absurd (no-write fault is)
write-by (Some fault) Replay.WriteFault is = refl
write-by (Some fault) Replay.NoMemory is = absurd (cc)

pub write_before : (fault : Option NgFault) (result : Result (List ℕ) ReplayError) → IsErrOf (explained fault result) Run.WriteFault → IsErrOf result Replay.WriteFault
write_before fault (Ok versions) is = absurd (cc)
write_before fault (Err e) is = ap (λ x. Err x) (write-by fault e (run-same (met_in fault e) Run.WriteFault is))

-- ---- the source over the file

given-by : (left : Option (List ℕ)) (file : Given) → option_map any left ≡ Some file → option_map (λ bytes. (any bytes).bytes) left ≡ Some file.bytes
given-by None file is = absurd (cc)
given-by (Some bytes) file is = let same : any bytes ≡ file = cc in ap (λ g. Some g.bytes) same

met-by : (left given : Option (List ℕ)) (file : Given) (f : NgFault) → option_map any left ≡ Some file → MeetsRefusal left given f → (file.refusal ≡ Some f) × (given ≡ Some [])
met-by None given file f is met = absurd (cc)
met-by (Some bytes) given file f is met = let same : any bytes ≡ file = cc in (ap (λ g. g.refusal) (sym same) ∙ met.0, met.1)

whole-by : (left now : Option (List ℕ)) (file : Given) → option_map any left ≡ Some file → IsReadWhole left now → file.refusal ≡ None
whole-by None now file is whole = absurd (cc)
whole-by (Some bytes) now file is whole = let same : any bytes ≡ file = cc in ap (λ g. g.refusal) (sym same) ∙ whole.0

pub read_by : (left now : Option (List ℕ)) (bytes : List ℕ) → left ≡ Some bytes → IsReadWhole left now → now ≡ Some []
read_by None now bytes is whole = absurd (cc)
read_by (Some b) now bytes is whole = whole.1

long-by : ((bytes : List ℕ) → HasHeader bytes) → (left : Option (List ℕ)) (file : Given) → option_map any left ≡ Some file → file.refusal ≢ None → 24 ≤ length file.bytes
long-by law None file is some = absurd (cc)
long-by law (Some bytes) file is some =
    let same : any bytes ≡ file = cc in
    subst (λ g. 24 ≤ length g.bytes) same (long-enough (any bytes).bytes (law bytes (λ none. some (ap (λ g. g.refusal) (sym same) ∙ none))))

module _ {S : Type 0} (source : Source S) (a b : AnySource S source) (s0 : S) (start : any_start a ≡ s0) (left0 : any_left a ≡ option_map (λ file. (any file).bytes) (source.left s0))
    (lasts : any_lasting b ≡ any_lasting a) (stands : Stands b) where
  pub start_is : any_start b ≡ s0
  start_is = ap (λ l. l.1) lasts ∙ start

  pub whole_is : any_ended b → IsReadWhole (source.left s0) (source.left (any_source b))
  whole_is ended = subst (λ x. IsReadWhole (source.left x) (source.left (any_source b))) start_is (stands.ends ended).1

  met-is : (f : NgFault) → met_fault b ≡ Some f → MeetsRefusal (source.left s0) (any_left b) f
  met-is f is = subst (λ x. MeetsRefusal (source.left x) (any_left b) f) start_is (stands.met f is)

  module _ (w : Wanted) (old new : Option (List ℕ)) (result : Result (List ℕ) ReplayError) (law : (bytes : List ℕ) → HasHeader bytes) (none0 : met_fault a ≡ None)
      (comes : (bytes : List ℕ) → bytes_under (made_for w.output) (any_left a) ≡ Some bytes → Replays w bytes old new result)
      (made : made_for w.output ≢ None → b ≡ a)
      (ended : made_for w.output ≡ None → IsOk result ⊎ IsErrOf result Replay.Heavy → any_ended b)
      (begun : made_for w.output ≡ None → is_forward w.output ≡ false → ((new ≡ old) × (IsErrOf result Replay.WriteFault → ⊥)) ⊎ any_ended b)
      (cut : made_for w.output ≡ None → IsErrOf result Replay.ReadFault → (bytes : List ℕ) → any_left a ≡ Some bytes → any_left b ≡ Some [] → AreUnrefused bytes) where
    some-fault : (o : Option NgFault) → o ≢ None → (f : NgFault) × (o ≡ Some f)
    some-fault None some = absurd (some refl)
    some-fault (Some f) some = (f, refl)

    comes-by : (make : Option ℕ) → made_for w.output ≡ make → (file : Given) → given_under make (source.left s0) ≡ Some file → RunsUnder (Asked w file) old new (explained (met_fault b) result)
    comes-by None is file told =
        let bytes_are : any_left a ≡ Some file.bytes = left0 ∙ given-by (source.left s0) file told in
        over_given w file.bytes old new file.refusal (met_fault b) result
        (λ f met. (met-by (source.left s0) (any_left b) file f told (met-is f met)).0)
        (long-by law (source.left s0) file told)
        (λ which. whole-by (source.left s0) (source.left (any_source b)) file told (whole_is (ended is which)))
        (λ kept. ⊎_elim (λ idle. inl idle) (λ end. inr (whole-by (source.left s0) (source.left (any_source b)) file told (whole_is end))) (begun is kept))
        (λ fault some. let f = some-fault (met_fault b) some in cut is fault file.bytes bytes_are (met-by (source.left s0) (any_left b) file f.0 told (met-is f.0 f.1)).1)
        (comes file.bytes (ap (λ m. bytes_under m (any_left a)) is ∙ bytes_are))
    comes-by (Some n) is file told =
        let same : whole (made_bytes n) ≡ file = cc in
        let none : met_fault b ≡ None = ap (λ x. met_fault x) (made (λ bad. let both = sym is ∙ bad in cc)) ∙ none0 in
        subst (λ g. RunsUnder (Asked w g) old new (explained (met_fault b) result)) same
        (over_given w (made_bytes n) old new None (met_fault b) result
        (λ f met. absurd (let both = sym none ∙ met in cc)) (λ some. absurd (some refl)) (λ which. refl) (λ kept. inr refl) (λ fault some. absurd (some none))
        (comes (made_bytes n) (ap (λ m. bytes_under m (any_left a)) is)))

    pub file_comes : (file : Given) → given_under (made_for w.output) (source.left s0) ≡ Some file → RunsUnder (Asked w file) old new (explained (met_fault b) result)
    file_comes file told = comes-by (made_for w.output) refl file told
