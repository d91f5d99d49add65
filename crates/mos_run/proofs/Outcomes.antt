-- What a run comes to, where the words, the shelf and the capture are told.
use Rattle.std.proofs.Common.{◌≡◌, ◌≢◌, ℕ, Bool, true, false, List, [], take, Option, Some, None, Result, Ok, Err, refl, sym, ap, subst, ◌∙◌, append-nil, inl, inr}
use Rattle.std.specs.Prelude.{◌⊎◌, if◌then◌else◌, ◌++◌, option_map, option_and_then, is_ok, not, IsTrue, ⊤}
use Rattle.std.specs.List.{list_all}
use Rattle.std.specs.Option.{option_map_or}
use Rattle.control_script.specs.Versions.{is_live}
use Rattle.mos_bytes.specs.Writes.{AppendsFront}
use Rattle.mos_bytes.proofs.Writes.{AppendsFront-nil, AppendsFront-whole}
use Rattle.app_api.specs.App.{Meaning}
use Rattle.pcap_source.specs.Captured.{Captured}
use Rattle.pcap_source.specs.Capture.{Frames, Ending, tail, too_long, too_many, capture_of}
use Rattle.pcap_source.specs.declared.errors.CaptureFault.TheVariants as Fault
use Rattle.pcap_source.specs.declared.errors.OpenError.{OpenError}
use Rattle.pcapng_source.specs.Given.{Given}
use Rattle.pcapng_source.specs.declared.fault.NgFault.{NgFault}
use Rattle.control_script.specs.declared.stamped.Stamped.{Stamped}
use Rattle.control_script.specs.Order.{are_in_order}
use Rattle.words.specs.declared.settings.Emit.{Emit}
use Rattle.words.specs.declared.settings.Settings.{Settings}
use Rattle.words.specs.declared.settings.WordsError.{WordsError}
use Rattle.words.specs.declared.settings.WordsError.TheVariants as Words
use Rattle.lane_core.specs.Records.{VersionedPacket}
use Rattle.capture_replay.specs.declared.output.Output.{Output}
use Rattle.capture_replay.specs.declared.output.Output.TheVariants.{Report}
use Rattle.capture_replay.specs.declared.refusal.ReplayError.{ReplayError}
use Rattle.capture_replay.specs.declared.refusal.ReplayError.TheVariants as Replay
use Rattle.mos_run.specs.declared.refusal.RunError.{RunError}
use Rattle.mos_run.specs.declared.refusal.RunError.TheVariants as Run
use Rattle.capture_replay.specs.Records.{packets_of, packets_with, records_of, versions_of, frames_in}
use Rattle.capture_replay.specs.Forward.{forwarded}
use Rattle.capture_replay.specs.Outcome.{Outcome, refused, outcome_by, followed, streamed, ended, is_forward, is_heavy, made_for, output_by, output_of, outcome_over}
use Rattle.mos_run.specs.Outcome.{StopsAs, followed_in_file, outcome, outcome_in_file, told_as}
use Rattle.mos_run.specs.Request.{Request, Refused, Asked, Allows, AreAllowed, Wanted, asked, given_under, outcome_under, requested, wanted}
use Rattle.mos_run.specs.Script.{commands_in}
use Rattle.mos_run.specs.Refusal.{file_refusal, status_of, words_refusal}
use Rattle.capture_replay.specs.Runs.{Finishes, RunsAs, StopsAs as ReplayStopsAs, bytes_under}
use Rattle.capture_replay.specs.Typed.{ReportIsTyped, WritesTyped}
use Rattle.mos_run.specs.Runs.{ReplayFinishes, Replays}
use Rattle.mos_run.specs.Run.{FinishesUnder, RunsUnder, EndsAs, EndsWell, UnderSome}
use Rattle.capture_replay.specs.Lanes.{RunsWith}
use Rattle.capture_replay.specs.Laws.{ceilings_of, CeilingsMayBeHad, CeilingsAreOneWorkers, CeilingsForwardTheSame, OneListIsAllowed}
use Rattle.mos_run.proofs.Scripts.{commands_order}

refused-request : (app : Meaning) (content : List ℕ → Option (List ℕ)) (left : Option (List ℕ)) → requested app None content left ≡ Some (Refused Run.Usage)
unfolding requested
refused-request app content left = refl

accepted-request : (app : Meaning) (s : Settings) (content : List ℕ → Option (List ℕ)) (left : Option (List ℕ))
    → requested app (Some s) content left ≡ option_and_then (λ text. asked app s left (commands_in app text)) (option_map_or content s.script (Some []))
unfolding requested
accepted-request app s content left = refl

-- ---- what is told, step by step

-- accepted words have a text that was told, under which it is told what to do
pub record IsUnderText (app : Meaning) (s : Settings) (content : List ℕ → Option (List ℕ)) (left : Option (List ℕ)) (t : Request) : Type 0 where
  pub text : List ℕ
  pub told_so : option_map_or content s.script (Some []) ≡ Some text
  pub comes_to : asked app s left (commands_in app text) ≡ Some t

under-by : (app : Meaning) (s : Settings) (content : List ℕ → Option (List ℕ)) (left : Option (List ℕ)) (t : Request) (text : Option (List ℕ)) → option_map_or content s.script (Some []) ≡ text
    → option_and_then (λ text. asked app s left (commands_in app text)) text ≡ Some t → IsUnderText app s content left t
under-by app s content left t None is comes = absurd (cc)
under-by app s content left t (Some text) is comes = record { text = text; told_so = is; comes_to = comes }

pub under_text : (app : Meaning) (settings : Option Settings) (content : List ℕ → Option (List ℕ)) (left : Option (List ℕ)) (t : Request) (s : Settings)
    → settings ≡ Some s → requested app settings content left ≡ Some t → IsUnderText app s content left t
under_text app settings content left t s accepted is =
    under-by app s content left t (option_map_or content s.script (Some [])) refl
    (sym (ap (λ x. requested app x content left) accepted ∙ accepted-request app s content left) ∙ is)

-- an accepted script has a capture that was told
pub record IsOver (app : Meaning) (s : Settings) (left : Option (List ℕ)) (commands : List Stamped) (t : Request) : Type 0 where
  pub file : Given
  pub told_so : given_under (made_for (output_of s)) left ≡ Some file
  pub comes_to : Asked (wanted app s commands) file ≡ t

over-by : (app : Meaning) (s : Settings) (left : Option (List ℕ)) (commands : List Stamped) (t : Request) (g : Option Given) → given_under (made_for (output_of s)) left ≡ g
    → option_map (Asked (wanted app s commands)) g ≡ Some t → IsOver app s left commands t
over-by app s left commands t None is comes = absurd (cc)
over-by app s left commands t (Some file) is comes = record { file = file; told_so = is; comes_to = cc }

made-same : (make : Option ℕ) (emit : Emit) → made_for (output_by make emit) ≡ make
made-same (Some n) emit = refl
made-same None Emit.Report = refl
made-same None Emit.Forward = refl
made-same None Emit.Summary = refl

pub over_file : (app : Meaning) (s : Settings) (content : List ℕ → Option (List ℕ)) (left : Option (List ℕ)) (t : Request) (commands : List Stamped)
    → (u : IsUnderText app s content left t) → commands_in app u.text ≡ Ok commands → IsOver app s left commands t
over_file app s content left t commands u accepted =
    over-by app s left commands t (given_under s.make left) (ap (λ make. given_under make left) (made-same s.make s.emit)) (sym (ap (asked app s left) accepted) ∙ u.comes_to)

-- a refused script
pub refused_text : (app : Meaning) (s : Settings) (content : List ℕ → Option (List ℕ)) (left : Option (List ℕ)) (t : Request) (e : RunError)
    → (u : IsUnderText app s content left t) → commands_in app u.text ≡ Err e → Refused e ≡ t
refused_text app s content left t e u refusal = let same = sym (ap (asked app s left) refusal) ∙ u.comes_to in cc

-- where words and script are accepted, nothing is refused
pub not_refused : (app : Meaning) (settings : Option Settings) (content : List ℕ → Option (List ℕ)) (left : Option (List ℕ)) (s : Settings) (commands : List Stamped) (e : RunError)
    → settings ≡ Some s → ((text : List ℕ) → option_map_or content s.script (Some []) ≡ Some text → commands_in app text ≡ Ok commands)
    → requested app settings content left ≡ Some (Refused e) → ⊥
not_refused app settings content left s commands e accepted read is =
    let u = under_text app settings content left (Refused e) s accepted is in
    let over = (over_file app s content left (Refused e) commands u (read u.text u.told_so)).comes_to in
    cc

-- ---- there are versions that a run may have

pub record HasSome (t : Request) : Type 0 where
  pub versions : List ℕ
  pub allowed : Allows t versions

pub ceilings_are_allowed : CeilingsMayBeHad → (w : Wanted) (bytes : List ℕ) → are_in_order w.commands ≡ true → AreAllowed w bytes (ceilings_of w.app w.commands bytes)
ceilings_are_allowed law w bytes ordered = record { may_have = law w.app w.commands w.workers bytes ordered; with_one = λ one. refl }

some-under : CeilingsMayBeHad → (app : Meaning) (s : Settings) (content : List ℕ → Option (List ℕ)) (left : Option (List ℕ)) (t : Request)
    (commands : Result (List Stamped) RunError) → (u : IsUnderText app s content left t)
    → commands_in app u.text ≡ commands → HasSome t
some-under law app s content left t (Err e) u is = subst HasSome (refused_text app s content left t e u is) (record { versions = []; allowed = tt })
some-under law app s content left t (Ok commands) u is =
    let over = over_file app s content left t commands u is in
    subst HasSome over.comes_to (record {
      versions = ceilings_of app commands over.file.bytes;
      allowed = ceilings_are_allowed law (wanted app s commands) over.file.bytes (commands_order app u.text commands is);
    })

some-by : CeilingsMayBeHad → (app : Meaning) (settings : Option Settings) (content : List ℕ → Option (List ℕ)) (left : Option (List ℕ)) (t : Request)
    → requested app settings content left ≡ Some t → HasSome t
some-by law app None content left t is =
    let same : Refused Run.Usage ≡ t = let both = sym (refused-request app content left) ∙ is in cc in
    subst HasSome same (record { versions = []; allowed = tt })
some-by law app (Some s) content left t is =
    let u = under_text app (Some s) content left t s refl is in
    some-under law app s content left t (commands_in app u.text) u refl

pub has_some : CeilingsMayBeHad → (app : Meaning) (settings : Option Settings) (content : List ℕ → Option (List ℕ)) (left : Option (List ℕ)) (t : Request)
    → requested app settings content left ≡ Some t → HasSome t
has_some law app settings content left t is = some-by law app settings content left t is

-- ---- runs that end before a packet is read

pub stops_early : (t : Request) (old : Option (List ℕ)) (e : RunError) → HasSome t → (e ≡ Run.ReadFault) ⊎ (e ≡ Run.NoMemory) → RunsUnder t old old (Err e)
stops_early t old e some (inl fault) = record { versions = some.versions; allowed = some.allowed; holds = (inr (inl fault), AppendsFront-nil old _) }
stops_early t old e some (inr memory) = record { versions = some.versions; allowed = some.allowed; holds = (inr (inr (inl memory)), AppendsFront-nil old _) }

stops-refused : (t : Request) (old : Option (List ℕ)) (e : RunError) → Refused e ≡ t → RunsUnder t old old (Err e)
stops-refused t old e same = subst (λ x. RunsUnder x old old (Err e)) same (record { versions = []; allowed = tt; holds = (inl refl, AppendsFront-nil old []) })

-- words that are refused, or for which there is no memory
pub refused_words : CeilingsMayBeHad → (app : Meaning) (settings : Option Settings) (content : List ℕ
    → Option (List ℕ)) (left old : Option (List ℕ)) (t : Request) (e : WordsError) → (e ≡ Words.Usage → settings ≡ None) → requested app settings content left ≡ Some t
    → RunsUnder t old old (Err (words_refusal e))
refused_words law app settings content left old t Words.Usage usage is =
    stops-refused t old Run.Usage (let both = sym (ap (λ x. requested app x content left) (usage refl) ∙ refused-request app content left) ∙ is in cc)
refused_words law app settings content left old t Words.NoMemory usage is = stops_early t old Run.NoMemory (has_some law app settings content left t is) (inr refl)

-- a script that is refused, or can't be fetched
pub refused_script : (app : Meaning) (s : Settings) (content : List ℕ → Option (List ℕ)) (left old : Option (List ℕ)) (t : Request) (e : RunError) → HasSome t → (u : IsUnderText app s content left t)
    → (commands_in app u.text ≡ Err e) ⊎ (e ≡ Run.ReadFault) ⊎ (e ≡ Run.NoMemory) → RunsUnder t old old (Err e)
refused_script app s content left old t e some u (inl refusal) = stops-refused t old e (refused_text app s content left t e u refusal)
refused_script app s content left old t e some u (inr other) = stops_early t old e some other

-- ---- a run of one worker, and one of several

module _ (app : Meaning) (script : List Stamped) (given : List Captured → List VersionedPacket) (output : Output) (versions : List ℕ) where
  weighed-versions : (header : List ℕ) (frames : List Captured) (n : ℕ) (heavy : Bool) → (if heavy then refused Replay.Heavy else ended app script given output header frames n).ends ≡ Ok versions
      → versions ≡ versions_of (records_of app script given frames)
  weighed-versions header frames n true ends = absurd (cc)
  weighed-versions header frames n false ends = cc

  followed-versions : (header : List ℕ) (frames : List Captured) (ending : Ending)
      → (followed app script given output header frames ending).ends ≡ Ok versions → versions ≡ versions_of (records_of app script given frames)
  followed-versions header frames (tail n) ends = weighed-versions header frames n (is_heavy app script given output frames) ends
  followed-versions header frames (too_long offset) ends = absurd (cc)
  followed-versions header frames (too_many offset) ends = absurd (cc)

  versions-by : (header : List ℕ) (capture : Result Frames OpenError) → (outcome_by app script given output header capture).ends ≡ Ok versions
      → versions ≡ versions_of (records_of app script given (frames_in capture))
  versions-by header (Ok f) ends = followed-versions header f.frames f.ending ends
  versions-by header (Err e) ends = absurd (cc)

  -- what ends well answers the versions of its records
  pub answers_its_own : (bytes : List ℕ) → (outcome_over app script given output bytes).ends ≡ Ok versions → versions ≡ versions_of (records_of app script given (frames_in (capture_of bytes)))
  unfolding outcome_over
  answers_its_own bytes ends = versions-by (take 24 bytes) (capture_of bytes) ends

-- its report has its types
abbrev pub AnswersTyped : Wanted → List ℕ → Result (List ℕ) ReplayError → Type 0
AnswersTyped w bytes (Ok versions) = w.output ≡ Report → ReportIsTyped w.app w.commands (packets_with w.app w.commands versions) bytes
AnswersTyped w bytes (Err e) = ⊤

-- a report isn't of a capture that is made
pub answers_typed : (w : Wanted) (left : Option (List ℕ)) (bytes : List ℕ) (result : Result (List ℕ) ReplayError) → WritesTyped w.app w.commands w.output left result
    → bytes_under (made_for w.output) left ≡ Some bytes → AnswersTyped w bytes result
answers_typed w left bytes (Ok versions) typed told = λ report. typed report bytes (ap (λ o. bytes_under (made_for o) left) (sym report) ∙ told)
answers_typed w left bytes (Err e) typed told = tt

module _ (w : Wanted) (bytes : List ℕ) (old new : Option (List ℕ)) where
  pub under_one : CeilingsMayBeHad → CeilingsAreOneWorkers → are_in_order w.commands ≡ true → (result : Result (List ℕ) ReplayError)
      → RunsAs (outcome_over w.app w.commands (packets_of w.commands) w.output bytes) old new result → AnswersTyped w bytes result → Replays w bytes old new result
  under_one law same ordered (Ok versions) done typed =
      let vs = ceilings_of w.app w.commands bytes in
      let is : versions ≡ vs = answers_its_own w.app w.commands (packets_of w.commands) w.output versions bytes done.answered in
      let all : ReplayFinishes w bytes vs old new = record {
        allowed = ceilings_are_allowed law w bytes ordered;
        finishes = subst (λ o. Finishes o vs old new) (sym (same w.app w.commands w.output bytes))
            (subst (λ l. Finishes (outcome_over w.app w.commands (packets_of w.commands) w.output bytes) l old new) is done);
        typed = subst (λ l. w.output ≡ Report → ReportIsTyped w.app w.commands (packets_with w.app w.commands l) bytes) is typed;
      } in
      subst (λ l. ReplayFinishes w bytes l old new) (sym is) all
  under_one law same ordered (Err e) stops typed =
      let is = sym (same w.app w.commands w.output bytes) in
      record {
        versions = ceilings_of w.app w.commands bytes;
        allowed = ceilings_are_allowed law w bytes ordered;
        stops = subst (λ o. ReplayStopsAs o e) is stops.0;
        front = subst (λ o. AppendsFront old new o.text) is stops.1;
      }

  pub under_several : w.workers ≢ 1 → (result : Result (List ℕ) ReplayError)
      → RunsWith w.app w.commands w.workers w.output bytes old new result → AnswersTyped w bytes result → Replays w bytes old new result
  under_several many (Ok versions) done typed = record {
    allowed = record { may_have = done.may_have; with_one = λ one. absurd (many one) };
    finishes = done.finishes;
    typed = typed;
  }
  under_several many (Err e) stops typed = record {
    versions = stops.versions;
    allowed = record { may_have = stops.may_have; with_one = λ one. absurd (many one) };
    stops = stops.stops;
    front = stops.front;
  }

-- ---- the ceilings over a file

module _ (app : Meaning) (script : List Stamped) (one two : List Captured → List VersionedPacket) (output : Output) (header : List ℕ) (fault : NgFault) where
  streamed-same : (frames : List Captured) → forwarded app script one frames ≡ forwarded app script two frames
      → streamed app script one output header frames ≡ streamed app script two output header frames
  streamed-same frames same = ap (λ l. if is_forward output then header ++ l else []) same

  followed-same : (frames : List Captured) (ending : Ending) → forwarded app script one frames ≡ forwarded app script two frames
      → followed_in_file app script one output header frames ending fault ≡ followed_in_file app script two output header frames ending fault
  followed-same frames (tail n) same = ap (λ l. record { text = l; ends = Err (file_refusal fault) }) (streamed-same frames same)
  followed-same frames (too_long offset) same = ap (λ l. record { text = l; ends = Err (Run.Capture Fault.TooLong offset) }) (streamed-same frames same)
  followed-same frames (too_many offset) same = ap (λ l. record { text = l; ends = Err (Run.TooMany offset) }) (streamed-same frames same)

  refused-same : (capture : Result Frames OpenError) → forwarded app script one (frames_in capture) ≡ forwarded app script two (frames_in capture)
      → outcome_in_file app script one output header capture (Some fault) ≡ outcome_in_file app script two output header capture (Some fault)
  refused-same (Ok f) same = followed-same f.frames f.ending same
  refused-same (Err e) same = refl

-- a run under them over a file is that of one worker
module _ (same : CeilingsAreOneWorkers) (forwards : CeilingsForwardTheSame) (app : Meaning) (script : List Stamped) (output : Output) (bytes : List ℕ) where
  abbrev low : List Captured → List VersionedPacket
  low = packets_with app script (ceilings_of app script bytes)

  same-bytes : outcome_by app script low output (take 24 bytes) (capture_of bytes) ≡ outcome_by app script (packets_of script) output (take 24 bytes) (capture_of bytes)
  unfolding outcome_over
  same-bytes = same app script output bytes

  pub same_in_file : (refusal : Option NgFault)
      → outcome app script low output (record { bytes = bytes; refusal = refusal }) ≡ outcome app script (packets_of script) output (record { bytes = bytes; refusal = refusal })
  unfolding outcome
  same_in_file None = ap told_as same-bytes
  same_in_file (Some fault) = refused-same app script low (packets_of script) output (take 24 bytes) fault (capture_of bytes) (forwards app script bytes)

-- ---- a run without live commands

asked-order : (app : Meaning) (s : Settings) (content : List ℕ → Option (List ℕ)) (left : Option (List ℕ)) (w : Wanted) (file : Given) (r : Result (List Stamped) RunError)
    → (u : IsUnderText app s content left (Asked w file)) → commands_in app u.text ≡ r → are_in_order w.commands ≡ true
asked-order app s content left w file (Err e) u is = absurd (let refused = refused_text app s content left (Asked w file) e u is in cc)
asked-order app s content left w file (Ok found) u is =
    let over = (over_file app s content left (Asked w file) found u is).comes_to in
    let same : wanted app s found ≡ w = cc in
    subst (λ x. are_in_order x.commands ≡ true) same (commands_order app u.text found is)

order-by : (app : Meaning) (settings : Option Settings) (content : List ℕ → Option (List ℕ)) (left : Option (List ℕ)) (w : Wanted) (file : Given)
    → requested app settings content left ≡ Some (Asked w file) → are_in_order w.commands ≡ true
order-by app None content left w file is = absurd (let both = sym (refused-request app content left) ∙ is in cc)
order-by app (Some s) content left w file is =
    let u = under_text app (Some s) content left (Asked w file) s refl is in
    asked-order app s content left w file (commands_in app u.text) u refl

-- it ends well as that of one worker
pub finishes_alone : CeilingsAreOneWorkers → CeilingsForwardTheSame → OneListIsAllowed → (app : Meaning) (settings : Option Settings) (content : List ℕ → Option (List ℕ)) (left : Option (List ℕ)) (w : Wanted) (file : Given)
    (versions : List ℕ) (old new : Option (List ℕ)) → requested app settings content left ≡ Some (Asked w file) → FinishesUnder (Asked w file) versions old new
    → IsTrue (list_all (λ s. not (is_live s.stamp)) w.commands) → Finishes (outcome w.app w.commands (packets_of w.commands) w.output file) versions old new
finishes_alone same forwards known app settings content left w file versions old new is done stamped =
    let ordered = order-by app settings content left w file is in
    let ceilings : versions ≡ ceilings_of w.app w.commands file.bytes = known w.app w.commands w.workers file.bytes versions ordered stamped done.allowed.may_have in
    subst (λ o. Finishes o versions old new)
    (ap (λ vs. outcome w.app w.commands (packets_with w.app w.commands vs) w.output file) ceilings ∙ same_in_file same forwards w.app w.commands w.output file.bytes file.refusal) done.finishes

-- ---- the status

-- what holds of an outcome holds of it under some versions
pub under_more : (t : Request) (P Q : Outcome RunError → Type 0) → ((o : Outcome RunError) → P o → Q o) → UnderSome t P → UnderSome t Q
under_more t P Q more u = record { versions = u.versions; allowed = u.allowed; holds = more (outcome_under u.versions t) u.holds }

-- what was told of an error, or want of memory in its place
pub ends_as : (o : Outcome RunError) (e : RunError) (status : ℕ) → StopsAs o e → (status ≡ status_of e) ⊎ (status ≡ 6) → EndsAs o status
ends_as o e status stops (inl is) = inr (e, stops, is)
ends_as o e status stops (inr memory) = inr (Run.NoMemory, inr (inr (inl refl)), memory)

pub stops_or_memory : (o : Outcome RunError) (e told : RunError) → StopsAs o e → (told ≡ e) ⊎ (told ≡ Run.NoMemory) → StopsAs o told
stops_or_memory o e told stops (inl same) = subst (StopsAs o) (sym same) stops
stops_or_memory o e told stops (inr memory) = inr (inr (inl memory))

-- the text that was written whole
pub whole_front : (o : Outcome RunError) (versions : List ℕ) (old new : Option (List ℕ)) → Finishes o versions old new → AppendsFront old new o.text
whole_front o versions old new done = subst (AppendsFront old new) (append-nil o.text) (AppendsFront-whole old new o.text [] done.written)

-- a run that finished has ended well
pub ends_well : (t : Request) (versions : List ℕ) (old new : Option (List ℕ)) (status : ℕ) → status ≡ 0 → FinishesUnder t versions old new → UnderSome t (λ o. EndsAs o status)
ends_well t versions old new status zero done = record {
  versions = versions;
  allowed = done.allowed;
  holds = inl (ap is_ok done.finishes.answered, zero);
}

-- what ends well stops only by a fault, or for want of memory
pub ends_whole : (t : Request) (e : RunError) (status : ℕ) (P : Outcome RunError → Type 0) → EndsWell t → UnderSome t (λ o. StopsAs o e × P o) → (e ≡ Run.ReadFault → ⊥) → (e ≡ Run.WriteFault → ⊥)
    → (status ≡ status_of e) ⊎ (status ≡ 6) → (status ≡ 0) ⊎ (status ≡ 6)
ends_whole t e status P well u read write (inr memory) = inr memory
ends_whole t e status P well u read write (inl is) = by u.holds.0
  where
    by : StopsAs (outcome_under u.versions t) e → (status ≡ 0) ⊎ (status ≡ 6)
    by (inl err) = absurd (let ok = well u.versions u.allowed in let bad = sym (ap is_ok err) ∙ ok in cc)
    by (inr (inl fault)) = absurd (read fault)
    by (inr (inr (inl memory))) = inr (is ∙ ap status_of memory)
    by (inr (inr (inr fault))) = absurd (write fault.0)
