-- A run under what words chose: from one over a file, up to how it ended.
use Rattle.std.proofs.Common.{◌≡◌, ◌≢◌, ℕ, ◌<◌, ◌≤◌, List, [], Option, Some, None, Result, Ok, Err, refl, sym, ap, subst, ◌∙◌, arith, inl, inr}
use Rattle.std.specs.Prelude.{◌⊎◌, IsErr, IfErr, IsErrOf}
use Rattle.mos_bytes.specs.Causes.{Rose}
use Rattle.mos_bytes.specs.Writes.{AppendsFront}
use Rattle.mos_bytes.specs.declared.source.Source.{Ghosts as Source}
use Rattle.mos_bytes.specs.declared.shelf.Shelf.{Ghosts as Shelf}
use Rattle.mos_bytes.specs.declared.sink.Sink.{Ghosts as Sink}
use Rattle.app_api.specs.App.{Meaning}
use Rattle.control_script.specs.declared.stamped.Stamped.{Stamped}
use Rattle.words.specs.declared.settings.Settings.{Settings}
use Rattle.words.specs.declared.settings.WordsError.{WordsError}
use Rattle.words.specs.declared.settings.WordsError.TheVariants as Words
use Rattle.capture_replay.specs.Laws.{CeilingsMayBeHad}
use Rattle.capture_replay.specs.declared.plan.Task.{Task}
use Rattle.capture_replay.specs.Outcome.{made_for, output_of}
use Rattle.mos_run.specs.declared.ended.Ended.{Ended}
use Rattle.mos_run.specs.declared.refusal.RunError.{RunError}
use Rattle.mos_run.specs.declared.refusal.RunError.TheVariants as Run
use Rattle.mos_run.specs.Outcome.{StopsAs}
use Rattle.mos_run.specs.Refusal.{status_of, words_refusal}
use Rattle.mos_run.specs.Request.{Refused, Request, Wanted, requested, wanted}
use Rattle.mos_run.specs.Run.{ComesBefore, EndsAs, Promised, RanUnder, RunsUnder, TellsOf, outside}
use Rattle.mos_run.specs.Runs.{RunsOverFile, RunsUnderSettings, wanted_by}
use Rattle.mos_run.proofs.Outcomes.{ends_as, ends_well, ends_whole, refused_words, stops_or_memory, under_more, whole_front}

-- ---- what is wanted

pub wanted_is : {A : Type 0} (meaning : A → Meaning) (task : Task A) (app : A) (s : Settings) (commands : List Stamped)
    → task.app ≡ app → task.script.now ≡ commands → task.output ≡ output_of s → task.workers ≡ s.workers → wanted_by meaning task ≡ wanted (meaning app) s commands
wanted_is meaning task app s commands one two three four = cc (ap meaning one, two, three, four)

-- ---- statuses

some-same : {T : Type 0} (a b : T) → Some a ≡ Some b → a ≡ b
some-same a b is = cc

err-same : (a b : RunError) → IsErrOf {T = List ℕ} (Err a) b → a ≡ b
err-same a b is = cc

late-of : (result : Result (List ℕ) RunError) (e : RunError) → IfErr result (λ e. 2 < status_of e) → IsErrOf result e → 2 < status_of e
late-of (Ok versions) e late is = absurd (cc)
late-of (Err x) e late is = let same : x ≡ e = cc in subst (λ y. 2 < status_of y) same late

later : (P : RunError → Type 0) → ((e : RunError) → 2 < status_of e → P e) → (result : Result (List ℕ) RunError) → IfErr result (λ e. 2 < status_of e) → IfErr result P
later P more (Ok versions) late = tt
later P more (Err e) late = more e late

some-status : (e : RunError) → 0 < status_of e
some-status Run.Usage = omega arith
some-status Run.ScriptTooLong = omega arith
some-status (Run.Script fault line) = omega arith
some-status (Run.Capture fault offset) = omega arith
some-status (Run.BadBlock offset) = omega arith
some-status (Run.TooMany offset) = omega arith
some-status (Run.TooManyBlocks offset) = omega arith
some-status (Run.TooManyInterfaces offset) = omega arith
some-status Run.Heavy = omega arith
some-status Run.ReadFault = omega arith
some-status Run.WriteFault = omega arith
some-status Run.NoMemory = omega arith

-- the statuses that one refusal has alone
usage-by : (e : RunError) → status_of e ≡ 1 → e ≡ Run.Usage
usage-by Run.Usage is = refl
usage-by Run.ScriptTooLong is = absurd (omega (arith, is))
usage-by (Run.Script fault line) is = absurd (omega (arith, is))
usage-by (Run.Capture fault offset) is = absurd (omega (arith, is))
usage-by (Run.BadBlock offset) is = absurd (omega (arith, is))
usage-by (Run.TooMany offset) is = absurd (omega (arith, is))
usage-by (Run.TooManyBlocks offset) is = absurd (omega (arith, is))
usage-by (Run.TooManyInterfaces offset) is = absurd (omega (arith, is))
usage-by Run.Heavy is = absurd (omega (arith, is))
usage-by Run.ReadFault is = absurd (omega (arith, is))
usage-by Run.WriteFault is = absurd (omega (arith, is))
usage-by Run.NoMemory is = absurd (omega (arith, is))

read-by : (e : RunError) → status_of e ≡ 4 → e ≡ Run.ReadFault
read-by Run.Usage is = absurd (omega (arith, is))
read-by Run.ScriptTooLong is = absurd (omega (arith, is))
read-by (Run.Script fault line) is = absurd (omega (arith, is))
read-by (Run.Capture fault offset) is = absurd (omega (arith, is))
read-by (Run.BadBlock offset) is = absurd (omega (arith, is))
read-by (Run.TooMany offset) is = absurd (omega (arith, is))
read-by (Run.TooManyBlocks offset) is = absurd (omega (arith, is))
read-by (Run.TooManyInterfaces offset) is = absurd (omega (arith, is))
read-by Run.Heavy is = absurd (omega (arith, is))
read-by Run.ReadFault is = refl
read-by Run.WriteFault is = absurd (omega (arith, is))
read-by Run.NoMemory is = absurd (omega (arith, is))

write-by : (e : RunError) → status_of e ≡ 5 → e ≡ Run.WriteFault
write-by Run.Usage is = absurd (omega (arith, is))
write-by Run.ScriptTooLong is = absurd (omega (arith, is))
write-by (Run.Script fault line) is = absurd (omega (arith, is))
write-by (Run.Capture fault offset) is = absurd (omega (arith, is))
write-by (Run.BadBlock offset) is = absurd (omega (arith, is))
write-by (Run.TooMany offset) is = absurd (omega (arith, is))
write-by (Run.TooManyBlocks offset) is = absurd (omega (arith, is))
write-by (Run.TooManyInterfaces offset) is = absurd (omega (arith, is))
write-by Run.Heavy is = absurd (omega (arith, is))
write-by Run.ReadFault is = absurd (omega (arith, is))
write-by Run.WriteFault is = refl
write-by Run.NoMemory is = absurd (omega (arith, is))

-- one of the statuses that are told is not that of want of memory
told-own : (e : RunError) (status n : ℕ) → (status ≡ status_of e) ⊎ (status ≡ 6) → status ≡ n → n ≢ 6 → status_of e ≡ n
told-own e status n (inl is) same other = sym is ∙ same
told-own e status n (inr is) same other = absurd (other (sym same ∙ is))

told-some : (e : RunError) (status : ℕ) → (status ≡ status_of e) ⊎ (status ≡ 6) → status ≢ 0
told-some e status (inl is) none = let some = some-status e in omega (arith, is, none, some)
told-some e status (inr is) none = omega (arith, is, none)

not-before : (status n : ℕ) → ComesBefore status → status ≡ n → (n ≡ 0) ⊎ (n ≡ 5) ⊎ (n ≡ 6) → ⊥
not-before status n (inl is) same which = none which
  where
    none : (n ≡ 0) ⊎ (n ≡ 5) ⊎ (n ≡ 6) → ⊥
    none (inl it) = omega (arith, is, same, it)
    none (inr (inl it)) = omega (arith, is, same, it)
    none (inr (inr it)) = omega (arith, is, same, it)
not-before status n (inr (inl is)) same which = none which
  where
    none : (n ≡ 0) ⊎ (n ≡ 5) ⊎ (n ≡ 6) → ⊥
    none (inl it) = omega (arith, is, same, it)
    none (inr (inl it)) = omega (arith, is, same, it)
    none (inr (inr it)) = omega (arith, is, same, it)
not-before status n (inr (inr (inl is))) same which = none which
  where
    none : (n ≡ 0) ⊎ (n ≡ 5) ⊎ (n ≡ 6) → ⊥
    none (inl it) = omega (arith, is, same, it)
    none (inr (inl it)) = omega (arith, is, same, it)
    none (inr (inr it)) = omega (arith, is, same, it)
not-before status n (inr (inr (inr (inl is)))) same which = none which
  where
    none : (n ≡ 0) ⊎ (n ≡ 5) ⊎ (n ≡ 6) → ⊥
    none (inl it) = omega (arith, is, same, it)
    none (inr (inl it)) = omega (arith, is, same, it)
    none (inr (inr it)) = omega (arith, is, same, it)
not-before status n (inr (inr (inr (inr is)))) same which = none which
  where
    none : (n ≡ 0) ⊎ (n ≡ 5) ⊎ (n ≡ 6) → ⊥
    none (inl it) = omega (arith, is, same, it)
    none (inr (inl it)) = omega (arith, is, same, it)
    none (inr (inr it)) = omega (arith, is, same, it)

early : (status : ℕ) → (status ≡ 1) ⊎ (status ≡ 2) → (status ≡ 0) ⊎ (status ≡ 6) → ⊥
early status (inl is) (inl it) = omega (arith, is, it)
early status (inl is) (inr it) = omega (arith, is, it)
early status (inr is) (inl it) = omega (arith, is, it)
early status (inr is) (inr it) = omega (arith, is, it)

below-three : (e : RunError) (status : ℕ) → (status ≡ status_of e) ⊎ (status ≡ 6) → (status ≡ 1) ⊎ (status ≡ 2) → status_of e < 3
below-three e status (inl is) (inl it) = omega (arith, is, it)
below-three e status (inl is) (inr it) = omega (arith, is, it)
below-three e status (inr is) which = absurd (early status which (inr is))

pub over_as : {S O : Type 0} (source : Source S) (sink : Sink O) (v w : Wanted) → v ≡ w → (s t : S) (o p : O) (result : Result (List ℕ) RunError)
    → RunsOverFile source sink v s t o p result → RunsOverFile source sink w s t o p result
over_as source sink v w same s t o p result ran = subst (λ x. RunsOverFile source sink x s t o p result) same ran

-- ---- a script that is refused, or can't be fetched

early-usage : (e : RunError) → (status_of e ≡ 2) ⊎ (e ≡ Run.ReadFault) ⊎ (e ≡ Run.NoMemory) → e ≡ Run.Usage → ⊥
early-usage e (inl two) is = let one : status_of e ≡ 1 = ap status_of is in omega (arith, one, two)
early-usage e (inr (inl fault)) is = let both = sym fault ∙ is in cc
early-usage e (inr (inr memory)) is = let both = sym memory ∙ is in cc

early-write : (e : RunError) → (status_of e ≡ 2) ⊎ (e ≡ Run.ReadFault) ⊎ (e ≡ Run.NoMemory) → e ≡ Run.WriteFault → ⊥
early-write e (inl two) is = let five : status_of e ≡ 5 = ap status_of is in omega (arith, five, two)
early-write e (inr (inl fault)) is = let both = sym fault ∙ is in cc
early-write e (inr (inr memory)) is = let both = sym memory ∙ is in cc

memory-two : (e : RunError) → e ≡ Run.NoMemory → status_of e ≢ 2
memory-two e is two = let six : status_of e ≡ 6 = ap status_of is in omega (arith, six, two)

pub script_ran : {S H O : Type 0} (source : Source S) (shelf : Shelf H) (sink : Sink O) (app : Meaning) (s : Settings) (s0 : S) (h i : H) (o : O) (e : RunError)
    → (status_of e ≡ 2) ⊎ (e ≡ Run.ReadFault) ⊎ (e ≡ Run.NoMemory) → (s.script ≡ None → (i ≡ h) × (e ≡ Run.NoMemory))
    → shelf.faults h ≤ shelf.faults i → (e ≡ Run.ReadFault → Rose (shelf.faults h) (shelf.faults i)) → shelf.lasting i ≡ shelf.lasting h
    → RunsUnderSettings source shelf sink app (Some s) s0 s0 h i o o (Err e)
script_ran source shelf sink app s s0 h i o e which unasked counts fault lasts = record {
  read = λ ok. absurd (cc);
  usage = λ none. absurd (cc);
  only_usage = λ is. absurd (early-usage e which (err-same e Run.Usage is));
  unread = λ low. refl;
  refused = λ x is. (refl, refl);
  made = λ x is some. refl;
  unasked = λ names. let stays = unasked (names s refl) in (stays.0, memory-two e stays.1);
  silent = λ report write memory. refl;
  shelf_faultless = λ ok. absurd (cc);
  read_fault = λ is. inr (fault (err-same e Run.ReadFault is));
  capture_counts = omega arith;
  shelf_counts = counts;
  capture_lasts = refl;
  shelf_lasts = lasts;
  to = record { cause = record { later = omega arith; cause = λ is. absurd (early-write e which (err-same e Run.WriteFault is)) }; lasts = refl };
}

module _ {S H O : Type 0} (source : Source S) (shelf : Shelf H) (sink : Sink O) (app : Meaning) where
  -- a run over a file, once words and script are accepted
  pub under_settings : (s : Settings) (commands : List Stamped) (s0 t : S) (h i : H) (o p : O) (result : Result (List ℕ) RunError)
      → RunsOverFile source sink (wanted app s commands) s0 t o p result → made_for (output_of s) ≡ s.make
      → ((e : RunError) → requested app (Some s) (shelf.content h) (source.left s0) ≡ Some (Refused e) → ⊥)
      → (s.script ≡ None → i ≡ h) → shelf.faults i ≡ shelf.faults h → shelf.lasting i ≡ shelf.lasting h
      → RunsUnderSettings source shelf sink app (Some s) s0 t h i o p result
  under_settings s commands s0 t h i o p result ran makes refused unasked faultless lasts = record {
    read = λ ok x same none bytes told. ran.read ok (makes ∙ ap (λ y. y.make) (some-same s x same) ∙ none) bytes told;
    usage = λ none. absurd (cc);
    only_usage = λ is. absurd (let late = late-of result Run.Usage ran.late is in omega (arith, late));
    unread = later (λ e. status_of e < 3 → t ≡ s0) (λ e late low. absurd (omega (arith, late, low))) result ran.late;
    refused = λ e is. absurd (refused e is);
    made = λ x same some. ran.made (λ none. some (sym (ap (λ y. y.make) (some-same s x same)) ∙ sym makes ∙ none));
    unasked = λ names. (unasked (names s refl), later (λ e. status_of e ≢ 2) (λ e late is. omega (arith, late, is)) result ran.late);
    silent = λ kept. ran.silent kept;
    shelf_faultless = λ ok. faultless;
    read_fault = λ fault. inl (ran.from.cause.cause fault);
    capture_counts = ran.from.cause.later;
    shelf_counts = omega (arith, faultless);
    capture_lasts = ran.from.lasts;
    shelf_lasts = lasts;
    to = ran.to;
  }

-- ---- words that are refused, or for which there is no memory

words-usage : (error : WordsError) → (words_refusal error ≡ Run.Usage) ⊎ (words_refusal error ≡ Run.NoMemory)
words-usage Words.Usage = inl refl
words-usage Words.NoMemory = inr refl

only-usage : (settings : Option Settings) (error : WordsError) → (error ≡ Words.Usage → settings ≡ None) → IsErrOf {T = List ℕ} (Err (words_refusal error)) Run.Usage → settings ≡ None
only-usage settings Words.Usage usage is = usage refl
only-usage settings Words.NoMemory usage is = absurd (cc)

not-two : (error : WordsError) → status_of (words_refusal error) ≢ 2
not-two Words.Usage is = omega (arith, is)
not-two Words.NoMemory is = omega (arith, is)

no-read : (error : WordsError) → IsErrOf {T = List ℕ} (Err (words_refusal error)) Run.ReadFault → ⊥
no-read Words.Usage is = cc
no-read Words.NoMemory is = cc

no-write : (error : WordsError) → IsErrOf {T = List ℕ} (Err (words_refusal error)) Run.WriteFault → ⊥
no-write Words.Usage is = cc
no-write Words.NoMemory is = cc

words-ran : {S H O : Type 0} (source : Source S) (shelf : Shelf H) (sink : Sink O) (app : Meaning) (settings : Option Settings) (s : S) (h : H) (o : O) (error : WordsError)
    → (error ≡ Words.Usage → settings ≡ None) → RunsUnderSettings source shelf sink app settings s s h h o o (Err (words_refusal error))
words-ran source shelf sink app settings s h o error usage = record {
  read = λ ok. absurd (cc);
  usage = λ none. (words-usage error, refl, refl, refl, refl);
  only_usage = only-usage settings error usage;
  unread = λ low. refl;
  refused = λ e is. (refl, refl);
  made = λ x is some. refl;
  unasked = λ names. (refl, not-two error);
  silent = λ report write memory. refl;
  shelf_faultless = λ ok. absurd (cc);
  read_fault = λ is. absurd (no-read error is);
  capture_counts = omega arith;
  shelf_counts = omega arith;
  capture_lasts = refl;
  shelf_lasts = refl;
  to = record { cause = record { later = omega arith; cause = λ is. absurd (no-write error is) }; lasts = refl };
}

module _ {S H O E : Type 0} (source : Source S) (shelf : Shelf H) (sink : Sink O) (err : Sink E) (app : Meaning) (settings : Option Settings)
    (s t : S) (h i : H) (o p : O) (e f : E) (ended : Ended) where
  abbrev asked_as : Request → Type 0
  asked_as x = requested app settings (shelf.content h) (source.left s) ≡ Some x

  -- it answered versions
  pub ran_well : (versions : List ℕ) → RunsUnderSettings source shelf sink app settings s t h i o p (Ok versions)
      → ((x : Request) → asked_as x → RunsUnder x (sink.taken o) (sink.taken p) (Ok versions)) → ended.status ≡ 0 → f ≡ e
      → RanUnder source shelf sink err app settings (outside s h o e) (outside t i p f) ended
  ran_well versions ran runs zero same = record {
    read = λ is. ran.read refl;
    ends = λ x is. ends_well x versions _ _ ended.status zero (runs x is);
    usage = λ none. absurd (let bad = (ran.usage none).1 in cc);
    only_usage = λ is. absurd (omega (arith, is, zero));
    read_fault = λ is. absurd (omega (arith, is, zero));
    write_fault = record { later = ran.to.cause.later; cause = λ is. absurd (omega (arith, is, zero)) };
    shelf_faultless = λ is. ran.shelf_faultless refl;
    capture_counts = ran.capture_counts;
    shelf_counts = ran.shelf_counts;
    unread = λ which. absurd (early ended.status which (inl zero));
    refused = ran.refused;
    made = ran.made;
    unasked = λ names. ((ran.unasked names).0, λ is. omega (arith, is, zero));
    silent = λ report before. absurd (not-before ended.status 0 before zero (inl refl));
    front = λ x is. let done = runs x is in record { versions = versions; allowed = done.allowed; holds = whole_front _ versions _ _ done.finishes };
    no_versions = λ other. absurd (other zero);
    told_nothing = λ is. same;
    told = λ other. absurd (other zero);
    complete = λ x is well capture fetched out. inl zero;
    capture_lasts = ran.capture_lasts;
    shelf_lasts = ran.shelf_lasts;
    out_lasts = ran.to.lasts;
    err_lasts = ap err.lasting same;
  }

  -- it stopped, and that was told
  pub ran_badly : (error : RunError) → RunsUnderSettings source shelf sink app settings s t h i o p (Err error)
      → ((x : Request) → asked_as x → RunsUnder x (sink.taken o) (sink.taken p) (Err error))
      → (ended.status ≡ status_of error) ⊎ (ended.status ≡ 6) → (error ≡ Run.Usage → ended.status ≡ 1) → ended.versions ≡ []
      → TellsOf error ended.status (err.taken e) (err.taken f) (err.faults e) (err.faults f) → err.lasting f ≡ err.lasting e
      → RanUnder source shelf sink err app settings (outside s h o e) (outside t i p f) ended
  ran_badly error ran runs status usage none tells lasts =
      let some = told-some error ended.status status in
      record {
        read = λ is. absurd (some is);
        ends = λ x is. under_more x (λ o. StopsAs o error × AppendsFront _ _ o.text) (λ o. EndsAs o ended.status)
            (λ o stops. ends_as o error ended.status stops.0 status) (runs x is);
        usage = λ refused. let u = ran.usage refused in (used u.0 status, u.2, u.3, u.4);
        only_usage = λ is. ran.only_usage (ap (λ x. Err x) (usage-by error (told-own error ended.status 1 status is (λ bad. omega (arith, bad)))));
        read_fault = λ is. ran.read_fault (ap (λ x. Err x) (read-by error (told-own error ended.status 4 status is (λ bad. omega (arith, bad)))));
        write_fault = record {
          later = ran.to.cause.later;
          cause = λ is. ran.to.cause.cause (ap (λ x. Err x) (write-by error (told-own error ended.status 5 status is (λ bad. omega (arith, bad)))));
        };
        shelf_faultless = λ is. absurd (some is);
        capture_counts = ran.capture_counts;
        shelf_counts = ran.shelf_counts;
        unread = λ which. ran.unread (below-three error ended.status status which);
        refused = ran.refused;
        made = ran.made;
        unasked = λ names. ((ran.unasked names).0, λ is. (ran.unasked names).1 (told-own error ended.status 2 status is (λ bad. omega (arith, bad))));
        silent = λ report before. ran.silent report
            (λ is. not-at before status 5 (ap status_of is) (inr (inl refl)))
            (λ is. not-at before status 6 (ap status_of is) (inr (inr refl)));
        front = λ x is. under_more x (λ o. StopsAs o error × AppendsFront _ _ o.text) (λ o. AppendsFront _ _ o.text) (λ o stops. stops.1) (runs x is);
        no_versions = λ other. none;
        told_nothing = λ is. absurd (some is);
        told = λ other. record {
          refusal = tells.refusal;
          status_is = tells.status_is;
          of_run = λ x is. under_more x (λ o. StopsAs o error × AppendsFront _ _ o.text) (λ o. StopsAs o tells.refusal)
              (λ o stops. stops_or_memory o error tells.refusal stops.0 tells.which) (runs x is);
          text = tells.text;
        };
        complete = λ x is well capture fetched out. ends_whole x error ended.status (λ o. AppendsFront _ _ o.text) well (runs x is)
            (λ fault. rises (ran.read_fault (ap (λ y. Err y) fault)) capture fetched)
            (λ fault. out (ran.to.cause.cause (ap (λ y. Err y) fault))) status;
        capture_lasts = ran.capture_lasts;
        shelf_lasts = ran.shelf_lasts;
        out_lasts = ran.to.lasts;
        err_lasts = lasts;
      }
    where
      rises : {A B : Type 0} → A ⊎ B → ¬ A → ¬ B → ⊥
      rises (inl a) no-a no-b = no-a a
      rises (inr b) no-a no-b = no-b b

      used : (error ≡ Run.Usage) ⊎ (error ≡ Run.NoMemory) → (ended.status ≡ status_of error) ⊎ (ended.status ≡ 6) → (ended.status ≡ 1) ⊎ (ended.status ≡ 6)
      used (inl is) which = inl (usage is)
      used (inr is) (inl own) = inr (own ∙ ap status_of is)
      used (inr is) (inr memory) = inr memory

      not-at : ComesBefore ended.status → (ended.status ≡ status_of error) ⊎ (ended.status ≡ 6) → (n : ℕ) → status_of error ≡ n → (n ≡ 0) ⊎ (n ≡ 5) ⊎ (n ≡ 6) → ⊥
      not-at before (inl own) n is which = not-before ended.status n before (own ∙ is) which
      not-at before (inr memory) n is which = not-before ended.status 6 before memory (inr (inr refl))

  -- so it promised nothing of status 0
  pub badly : (error : RunError) → RunsUnderSettings source shelf sink app settings s t h i o p (Err error)
      → ((x : Request) → asked_as x → RunsUnder x (sink.taken o) (sink.taken p) (Err error))
      → (ended.status ≡ status_of error) ⊎ (ended.status ≡ 6) → (error ≡ Run.Usage → ended.status ≡ 1) → ended.versions ≡ []
      → TellsOf error ended.status (err.taken e) (err.taken f) (err.faults e) (err.faults f) → err.lasting f ≡ err.lasting e
      → Promised source shelf sink err app settings (outside s h o e) (outside t i p f) ended
  badly error ran runs status usage none tells lasts = record {
    done = λ zero. absurd (told-some error ended.status status zero);
    alone = λ zero. absurd (told-some error ended.status status zero);
    rest = ran_badly error ran runs status usage none tells lasts;
  }

-- refused words, as they were told
pub ran_refused : {S H O E : Type 0} (source : Source S) (shelf : Shelf H) (sink : Sink O) (err : Sink E) (app : Meaning) (settings : Option Settings) (s : S) (h : H) (o : O) (e f : E) (ended : Ended)
    (error : WordsError) (refusal : RunError) → refusal ≡ words_refusal error → CeilingsMayBeHad → (error ≡ Words.Usage → settings ≡ None)
    → (ended.status ≡ status_of refusal) ⊎ (ended.status ≡ 6) → (refusal ≡ Run.Usage → ended.status ≡ 1) → ended.versions ≡ []
    → TellsOf refusal ended.status (err.taken e) (err.taken f) (err.faults e) (err.faults f) → err.lasting f ≡ err.lasting e
    → Promised source shelf sink err app settings (outside s h o e) (outside s h o f) ended
ran_refused source shelf sink err app settings s h o e f ended error refusal same law usage status one none tells lasts =
    badly source shelf sink err app settings s s h h o o e f ended refusal
    (subst (λ r. RunsUnderSettings source shelf sink app settings s s h h o o (Err r)) (sym same) (words-ran source shelf sink app settings s h o error usage))
    (λ x is. subst (λ r. RunsUnder x (sink.taken o) (sink.taken o) (Err r)) (sym same) (refused_words law app settings (shelf.content h) (source.left s) (sink.taken o) x error usage is))
    status one none tells lasts
