-- The clauses of a run whose output is gathered: over the output itself, and where the last bytes can't be handed on.
use Rattle.std.proofs.Common.{◌≡◌, ◌≢◌, ℕ, zero, suc, ◌≤◌, Option, Some, List, [], Result, Ok, Err, refl, sym, subst, ◌∙◌, arith, inl, inr}
use Rattle.std.specs.Prelude.{◌⊎◌, IsOk, IsErr}
use Rattle.mos_bytes.specs.Causes.{Rose}
use Rattle.mos_bytes.specs.Writes.{AppendsFront}
use Rattle.mos_bytes.proofs.Writes.{AppendsFront-nil}
use Rattle.mos_bytes.specs.declared.source.Source.{Ghosts as Source}
use Rattle.mos_bytes.specs.declared.shelf.Shelf.{Ghosts as Shelf}
use Rattle.mos_bytes.specs.declared.sink.Sink.{Ghosts as Sink}
use Rattle.app_api.specs.App.{Meaning}
use Rattle.words.specs.declared.settings.Settings.{Settings}
use Rattle.mos_run.specs.declared.ended.Ended.{Ended}
use Rattle.mos_run.specs.declared.refusal.RunError.TheVariants as Run
use Rattle.mos_run.specs.Refusal.{refusal_text, WritesText}
use Rattle.mos_run.specs.Request.{Request, Refused, requested, outcome_under}
use Rattle.mos_run.specs.Run.{EndsAs, FinishesUnder, RanUnder, TellsOf, outside}
use Rattle.mos_run.specs.Outcome.{StopsAs}
use Rattle.mos_run.proofs.Below.{may_fail}
use Rattle.mos_run.proofs.Outcomes.{HasSome, ends_as, stops_or_memory, under_more}

-- what became of the sink below one that gathers, which went from a to b
pub record IsBelow {G O : Type 0} (gathers : Sink G) (sink : Sink O) (a b : G) (o p : O) : Type 0 where
  pub still : b ≡ a → p ≡ o
  pub later : sink.faults o ≤ sink.faults p
  pub rose : Rose (gathers.faults a) (gathers.faults b) → Rose (sink.faults o) (sink.faults p)
  pub front : (text : List ℕ) → AppendsFront (gathers.taken a) (gathers.taken b) text → AppendsFront (sink.taken o) (sink.taken p) text
  pub lasts : sink.lasting p ≡ sink.lasting o

-- either a run's end stays as it was, or what had ended well couldn't be handed on
pub handed_by : {R T F : Type 0} (handed : Result T F) (status : ℕ) → (IsOk handed ⊎ (status ≢ 0) → R) → (IsErr handed → status ≡ 0 → R) → R
handed_by (Ok x) status good bad = good (inl refl)
handed_by (Err e) zero good bad = bad refl refl
handed_by (Err e) (suc n) good bad = good (inr (λ none. cc))

module _ {S H O E : Type 0} (source : Source S) (shelf : Shelf H) (sink : Sink O) (err : Sink E) (app : Meaning) (settings : Option Settings) (s t : S) (h i : H) (o p : O) where
  -- over the sink below
  pub ran_below : {G : Type 0} (gathers : Sink G) (a b : G) (e f : E) (ended : Ended) → IsBelow gathers sink a b o p → RanUnder source shelf gathers err app settings (outside s h a e) (outside t i b f) ended
      → RanUnder source shelf sink err app settings (outside s h o e) (outside t i p f) ended
  ran_below gathers a b e f ended below ran = record {
    read = ran.read;
    ends = ran.ends;
    usage = λ none. let u = ran.usage none in (u.0, u.1, u.2, below.still u.3);
    only_usage = ran.only_usage;
    read_fault = ran.read_fault;
    write_fault = record { later = below.later; cause = λ five. below.rose (ran.write_fault.cause five) };
    shelf_faultless = ran.shelf_faultless;
    capture_counts = ran.capture_counts;
    shelf_counts = ran.shelf_counts;
    unread = ran.unread;
    refused = λ x is. let stays = ran.refused x is in (stays.0, below.still stays.1);
    made = ran.made;
    unasked = ran.unasked;
    silent = λ report early. below.still (ran.silent report early);
    front = λ x is. under_more x (λ outcome. AppendsFront (gathers.taken a) (gathers.taken b) outcome.text) (λ outcome. AppendsFront (sink.taken o) (sink.taken p) outcome.text)
        (λ outcome part. below.front outcome.text part) (ran.front x is);
    no_versions = ran.no_versions;
    told_nothing = ran.told_nothing;
    told = ran.told;
    complete = λ x is well capture fetched out. ran.complete x is well capture fetched (λ rose. out (below.rose rose));
    capture_lasts = ran.capture_lasts;
    shelf_lasts = ran.shelf_lasts;
    out_lasts = below.lasts;
    err_lasts = ran.err_lasts;
  }

  late : (status : ℕ) → (status ≡ 5) ⊎ (status ≡ 6) → 5 ≤ status
  late status (inl five) = omega (arith, five)
  late status (inr six) = omega (arith, six)

  most : (status : ℕ) → (status ≡ 5) ⊎ (status ≡ 6) → status ≤ 6
  most status (inl five) = omega (arith, five)
  most status (inr six) = omega (arith, six)

  -- no status of a refusal before the output
  not-before : (status : ℕ) → 5 ≤ status → status ≤ 6 → (status ≡ 1) ⊎ (status ≡ 2) ⊎ (status ≡ 3) ⊎ (status ≡ 4) ⊎ (status ≡ 7) → ⊥
  not-before status least greatest (inl is) = omega (arith, least, is)
  not-before status least greatest (inr (inl is)) = omega (arith, least, is)
  not-before status least greatest (inr (inr (inl is))) = omega (arith, least, is)
  not-before status least greatest (inr (inr (inr (inl is)))) = omega (arith, least, is)
  not-before status least greatest (inr (inr (inr (inr is)))) = omega (arith, greatest, is)

  neither : (status : ℕ) → 5 ≤ status → (status ≡ 1) ⊎ (status ≡ 2) → ⊥
  neither status least (inl is) = omega (arith, least, is)
  neither status least (inr is) = omega (arith, least, is)

  -- what had ended well, where its last bytes couldn't be handed on
  pub ran_failed : (e f g : E) (ended after : Ended) (given handed : Option (List ℕ)) → RanUnder source shelf sink err app settings (outside s h o e) (outside t i p f) ended → ended.status ≡ 0
      → ((x : Request) → requested app settings (shelf.content h) (source.left s) ≡ Some x → FinishesUnder x ended.versions given handed) → Rose (sink.faults o) (sink.faults p)
      → (after.status ≡ 5) ⊎ (after.status ≡ 6) → after.versions ≡ [] → TellsOf Run.WriteFault after.status (err.taken f) (err.taken g) (err.faults f) (err.faults g) → err.lasting g ≡ err.lasting f
      → RanUnder source shelf sink err app settings (outside s h o e) (outside t i p g) after
  ran_failed e f g ended after given handed ran whole done rose which none tells lasts =
      let least = late after.status which in
      let greatest = most after.status which in
      record {
        read = λ is. absurd (omega (arith, least, is));
        ends = λ x is. under_more x (λ outcome. StopsAs outcome Run.WriteFault) (λ outcome. EndsAs outcome after.status) (λ outcome stops. ends_as outcome Run.WriteFault after.status stops which)
            (may_fail x Run.WriteFault _ _ _ (done x is) (inl refl));
        usage = λ refused. absurd (well-used ended.status whole (ran.usage refused).0);
        only_usage = λ is. absurd (omega (arith, least, is));
        read_fault = λ is. absurd (omega (arith, least, is));
        write_fault = record { later = ran.write_fault.later; cause = λ five. rose };
        shelf_faultless = λ is. absurd (omega (arith, least, is));
        capture_counts = ran.capture_counts;
        shelf_counts = ran.shelf_counts;
        unread = λ is. absurd (neither after.status least is);
        refused = λ x is. absurd (let well = (done (Refused x) is).finishes.answered in cc);
        made = ran.made;
        unasked = λ names. ((ran.unasked names).0, λ is. omega (arith, least, is));
        silent = λ report early. absurd (not-before after.status least greatest early);
        front = ran.front;
        no_versions = λ failed. none;
        told_nothing = λ is. absurd (omega (arith, least, is));
        told = λ failed. record {
          refusal = tells.refusal;
          status_is = tells.status_is;
          of_run = λ x is. may_fail x tells.refusal _ _ _ (done x is) tells.which;
          text = subst (λ y. WritesText (err.taken y) (err.taken g) (err.faults y) (err.faults g) (refusal_text tells.refusal)) (ran.told_nothing whole) tells.text;
        };
        complete = λ x is well capture fetched out. absurd (out rose);
        capture_lasts = ran.capture_lasts;
        shelf_lasts = ran.shelf_lasts;
        out_lasts = ran.out_lasts;
        err_lasts = lasts ∙ ran.err_lasts;
      }
    where
      well-used : (status : ℕ) → status ≡ 0 → (status ≡ 1) ⊎ (status ≡ 6) → ⊥
      well-used status none (inl is) = omega (arith, none, is)
      well-used status none (inr is) = omega (arith, none, is)

-- a run for which there was no memory before it began
module _ {S H O E : Type 0} (source : Source S) (shelf : Shelf H) (sink : Sink O) (err : Sink E) (app : Meaning) (settings : Option Settings) (s : S) (h : H) (o p : O) where
  pub ran_without_memory : (e f : E) (ended : Ended) → ((x : Request) → requested app settings (shelf.content h) (source.left s) ≡ Some x → HasSome x) → p ≡ o → ended.status ≡ 6 → ended.versions ≡ []
      → TellsOf Run.NoMemory ended.status (err.taken e) (err.taken f) (err.faults e) (err.faults f) → err.lasting f ≡ err.lasting e → RanUnder source shelf sink err app settings (outside s h o e) (outside s h p f) ended
  ran_without_memory e f ended some same six none tells lasts = record {
    read = λ is. absurd (omega (arith, six, is));
    ends = λ x is. record {
      versions = (some x is).versions;
      allowed = (some x is).allowed;
      holds = ends_as _ Run.NoMemory ended.status (inr (inr (inl refl))) (inr six);
    };
    usage = λ refused. (inr six, refl, refl, same);
    only_usage = λ is. absurd (omega (arith, six, is));
    read_fault = λ is. absurd (omega (arith, six, is));
    write_fault = record { later = subst (λ q. sink.faults o ≤ sink.faults q) (sym same) (omega arith); cause = λ is. absurd (omega (arith, six, is)) };
    shelf_faultless = λ is. refl;
    capture_counts = omega arith;
    shelf_counts = omega arith;
    unread = λ is. refl;
    refused = λ x is. (refl, same);
    made = λ x is some. refl;
    unasked = λ names. (refl, λ is. omega (arith, six, is));
    silent = λ report early. same;
    front = λ x is. record {
      versions = (some x is).versions;
      allowed = (some x is).allowed;
      holds = subst (λ q. AppendsFront (sink.taken o) (sink.taken q) (outcome_under (some x is).versions x).text) (sym same)
          (AppendsFront-nil (sink.taken o) (outcome_under (some x is).versions x).text);
    };
    no_versions = λ failed. none;
    told_nothing = λ is. absurd (omega (arith, six, is));
    told = λ failed. record {
      refusal = tells.refusal;
      status_is = tells.status_is;
      of_run = λ x is. record {
        versions = (some x is).versions;
        allowed = (some x is).allowed;
        holds = stops_or_memory _ Run.NoMemory tells.refusal (inr (inr (inl refl))) tells.which;
      };
      text = tells.text;
    };
    complete = λ x is well capture fetched out. inr six;
    capture_lasts = refl;
    shelf_lasts = refl;
    out_lasts = subst (λ q. sink.lasting q ≡ sink.lasting o) (sym same) refl;
    err_lasts = lasts;
  }
