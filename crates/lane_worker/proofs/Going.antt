-- A lane that goes on, and then further.
use Rattle.std.proofs.Common.{◌≡◌, ◌≢◌, ℕ, ◌+◌, ◌≤◌, None, List, ◌++◌, length, drop, refl, sym, ap, subst, ◌∙◌, append_assoc, arith}
use Rattle.std.proofs.lemmas.List.{append-nil, length-append}
use mathlib.Core.List.{IsPrefix}
use Rattle.forest_versions.specs.declared.command.Command.{Command}
use Rattle.lane_core.specs.declared.recorder.Recorder.{Ghosts}
use Rattle.lane_core.specs.Run.{LaneEvent, last_number}
use Rattle.lane_core.specs.Lane.{IsHeavy}
use Rattle.lane_worker.specs.Steps.{Step, Turn, steps_of, events_of, AreWithin}
use Rattle.lane_worker.specs.Worked.{WentOn}
use Rattle.lane_worker.proofs.Fronts.{IsPrefix-trans, IsPrefix-after, next_two}
use Rattle.lane_worker.proofs.Stepping.{events-append, last-append, given_by, given-append, within-append, within-less, steps-append}

module _ {L : Type 0} (g : Ghosts L) (script : List Command) where
  module _ (least more : ℕ) (ts us : List Turn) (a b c : L) (did bad did2 bad2 : List Step) (p : WentOn g script least ts a b did bad) (q : WentOn g script more us b c did2 bad2)
      (well : g.failed b ≡ None) where
    all_one : did ++ bad ≡ did
    all_one = ap (λ l. did ++ l) (p.good well) ∙ append-nil did

    all_two : (did ++ did2) ++ bad2 ≡ did ++ (did2 ++ bad2)
    all_two = append_assoc did did2 bad2

    -- where the lane was in between
    version_between : g.given b ≡ g.given a + length (given_by did)
    version_between = p.version well

    last_between : g.last b ≡ last_number (g.last a) (events_of did)
    last_between = p.newest ∙ ap (λ s. last_number (g.last a) (events_of s)) all_one

    steps_two : steps_of (length script) (g.last a) (g.given a) (ts ++ us) ≡ did ++ steps_of (length script) (g.last b) (g.given b) us
    steps_two =
        steps-append (length script) (g.last a) (g.given a) ts us
        ∙ ap (λ s. s ++ steps_of (length script) (last_number (g.last a) (events_of s)) (g.given a + length (given_by s)) us) (sym (p.whole well))
        ∙ ap (λ l. did ++ steps_of (length script) l (g.given a + length (given_by did)) us) (sym last_between)
        ∙ ap (λ v. did ++ steps_of (length script) (g.last b) v us) (sym version_between)

    events_two : (events : List LaneEvent) → (events ++ events_of did) ++ events_of (did2 ++ bad2) ≡ events ++ events_of ((did ++ did2) ++ bad2)
    events_two events =
        append_assoc events (events_of did) (events_of (did2 ++ bad2))
        ∙ ap (λ l. events ++ l) (sym (events-append did (did2 ++ bad2)) ∙ ap events_of (sym all_two))

    stands_between : (events : List LaneEvent) → g.stands a events → g.stands b (events ++ events_of did)
    stands_between events s = subst (λ l. g.stands b (events ++ events_of l)) all_one (p.stands events s)

    pub went_two : least ≤ more → g.app b ≡ g.app a → g.keeps b ≡ g.keeps a → WentOn g script least (ts ++ us) a c (did ++ did2) bad2
    went_two less app keeps = record {
      stands = λ events s. subst (g.stands c) (events_two events) (q.stands (events ++ events_of did) (stands_between events s));
      commands = subst (λ l. IsPrefix l (drop (g.given a) script)) (sym (ap given_by all_two ∙ given-append did (did2 ++ bad2)))
          (next_two script (given_by did) (given_by (did2 ++ bad2)) (g.given a)
          (subst (λ l. IsPrefix (given_by l) (drop (g.given a) script)) all_one p.commands)
          (subst (λ v. IsPrefix (given_by (did2 ++ bad2)) (drop v script)) version_between q.commands));
      within = subst (AreWithin least (g.given a)) (sym all_two)
          (within-append least (g.given a) did (did2 ++ bad2)
          (subst (AreWithin least (g.given a)) all_one p.within)
          (subst (λ v. AreWithin least v (did2 ++ bad2)) version_between (within-less least more (g.given b) (did2 ++ bad2) less q.within)));
      newest = q.newest ∙ ap (λ l. last_number l (events_of (did2 ++ bad2))) last_between
          ∙ sym (last-append (g.last a) (events_of did) (events_of (did2 ++ bad2))) ∙ ap (last_number (g.last a)) (sym (events-append did (did2 ++ bad2)) ∙ ap events_of (sym all_two));
      good = q.good;
      whole = λ ok. ap (λ l. did ++ l) (q.whole ok) ∙ sym steps_two;
      version = λ ok.
          let e = length-append (given_by did) (given_by did2) in
          let f = ap length (given-append did did2) in
          let v = q.version ok in
          omega (arith, e, f, v, version_between);
      one = q.one;
      front = λ bad_one. subst (IsPrefix ((did ++ did2) ++ bad2)) (sym steps_two)
          (subst (λ l. IsPrefix l (did ++ steps_of (length script) (g.last b) (g.given b) us)) (sym all_two)
          (IsPrefix-after did (did2 ++ bad2) (steps_of (length script) (g.last b) (g.given b) us) (q.front bad_one)));
      keeping = λ is. sym keeps ∙ q.keeping is;
      heavy = λ is events s. subst (IsHeavy (g.app a)) (events_two events)
          (subst (λ m. IsHeavy m ((events ++ events_of did) ++ events_of (did2 ++ bad2))) app (q.heavy is (events ++ events_of did) (stands_between events s)));
    }

  -- more turns are nothing to a lane that failed
  pub went_failed : (least : ℕ) (ts us : List Turn) (a b : L) (did bad : List Step) → WentOn g script least ts a b did bad → g.failed b ≢ None → WentOn g script least (ts ++ us) a b did bad
  went_failed least ts us a b did bad p failed = record {
    stands = p.stands;
    commands = p.commands;
    within = p.within;
    newest = p.newest;
    good = p.good;
    whole = λ ok. absurd (failed ok);
    version = p.version;
    one = p.one;
    front = λ bad_one. subst (IsPrefix (did ++ bad)) (sym (steps-append (length script) (g.last a) (g.given a) ts us))
        (IsPrefix-trans (did ++ bad) (steps_of (length script) (g.last a) (g.given a) ts) _ (p.front bad_one) (_, refl));
    keeping = p.keeping;
    heavy = p.heavy;
  }
