-- A packet's turn, as steps.
use Rattle.std.proofs.Common.{◌≡◌, ◌≢◌, ℕ, ◌+◌, ◌≤◌, true, Bool, Some, None, List, [], ◌∷◌, ◌++◌, length, map, drop, refl, sym, ap, subst, ◌∙◌, append_assoc, arith}
use Rattle.std.specs.Prelude.{min, if◌then◌else◌, Result, Ok, Err, OnOk, IfOk, IfErr}
use Rattle.std.proofs.lemmas.List.{append-nil, length-map, map-append}
use mathlib.Core.List.{IsPrefix}
use Rattle.app_api.specs.App.{Meaning}
use Rattle.app_api.specs.declared.reaction.Verdict.{Verdict}
use Rattle.forest_versions.specs.declared.command.Command.{Command}
use Rattle.lane_rings.specs.declared.items.Packet.{Packet}
use Rattle.lane_rings.specs.declared.ring.RingRx.{RingRx}
use Rattle.lane_rings.specs.Judging.{answer_to}
use Rattle.lane_rings.specs.Ring.{known}
use Rattle.lane_core.specs.declared.recorder.Recorder.{Ghosts}
use Rattle.lane_core.specs.declared.errors.LaneError.{LaneError}
use Rattle.lane_core.specs.declared.errors.LaneError.TheVariants.{Heavy}
use Rattle.lane_core.specs.Sight.{arrival_of}
use Rattle.lane_core.specs.Run.{LaneEvent, Gave, Arrived, last_number}
use Rattle.lane_core.specs.Lane.{IsHeavy, next_verdict, with_event}
use Rattle.lane_worker.specs.Steps.{Step, Took, Handed, Turn, fits, steps_of, events_of, AreWithin}
use Rattle.lane_worker.specs.Worked.{WentOn}
use Rattle.lane_worker.specs.Turning.{Advanced, Turned}
use Rattle.lane_worker.proofs.Fronts.{IsPrefix-refl}
use Rattle.lane_worker.proofs.Stepping.{events-append, events-took, given_by, given-took, last-took, within-took, answers-took, answers-took-then}

pub err_or_ok : {T E : Type 0} (r : Result T E) (e : E) (v : T) → r ≡ Err e → r ≡ Ok v → ⊥
err_or_ok r e v bad ok = cc

module _ {L : Type 0} (g : Ghosts L) (script : List Command) (a : L) (from : RingRx ℕ) (p : Packet) (fit : fits (length script) (g.last a) (g.given a) p ≡ true) where
  abbrev turn : List Command → List Turn
  turn cs = record { packet = p; commands = cs } ∷ []

  abbrev whole : List Command → List Step
  whole cs = map Took cs ++ Handed p ∷ []

  steps_whole : (cs : List Command) → steps_of (length script) (g.last a) (g.given a) (turn cs) ≡ whole cs
  steps_whole cs = ap (λ (b : Bool). if b then whole cs else []) fit

  -- the lane failed at a command
  module _ (b : L) (to : RingRx ℕ) (adv : Advanced g script a b from to) (e : LaneError) (failed : g.failed b ≡ Some e) where
    abbrev tried : List Command
    tried = adv.commands.done ++ adv.commands.bad

    took_two : map Took adv.commands.done ++ map Took adv.commands.bad ≡ map Took tried
    took_two = sym (map-append Took adv.commands.done adv.commands.bad)

    went_back : WentOn g script (g.given a + length (known from)) (turn tried) a b (map Took adv.commands.done) (map Took adv.commands.bad)
    went_back = record {
      stands = λ events s. subst (λ l. g.stands b (events ++ l)) (sym (ap events_of took_two ∙ events-took tried)) (adv.commands.stands events s);
      commands = subst (λ l. IsPrefix l (drop (g.given a) script))
          (sym (ap given_by (took_two ∙ sym (append-nil (map Took tried))) ∙ given-took tried [] ∙ append-nil tried)) adv.commands.next;
      within = subst (AreWithin (g.given a + length (known from)) (g.given a)) (append-nil (map Took tried) ∙ sym took_two)
          (within-took (g.given a + length (known from)) (g.given a) tried [] tt);
      newest = adv.commands.newest ∙ sym (ap (λ l. last_number (g.last a) (events_of l)) (took_two ∙ sym (append-nil (map Took tried))) ∙ last-took (g.last a) tried []);
      good = λ ok. absurd (cc);
      whole = λ ok. absurd (cc);
      version = λ ok. absurd (cc);
      one = λ bad. length-map adv.commands.bad Took ∙ adv.commands.one bad;
      front = λ bad. subst (λ l. IsPrefix l (steps_of (length script) (g.last a) (g.given a) (turn tried))) (sym took_two)
          (subst (IsPrefix (map Took tried)) (sym (steps_whole tried)) (Handed p ∷ [], refl));
      keeping = λ is. absurd (adv.commands.light is);
      heavy = λ is. absurd (adv.commands.light is);
    }

    pub turned_back : (r : Result Verdict LaneError) → ((v : Verdict) → r ≡ Ok v → ⊥) → Turned g script a b from to p r
    turned_back r none = record {
      turn = tried;
      done = map Took adv.commands.done;
      bad = map Took adv.commands.bad;
      places = adv.places;
      took = adv.took;
      went = went_back;
      of_places = λ ok. absurd (cc);
      answered = λ v ok. absurd (none v ok);
      silent = λ error bad events s. answers-took (g.app a) events adv.commands.done;
    }

  -- the lane took all commands, and then the packet
  module _ (b c : L) (to : RingRx ℕ) (adv : Advanced g script a b from to) (well : g.failed b ≡ None) (floor : p.floor ≤ g.given b) (ceil : g.given b ≤ p.ceil)
      (all_known : min p.ceil (g.given a + length (known from)) ≤ g.given b)
      (stands : (events : List LaneEvent) → g.stands b events → g.stands c (with_event (Arrived (arrival_of p.index p.frame)) events)) (newest : g.last c ≡ Some p.index)
      (version : g.given c ≡ g.given b) where
    abbrev cs : List Command
    cs = adv.commands.done

    abbrev here : LaneEvent
    here = Arrived (arrival_of p.index p.frame)

    all_done : cs ++ adv.commands.bad ≡ cs
    all_done = ap (λ l. cs ++ l) (adv.commands.good well) ∙ append-nil cs

    events_whole : events_of (whole cs) ≡ map Gave cs ++ here ∷ []
    events_whole = events-append (map Took cs) (Handed p ∷ []) ∙ ap (λ l. l ++ here ∷ []) (events-took cs)

    given_whole : given_by (whole cs) ≡ cs
    given_whole = given-took cs (Handed p ∷ []) ∙ append-nil cs

    stands_before : (events : List LaneEvent) → g.stands a events → g.stands b (events ++ map Gave cs)
    stands_before events s = subst (λ l. g.stands b (events ++ map Gave l)) all_done (adv.commands.stands events s)

    events_behind : (events : List LaneEvent) → (events ++ map Gave cs) ++ here ∷ [] ≡ events ++ events_of (whole cs)
    events_behind events = append_assoc events (map Gave cs) (here ∷ []) ∙ ap (λ l. events ++ l) (sym events_whole)

    went_whole : (did bad : List Step) → did ++ bad ≡ whole cs → (g.failed c ≡ None → bad ≡ []) → (g.failed c ≢ None → length bad ≡ 1) → (g.failed c ≡ Some Heavy → g.keeps a ≡ true)
        → (g.failed c ≡ Some Heavy → (events : List LaneEvent) → g.stands b events → IsHeavy (g.app a) (with_event here events))
        → WentOn g script (g.given a + length (known from)) (turn cs) a c did bad
    went_whole did bad all good one keeping heavy =
        let did_all : g.failed c ≡ None → did ≡ whole cs = λ ok. sym (append-nil did) ∙ ap (λ l. did ++ l) (sym (good ok)) ∙ all in
        record {
          stands = λ events s. subst (λ l. g.stands c (events ++ events_of l)) (sym all) (subst (g.stands c) (events_behind events) (stands (events ++ map Gave cs) (stands_before events s)));
          commands = subst (λ l. IsPrefix l (drop (g.given a) script)) (all_done ∙ sym given_whole ∙ ap given_by (sym all)) adv.commands.next;
          within = subst (AreWithin (g.given a + length (known from)) (g.given a)) (sym all)
              (within-took (g.given a + length (known from)) (g.given a) cs (Handed p ∷ [])
              (let at = adv.commands.version well in (record { floor = omega (arith, at, floor); ceil = omega (arith, at, ceil); known = omega (arith, at, all_known) }, tt)));
          newest = newest ∙ sym (ap (λ l. last_number (g.last a) (events_of l)) all ∙ last-took (g.last a) cs (Handed p ∷ []));
          good = good;
          whole = λ ok. did_all ok ∙ sym (steps_whole cs);
          version = λ ok. version ∙ adv.commands.version well ∙ ap (λ l. g.given a + length l) (sym given_whole ∙ ap given_by (sym (did_all ok)));
          one = one;
          front = λ bad_one. subst (λ l. IsPrefix l (steps_of (length script) (g.last a) (g.given a) (turn cs))) (sym all)
              (subst (IsPrefix (whole cs)) (sym (steps_whole cs)) (IsPrefix-refl (whole cs)));
          keeping = keeping;
          heavy = λ is events s. subst (λ l. IsHeavy (g.app a) (events ++ events_of l)) (sym all)
              (subst (IsHeavy (g.app a)) (events_behind events) (heavy is (events ++ map Gave cs) (stands_before events s)));
        }

    pub turned_on : (r : Result Verdict LaneError) → OnOk r (g.failed c ≡ None) → IfErr r (λ e. g.failed c ≡ Some e)
        → IfOk r (λ v. (events : List LaneEvent) → g.stands b events → v ≡ next_verdict (g.app b) events (arrival_of p.index p.frame))
        → (r ≡ Err Heavy → (g.keeps b ≡ true) × ((events : List LaneEvent) → g.stands b events → IsHeavy (g.app b) (with_event here events)))
        → Turned g script a c from to p r
    turned_on (Ok v) ok fails verdict heavy = record {
      turn = cs;
      done = whole cs;
      bad = [];
      places = adv.places;
      took = adv.took;
      went = went_whole (whole cs) [] (append-nil (whole cs)) (λ is. refl) (λ bad. absurd (bad ok)) (λ is. absurd (cc)) (λ is. absurd (cc));
      of_places = λ is. ap length (given_whole ∙ sym all_done) ∙ adv.of_places;
      answered = λ w is events s.
          let same : v ≡ w = cc in
          answers-took-then (g.app a) events cs (Handed p ∷ [])
          ∙ ap (λ (m : Meaning). answer_to p (next_verdict m (events ++ map Gave cs) (arrival_of p.index p.frame)) ∷ []) (sym adv.commands.app)
          ∙ ap (λ x. answer_to p x ∷ []) (sym (verdict (events ++ map Gave cs) (stands_before events s)) ∙ same);
      silent = λ e is. absurd (cc);
    }
    turned_on (Err e) ok fails verdict heavy =
        let heavy_is : g.failed c ≡ Some Heavy → e ≡ Heavy = λ is. (let same : e ≡ Heavy = cc in same) in
        record {
          turn = cs;
          done = map Took cs;
          bad = Handed p ∷ [];
          places = adv.places;
          took = adv.took;
          went = went_whole (map Took cs) (Handed p ∷ []) refl (λ is. absurd (cc)) (λ bad. refl)
              (λ is. sym adv.commands.keeps ∙ (heavy (ap Err (heavy_is is))).0)
              (λ is events s. subst (λ (m : Meaning). IsHeavy m (with_event here events)) adv.commands.app ((heavy (ap Err (heavy_is is))).1 events s));
          of_places = λ is. absurd (cc);
          answered = λ v is. absurd (cc);
          silent = λ error is events s. answers-took (g.app a) events cs;
        }
