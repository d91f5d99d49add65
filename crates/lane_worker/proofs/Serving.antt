-- A worker that takes up a packet.
use Rattle.std.proofs.Common.{◌≡◌, ◌≢◌, ℕ, ◌+◌, true, false, Bool, Option, Some, None, List, [], ◌∷◌, ◌++◌, length, take, drop, refl, sym, ap, subst, ◌∙◌, arith}
use Rattle.std.specs.Prelude.{if◌then◌else◌, Result, Ok, Err, IfSome}
use Rattle.std.proofs.lemmas.List.{append-nil}
use mathlib.Core.List.{IsPrefix}
use Rattle.app_api.specs.declared.reaction.Verdict.{Verdict}
use Rattle.forest_versions.specs.declared.command.Command.{Command}
use Rattle.forest_versions.specs.State.{control}
use Rattle.lane_rings.specs.declared.items.Packet.{Packet}
use Rattle.lane_rings.specs.declared.ring.RingRx.{RingRx}
use Rattle.lane_rings.specs.Judging.{answer_to}
use Rattle.lane_rings.specs.Ring.{taken, known}
use Rattle.lane_core.specs.declared.recorder.Recorder.{Ghosts}
use Rattle.lane_core.specs.declared.errors.LaneError.{LaneError}
use Rattle.lane_worker.specs.declared.worker.Worker.{Worker}
use Rattle.lane_worker.specs.Steps.{Handed, fits, events_of}
use Rattle.lane_worker.specs.Worked.{Takes, IsReady}
use Rattle.lane_worker.specs.Given.{IsUnder}
use Rattle.lane_worker.specs.Turning.{Turned, Judged}
use Rattle.lane_worker.proofs.Fronts.{take-two}
use Rattle.lane_worker.proofs.Rings.{takes_none, taken_more}
use Rattle.lane_worker.proofs.Stepping.{commands-append, given_by}

-- a lane that says that it has not failed
pub not_failed : {T : Type 0} (o : Option T) (b : Bool) → b ≡ false → (o ≢ None → b ≡ true) → o ≡ None
not_failed None b is has = refl
not_failed (Some x) b is has = let yes : b ≡ true = has (λ no. cc) in absurd (cc)

module _ {L : Type 0} (g : Ghosts L) (script : List Command) where
  pub under_of : (lane : L) (ring : RingRx ℕ) → IsReady g script lane ring → IsUnder g script lane
  under_of lane ring r = r.in_force ∙ ap (λ n. control (g.app lane).presets (take n script)) (sym r.version)

  -- a worker that was ready is ready again
  pub ready_again : (a b : L) (from to : RingRx ℕ) (p : Packet) (result : Result Verdict LaneError) → IsReady g script a from → Turned g script a b from to p result → g.failed b ≡ None → IsUnder g script b
      → IsReady g script b to
  ready_again a b from to p result r turned well under =
      let done = turned.done in
      let went = turned.went in
      let more = taken_more from to turned.places turned.took in
      let count = turned.of_places well in
      let only : done ++ turned.bad ≡ done = ap (λ l. done ++ l) (went.good well) ∙ append-nil done in
      let version : g.given b ≡ length (taken to) = let v = went.version well in let w = r.version in omega (arith, v, w, more, count) in
      let next : IsPrefix (given_by done) (drop (length (taken from)) script) =
      subst (λ v. IsPrefix (given_by done) (drop v script)) r.version (subst (λ l. IsPrefix (given_by l) (drop (g.given a) script)) only went.commands) in
      record {
        events = r.events ++ events_of done;
        stands = subst (λ l. g.stands b (r.events ++ events_of l)) only (went.stands r.events r.stands);
        commands = commands-append r.events (events_of done) ∙ ap (λ l. l ++ given_by done) r.commands ∙ sym (take-two script (given_by done) (length (taken from)) next)
            ∙ ap (λ n. take n script) (let e : length (taken from) + length (given_by done) ≡ length (taken to) = omega (arith, more, count) in e);
        version = version;
        in_force = under ∙ ap (λ n. control (g.app b).presets (take n script)) version;
      }

  module _ (a : Worker L) (p : Packet) where
    -- one that doesn't fit is let go
    pub let_go : g.failed a.lane ≡ None → fits (length script) (g.last a.lane) (g.given a.lane) p ≡ false → Judged g script a a (p ∷ []) []
    let_go well unfit = record {
      places = [];
      same = refl;
      number = refl;
      took_places = takes_none a.commands;
      unsent = refl;
      app = refl;
      keeps = refl;
      stayed = λ bad. refl;
      silent = λ bad. refl;
      ran = λ ok. record {
        turns = record { packet = p; commands = [] } ∷ [];
        done = [];
        bad = [];
        of_packets = refl;
        went = record {
          stands = λ events s. subst (g.stands a.lane) (sym (append-nil events)) s;
          commands = (drop (g.given a.lane) script, refl);
          within = tt;
          newest = refl;
          good = λ is. refl;
          whole = λ is. sym (ap (λ (b : Bool). if b then Handed p ∷ [] else []) unfit);
          version = λ is. omega arith;
          one = λ bad. absurd (bad well);
          front = λ bad. absurd (bad well);
          keeping = λ is. absurd (cc);
          heavy = λ is. absurd (cc);
        };
        of_places = λ is. refl;
        answers = λ events s. refl;
      };
    }

    -- a lane that had failed takes nothing
    pub skipped : (ring : RingRx ℕ) (o : Option ℕ) → IfSome o (λ place. Takes a.commands ring (place ∷ [])) → (o ≡ None → Takes a.commands ring [] × (known ring ≡ [])) → g.failed a.lane ≢ None
        → Judged g script a (record a { commands = ring }) (p ∷ []) []
    skipped ring (Some place) some none bad = record {
      places = place ∷ [];
      same = refl;
      number = refl;
      took_places = some;
      unsent = refl;
      app = refl;
      keeps = refl;
      stayed = λ is. refl;
      silent = λ is. refl;
      ran = λ ok. absurd (bad ok);
    }
    skipped ring None some none bad = record {
      places = [];
      same = refl;
      number = refl;
      took_places = (none refl).0;
      unsent = refl;
      app = refl;
      keeps = refl;
      stayed = λ is. refl;
      silent = λ is. refl;
      ran = λ ok. absurd (bad ok);
    }

    -- a packet that fits was handed over, and answered where the lane did
    module _ (lane : L) (ring : RingRx ℕ) (well : g.failed a.lane ≡ None) (app : g.app lane ≡ g.app a.lane) (keeps : g.keeps lane ≡ g.keeps a.lane) where
      pub answered : (v : Verdict) → Turned g script a.lane lane a.commands ring p (Ok v) → Judged g script a (record a { lane = lane; commands = ring }) (p ∷ []) (answer_to p v ∷ [])
      answered v t = record {
        places = t.places;
        same = refl;
        number = refl;
        took_places = t.took;
        unsent = refl;
        app = app;
        keeps = keeps;
        stayed = λ bad. absurd (bad well);
        silent = λ bad. absurd (bad well);
        ran = λ ok. record {
          turns = record { packet = p; commands = t.turn } ∷ [];
          done = t.done;
          bad = t.bad;
          of_packets = refl;
          went = t.went;
          of_places = t.of_places;
          answers = λ events s. sym (t.answered v refl events s);
        };
      }

      pub unanswered : (e : LaneError) → Turned g script a.lane lane a.commands ring p (Err e) → Judged g script a (record a { lane = lane; commands = ring }) (p ∷ []) []
      unanswered e t = record {
        places = t.places;
        same = refl;
        number = refl;
        took_places = t.took;
        unsent = refl;
        app = app;
        keeps = keeps;
        stayed = λ bad. absurd (bad well);
        silent = λ bad. refl;
        ran = λ ok. record {
          turns = record { packet = p; commands = t.turn } ∷ [];
          done = t.done;
          bad = t.bad;
          of_packets = refl;
          went = t.went;
          of_places = t.of_places;
          answers = λ events s. sym (t.silent e refl events s);
        };
      }
