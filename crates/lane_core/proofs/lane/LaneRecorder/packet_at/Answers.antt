use Rattle.std.proofs.Common.{◌≡◌, ◌+◌, true, List, Some, None, Err, refl, sym, ap, subst, ◌∙◌}
use Rattle.app_api.specs.App.{Meaning}
use Rattle.shared_forest.specs.declared.store.ForestView.{Ghosts}
use Rattle.forest_versions.specs.Master.{Versions}
use Rattle.connection_core.specs.Trees.{InternsWithin}
use Rattle.lane_core.specs.declared.errors.LaneError.{LaneError}
use Rattle.lane_core.specs.declared.errors.LaneError.TheVariants.{NoMemory, Heavy}
use Rattle.lane_core.specs.declared.lane.Lane.{Lane}
use Rattle.lane_core.specs.declared.records.Records.{Records}
use Rattle.lane_core.specs.Lane.{ForEvents, IsHeavyAt, IsRun, TakesPacket, newest_by, with_event}
use Rattle.lane_core.specs.Packets.{StaysUnder}
use Rattle.lane_core.specs.Run.{LaneEvent, Arrived, lane_run}
use Rattle.lane_core.specs.Shown.{alterations}
use Rattle.lane_core.specs.Sight.{Arrival, sight_of, arrival_at}
use Rattle.lane_core.specs.Steps.{Taking}
use Rattle.lane_core.proofs.Holding.{left_of_and}
use Rattle.lane_core.proofs.Standing.{err_value, never_failed, newest_next, packet_costs, packet_failed, packet_stands, is_too_heavy, is_light, run_added}
use Rattle.lane_core.proofs.lane.LaneRecorder.packet_at.Goals as goal

-- a lane that fails at a packet, whose records were these just before
fails_at : {A F : Type 0} {store : Ghosts F} (meaning : A → Meaning) (old new : Lane A F store) (mid : Records F store) (a : Arrival) (told e : LaneError) → old.failed ≡ None → told ≡ e
    → new ≡ record old { records = new.records; failed = Some e } → StaysUnder mid new.records → mid.next ≡ a.number + 1 → mid.master ≡ old.records.master
    → ((events : List LaneEvent) → IsRun (meaning old.app) old.keep old.records None events → InternsWithin (store.interns old.records.forests) (store.interns mid.forests)
    (alterations (lane_run (meaning old.app) events)) (alterations (lane_run (meaning old.app) (with_event (Arrived a) events))))
    → (e ≡ Heavy → (old.keep ≡ true) × ForEvents (IsRun (meaning old.app) old.keep old.records None) (IsHeavyAt a (meaning old.app)))
    → TakesPacket (λ lane. IsRun {store = store} (meaning lane.app) lane.keep lane.records lane.failed) (λ lane. meaning lane.app) (λ lane. lane.keep)
    (λ lane. lane.records.master.now) (λ lane. lane.records.master.version) (λ lane. newest_by lane.records.next) (λ lane. lane.failed) (λ lane. store.interns lane.records.forests)
    old new a (Err told)
fails_at {A} {F} {store} meaning old new mid a told e good answer lane stays next master interns over =
    let run = λ (events : List LaneEvent) (r : IsRun (meaning old.app) old.keep old.records old.failed events). subst (λ f. IsRun (meaning old.app) old.keep old.records f events) good r in
    record {
      stands = λ _ events r. subst (λ (l : Lane A F store). IsRun (meaning l.app) l.keep l.records l.failed (with_event (Arrived a) events)) (sym lane)
          (packet_failed (meaning old.app) old.keep new.records events a e (stays.next ∙ next) (λ is. (over is).1 events (run events r)));
      failed_before = λ x is. absurd (let both = sym good ∙ is in cc);
      ok = tt;
      fails = ap (λ (l : Lane A F store). l.failed) lane ∙ ap Some (sym answer);
      verdict = tt;
      light = tt;
      heavy = λ _ is. let same : e ≡ Heavy = cc in ((over same).0, λ events r. (over same).1 events (run events r));
      interned = λ _ events r. subst (λ s. InternsWithin (store.interns old.records.forests) (store.interns s)
          (alterations (lane_run (meaning old.app) events)) (alterations (lane_run (meaning old.app) (with_event (Arrived a) events)))) (sym stays.forests) (interns events (run events r));
      newest = λ _. newest_next a.number new.records.next (stays.next ∙ next);
      version = ap (λ (m : Versions). m.version) (stays.master ∙ master);
      control = ap (λ (m : Versions). m.now) (stays.master ∙ master);
      app = ap (λ (l : Lane A F store). meaning l.app) lane;
      keeps = ap (λ (l : Lane A F store). l.keep) lane;
    }

pub returns-in_default-take : goal.returns-in_default-take
returns-in_default-take g c =
    let self = c.args.self.now in
    let t : Taking = record { app = g.A.App.meaning self.app; keep = self.keep; number = c.args.number; moment = c.args.moment } in
    let sight = sight_of c.args.bytes.now in
    let costs = err_value c.take.result c.in_default-take.not-Ok c.take.ensures.failed in
    fails_at g.A.App.meaning self c.fail.new.self c.take.new.self (arrival_at c.args.number c.args.moment c.args.bytes.now) c.fail.result NoMemory
    (never_failed self.failed c.in_default.not-Some) c.fail.ensures.answer c.fail.ensures.lane c.fail.ensures.records costs.taken.next costs.taken.master
    (λ events run. packet_costs t self.records c.take.new.self sight events run costs) (λ is. absurd (cc))

pub returns-then-is_too_heavy : goal.returns-then-is_too_heavy
returns-then-is_too_heavy g c =
    let self = c.args.self.now in
    let t : Taking = record { app = g.A.App.meaning self.app; keep = self.keep; number = c.args.number; moment = c.args.moment } in
    let sight = sight_of c.args.bytes.now in
    let adds = c.in-Ok.ensures.stands in
    let over = sym c.is_too_heavy.ensures ∙ c.if-is_too_heavy.true in
    let fail = c.fail-then-is_too_heavy in
    fails_at g.A.App.meaning self fail.new.self c.take.new.self (arrival_at c.args.number c.args.moment c.args.bytes.now) fail.result Heavy
    (never_failed self.failed c.in_default.not-Some) fail.ensures.answer fail.ensures.lane fail.ensures.records adds.next adds.master
    (λ events run. (run_added t self.records c.take.new.self sight events run c.in-Ok.verdict adds).interned)
    (λ _. (left_of_and self.keep _ over, λ events run. is_too_heavy t self.records c.take.new.self sight events run c.in-Ok.verdict adds over))

pub returns : goal.returns
returns g c =
    let self = c.args.self.now in
    let t : Taking = record { app = g.A.App.meaning self.app; keep = self.keep; number = c.args.number; moment = c.args.moment } in
    let old = self.records in
    let new = c.take.new.self in
    let sight = sight_of c.args.bytes.now in
    let good = never_failed self.failed c.in_default.not-Some in
    let adds = c.in-Ok.ensures.stands in
    let run = λ (events : List LaneEvent) (r : IsRun t.app t.keep old self.failed events). subst (λ f. IsRun t.app t.keep old f events) good r in
    record {
      stands = λ _ events r. subst (λ f. IsRun t.app t.keep new f (with_event (Arrived (arrival_at c.args.number c.args.moment c.args.bytes.now)) events)) (sym good)
          (packet_stands t old new sight events (run events r) c.in-Ok.verdict adds);
      failed_before = λ x is. absurd (let both = sym good ∙ is in cc);
      ok = good;
      fails = tt;
      verdict = λ events r. (run_added t old new sight events (run events r) c.in-Ok.verdict adds).verdict_is;
      light = λ keeps events r heavy. is_light t old new sight events (run events r) c.in-Ok.verdict adds (sym c.is_too_heavy.ensures ∙ c.if-is_too_heavy.false) keeps heavy;
      heavy = λ _ is. absurd (cc);
      interned = λ _ events r. (run_added t old new sight events (run events r) c.in-Ok.verdict adds).interned;
      newest = λ _. newest_next c.args.number new.next adds.next;
      version = ap (λ (m : Versions). m.version) adds.master;
      control = ap (λ (m : Versions). m.now) adds.master;
      app = refl;
      keeps = refl;
    }
