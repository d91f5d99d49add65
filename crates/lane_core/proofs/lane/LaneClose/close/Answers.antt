use Rattle.std.proofs.Common.{◌≡◌, ◌∙◌, Bool, true, Option, None, List, sym, ap, map}
use Rattle.std.proofs.lemmas.Result.{err_from_is_err_and}
use Rattle.app_api.specs.App.{Meaning}
use Rattle.shared_forest.specs.declared.store.ForestView.{Ghosts}
use Rattle.lane_core.specs.declared.errors.LaneError.{LaneError}
use Rattle.lane_core.specs.declared.records.Records.{Records}
use Rattle.lane_core.specs.declared.under_way.RecordUnderWay.{RecordUnderWay}
use Rattle.lane_core.specs.Closing.{IsTooHeavy}
use Rattle.lane_core.specs.End.{ended}
use Rattle.lane_core.specs.Lane.{ForEvents, IsHeavyBy, IsRun}
use Rattle.lane_core.specs.Sight.{Moment}
use Rattle.lane_core.specs.Records.{ended_at}
use Rattle.lane_core.specs.Run.{commands_of, control_of, ended_run, lane_run}
use Rattle.lane_core.proofs.Ended.{ends_at, drops-kept}
use Rattle.lane_core.proofs.Ending.{all_ended, version_of_all}
use Rattle.lane_core.proofs.EndOfRun.{all_heavy}
use Rattle.lane_core.proofs.Standing.{now_is, never_failed, is_light_at_end, err_is_heavy}
use Rattle.lane_core.proofs.lane.LaneClose.close.Goals as goal

-- records that weigh too much are those of whatever events the lane stands for
heavy_run : {F : Type 0} {store : Ghosts F} (app : Meaning) (keep : Bool) (records : Records F store) (failed : Option LaneError) (last : Option Moment) → failed ≡ None
    → IsTooHeavy app keep records last → (keep ≡ true) × ForEvents (IsRun app keep records failed) (IsHeavyBy last app)
heavy_run app keep records failed last good heavy = (
  heavy.keeps,
  λ events r.
      let commands = r.commands good in
      heavy.heavy (control_of app events) (lane_run app events) commands.told (now_is app records.master (commands_of events) commands) (r.records good),
)

pub returns-clause-kept : goal.returns-clause-kept
returns-clause-kept g c = λ good events r.
    let self = c.args.self in
    let app = g.A.App.meaning self.app in
    let last = c.args.greatest in
    let commands = r.commands good in
    let stands = c.in_ok-end_all.ensures.ends.ended (control_of app events) (lane_run app events) commands.told (now_is app self.records.master (commands_of events) commands) (r.records good) in
    record {
      records_are = ap (map (ended app)) stands.shown ∙ all_ended self.keep app (ended_run app events last);
      versions_are = ap (λ (ss : List RecordUnderWay). map (λ s. s.version) ss) stands.shown ∙ version_of_all self.keep (ended_run app events last);
      callbacks_are = stands.counted;
      weight_is = stands.weighed;
      drops_are = c.end_all.ensures.dropped ∙ r.dropped good
          ∙ sym (drops-kept app (control_of app events) (ended_at app (control_of app events) last) (ends_at app (control_of app events) last) (lane_run app events));
    }

pub returns-clause-light : goal.returns-clause-light
returns-clause-light g c = λ keeps events r heavy.
    let self = c.args.self in
    let app = g.A.App.meaning self.app in
    let good = never_failed self.failed c.in_default.not-Some in
    let commands = r.commands good in
    let stands = c.in_ok-end_all.ensures.ends.ended (control_of app events) (lane_run app events) commands.told (now_is app self.records.master (commands_of events) commands) (r.records good) in
    is_light_at_end self.keep c.end_all.new.self.ledger.counts.weight _ (sym c.is_too_heavy.ensures ∙ c.if-is_too_heavy.false) keeps stands.weighed heavy

pub returns-in_err-end_all-clause-heavy : goal.returns-in_err-end_all-clause-heavy
returns-in_err-end_all-clause-heavy g c = λ good is.
    let self = c.args.self in
    let p = err_from_is_err_and c.from_residual.result c.from_residual.ensures.1 in
    heavy_run (g.A.App.meaning self.app) self.keep self.records self.failed c.args.greatest good
    (c.end_all.ensures.heavy (err_is_heavy c.from_residual.result c.end_all.result p.0 c.in_err-end_all.field-0.0 p.2 p.1 is c.in_err-end_all.was))

pub returns-then-is_too_heavy-clause-heavy : goal.returns-then-is_too_heavy-clause-heavy
returns-then-is_too_heavy-clause-heavy g c = λ good is.
    let self = c.args.self in
    let app = g.A.App.meaning self.app in
    heavy_run app self.keep self.records self.failed c.args.greatest good
    (all_heavy app self.keep self.records c.end_all.new.self c.args.greatest c.in_ok-end_all.ensures.ends (sym c.is_too_heavy.ensures ∙ c.if-is_too_heavy.true))
