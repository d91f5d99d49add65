use Rattle.std.proofs.Common.{Some, refl, subst, sym}
use Rattle.capture_replay.specs.Records.{packets_of}
use Rattle.capture_replay.specs.Runs.{Finishes}
use Rattle.mos_run.specs.Outcome.{outcome}
use Rattle.mos_run.specs.Request.{Asked}
use Rattle.mos_run.specs.Run.{FinishesUnder}
use Rattle.mos_run.proofs.Chosen.{badly, ran_well}
use Rattle.mos_run.proofs.Outcomes.{finishes_alone}
use Rattle.mos_run.proofs.run.run_chosen.Goals as goal

pub returns-in-Ok : goal.returns-in-Ok
returns-in-Ok g c = record {
  ran = record {
    done = λ zero t is.
        subst (λ vs. FinishesUnder t vs (g.O.Sink.taken c.args.out.now) (g.O.Sink.taken c.run.new.out)) (sym c.done.ensures.versions) (c.in-Ok.ensures.runs t is);
    alone = λ zero w file is stamped.
        subst (λ vs. Finishes (outcome w.app w.commands (packets_of w.commands) w.output file) vs (g.O.Sink.taken c.args.out.now) (g.O.Sink.taken c.run.new.out)) (sym c.done.ensures.versions)
        (finishes_alone c.what_one_worker_has_is_allowed.ensures.outcome c.what_one_worker_has_is_allowed.ensures.forwarded c.without_live_commands_all_versions_are_known.ensures (g.A.App.meaning c.args.app) (Some c.args.settings.now)
        (g.H.Shelf.content c.args.shelf.now) (g.S.Source.left c.args.capture.now) w file c.in-Ok.versions (g.O.Sink.taken c.args.out.now) (g.O.Sink.taken c.run.new.out) is (c.in-Ok.ensures.runs (Asked w file) is) stamped);
    rest = ran_well g.S.Source g.H.Shelf g.O.Sink g.E.Sink (g.A.App.meaning c.args.app) (Some c.args.settings.now) _ _ _ _ _ _ _ _ _
        c.in-Ok.versions c.in-Ok.ensures.ran c.in-Ok.ensures.runs c.done.ensures.status refl;
  };
}

pub returns-in-Err : goal.returns-in-Err
returns-in-Err g c =
    let told = c.refuse.ensures in
    record {
      ran = badly g.S.Source g.H.Shelf g.O.Sink g.E.Sink (g.A.App.meaning c.args.app) (Some c.args.settings.now) _ _ _ _ _ _ _ _ _
          c.in-Err.error c.in-Err.ensures.ran c.in-Err.ensures.runs told.status told.usage told.versions told.told told.lasts;
    }
