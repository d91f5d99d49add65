use Rattle.std.proofs.Common.{Err, Some, refl, ap, subst, sym, ◌∙◌}
use Rattle.std.proofs.lemmas.Result.{err_from_is_err_and}
use Rattle.capture_replay.specs.Outcome.{made_for}
use Rattle.mos_run.specs.Run.{RunsUnder}
use Rattle.mos_run.proofs.Chosen.{over_as, script_ran, under_settings, wanted_is}
use Rattle.mos_run.proofs.Outcomes.{has_some, not_refused, under_text, refused_script, over_file}
use Rattle.mos_run.proofs.run.run.Goals as goal

pub returns-in_err-script-clause-runs : goal.returns-in_err-script-clause-runs
returns-in_err-script-clause-runs g c = λ t is.
    let app = g.A.App.meaning c.args.app in
    let content = g.H.Shelf.content c.args.shelf.now in
    let left = g.S.Source.left c.args.capture.now in
    let s = c.args.settings.now in
    let some = has_some c.what_one_worker_has_is_allowed.ensures.allowed app (Some s) content left t is in
    let u = under_text app (Some s) content left t s refl is in
    let p = err_from_is_err_and c.from_residual.result c.from_residual.ensures.1 in
    rw (p.1, p.2)
    (refused_script app s content left (g.O.Sink.taken c.args.out.now) t c.in_err-script.field-0.0 some u (c.in_err-script.ensures.refused u.text u.told_so))

pub returns-in_err-script-clause-ran : goal.returns-in_err-script-clause-ran
returns-in_err-script-clause-ran g c =
    let script = c.in_err-script.ensures in
    let p = err_from_is_err_and c.from_residual.result c.from_residual.ensures.1 in
    rw (p.1, p.2)
    (script_ran g.S.Source g.H.Shelf g.O.Sink (g.A.App.meaning c.args.app) c.args.settings.now _ _ _ _ c.in_err-script.field-0.0 script.early script.unasked
    script.from.cause.later (λ fault. script.from.cause.cause (ap (λ e. Err e) fault)) script.from.lasts)

pub returns-clause-runs : goal.returns-clause-runs
returns-clause-runs g c = λ t is.
    let app = g.A.App.meaning c.args.app in
    let content = g.H.Shelf.content c.args.shelf.now in
    let left = g.S.Source.left c.args.capture.now in
    let s = c.args.settings.now in
    let task = c.task_of.ensures in
    let u = under_text app (Some s) content left t s refl is in
    let over = over_file app s content left t c.in_ok-script.script u (c.in_ok-script.ensures.ok u.text u.told_so) in
    let w = wanted_is g.A.App.meaning c.task_of.result c.args.app s c.in_ok-script.script task.app task.script task.output task.workers in
    let ran = over_as g.S.Source g.O.Sink _ _ w c.args.capture.now c.run_file.new.capture c.args.out.now c.run_file.new.out c.run_file.result c.run_file.ensures.ran in
    subst (λ x. RunsUnder x (g.O.Sink.taken c.args.out.now) (g.O.Sink.taken c.run_file.new.out) c.run_file.result) over.comes_to
    (ran.comes_to over.file over.told_so)

pub returns-clause-ran : goal.returns-clause-ran
returns-clause-ran g c =
    let app = g.A.App.meaning c.args.app in
    let s = c.args.settings.now in
    let task = c.task_of.ensures in
    let script = c.in_ok-script.ensures in
    let w = wanted_is g.A.App.meaning c.task_of.result c.args.app s c.in_ok-script.script task.app task.script task.output task.workers in
    under_settings g.S.Source g.H.Shelf g.O.Sink app s c.in_ok-script.script _ _ _ _ _ _ _
    (over_as g.S.Source g.O.Sink _ _ w c.args.capture.now c.run_file.new.capture c.args.out.now c.run_file.new.out c.run_file.result c.run_file.ensures.ran)
    (ap made_for (sym task.output) ∙ task.made)
    (λ e is. not_refused app (Some s) (g.H.Shelf.content c.args.shelf.now) (g.S.Source.left c.args.capture.now) s c.in_ok-script.script e refl script.ok is)
    (λ none. (script.unasked none).0) script.faultless script.from.lasts
