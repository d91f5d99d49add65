use denote.Exit.{yes}
use denote.Param.{copied}
use denote.Param.Send.{param_send, arg_send}
use Rattle.std.proofs.Common.{◌≡◌, ◌∙◌, ⊎_elim, Err, length, refl, sym, ap, subst}
use Rattle.std.proofs.lemmas.Result.{err_from_is_err_and}
use Rattle.pcap_source.specs.Capture.{Frames}
use Rattle.shared_forest.proofs.store_user.StoreUser.TheSendSync as user
use Rattle.shared_forest.specs.contracts.store_user.StoreUserForestView.TheImpl as view
use Rattle.lane_core.proofs.Handed.{lane_send}
use Rattle.worker_pool.specs.declared.job.PoolError.TheVariants.{ReadFault, Heavy}
use Rattle.worker_pool.specs.Run.{EndsOver, shown_end}
use Rattle.worker_pool.specs.Ending.{Concludes}
use Rattle.worker_pool.proofs.Concluding.{concluded, no_fault, no_write, of_frames}
use Rattle.worker_pool.proofs.Source.{reads_less, reads_nothing, no_value}
use Rattle.worker_pool.proofs.Reading.{same_error}
use Rattle.worker_pool.proofs.report.lanes.run_lanes_kept.Goals as goal

pub read_team-requires-send-L : goal.read_team-requires-send-L
read_team-requires-send-L g c κs within =
    let lane = lane_send _ _ (view.ghosts (copied 0 g.row.R)) c.type_bounds.send-A (user.the_send _ c.type_bounds.send-R) in
    param_send 1 _ (arg_send _ yes _ lane)

pub conclude-requires-send-L : goal.conclude-requires-send-L
conclude-requires-send-L g c κs within =
    let lane = lane_send _ _ (view.ghosts (copied 0 g.row.R)) c.type_bounds.send-A (user.the_send _ c.type_bounds.send-R) in
    param_send 1 _ (arg_send _ yes _ lane)

pub returns-clause-ends : goal.returns-clause-ends
returns-clause-ends g c rest is =
    let app = g.A.App.meaning c.args.job.now.app in
    let script = c.args.job.now.script.now in
    let ran = c.in_ok-ran.ensures.ran in
    let end = c.conclude.ensures.ends app ran.0 c.in_ok-team.team.workers.items c.in_ok-team.team.packets.items ran.2.count ran.1 ran.2.last
    c.in_ok-team.ensures.team c.in_ok-team.ensures.keep ran.3 in
    let over = subst (λ n. Concludes app script n ran.0 c.in_ok-ran.ran.whole.tail c.conclude.result) c.in_ok-team.ensures.count end in
    subst (λ (f : Frames). EndsOver app script c.args.job.now.workers f (shown_end app c.conclude.result)) (sym (ran.2.holds rest is).0)
    (concluded app script c.args.job.now.workers ran.0 c.in_ok-ran.ran.whole.tail c.conclude.result over)

pub returns-clause-whole : goal.returns-clause-whole
returns-clause-whole g c =
    let app = g.A.App.meaning c.args.job.now.app in
    let ran = c.in_ok-ran.ensures.ran in
    let end = c.conclude.ensures.ends app ran.0 c.in_ok-team.team.workers.items c.in_ok-team.team.packets.items ran.2.count ran.1 ran.2.last
    c.in_ok-team.ensures.team c.in_ok-team.ensures.keep ran.3 in
    of_frames app c.args.job.now.script.now c.args.job.now.workers ran.0 c.in_ok-ran.ran.whole.tail c.conclude.result
    (subst (λ n. Concludes app c.args.job.now.script.now n ran.0 c.in_ok-ran.ran.whole.tail c.conclude.result) c.in_ok-team.ensures.count end)

pub returns-clause-read : goal.returns-clause-read
returns-clause-read g c ok rest is = (c.in_ok-ran.ensures.ran.2.holds rest is).1

pub returns-in_err-team-clause-reads : goal.returns-in_err-team-clause-reads
returns-in_err-team-clause-reads g c =
    let p = err_from_is_err_and c.from_residual.result c.from_residual.ensures.1 in
    reads_nothing g.S.Source c.args.capture.now c.args.source.now c.args.source.now c.from_residual.result (p.1 ∙ ap Err p.2) refl

pub returns-in_err-ran-clause-reads : goal.returns-in_err-ran-clause-reads
returns-in_err-ran-clause-reads g c =
    let result = c.from_residual-in_err-ran.result in
    let e = c.in_err-ran.field-0.0 in
    let p = err_from_is_err_and result c.from_residual-in_err-ran.ensures.1 in
    let is : result ≡ Err e = p.1 ∙ ap Err p.2 in
    reads_less g.S.Source c.args.capture.now c.args.source.now c.read_team.new.source
    (λ told. absurd (⊎_elim (no_value e result is) (λ heavy. c.in_err-ran.ensures.light (same_error e Heavy result is heavy)) told))
    (λ fault. ap Err (same_error e ReadFault result is fault)) c.in_err-ran.ensures.reads

pub returns-clause-reads : goal.returns-clause-reads
returns-clause-reads g c =
    let app = g.A.App.meaning c.args.job.now.app in
    let ran = c.in_ok-ran.ensures.ran in
    reads_less g.S.Source c.args.capture.now c.args.source.now c.read_team.new.source (λ told. refl)
    (λ fault. absurd (no_fault app c.args.job.now.script.now (length c.in_ok-team.team.workers.items) ran.0 c.in_ok-ran.ran.whole.tail c.conclude.result
    (c.conclude.ensures.ends app ran.0 c.in_ok-team.team.workers.items c.in_ok-team.team.packets.items ran.2.count ran.1 ran.2.last c.in_ok-team.ensures.team c.in_ok-team.ensures.keep ran.3) fault))
    c.in_ok-ran.ensures.reads

pub returns-clause-no_write : goal.returns-clause-no_write
returns-clause-no_write g c fault =
    let app = g.A.App.meaning c.args.job.now.app in
    let ran = c.in_ok-ran.ensures.ran in
    no_write app c.args.job.now.script.now (length c.in_ok-team.team.workers.items) ran.0 c.in_ok-ran.ran.whole.tail c.conclude.result
    (c.conclude.ensures.ends app ran.0 c.in_ok-team.team.workers.items c.in_ok-team.team.packets.items ran.2.count ran.1 ran.2.last c.in_ok-team.ensures.team c.in_ok-team.ensures.keep ran.3) fault

pub returns-clause-stopped : goal.returns-clause-stopped
returns-clause-stopped g c = λ live. absurd (let read = (c.in_ok-ran.ensures.stopped live).0 in cc)
