use denote.Exit.{yes}
use denote.Param.{copied}
use denote.Param.Send.{param_send, arg_send}
use Rattle.std.proofs.Common.{◌∙◌, refl, sym, ap, subst, inl, inr, Err}
use Rattle.std.proofs.lemmas.Result.{err_from_is_err_and}
use Rattle.std.specs.Prelude.{IsErrOf}
use Rattle.mos_bytes.specs.Outside.{Writes}
use Rattle.pcap_source.specs.Reading.{frames_at}
use Rattle.shared_forest.proofs.store_user.StoreUser.TheSendSync as user
use Rattle.shared_forest.specs.contracts.store_user.StoreUserForestView.TheImpl as view
use Rattle.lane_core.proofs.Handed.{lane_send}
use Rattle.worker_pool.specs.declared.job.PoolError.TheVariants.{WriteFault}
use Rattle.forward_run.specs.Forward.{ForwardsOver}
use Rattle.forward_dispatch.specs.Streamed.{AreLaneAnswers}
use Rattle.forward_run.proofs.Stopping.{unread, told_last}
use Rattle.forward_run.proofs.Forwarding.{ended_early, no_fault_early, read_all}
use Rattle.worker_pool.proofs.Source.{reads_less, reads_nothing}
use Rattle.forward_run.proofs.lanes.forward_lanes.Goals as goal

pub stream_team-requires-send-L : goal.stream_team-requires-send-L
stream_team-requires-send-L g c κs within =
    let lane = lane_send _ _ (view.ghosts (copied 0 g.row.R)) c.type_bounds.send-A (user.the_send _ c.type_bounds.send-R) in
    param_send 1 _ (arg_send _ yes _ lane)

pub leave-requires-send-L : goal.leave-requires-send-L
leave-requires-send-L g c κs within =
    let lane = lane_send _ _ (view.ghosts (copied 0 g.row.R)) c.type_bounds.send-A (user.the_send _ c.type_bounds.send-R) in
    param_send 1 _ (arg_send _ yes _ lane)

pub stream_team-requires-clause-may : goal.stream_team-requires-clause-may
stream_team-requires-clause-may g c κs within =
    let dealing = c.in_ok-dealing.ensures in
    record {
      opened = c.requires.opened;
      all_answers_are = subst (AreLaneAnswers c.in_ok-team.team.workers.items) (sym dealing.answers) c.in_ok-team.ensures.all_answers.all_answers_are;
      none_left = dealing.leaves (g.O.Sink.taken c.args.out.now);
      last = dealing.last;
    }

pub returns-in_err-dealing-clause-forwards : goal.returns-in_err-dealing-clause-forwards
returns-in_err-dealing-clause-forwards g c = λ rest is.
    let p = err_from_is_err_and c.from_residual-in_err-dealing.result c.from_residual-in_err-dealing.ensures.1 in
    let app = g.A.App.meaning c.args.app.now in
    let f = frames_at c.args.capture.now rest in
    ended_early app c.args.context.now.script.now c.args.workers f (g.O.Sink.taken c.args.out.now) c.from_residual-in_err-dealing.result (p.1 ∙ ap Err p.2)
    (c.nothing_is_a_front.ensures.front app c.args.workers f.frames (g.O.Sink.taken c.args.out.now))

pub returns-in_err-read-clause-forwards : goal.returns-in_err-read-clause-forwards
returns-in_err-read-clause-forwards g c = λ rest is.
    let p = err_from_is_err_and c.from_residual-in_err-read.result c.from_residual-in_err-read.ensures.1 in
    let app = g.A.App.meaning c.args.app.now in
    let f = frames_at c.args.capture.now rest in
    subst (λ (o : g.row.O.Denot). ForwardsOver app c.args.context.now.script.now c.args.workers f (g.O.Sink.taken c.args.out.now) (g.O.Sink.taken o) c.from_residual-in_err-read.result)
    (sym c.in_err-read.ensures.unchanged.2)
    (ended_early app c.args.context.now.script.now c.args.workers f (g.O.Sink.taken c.args.out.now) c.from_residual-in_err-read.result (p.1 ∙ ap Err p.2)
    (c.nothing_is_a_front.ensures.front app c.args.workers f.frames (g.O.Sink.taken c.args.out.now)))

pub returns-clause-forwards : goal.returns-clause-forwards
returns-clause-forwards g c = λ rest is.
    let app = g.A.App.meaning c.args.app.now in
    let script = c.args.context.now.script.now in
    let s = c.in_ok-read.ensures.served in
    let before = g.O.Sink.taken c.args.out.now in
    let after = g.O.Sink.taken c.stream_team.new.out in
    let over = c.leave.ensures.ends app s.frames c.in_ok-team.team.workers.items c.in_ok-team.team.packets.items c.args.capture.now
    (g.S.Source.left c.args.source.now) (g.S.Source.left c.stream_team.new.source) before after rest
    s.few c.in_ok-team.ensures.team c.in_ok-team.ensures.keep s.served s.done is in
    subst (λ n. ForwardsOver app script n (frames_at c.args.capture.now rest) before after c.leave.result) c.in_ok-team.ensures.count over

pub returns-clause-read : goal.returns-clause-read
returns-clause-read g c = λ ok rest is.
    let s = c.in_ok-read.ensures.served in
    read_all s.frames c.args.capture.now (g.S.Source.left c.args.source.now) (g.S.Source.left c.stream_team.new.source) c.in_ok-read.read (c.leave.ensures.ok ok) s.done.stops rest is

pub returns-clause-reads : goal.returns-clause-reads
returns-clause-reads g c =
    reads_less g.S.Source c.args.capture.now c.args.source.now c.stream_team.new.source c.leave.ensures.ok c.leave.ensures.read_fault c.in_ok-read.ensures.outside.reads

pub returns-clause-writes : goal.returns-clause-writes
returns-clause-writes g c =
    let before = c.in_ok-read.ensures.outside.writes in
    record {
      cause = record { later = before.cause.later; cause = λ fault. before.cause.cause (c.leave.ensures.write_fault fault) };
      lasts = before.lasts;
    }

pub returns-in_err-dealing-clause-never_heavy : goal.returns-in_err-dealing-clause-never_heavy
returns-in_err-dealing-clause-never_heavy g c =
    let p = err_from_is_err_and c.from_residual-in_err-dealing.result c.from_residual-in_err-dealing.ensures.1 in
    rw (p.1, p.2) (λ is. cc)

pub returns-in_err-read-clause-never_heavy : goal.returns-in_err-read-clause-never_heavy
returns-in_err-read-clause-never_heavy g c =
    let p = err_from_is_err_and c.from_residual-in_err-read.result c.from_residual-in_err-read.ensures.1 in
    rw (p.1, p.2) (λ is. cc)

pub returns-clause-never_heavy : goal.returns-clause-never_heavy
returns-clause-never_heavy g c =
    let s = c.in_ok-read.ensures.served in
    c.leave.ensures.never_heavy (g.A.App.meaning c.args.app.now) s.frames c.in_ok-team.team.workers.items c.in_ok-team.team.packets.items c.args.capture.now
    (g.S.Source.left c.args.source.now) (g.S.Source.left c.stream_team.new.source) (g.O.Sink.taken c.args.out.now) (g.O.Sink.taken c.stream_team.new.out)
    s.few c.in_ok-team.ensures.team c.in_ok-team.ensures.keep s.served s.done

pub returns-in_err-team-clause-stopped : goal.returns-in_err-team-clause-stopped
returns-in_err-team-clause-stopped g c = λ live.
    let p = err_from_is_err_and c.from_residual.result c.from_residual.ensures.1 in
    (inr (p.1 ∙ ap Err p.2), unread c.args.capture.now (g.S.Source.left c.args.source.now) c.requires.opened.count)

pub returns-in_err-dealing-clause-stopped : goal.returns-in_err-dealing-clause-stopped
returns-in_err-dealing-clause-stopped g c = λ live.
    let p = err_from_is_err_and c.from_residual-in_err-dealing.result c.from_residual-in_err-dealing.ensures.1 in
    (inr (p.1 ∙ ap Err p.2), unread c.args.capture.now (g.S.Source.left c.args.source.now) c.requires.opened.count)

pub returns-in_err-read-clause-stopped : goal.returns-in_err-read-clause-stopped
returns-in_err-read-clause-stopped g c = λ live.
    let p = err_from_is_err_and c.from_residual-in_err-read.result c.from_residual-in_err-read.ensures.1 in
    let same = c.in_err-read.ensures.unchanged in
    (inr (p.1 ∙ ap Err p.2), rw (same.0, same.1) (unread c.args.capture.now (g.S.Source.left c.args.source.now) c.requires.opened.count))

pub returns-clause-stopped : goal.returns-clause-stopped
returns-clause-stopped g c = λ live.
    let stopped = c.in_ok-read.ensures.outside.stopped live in
    (told_last c.in_ok-read.read c.leave.result stopped.0 c.leave.ensures.error, stopped.1)

pub returns-in_err-team-clause-reads : goal.returns-in_err-team-clause-reads
returns-in_err-team-clause-reads g c =
    let p = err_from_is_err_and c.from_residual.result c.from_residual.ensures.1 in
    reads_less g.S.Source c.args.capture.now c.args.source.now c.args.source.now inl (λ fault. fault)
    (reads_nothing g.S.Source c.args.capture.now c.args.source.now c.args.source.now c.from_residual.result (p.1 ∙ ap Err p.2) refl)

pub returns-in_err-team-clause-writes : goal.returns-in_err-team-clause-writes
returns-in_err-team-clause-writes g c =
    let p = err_from_is_err_and c.from_residual.result c.from_residual.ensures.1 in
    record { cause = no_fault_early (g.O.Sink.faults c.args.out.now) WriteFault c.from_residual.result (p.1 ∙ ap Err p.2) (λ e. cc); lasts = refl }

pub returns-in_err-dealing-clause-reads : goal.returns-in_err-dealing-clause-reads
returns-in_err-dealing-clause-reads g c =
    let p = err_from_is_err_and c.from_residual-in_err-dealing.result c.from_residual-in_err-dealing.ensures.1 in
    reads_less g.S.Source c.args.capture.now c.args.source.now c.args.source.now inl (λ fault. fault)
    (reads_nothing g.S.Source c.args.capture.now c.args.source.now c.args.source.now c.from_residual-in_err-dealing.result (p.1 ∙ ap Err p.2) refl)

pub returns-in_err-dealing-clause-writes : goal.returns-in_err-dealing-clause-writes
returns-in_err-dealing-clause-writes g c =
    let p = err_from_is_err_and c.from_residual-in_err-dealing.result c.from_residual-in_err-dealing.ensures.1 in
    record { cause = no_fault_early (g.O.Sink.faults c.args.out.now) WriteFault c.from_residual-in_err-dealing.result (p.1 ∙ ap Err p.2) (λ e. cc); lasts = refl }

pub returns-in_err-read-clause-reads : goal.returns-in_err-read-clause-reads
returns-in_err-read-clause-reads g c =
    let p = err_from_is_err_and c.from_residual-in_err-read.result c.from_residual-in_err-read.ensures.1 in
    reads_less g.S.Source c.args.capture.now c.args.source.now c.stream_team.new.source inl (λ fault. fault)
    (reads_nothing g.S.Source c.args.capture.now c.args.source.now c.stream_team.new.source c.from_residual-in_err-read.result (p.1 ∙ ap Err p.2) (sym c.in_err-read.ensures.unchanged.1))

pub returns-in_err-read-clause-writes : goal.returns-in_err-read-clause-writes
returns-in_err-read-clause-writes g c =
    let p = err_from_is_err_and c.from_residual-in_err-read.result c.from_residual-in_err-read.ensures.1 in
    let same = c.in_err-read.ensures.unchanged.2 in
    subst (λ (o : g.row.O.Denot). Writes g.O.Sink c.args.out.now o (IsErrOf c.from_residual-in_err-read.result WriteFault)) (sym same)
    (record { cause = no_fault_early (g.O.Sink.faults c.args.out.now) WriteFault c.from_residual-in_err-read.result (p.1 ∙ ap Err p.2) (λ e. cc); lasts = refl })
