use Rattle.std.proofs.Common.{List, false, sym, subst, ◌∙◌}
use Rattle.std.proofs.lemmas.Result.{IfErr-weaker}
use Rattle.pcap_source.specs.Reading.{frames_at}
use Rattle.lane_core.specs.Run.{LaneEvent}
use Rattle.lane_worker.specs.declared.worker.Worker.{Worker}
use Rattle.worker_pool.specs.Team.{HaveServed}
use Rattle.worker_pool.specs.Ending.{CameTo}
use Rattle.forward_dispatch.specs.Streamed.{StopsAs}
use Rattle.forward_run.specs.Explained.{AreGood, LeavesFront, LeavesAll}
use Rattle.forward_run.proofs.Exits.{came_after, never_too_heavy, are_beside, refused_as, front_at, over_at}
use Rattle.forward_run.proofs.leave.leave.Goals as goal

pub compare-requires : goal.compare-requires
compare-requires g c =
    let s = c.requires.served in
    record { beside = are_beside g.L.Recorder c.args.context.now.script.now s.2 c.args.workers.items s.1 c.args.all_answers.items s.5 s.6 }

pub returns-in-Err-clause-ends : goal.returns-in-Err-clause-ends
returns-in-Err-clause-ends g c app frames begins packets start old new before after rest few team kept served streamed is =
    let script = c.args.context.now.script.now in
    let workers = c.args.workers.items in
    let all_answers = c.args.all_answers.items in
    let seen = c.as_slice.ensures.value in
    let told = (frames_at start rest).frames in
    let law = subst (LeavesFront app script frames told) seen
    (c.lanes_have_answered.ensures.front app frames told begins packets all_answers few team kept (subst (HaveServed g.L.Recorder script begins frames) (sym seen) served) streamed.all_answers_are
    (streamed.front rest is)) in (
      refused_as frames start old new rest c.in-Err.error (subst (StopsAs frames start old new) c.in-Err.is streamed.stops) is,
      front_at g.L.Recorder app script frames begins workers all_answers start old new before after rest c.args.read served streamed c.compare.ensures.fronts law,
    )

pub returns-in-Ok-clause-ends : goal.returns-in-Ok-clause-ends
returns-in-Ok-clause-ends g c app frames begins packets start old new before after rest few team kept served streamed is =
    let script = c.args.context.now.script.now in
    let workers = c.args.workers.items in
    let all_answers = c.args.all_answers.items in
    let seen = c.as_slice.ensures.value in
    let told = (frames_at start rest).frames in
    let served_seen = subst (HaveServed g.L.Recorder script begins frames) (sym seen) served in
    let law = subst (LeavesFront app script frames told) seen
    (c.lanes_have_answered.ensures.front app frames told begins packets all_answers few team kept served_seen streamed.all_answers_are (streamed.front rest is)) in
    let whole = subst (λ (ws : List (Worker g.row.L.Denot)). (lanes : List (List LaneEvent)) × CameTo g.L.Recorder false app script frames ws lanes
    × (AreGood g.L.Recorder ws → LeavesAll app script frames ws lanes)) seen
    (c.lanes_have_answered.ensures.whole app frames begins packets all_answers few team kept served_seen streamed.all_answers_are) in
    over_at g.L.Recorder app script frames begins workers all_answers start old new before after rest c.args.read served streamed c.compare.ensures.fronts
    c.compare.new.workers.items c.compare.ensures.lanes whole law c.in-Ok.whole c.in-Ok.is is c.versions_in.result c.versions_in.ensures.good
    (λ lanes vs last came one may_have. c.versions_in.ensures.versions app script frames lanes vs last came one may_have)
    (λ lanes came. c.versions_in.ensures.no_memory app script frames lanes came)

pub returns-in-Err-clause-never_heavy : goal.returns-in-Err-clause-never_heavy
returns-in-Err-clause-never_heavy g c app frames begins packets start old new before after few team kept served streamed =
    never_too_heavy frames start old new c.in-Err.error (subst (StopsAs frames start old new) c.in-Err.is streamed.stops)

pub returns-in-Ok-clause-never_heavy : goal.returns-in-Ok-clause-never_heavy
returns-in-Ok-clause-never_heavy g c app frames begins packets start old new before after few team kept served streamed =
    let script = c.args.context.now.script.now in
    let workers = c.args.workers.items in
    let seen = c.as_slice.ensures.value in
    let whole = subst (λ (ws : List (Worker g.row.L.Denot)). (lanes : List (List LaneEvent)) × CameTo g.L.Recorder false app script frames ws lanes
    × (AreGood g.L.Recorder ws → LeavesAll app script frames ws lanes)) seen
    (c.lanes_have_answered.ensures.whole app frames begins packets c.args.all_answers.items few team kept
    (subst (HaveServed g.L.Recorder script begins frames) (sym seen) served) streamed.all_answers_are) in
    let came = came_after g.L.Recorder workers c.compare.new.workers.items c.compare.ensures.lanes false app script frames whole.0 whole.1 in
    IfErr-weaker c.versions_in.result _ _ (λ e memory heavy. let same = sym memory ∙ heavy in cc) (c.versions_in.ensures.no_memory app script frames whole.0 came)
