use Rattle.std.proofs.Common.{◌≡◌, Err, ap, subst, ◌∙◌, rules}
use Rattle.std.proofs.lemmas.Result.{err_from_is_err_and}
use Rattle.pcap_source.specs.InPlace.{left_behind}
use Rattle.worker_pool.proofs.Walking.{behind_none, front_within}
use Rattle.capture_replay.specs.Outcome.{is_forward}
use Rattle.capture_replay.specs.Reading.{Replaying, run_at}
use Rattle.capture_replay.specs.Refusal.{record_refusal}
use Rattle.capture_replay.proofs.Refusals.{is_read_fault, no_read_fault, no_write_fault}
use Rattle.capture_replay.proofs.Ends.{no_heavy_packet, no_write_packet}
use Rattle.capture_replay.proofs.InPlace.{light_passing, passed_replays, stopped_passing}
use Rattle.capture_replay.proofs.Onward.{goes_nowhere, goes_past, keeps_all, reads_as, reads_nothing, stops_behind, stops_here, writes_as}
use Rattle.capture_replay.proofs.in_place.run_lent.Goals as goal

pub returns-then-is_empty-clause-on : goal.returns-then-is_empty-clause-on
returns-then-is_empty-clause-on g c = record { goes = goes_nowhere _ c.requires.may; from = reads_nothing _ }

pub returns-then-walked-eq0-clause-on : goal.returns-then-walked-eq0-clause-on
returns-then-walked-eq0-clause-on g c =
    let left = g.S.Source.left c.args.source.now in
    let none : c.in_ok-walked.walked.len ≡ 0 = search rules in
    record {
      goes = goes_past _ _ left (c.in_ok-walked.ensures.goes left c.lend-front.ensures.front)
          (λ frames bytes. subst (λ l. Replaying bytes l c.walk.new.capture frames) (ap (λ n. left_behind n left) none ∙ behind_none left));
      from = reads_nothing _;
    }

pub returns-clause-on : goal.returns-clause-on
returns-clause-on g c =
    let left = g.S.Source.left c.args.source.now in
    record {
      goes = goes_past _ _ (g.S.Source.left c.pass_over.new.source) (c.in_ok-walked.ensures.goes left c.lend-front.ensures.front)
          (λ frames bytes. passed_replays left (g.S.Source.left c.pass_over.new.source) c.lend-front.result.now bytes c.in_ok-walked.walked.len c.walk.new.capture frames
          c.lend-front.ensures.front c.in_ok-walked.ensures.within c.in_ok-pass_over.ensures.passed);
      from = record { cause = record { later = c.pass_over.ensures.cause.later; cause = λ none. absurd none }; lasts = c.pass_over.ensures.lasts };
    }

pub returns-in_err-walked-clause-breaks : goal.returns-in_err-walked-clause-breaks
returns-in_err-walked-clause-breaks g c =
    let e = c.in_err-walked.field-0.0 in
    let only = c.in_err-walked.ensures.only in
    let p = err_from_is_err_and c.from_residual.result c.from_residual.ensures.1 in
    rw (p.1, p.2) (record {
      stops = c.in_err-walked.ensures.stops (g.S.Source.left c.args.source.now) c.lend-front.ensures.front;
      light = no_heavy_packet e only;
      silent = λ kept. (c.walk.ensures.silent kept, no_write_packet (is_forward c.args.plan.now.output) e only kept);
      cut = λ is. absurd (no_read_fault e only is);
      from = reads_as (no_read_fault e only) (reads_nothing _);
      to = writes_as (λ is. c.in_err-walked.was ∙ ap (λ x. Err x) is) c.walk.ensures.to;
    })

pub returns-in_err-pass_over-clause-breaks : goal.returns-in_err-pass_over-clause-breaks
returns-in_err-pass_over-clause-breaks g c =
    let left = g.S.Source.left c.args.source.now in
    let front = c.lend-front.ensures.front in
    let walked = c.in_ok-walked.walked in
    let goes = c.in_ok-walked.ensures.goes left front in
    let e = c.in_err-pass_over.field-0.0 in
    let p = err_from_is_err_and c.from_residual-in_err-pass_over.result c.from_residual-in_err-pass_over.ensures.1 in
    rw (p.1, p.2) (record {
      stops = stops_behind _ _ c.walk.new.out (record_refusal e) goes
          (stops_here (run_at c.walk.new.lane c.walk.new.capture walked.so_far c.walk.new.out (left_behind walked.len left)) c.walk.new.out (record_refusal e) (keeps_all _)
          (λ frames bytes r. stopped_passing _ e c.in_err-pass_over.ensures.only));
      light = light_passing e;
      silent = λ kept. (goes.silent kept, no_write_fault e);
      cut = λ is frames bytes here r none. absurd (c.in_err-pass_over.ensures.cut (ap (λ x. Err x) (is_read_fault e is)) r.rest r.told
          (front_within left c.lend-front.result.now r.rest walked.len front c.in_ok-walked.ensures.within r.told) none);
      from = record {
        cause = record {
          later = c.pass_over.ensures.cause.later;
          cause = λ fault. c.pass_over.ensures.cause.cause (c.in_err-pass_over.was ∙ ap (λ x. Err x) (is_read_fault e fault));
        };
        lasts = c.pass_over.ensures.lasts;
      };
      to = writes_as (no_write_fault e) goes.to;
    })
