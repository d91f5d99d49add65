-- What the run did to the sink that gathers, and what is left to hand on, is what the output took.
use Rattle.std.proofs.Common.{◌≡◌, ℕ, Some, Result, Ok, Err, IsOk, OnOk, ap, arith, inl, inr, le_refl, subst, sym, ◌≤◌, ◌∙◌}
use Rattle.std.specs.Prelude.{◌⊎◌}
use Rattle.mos_bytes.proofs.Causes.{Rose-earlier}
use Rattle.mos_bytes.specs.Gathering.{failures_of, gathering_faults, given_to, held_of, inner_of, start_of}
use Rattle.mos_run.specs.Request.{Request, Asked, requested}
use Rattle.mos_run.specs.Run.{FinishesUnder}
use Rattle.mos_run.proofs.Below.{done_below, front_below, rose_below}
use Rattle.mos_run.proofs.Gathering.{handed_by, ran_below, ran_failed, ran_without_memory}
use Rattle.mos_run.proofs.Outcomes.{finishes_alone, has_some}
use Rattle.mos_run.proofs.gathered.gather_chosen.Goals as goal

-- what holds where a call went well
ok_value : {T E P : Type 0} (r : Result T E) → IsOk r → OnOk r P → P
ok_value (Ok x) good p = p
ok_value (Err e) good p = absurd (cc)

either-six : (status : ℕ) → (status ≡ 6) ⊎ (status ≡ 6) → status ≡ 6
either-six status (inl six) = six
either-six status (inr six) = six

pub returns-in-Err : goal.returns-in-Err
returns-in-Err g c =
    let refused = c.refuse-ended.ensures in
    let rest = ran_without_memory g.S.Source g.H.Shelf g.O.Sink g.E.Sink (g.A.App.meaning c.args.app) (Some c.args.settings.now) c.args.capture.now c.args.shelf.now c.args.out _
    c.args.err.now c.refuse-ended.new.err c.refuse-ended.result
    (λ x is. has_some c.what_one_worker_has_is_allowed.ensures.allowed _ _ _ _ x is) c.in-Err.ensures.err (either-six _ refused.status) refused.versions refused.told refused.lasts in
    let six = either-six _ refused.status in
    record { ran = record { done = λ zero. absurd (omega (arith, six, zero)); alone = λ zero. absurd (omega (arith, six, zero)); rest = rest } }

pub returns : goal.returns
returns g c =
    let settings = Some c.args.settings.now in
    let app = g.A.App.meaning c.args.app in
    let out = c.args.out in
    let got = c.into_inner-out.result in
    let a = c.in-Ok.gathering in
    let b = c.run_chosen-ended.new.out in
    let handed = c.finish-handed.new.self in
    let new = c.in-Ok.ensures.ok in
    let ran = c.run_chosen-ended.ensures.ran.rest in
    let finish = c.finish-handed.ensures in
    let inner = c.into_inner-out.ensures in
    let after = c.handed_on-ended.ensures in
    let done : c.handed_on-ended.result.status ≡ 0 → (t : Request) → requested app settings (g.H.Shelf.content c.args.shelf.now) (g.S.Source.left c.args.capture.now) ≡ Some t
    → FinishesUnder t c.handed_on-ended.result.versions (g.O.Sink.taken out) (g.O.Sink.taken got) = λ zero t is.
    let whole = after.whole zero in
    let same = (after.stays (inl whole)).0 in
    let finished = ok_value c.finish-handed.result whole finish.finished in
    subst (λ ended. FinishesUnder t ended.versions (g.O.Sink.taken out) (g.O.Sink.taken got)) (sym same)
    (done_below t c.run_chosen-ended.result.versions (g.O.Sink.taken out) (given_to a) (given_to b) (given_to handed) (g.O.Sink.taken got) new.given
    (c.run_chosen-ended.ensures.ran.done (sym (ap (λ ended. ended.status) same) ∙ zero) t is) finish.given (ap g.O.Sink.taken inner.inner ∙ finished.taken)) in
    let start : start_of handed ≡ out = ap (λ p. p.0) finish.told.lasts ∙ ap (λ p. p.0) ran.out_lasts ∙ new.start in
    let below : g.O.Sink.faults (inner_of a) ≡ g.O.Sink.faults out = ap g.O.Sink.faults new.over in
    let sound = new.sound in
    let first : gathering_faults a ≡ g.O.Sink.faults out = omega (arith, below, sound) in
    let run = ran_below g.S.Source g.H.Shelf g.O.Sink g.E.Sink app settings c.args.capture.now c.run_chosen-ended.new.capture c.args.shelf.now
    c.run_chosen-ended.new.shelf out got _ a b c.args.err.now c.run_chosen-ended.new.err c.run_chosen-ended.result (record {
      still = λ same. inner.inner ∙ ap inner_of (finish.idle (ap failures_of same ∙ new.sound) (ap held_of same ∙ new.empty)).1 ∙ ap inner_of same ∙ new.over;
      later = subst (λ x. g.O.Sink.faults x ≤ g.O.Sink.faults got) start inner.counts;
      rose = rose_below g.O.Sink.faults out (start_of handed) (gathering_faults a) (gathering_faults b) (gathering_faults handed) (g.O.Sink.faults got) start first finish.told.cause.later inner.cause;
      front = λ text part. front_below g.O.Sink.taken out (start_of handed) (given_to a) (given_to b) (given_to handed) (g.O.Sink.taken got) text start new.given part finish.given inner.between;
      lasts = ap g.O.Sink.lasting inner.inner ∙ ap (λ p. p.1) finish.told.lasts ∙ ap (λ p. p.1) ran.out_lasts ∙ ap g.O.Sink.lasting new.over;
    }) ran in
    record {
      ran = record {
        done = done;
        alone = λ zero w file is stamped.
            finishes_alone c.what_one_worker_has_is_allowed.ensures.outcome c.what_one_worker_has_is_allowed.ensures.forwarded c.without_live_commands_all_versions_are_known.ensures app settings
            (g.H.Shelf.content c.args.shelf.now) (g.S.Source.left c.args.capture.now) w file _ _ _ is (done zero (Asked w file) is) stamped;
        rest = handed_by c.finish-handed.result c.run_chosen-ended.result.status
            (λ same. let stays = after.stays same in rw (stays.0, stays.1) run)
            (λ failed zero.
            ran_failed g.S.Source g.H.Shelf g.O.Sink g.E.Sink app settings c.args.capture.now c.run_chosen-ended.new.capture c.args.shelf.now c.run_chosen-ended.new.shelf
            out got c.args.err.now c.run_chosen-ended.new.err c.handed_on-ended.new.err
            c.run_chosen-ended.result c.handed_on-ended.result _ _ run zero (c.run_chosen-ended.ensures.ran.done zero)
            (rose_below g.O.Sink.faults out (start_of handed) (gathering_faults a) (gathering_faults handed) (gathering_faults handed) (g.O.Sink.faults got) start first (le_refl _) inner.cause
            (Rose-earlier (gathering_faults a) (gathering_faults b) (gathering_faults handed) ran.write_fault.later (finish.told.cause.failed failed)))
            (after.status failed zero) (after.told failed zero).0 (after.told failed zero).1 after.lasts);
      };
    }
