-- What was made is given, or the reader says what comes next.
use Rattle.std.proofs.Common.{◌≡◌, ◌+◌, Some, Ok, ap, sym, subst, ◌∙◌, arith, rules}
use Rattle.mos_bytes.specs.Causes.{Rose, risen}
use Rattle.pcapng_source.specs.Reading.{met_at}
use Rattle.pcapng_source.proofs.Going.{cause-same, fits-nothing, met-rose, step-front, step-nothing}
use Rattle.pcapng_source.proofs.turns.step.Goals as goal

pub returns-then-made-gt0-clause-cause : goal.returns-then-made-gt0-clause-cause
returns-then-made-gt0-clause-cause g c =
    let goes = c.take.ensures.goes in
    let same : met_at c.give.new.self.stage ≡ met_at c.args.reader.now.stage = ap met_at c.give.ensures.stays.stage ∙ goes.met in
    record { later = omega (arith, same); failed = search rules }

pub returns-in_ok-give-in-Give-clause-gives : goal.returns-in_ok-give-in-Give-clause-gives
returns-in_ok-give-in-Give-clause-gives g c =
    let goes = c.take.ensures.goes in
    step-front c.args.reader.now c.take.new.self _ _ (Ok (Some c.in_ok-give-in-Give.field-0)) c.give-in-Give.new.buf _ goes.same
    c.in_ok-give-in-Give.ensures.bound.0 c.in_ok-give-in-Give.ensures.gives

pub returns-in-Skip-clause-gives : goal.returns-in-Skip-clause-gives
returns-in-Skip-clause-gives g c =
    let goes = c.take.ensures.goes in
    step-nothing c.args.reader.now c.take.new.self _ _ _ _ goes.same c.skip.ensures.room c.skip.ensures.gives

pub returns-in-Skip-clause-room : goal.returns-in-Skip-clause-room
returns-in-Skip-clause-room g c = fits-nothing _ _ c.skip.ensures.room

pub returns-in-Skip-clause-cause : goal.returns-in-Skip-clause-cause
returns-in-Skip-clause-cause g c =
    let goes = c.take.ensures.goes in
    cause-same c.args.reader.now c.take.new.self _ _ _ goes.met c.skip.ensures.cause

pub returns-in-Hold-clause-gives : goal.returns-in-Hold-clause-gives
returns-in-Hold-clause-gives g c =
    let goes = c.take.ensures.goes in
    step-nothing c.args.reader.now c.take.new.self _ _ _ _ goes.same c.hold.ensures.room c.hold.ensures.gives

pub returns-in-Hold-clause-room : goal.returns-in-Hold-clause-room
returns-in-Hold-clause-room g c = fits-nothing _ _ c.hold.ensures.room

pub returns-in-Hold-clause-cause : goal.returns-in-Hold-clause-cause
returns-in-Hold-clause-cause g c =
    let goes = c.take.ensures.goes in
    cause-same c.args.reader.now c.take.new.self _ _ _ goes.met c.hold.ensures.cause

pub returns-in-Refuse-clause-cause : goal.returns-in-Refuse-clause-cause
returns-in-Refuse-clause-cause g c =
    let goes = c.take.ensures.goes in
    let faults = g.S.Source.faults c.args.source.now in
    let met : met_at c.meet.new.self.stage ≡ risen (met_at c.args.reader.now.stage) = c.meet.ensures.met ∙ ap risen goes.met in
    let grows = c.meet.ensures.grows in
    let same = goes.met in
    record {
      later = omega (arith, grows, same);
      failed = λ _. subst (λ m. Rose (faults + met_at c.args.reader.now.stage) (faults + m)) (sym met) (met-rose faults (met_at c.args.reader.now.stage));
    }
