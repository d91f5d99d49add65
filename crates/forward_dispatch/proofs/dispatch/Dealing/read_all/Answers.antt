use Rattle.std.proofs.Common.{rules, ◌≤◌, ◌+◌, [], ◌∷◌, ◌++◌, length, Ok, Err, refl, sym, ap, subst, ◌∙◌, le_refl, arith}
use Rattle.std.specs.Prelude.{Option}
use Rattle.std.proofs.lemmas.List.{length_push}
use Rattle.std.proofs.lemmas.Result.{err_from_is_err_and}
use Rattle.worker_pool.proofs.Reading.{HasCause-since, same_error, read_none, read_more, read_cut}
use Rattle.worker_pool.proofs.Source.{reads_well, reads_ill, no_value, no_error}
use Rattle.worker_pool.specs.declared.team.dispatch.Whole.{Whole}
use Rattle.worker_pool.specs.declared.job.PoolError.TheVariants.{ReadFault, WriteFault}
use Rattle.forward_dispatch.specs.Turns.{EndsSo}
use Rattle.forward_dispatch.proofs.Turning.{went_none, went_then}
use Rattle.forward_dispatch.proofs.dispatch.Dealing.read_all.Goals as goal

pub loop-whole-init : goal.loop-whole-init
loop-whole-init g c = record {
  live = c.requires.opened.live;
  count = c.requires.opened.count ∙ c.requires.begins.2.count;
  few = let none = c.requires.begins.2.count in omega (arith, none);
  some = c.requires.some;
  on_their_way = let none = c.requires.opened.count in omega (arith, none);
  read_faults = le_refl _;
  write_faults = le_refl _;
  source_lasts = refl;
  out_lasts = refl;
  read = (
    [],
    c.requires.begins.2.count,
    went_none g.L.Recorder c.args.context.now.script.now c.args.self.now (g.O.Sink.taken c.args.out.now),
    λ bytes told. read_none c.args.capture.now bytes (g.S.Source.left c.args.source.now) told,
  );
}

pub turn-requires-clause-under_way : goal.turn-requires-clause-under_way
turn-requires-clause-under_way g c =
    let given = c.requires.begins in
    let read = c.loop-whole.invariant.read in
    record { some = c.loop-whole.invariant.some; begins = given.0; frames = read.0; sent = read.2.sent given.0 [] given.2 }

pub returns-in_err-whole-clause-read : goal.returns-in_err-whole-clause-read
returns-in_err-whole-clause-read g c = λ begins before s l.
    let at = c.loop-whole in
    let read = at.invariant.read in
    let few : length read.0 ≤ 1048576 = omega (arith, at.invariant.few, read.1) in
    let p = err_from_is_err_and c.from_residual.result c.from_residual.ensures.1 in
    rw (p.1, p.2)
    (c.in_err-whole.ensures.ends begins read.0 c.args.capture.now (g.S.Source.left c.args.source.now) before few (read.2.sent begins [] s) read.3 (read.2.leaves begins [] before s l))

pub returns-in_err-whole-clause-sent : goal.returns-in_err-whole-clause-sent
returns-in_err-whole-clause-sent g c =
    let given = c.requires.begins in
    let at = c.loop-whole in
    let read = at.invariant.read in
    let few : length read.0 ≤ 1048576 = omega (arith, at.invariant.few, read.1) in
    let ends = c.in_err-whole.ensures.ends given.0 read.0 c.args.capture.now (g.S.Source.left c.args.source.now) given.1 few (read.2.sent given.0 [] given.2) read.3
    (read.2.leaves given.0 [] given.1 given.2 given.3) in
    (given.0, ends.0, ends.1.sent)

pub returns-in-Some-clause-read : goal.returns-in-Some-clause-read
returns-in-Some-clause-read g c = λ begins before s l.
    let at = c.loop-whole in
    let read = at.invariant.read in
    let few : length read.0 ≤ 1048576 = omega (arith, at.invariant.few, read.1) in
    let first = g.S.Source.left c.args.source.now in
    let last = g.S.Source.left c.turn.new.source in
    let out = g.O.Sink.taken c.turn.new.out in
    subst (λ (m : Option Whole). EndsSo g.L.Recorder c.args.context.now.script.now c.args.capture.now first last begins c.turn.new.self before out (Ok m)) c.in-Some.is
    (c.in_ok-whole.ensures.ends begins read.0 c.args.capture.now first before few (read.2.sent begins [] s) read.3 (read.2.leaves begins [] before s l))

pub returns-in-Some-clause-sent : goal.returns-in-Some-clause-sent
returns-in-Some-clause-sent g c =
    let given = c.requires.begins in
    let at = c.loop-whole in
    let read = at.invariant.read in
    let few : length read.0 ≤ 1048576 = omega (arith, at.invariant.few, read.1) in
    let first = g.S.Source.left c.args.source.now in
    let last = g.S.Source.left c.turn.new.source in
    let out = g.O.Sink.taken c.turn.new.out in
    let ends = subst (λ (m : Option Whole). EndsSo g.L.Recorder c.args.context.now.script.now c.args.capture.now first last given.0 c.turn.new.self given.1 out (Ok m)) c.in-Some.is
    (c.in_ok-whole.ensures.ends given.0 read.0 c.args.capture.now first given.1 few (read.2.sent given.0 [] given.2) read.3 (read.2.leaves given.0 [] given.1 given.2 given.3)) in
    (given.0, ends.0, ends.1.sent)

pub loop-whole-preserved : goal.loop-whole-preserved
loop-whole-preserved g c =
    let at = c.loop-whole in
    let inv = at.invariant in
    let read = inv.read in
    let new = c.turn.new.self in
    let sends = c.in_ok-whole.ensures.sends (ap (λ x. Ok x) c.in-None.is) in
    record {
      live = sends.live;
      count = sends.count;
      few = sends.within;
      some =
          let given = c.requires.begins in
          let one = (read.2.sent given.0 [] given.2).inputs_are.count in
          let two = ((sends.went).sent given.0 read.0 (read.2.sent given.0 [] given.2)).inputs_are.count in
          let some = inv.some in
          omega (arith, one, two, some);
      on_their_way = c.turn.ensures.on_their_way;
      read_faults = let before = inv.read_faults in let later = c.turn.ensures.reads.cause.later in omega (arith, before, later);
      write_faults = let before = inv.write_faults in let later = c.turn.ensures.writes.cause.later in omega (arith, before, later);
      source_lasts = c.turn.ensures.reads.lasts ∙ inv.source_lasts;
      out_lasts = c.turn.ensures.writes.lasts ∙ inv.out_lasts;
      read = (
        read.0 ++ sends.frame ∷ [],
        length_push read.0 sends.frame ∙ ap (λ n. n + 1) read.1 ∙ sym sends.more,
        went_then g.L.Recorder c.args.context.now.script.now c.args.self.now at.self new (g.O.Sink.taken c.args.out.now) (g.O.Sink.taken at.out) (g.O.Sink.taken c.turn.new.out) read.0 (sends.frame ∷ [])
            read.2 sends.went,
        λ bytes told. read_more c.args.capture.now bytes read.0 at.capture c.turn.new.capture sends.frame (g.S.Source.left at.source) (g.S.Source.left c.turn.new.source) sends.gives (read.3 bytes told),
      );
    }

pub returns-in_err-whole-clause-outside : goal.returns-in_err-whole-clause-outside
returns-in_err-whole-clause-outside g c = record {
  reads =
      let at = c.loop-whole in
      let inv = at.invariant in
      let result = c.from_residual.result in
      let p = err_from_is_err_and result c.from_residual.ensures.1 in
      reads_ill g.S.Source c.args.capture.now c.args.source.now c.turn.new.source at.source inv.read_faults inv.source_lasts c.turn.ensures.reads.cause c.turn.ensures.reads.lasts (no_value p.0 result p.1)
      (λ fault. c.in_err-whole.was ∙ ap Err (sym p.2 ∙ same_error p.0 ReadFault result p.1 fault))
      (λ fault bytes told.
      let cut = c.turn.ensures.cut (c.in_err-whole.was ∙ ap Err (sym p.2 ∙ same_error p.0 ReadFault result p.1 fault)) in
      read_cut c.args.capture.now at.capture c.turn.new.capture bytes inv.read.0 cut.0 (g.S.Source.left at.source) (g.S.Source.left c.turn.new.source) cut.1 (inv.read.3 bytes told));
  writes =
      let at = c.loop-whole in
      let inv = at.invariant in
      let p = err_from_is_err_and c.from_residual.result c.from_residual.ensures.1 in
      record {
        cause = HasCause-since (g.O.Sink.faults c.args.out.now) (g.O.Sink.faults at.out) (g.O.Sink.faults c.turn.new.out) inv.write_faults c.turn.ensures.writes.cause
            (λ fault. c.in_err-whole.was ∙ ap Err (sym p.2 ∙ same_error p.0 WriteFault c.from_residual.result p.1 fault));
        lasts = c.turn.ensures.writes.lasts ∙ inv.out_lasts;
      };
  stopped = search rules;
}

pub returns-in-Some-clause-outside : goal.returns-in-Some-clause-outside
returns-in-Some-clause-outside g c = record {
  reads =
      let inv = c.loop-whole.invariant in
      let before = inv.read_faults in
      let then = c.turn.ensures.reads.cause.later in
      reads_well g.S.Source c.args.capture.now c.args.source.now c.turn.new.source (omega (arith, before, then)) (c.turn.ensures.reads.lasts ∙ inv.source_lasts)
      (λ ok. c.in_ok-whole.ensures.ended (λ is. absurd (let some = c.in-Some.is in cc))) (no_error _ ReadFault);
  writes =
      let at = c.loop-whole in
      let inv = at.invariant in
      record {
        cause = HasCause-since (g.O.Sink.faults c.args.out.now) (g.O.Sink.faults at.out) (g.O.Sink.faults c.turn.new.out) inv.write_faults c.turn.ensures.writes.cause
            (λ fault. absurd (no_error _ WriteFault fault));
        lasts = c.turn.ensures.writes.lasts ∙ inv.out_lasts;
      };
  stopped = search rules;
}
