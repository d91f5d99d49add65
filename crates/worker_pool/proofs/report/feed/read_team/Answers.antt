use Rattle.std.proofs.Common.{◌≡◌, ◌∙◌, [], Some, Err, refl, sym, ap, subst}
use Rattle.std.specs.Prelude.{IsOk}
use Rattle.std.proofs.lemmas.Result.{err_from_is_err_and}
use Rattle.worker_pool.specs.declared.job.PoolError.TheVariants.{ReadFault}
use Rattle.worker_pool.specs.Team.{ReadsWhole}
use Rattle.worker_pool.proofs.Reading.{same_error}
use Rattle.worker_pool.proofs.Source.{reads_less, no_value, no_error}
use Rattle.worker_pool.proofs.report.feed.read_team.Goals as goal

pub returns-clause-ran : goal.returns-clause-ran
returns-clause-ran g c =
    let s = c.in_ok-read.ensures.served in
    let whole = subst (λ r. ReadsWhole s.frames c.args.capture.now (g.S.Source.left c.args.source.now) (g.S.Source.left c.run_team.new.feed.source.now) r) c.in_ok-whole.was s.done.0 in
    let same : c.source-1.given.0 ≡ c.run_team.new.feed.source.now = c.source-1.given.1 (sym s.done.3) in (
      s.frames,
      s.few,
      record {
        count = whole.count;
        last = whole.last;
        holds = λ rest is. ((whole.holds rest is).0, subst (λ (x : g.row.S.Denot). g.S.Source.left x ≡ Some []) (sym same) (whole.holds rest is).1);
      },
      s.served,
    )

pub returns-clause-reads : goal.returns-clause-reads
returns-clause-reads g c =
    let s = c.in_ok-read.ensures.served in
    let now = c.run_team.new.feed.source.now in
    let same : c.source-1.given.0 ≡ now = c.source-1.given.1 (sym s.done.3) in
    rw (same) (reads_less g.S.Source c.args.capture.now c.args.source.now now (λ ok. subst IsOk (sym c.in_ok-whole.was) refl) (λ fault. absurd (no_error _ ReadFault fault)) s.done.1)

pub returns-in_err-whole-clause-reads : goal.returns-in_err-whole-clause-reads
returns-in_err-whole-clause-reads g c =
    let s = c.in_ok-read.ensures.served in
    let now = c.run_team.new.feed.source.now in
    let same : c.source-1.given.0 ≡ now = c.source-1.given.1 (sym s.done.3) in
    let result = c.from_residual-in_err-whole.result in
    let p = err_from_is_err_and result c.from_residual-in_err-whole.ensures.1 in
    rw (same) (reads_less g.S.Source c.args.capture.now c.args.source.now now (λ ok. absurd (no_value p.0 result p.1 ok))
    (λ fault. c.in_err-whole.was ∙ ap Err (sym p.2 ∙ same_error p.0 ReadFault result p.1 fault)) s.done.1)

pub returns-in_err-whole-clause-light : goal.returns-in_err-whole-clause-light
returns-in_err-whole-clause-light g c =
    let s = c.in_ok-read.ensures.served in
    let before = g.S.Source.left c.args.source.now in
    let after = g.S.Source.left c.run_team.new.feed.source.now in
    let p = err_from_is_err_and c.from_residual-in_err-whole.result c.from_residual-in_err-whole.ensures.1 in
    rw (p.1, p.2) (λ heavy. subst (λ r. ReadsWhole s.frames c.args.capture.now before after r) (c.in_err-whole.was ∙ ap Err heavy) s.done.0)
