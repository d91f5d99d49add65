use Rattle.std.proofs.Common.{subst, ◌∙◌}
use Rattle.std.proofs.lemmas.Result.{err_from_is_err_and}
use Rattle.std.specs.Io.KnownBytes.{Appends}
use Rattle.mos_bytes.specs.Writes.{AppendsFront}
use Rattle.mos_bytes.proofs.Writes.{AppendsFront-more, AppendsFront-after}
use Rattle.capture_replay.specs.Summary.{summary_text}
use Rattle.capture_replay.proofs.summary.write_summary.Goals as goal

pub returns-in_err-write_all-clause-text : goal.returns-in_err-write_all-clause-text
unfolding summary_text
returns-in_err-write_all-clause-text g c =
    let error = err_from_is_err_and c.from_residual-in_err-write_all.result c.from_residual-in_err-write_all.ensures.1 in
    rw (error.1) (AppendsFront-more _ _ _ _ (subst (AppendsFront _ _) (c.as_bytes.ensures.value ∙ c.in_ok-line.ensures) c.in_err-write_all.ensures.bytes))

pub returns-in_err-write_totals-clause-text : goal.returns-in_err-write_totals-clause-text
unfolding summary_text
returns-in_err-write_totals-clause-text g c =
    let error = err_from_is_err_and c.from_residual-in_err-write_totals.result c.from_residual-in_err-write_totals.ensures.1 in
    rw (error.1) (AppendsFront-after _ _ _ _ _ (subst (Appends _ _) (c.as_bytes.ensures.value ∙ c.in_ok-line.ensures) c.in_ok-write_all.ensures.bytes) c.in_err-write_totals.ensures.text.adds)
