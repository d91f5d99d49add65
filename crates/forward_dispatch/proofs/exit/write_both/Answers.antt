use Rattle.std.proofs.lemmas.Result.{err_from_is_err_and}
use Rattle.mos_bytes.proofs.Writes.{AppendsFront-more, WriteAdds-after}
use Rattle.forward_dispatch.proofs.exit.write_both.Goals as goal

pub returns-in_err-write_all-clause-bytes : goal.returns-in_err-write_all-clause-bytes
returns-in_err-write_all-clause-bytes g c =
    let error = err_from_is_err_and c.from_residual.result c.from_residual.ensures.1 in
    rw (error.1) (AppendsFront-more _ _ _ _ c.in_err-write_all.ensures.bytes)

pub returns-clause-bytes : goal.returns-clause-bytes
returns-clause-bytes g c = WriteAdds-after _ _ _ _ _ _ c.in_ok-write_all.ensures.bytes c.write_all-2.ensures.bytes
