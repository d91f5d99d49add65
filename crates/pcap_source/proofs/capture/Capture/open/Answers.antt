-- The header is refused as the definition says.
use Rattle.std.proofs.Common.{arith, rules, sym}
use Rattle.std.proofs.lemmas.Result.{err_from_is_err_and}
use Rattle.pcap_source.proofs.Opened.{gives-Err, gives-Ok}
use Rattle.pcap_source.proofs.capture.Capture.open.Goals as goal

pub returns-in_err-judge_header-clause-gives : goal.returns-in_err-judge_header-clause-gives
returns-in_err-judge_header-clause-gives g c =
    let error = err_from_is_err_and c.from_residual-in_err-judge_header.result c.from_residual-in_err-judge_header.ensures.1 in
    rw (error.1, error.2) (gives-Err _ _ _ _ _ c.in_ok-filled.ensures.bytes (search rules) (omega arith) (sym c.in_err-judge_header.ensures))

pub returns-clause-gives : goal.returns-clause-gives
returns-clause-gives g c = gives-Ok _ _ _ _ _ c.in_ok-filled.ensures.bytes (search rules) (omega arith) (sym c.in_ok-judge_header.ensures)
