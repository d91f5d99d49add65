-- Each answer is what the definition has at this place.
use Rattle.std.proofs.Common.{◌≡◌, ◌≤◌, ◌<◌, ◌∙◌, Err, length, drop, ap, arith, rules}
use Rattle.std.proofs.lemmas.Result.{err_from_is_err_and}
use Rattle.pcap_source.specs.Order.{number_in}
use Rattle.pcap_source.specs.declared.errors.NextError.TheVariants.{ReadFault}
use Rattle.pcap_source.proofs.Steps.{gives-End, gives-Tail, gives-TooMany, gives-TooLong, gives-cut, gives-Frame, gives-head-fault, gives-body-Err}
use Rattle.pcap_source.proofs.capture.read_parts.Goals as goal

pub returns-then-filled-eq0-clause-gives : goal.returns-then-filled-eq0-clause-gives
returns-then-filled-eq0-clause-gives g c = gives-End _ _ _ _ _ _ _ _ _ c.in_ok-filled.ensures.bytes (search rules) c.if-filled-eq0.true

pub returns-then-filled-lt-HEAD-clause-gives : goal.returns-then-filled-lt-HEAD-clause-gives
returns-then-filled-lt-HEAD-clause-gives g c =
    gives-Tail _ _ _ _ _ _ _ _ _ c.in_ok-filled.ensures.bytes (search rules) (omega arith) c.if-filled-lt-HEAD.true

pub returns-then-at-eq-RECORD_LIMIT-clause-gives :
    goal.returns-then-at-eq-RECORD_LIMIT-clause-gives
returns-then-at-eq-RECORD_LIMIT-clause-gives g c =
    gives-TooMany _ _ _ _ _ _ _ _ _ c.in_ok-filled.ensures.bytes (search rules) (omega arith) (omega arith)

pub returns-then-captured-gt-CAPTURED_LIMIT-clause-gives :
    goal.returns-then-captured-gt-CAPTURED_LIMIT-clause-gives
returns-then-captured-gt-CAPTURED_LIMIT-clause-gives g c =
    gives-TooLong _ _ _ _ _ _ _ _ _ c.in_ok-filled.ensures.bytes (search rules) (omega arith) (omega arith) (search rules)

pub returns-then-filled-len-clause-gives : goal.returns-then-filled-len-clause-gives
returns-then-filled-len-clause-gives g c =
    let sized : length c.read_bytes.new.bytes.items ≡ number_in c.args.at.order 4 (drop 8 c.fill.new.buf) = c.in_ok-filled-2.ensures.length ∙ c.u32_at-captured.ensures in
    let short : c.in_ok-filled-2.filled < length c.read_bytes.new.bytes.items = omega (arith, c.len.ensures) in
    gives-cut _ _ _ _ _ _ _ _ _ _ _ _ c.in_ok-filled.ensures.bytes (search rules) (omega arith) (omega arith) sized (search rules)
    c.in_ok-filled-2.ensures.ok short

pub returns-clause-gives : goal.returns-clause-gives
returns-clause-gives g c =
    let sized : length c.read_bytes.new.bytes.items ≡ number_in c.args.at.order 4 (drop 8 c.fill.new.buf) = c.in_ok-filled-2.ensures.length ∙ c.u32_at-captured.ensures in
    let all : length c.read_bytes.new.bytes.items ≤ c.in_ok-filled-2.filled = omega (arith, c.len.ensures) in
    rw (c.read_numbers.ensures)
    (gives-Frame _ _ _ _ _ _ _ _ _ _ c.in_ok-filled.ensures.bytes (search rules) (omega arith) (omega arith) sized (search rules) c.in_ok-filled-2.ensures.ok all)

pub returns-in_err-filled-clause-gives : goal.returns-in_err-filled-clause-gives
returns-in_err-filled-clause-gives g c =
    let error = err_from_is_err_and c.from_residual.result c.from_residual.ensures.1 in
    rw (error.1, error.2) (gives-head-fault _ _ _ _ _ _ _ _ c.in_err-filled.ensures.bytes (search rules))

pub returns-in_err-filled-2-clause-gives : goal.returns-in_err-filled-2-clause-gives
returns-in_err-filled-2-clause-gives g c =
    let error = err_from_is_err_and c.from_residual-in_err-filled-2.result c.from_residual-in_err-filled-2.ensures.1 in
    let given = c.in_err-filled-2.ensures in
    let bounded : number_in c.args.at.order 4 (drop 8 c.fill.new.buf) ≤ 262144 = omega (arith, c.u32_at-captured.ensures) in
    let sized : c.in_err-filled-2.field-0.0 ≡ ReadFault → length c.read_bytes.new.bytes.items ≡ number_in c.args.at.order 4 (drop 8 c.fill.new.buf) =
    λ fault. given.sized (ap Err fault) ∙ c.u32_at-captured.ensures in
    rw (error.1, error.2) (gives-body-Err _ _ _ _ _ _ _ _ _ _ c.read_bytes.new.bytes.items _ c.in_ok-filled.ensures.bytes (search rules) (omega arith) (omega arith) bounded
    given.told given.only (λ fault. given.part (ap Err fault)) sized)
