use Rattle.std.proofs.Common.{◌≡◌, ◌+◌, arith}
use Rattle.std.specs.Fmt.{decimal}
use Rattle.report_text.proofs.ShortLines.{ended, kept_before, one_digit, kept_digit}
use Rattle.report_text.proofs.short.put_ending.Goals as goal

pub write_digits-requires : goal.write_digits-requires
write_digits-requires c = rw c.from.ensures (omega arith, omega arith)

pub returns-clause-ending : goal.returns-clause-ending
returns-clause-ending c =
    let wrote = rw c.from.ensures at c.write_digits.ensures in
    let at_is : c.write_digits.result ≡ c.args.at = omega arith in
    ended c.args.bytes.now c.write_digits.new.buf (decimal c.args.reg) _ c.args.at _ 10 (omega arith) (omega arith)
    (rw at_is at wrote.before) (rw at_is at wrote.written)

pub returns-clause-before : goal.returns-clause-before
returns-clause-before c =
    let wrote = rw c.from.ensures at c.write_digits.ensures in
    let at_is : c.write_digits.result ≡ c.args.at = omega arith in
    kept_before c.args.bytes.now c.write_digits.new.buf c.args.at _ 10 c.requires.0 (omega arith) (rw at_is at wrote.before)

-- most numbers are one digit
pub returns-then-reg-lt10-clause-ending : goal.returns-then-reg-lt10-clause-ending
returns-then-reg-lt10-clause-ending c = one_digit c.args.bytes.now c.args.at c.args.reg (omega (arith, c.requires)) c.if-reg-lt10.true

pub returns-then-reg-lt10-clause-before : goal.returns-then-reg-lt10-clause-before
returns-then-reg-lt10-clause-before c = kept_digit c.args.bytes.now c.args.at (48 + c.args.reg) (omega (arith, c.requires))
