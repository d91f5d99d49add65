-- Powers of ten.
use Rattle.std.proofs.Common.{◌*◌, ◌^◌, ◌<◌, ◌≤◌, sym, arith, lit<}
use Rattle.std.proofs.Math.Nat.{div-eq_of_lt, one-le-pow, pow-le-pow_right}
use Rattle.pcapng_source.proofs.time.micros_in_tens.Goals as goal

pub returns-then-exponent-gt-LARGEST_POWER : goal.returns-then-exponent-gt-LARGEST_POWER
returns-then-exponent-gt-LARGEST_POWER c =
    let bound : 10 ^ 38 ≤ 10 ^ c.args.exponent = pow-le-pow_right {n = 10} (lit< tt) {i = 38} {j = c.args.exponent} (omega arith) in
    let fits = c.ranges.time.fits in
    let small : c.args.time * 1000000 < 10 ^ c.args.exponent = omega (arith, bound, fits) in
    sym (div-eq_of_lt small)

pub pow-requires : goal.pow-requires
pow-requires c =
    let bound : 10 ^ c.from-2.result ≤ 10 ^ 38 = pow-le-pow_right {n = 10} (lit< tt) {i = c.from-2.result} {j = 38} (omega arith) in
    omega (arith, bound)

pub nonzero_div-result : goal.nonzero_div-result
nonzero_div-result c = omega (arith, c.pow.ensures, one-le-pow c.from-2.result 10 (lit< tt))
