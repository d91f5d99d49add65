-- Powers of two.
use Rattle.std.proofs.Common.{◌*◌, ◌^◌, ◌<◌, ◌≤◌, sym, arith, lit<}
use Rattle.std.proofs.Math.Nat.{div-eq_of_lt, pow-le-pow_right}
use Rattle.pcapng_source.proofs.time.micros_in_twos.Goals as goal

pub returns-then-exponent-gt-LARGEST_SHIFT : goal.returns-then-exponent-gt-LARGEST_SHIFT
returns-then-exponent-gt-LARGEST_SHIFT c =
    let bound : 2 ^ 127 ≤ 2 ^ c.args.exponent = pow-le-pow_right {n = 2} (lit< tt) {i = 127} {j = c.args.exponent} (omega arith) in
    let fits = c.ranges.time.fits in
    let small : c.args.time * 1000000 < 2 ^ c.args.exponent = omega (arith, bound, fits) in
    sym (div-eq_of_lt small)
