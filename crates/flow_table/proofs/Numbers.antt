-- Two endpoints of IPv4 stand in the order of their numbers.
use Rattle.std.proofs.Common.{◌≡◌, ◌<◌, ◌≤◌, ◌/◌, ◌%◌, ◌&&◌, ℕ, Bool, true, false, cond, refl, sym, ap, arith}
use Rattle.std.specs.declared.cmp.Ordering.{Ordering}
use Rattle.std.specs.declared.cmp.Ordering.TheVariants.{Less, Equal, Greater}
use Rattle.std.specs.Ordering.{nat_cmp, ordering_then, is_le}
use Rattle.std.specs.Cmp.{ranked}
use Rattle.flow_table.specs.declared.endpoint.Endpoint.{Endpoint}
use Rattle.flow_table.specs.Endpoint.{endpoint_cmp}
use Rattle.flow_table.specs.Key.{key_between}
use Rattle.flow_table.specs.Pair.{endpoint_of, is_ipv4, is_ipv4_pair}

ports_in_order : (m n : ℕ) → m ≤ n → m / 65536 ≡ n / 65536 → is_le (nat_cmp (m % 65536) (n % 65536)) ≡ true
ports_in_order m n le same = by (nat_cmp (m % 65536) (n % 65536)) refl
  where
    by : (r : Ordering) → nat_cmp (m % 65536) (n % 65536) ≡ r → is_le r ≡ true
    by Less e = refl
    by Equal e = refl
    by Greater e = absurd (omega (arith, le, same, ranked (m % 65536) (n % 65536) Greater (sym e)))

ports_in_reverse : (m n : ℕ) → n < m → m / 65536 ≡ n / 65536 → is_le (nat_cmp (m % 65536) (n % 65536)) ≡ false
ports_in_reverse m n more same = by (nat_cmp (m % 65536) (n % 65536)) refl
  where
    by : (r : Ordering) → nat_cmp (m % 65536) (n % 65536) ≡ r → is_le r ≡ false
    by Less e = absurd (omega (arith, more, same, ranked (m % 65536) (n % 65536) Less (sym e)))
    by Equal e = absurd (omega (arith, more, same, ranked (m % 65536) (n % 65536) Equal (sym e)))
    by Greater e = refl

le_of_numbers : (m n : ℕ) → m ≤ n → is_le (endpoint_cmp (endpoint_of m) (endpoint_of n)) ≡ true
le_of_numbers m n le = by (nat_cmp (m / 65536) (n / 65536)) refl
  where
    by : (r : Ordering) → nat_cmp (m / 65536) (n / 65536) ≡ r → is_le (ordering_then r (nat_cmp (m % 65536) (n % 65536))) ≡ true
    by Less e = refl
    by Equal e = ports_in_order m n le (ranked (m / 65536) (n / 65536) Equal (sym e))
    by Greater e = absurd (omega (arith, le, ranked (m / 65536) (n / 65536) Greater (sym e)))

gt_of_numbers : (m n : ℕ) → n < m → is_le (endpoint_cmp (endpoint_of m) (endpoint_of n)) ≡ false
gt_of_numbers m n more = by (nat_cmp (m / 65536) (n / 65536)) refl
  where
    by : (r : Ordering) → nat_cmp (m / 65536) (n / 65536) ≡ r → is_le (ordering_then r (nat_cmp (m % 65536) (n % 65536))) ≡ false
    by Less e = absurd (omega (arith, more, ranked (m / 65536) (n / 65536) Less (sym e)))
    by Equal e = ports_in_reverse m n more (ranked (m / 65536) (n / 65536) Equal (sym e))
    by Greater e = refl

-- the key of the endpoints that two numbers stand for
pub in_order : (m n : ℕ) → m ≤ n → (endpoint_of m, endpoint_of n) ≡ key_between (endpoint_of m) (endpoint_of n)
unfolding key_between
in_order m n le = ap (λ (b : Bool). cond b (endpoint_of m, endpoint_of n) (endpoint_of n, endpoint_of m)) (sym (le_of_numbers m n le))

pub in_reverse : (m n : ℕ) → n < m → (endpoint_of n, endpoint_of m) ≡ key_between (endpoint_of m) (endpoint_of n)
unfolding key_between
in_reverse m n more = ap (λ (b : Bool). cond b (endpoint_of m, endpoint_of n) (endpoint_of n, endpoint_of m)) (sym (gt_of_numbers m n more))

-- a key is of IPv4 where both its endpoints are, in either order
pub kind_of_both : (a b : Endpoint) → is_ipv4_pair (key_between a b) ≡ (is_ipv4 a && is_ipv4 b)
unfolding key_between
kind_of_both a b = by (is_le (endpoint_cmp a b))
  where
    swapped : (x y : Bool) → (y && x) ≡ (x && y)
    swapped true true = refl
    swapped true false = refl
    swapped false true = refl
    swapped false false = refl

    by : (le : Bool) → is_ipv4_pair (cond le (a, b) (b, a)) ≡ (is_ipv4 a && is_ipv4 b)
    by true = refl
    by false = swapped (is_ipv4 a) (is_ipv4 b)
