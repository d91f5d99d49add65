-- Numbers read their own bytes alone.
use Rattle.std.proofs.Common.{◌≡◌, ℕ, ◌+◌, ◌≤◌, List, ◌++◌, length, drop, true, ap, ◌∙◌, arith, length-drop, length-append}
use Rattle.std.proofs.lemmas.Bool.{le-leb}
use Rattle.std.proofs.lemmas.List.{drop-append-le}
use Rattle.byteorder.specs.Numbers.{big_from-append, little_from-append}
use Rattle.pcap_source.specs.Order.{number_in}
use Rattle.pcapng_source.specs.Fields.{has}
use Rattle.pcap_source.specs.declared.order.Order.{Order}
use Rattle.pcap_source.specs.declared.order.Order.TheVariants.{Big, Little}

-- a number in front of others
pub number_in-front : (order : Order) (n : ℕ) (front left : List ℕ) → n ≤ length front → number_in order n (front ++ left) ≡ number_in order n front
unfolding number_in
number_in-front Big n front left within = big_from-append n front left within
number_in-front Little n front left within = little_from-append n front left within

-- the same from a place on
pub number_at-front : (order : Order) (n place : ℕ) (front left : List ℕ) → place + n ≤ length front
    → number_in order n (drop place (front ++ left)) ≡ number_in order n (drop place front)
number_at-front order n place front left within =
    ap (number_in order n) (drop-append-le place front left (omega arith))
    ∙ number_in-front order n (drop place front) left (omega (arith, length-drop place front))

-- what is there stays there where more comes
pub has-there : (n : ℕ) (bytes : List ℕ) → n ≤ length bytes → has n bytes ≡ true
has-there n bytes within = le-leb n (length bytes) within

pub has-front : (n : ℕ) (front left : List ℕ) → n ≤ length front → has n (front ++ left) ≡ true
has-front n front left within = le-leb n (length (front ++ left)) (omega (arith, length-append front left))
