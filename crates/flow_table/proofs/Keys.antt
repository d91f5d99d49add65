-- The order of keys is total, and tells all keys apart.
use Rattle.std.proofs.Common.{◌≡◌, ◌==◌, ◌&&◌, ℕ, Bool, true, false, if◌then◌else◌, refl, sym, ap, subst, ◌∙◌, arith}
use Rattle.std.specs.declared.cmp.Ordering.{Ordering}
use Rattle.std.specs.declared.cmp.Ordering.TheVariants.{Less, Equal, Greater}
use Rattle.std.specs.Ordering.{nat_cmp, ordering_then, eq_by_cmp, is_eq, is_le}
use Rattle.std.specs.Cmp.{IsTotalOrder, nat_cmp_total, ranked, Equal-is}
use Rattle.std.proofs.Math.Dec.{T, eqb, eqb_refl}
use Rattle.std.proofs.lemmas.Bool.{ne_eqb}
use Rattle.std.proofs.lemmas.Cmp.{eq_by_cmp_equiv, on_total, then_total}
use Rattle.std.proofs.lemmas.Map.Lookups.{CmpEqualImpliesEq, exact_pairs, exact_unsigned}
use Rattle.flow_table.specs.declared.endpoint.Endpoint.{Endpoint}
use Rattle.flow_table.specs.declared.endpoint.Endpoint.TheVariants.{V4, V6}
use Rattle.flow_table.specs.Endpoint.{version_of, addr_of, port_of, same_endpoint, endpoint_cmp}
use Rattle.flow_table.specs.Key.{EndpointPair, same_key, key_between}
use Rattle.flow_table.specs.Table.{key_cmp, numbers_of, from_numbers, from_numbers-numbers_of}
use Rattle.flow_table.specs.contracts.key.KeyPartialEq.TheImpl.{ghosts as ends}
use Rattle.flow_table.specs.contracts.endpoint.EndpointPartialEq.TheImpl.{ghosts as endpoint}

pub endpoints_total : IsTotalOrder endpoint_cmp
endpoints_total = then_total (on_total version_of nat_cmp_total) (then_total (on_total addr_of nat_cmp_total) (on_total port_of nat_cmp_total))

pub keys_total : IsTotalOrder key_cmp
keys_total = then_total (on_total (λ (key : EndpointPair). key.0) endpoints_total) (on_total (λ (key : EndpointPair). key.1) endpoints_total)

pub exact_endpoints : CmpEqualImpliesEq endpoint_cmp
exact_endpoints a b h =
    let same : numbers_of a ≡ numbers_of b =
    exact_pairs nat_cmp (λ (x y : ℕ × ℕ). ordering_then (nat_cmp x.0 y.0) (nat_cmp x.1 y.1)) exact_unsigned
    (exact_pairs nat_cmp nat_cmp exact_unsigned exact_unsigned) (numbers_of a) (numbers_of b) h in
    sym (from_numbers-numbers_of a) ∙ ap from_numbers same ∙ from_numbers-numbers_of b

pub exact_keys : CmpEqualImpliesEq key_cmp
exact_keys a b h = exact_pairs endpoint_cmp endpoint_cmp exact_endpoints exact_endpoints a b h

is_eq-then : (r s : Ordering) → is_eq (ordering_then r s) ≡ (is_eq r && is_eq s)
is_eq-then Less s = refl
is_eq-then Equal s = refl
is_eq-then Greater s = refl

T_to_true : (b : Bool) → T b → b ≡ true
T_to_true true h = refl
T_to_true false h = absurd h

is_eq-nat_cmp : (a b : ℕ) → is_eq (nat_cmp a b) ≡ (a == b)
is_eq-nat_cmp a b = by (nat_cmp a b) refl
  where
    by : (r : Ordering) → nat_cmp a b ≡ r → is_eq r ≡ (a == b)
    by Less e = sym (ne_eqb a b (λ same. omega (arith, ranked a b Less (sym e), same)))
    by Equal e = sym (T_to_true (a == b) (subst (λ (n : ℕ). T (eqb a n)) (ranked a b Equal (sym e)) (eqb_refl a)))
    by Greater e = sym (ne_eqb a b (λ same. omega (arith, ranked a b Greater (sym e), same)))

-- what the order of endpoints takes for equal is what the test takes for equal
ties_endpoint : (a b : Endpoint) → eq_by_cmp endpoint_cmp a b ≡ same_endpoint a b
ties_endpoint (V4 a p) (V4 b q) = is_eq-then (nat_cmp a b) (nat_cmp p q) ∙ (λ i. is_eq-nat_cmp a b i && is_eq-nat_cmp p q i)
ties_endpoint (V4 a p) (V6 b q) = refl
ties_endpoint (V6 a p) (V4 b q) = refl
ties_endpoint (V6 a p) (V6 b q) = is_eq-then (nat_cmp a b) (nat_cmp p q) ∙ (λ i. is_eq-nat_cmp a b i && is_eq-nat_cmp p q i)

pub ties_key : (a b : EndpointPair) → eq_by_cmp key_cmp a b ≡ same_key a b
unfolding same_key
ties_key a b = is_eq-then (endpoint_cmp a.0 b.0) (endpoint_cmp a.1 b.1) ∙ (λ i. ties_endpoint a.0 b.0 i && ties_endpoint a.1 b.1 i)

-- what `==` of two endpoints and of two keys computes
eq_endpoint : (a b : Endpoint) → endpoint.eq a b ≡ same_endpoint a b
eq_endpoint (V4 a p) (V4 b q) = refl
eq_endpoint (V4 a p) (V6 b q) = refl
eq_endpoint (V6 a p) (V4 b q) = refl
eq_endpoint (V6 a p) (V6 b q) = refl

pub eq_key : (a b : EndpointPair) → ends.eq a b ≡ same_key a b
unfolding same_key
eq_key a b = λ i. eq_endpoint a.0 b.0 i && eq_endpoint a.1 b.1 i

-- `same_key` is true exactly at equal keys
pub same_key-reflexive : (key : EndpointPair) → same_key key key ≡ true
same_key-reflexive key = sym (ties_key key key) ∙ (eq_by_cmp_equiv keys_total).refl key

pub same_key-equal : (a b : EndpointPair) → same_key a b ≡ true → a ≡ b
same_key-equal a b h = exact_keys a b ((Equal-is (key_cmp a b)).0 (ties_key a b ∙ h))

abbrev in_order : Bool → Endpoint → Endpoint → EndpointPair
in_order le a b = if le then (a, b) else (b, a)

-- both directions of a connection have one key
pub key_between-swap : (a b : Endpoint) → key_between a b ≡ key_between b a
unfolding key_between
key_between-swap a b = by (endpoint_cmp b a) refl
  where
    by : (r : Ordering) → endpoint_cmp b a ≡ r → in_order (is_le (endpoint_cmp a b)) a b ≡ in_order (is_le (endpoint_cmp b a)) b a
    by Less e = rw (endpoints_total.antisymm a b, e) refl
    by Equal e =
        let P : Endpoint → Type 0 = λ c. in_order (is_le (endpoint_cmp a c)) a c ≡ in_order (is_le (endpoint_cmp c a)) c a in
        subst P (sym (exact_endpoints b a e)) refl
    by Greater e = rw (endpoints_total.antisymm a b, e) refl
