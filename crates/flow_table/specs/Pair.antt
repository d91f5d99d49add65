-- Only for proofs. Keys whose two endpoints are of IPv4, and how a table keeps them apart from the others.
use Rattle.std.proofs.Common.{◌≡◌, ◌==◌, ◌/◌, ◌%◌, ◌&&◌, ◌++◌, ℕ, Bool, true, false, List, None, sym, ap, ap₂, ◌∙◌}
use Rattle.std.proofs.lemmas.Bool.{and_parts, eqb-true, false≢true}
use Rattle.std.specs.Cmp.{IsEquivalence, decided, nat_eq_equiv}
use Rattle.std.specs.Global.{Box}
use Rattle.std.specs.Hash.{HashWrites}
use Rattle.std.specs.Map.{lookup}
use Rattle.flow_table.specs.declared.endpoint.Endpoint.{Endpoint}
use Rattle.flow_table.specs.declared.endpoint.Endpoint.TheVariants.{V4, V6}
use Rattle.flow_table.specs.Key.{EndpointPair}
use Rattle.flow_table.specs.Hashing.{hash_input}
use Rattle.flow_table.specs.contracts.endpoint.EndpointPartialEq.TheImpl.{ghosts as endpoint}
use Rattle.flow_table.specs.contracts.key.KeyPartialEq.TheImpl.{ghosts as ends}

abbrev pub is_ipv4 : Endpoint → Bool
is_ipv4 (V4 addr port) = true
is_ipv4 (V6 addr port) = false

-- both endpoints of a key are of IPv4
abbrev pub is_ipv4_pair : EndpointPair → Bool
is_ipv4_pair key = is_ipv4 key.0 && is_ipv4 key.1

-- the endpoint of IPv4 that a number stands for: its address, and then its port
abbrev pub endpoint_of : ℕ → Endpoint
endpoint_of number = V4 (number / 65536) (number % 65536)

-- one list has pairs of IPv4 alone, and the other has none
pub record IsApart {T : Type 0} (pairs flows : List (EndpointPair × Box T)) : Type 0 where
  pub only : (key : EndpointPair) → is_ipv4_pair key ≡ false → lookup (ends.eq key) pairs ≡ None
  pub none : (key : EndpointPair) → is_ipv4_pair key ≡ true → lookup (ends.eq key) flows ≡ None

-- a pair is hashed as the numbers of its endpoints
abbrev pub pair_hash_input : EndpointPair → HashWrites
pair_hash_input key = hash_input key.0 ++ hash_input key.1

-- `==` of two endpoints, and of two keys, says whether they are the same
endpoint_itself : (a : Endpoint) → endpoint.eq a a ≡ true
endpoint_itself (V4 addr port) = λ i. nat_eq_equiv.refl addr i && nat_eq_equiv.refl port i
endpoint_itself (V6 addr port) = λ i. nat_eq_equiv.refl addr i && nat_eq_equiv.refl port i

same_endpoints : (a b : Endpoint) → endpoint.eq a b ≡ true → a ≡ b
same_endpoints (V4 a p) (V4 b q) h = let same = and_parts (a == b) (p == q) h in ap₂ V4 (eqb-true a b same.0) (eqb-true p q same.1)
same_endpoints (V4 a p) (V6 b q) h = absurd (false≢true h)
same_endpoints (V6 a p) (V4 b q) h = absurd (false≢true h)
same_endpoints (V6 a p) (V6 b q) h = let same = and_parts (a == b) (p == q) h in ap₂ V6 (eqb-true a b same.0) (eqb-true p q same.1)

same_keys : (a b : EndpointPair) → ends.eq a b ≡ true → a ≡ b
same_keys a b h = let same = and_parts (endpoint.eq a.0 b.0) (endpoint.eq a.1 b.1) h in λ i. (same_endpoints a.0 b.0 same.0 i, same_endpoints a.1 b.1 same.1 i)

key_itself : (a : EndpointPair) → ends.eq a a ≡ true
key_itself a = λ i. endpoint_itself a.0 i && endpoint_itself a.1 i

-- the laws of `==` on pairs
pub pairs_equiv : IsEquivalence ends.eq
pairs_equiv = decided ends.eq (λ a b. (same_keys a b, λ same. ap (ends.eq a) (sym same) ∙ key_itself a))

-- equal pairs hash alike
pub paired_alike : (a b : EndpointPair) → ends.eq a b ≡ true → pair_hash_input a ≡ pair_hash_input b
paired_alike a b h = ap pair_hash_input (same_keys a b h)
