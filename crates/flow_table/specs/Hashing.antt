-- Not of the headline. What a hash reads of an endpoint.
use Rattle.std.proofs.Common.{◌≡◌, ◌==◌, ◌+◌, ◌*◌, ◌++◌, true, ap₂}
use Rattle.std.proofs.lemmas.Bool.{and_parts, eqb-true, false≢true}
use Rattle.std.specs.Hash as fed
use Rattle.std.specs.Hash.{HashWrites}
use Rattle.flow_table.specs.declared.endpoint.Endpoint.{Endpoint}
use Rattle.flow_table.specs.declared.endpoint.Endpoint.TheVariants.{V4, V6}
use Rattle.flow_table.specs.contracts.endpoint.EndpointPartialEq.TheImpl.{ghosts as endpoint}

-- an endpoint of IPv4 is one number
abbrev pub hash_input : Endpoint → HashWrites
hash_input (V4 addr port) = fed.u64 (addr * 65536 + port)
hash_input (V6 addr port) = fed.u128 addr ++ fed.u16 port

-- equal endpoints hash alike
pub hashed_alike : (a b : Endpoint) → endpoint.eq a b ≡ true → hash_input a ≡ hash_input b
hashed_alike (V4 a p) (V4 b q) h = let same = and_parts (a == b) (p == q) h in ap₂ (λ m n. fed.u64 (m * 65536 + n)) (eqb-true a b same.0) (eqb-true p q same.1)
hashed_alike (V4 a p) (V6 b q) h = absurd (false≢true h)
hashed_alike (V6 a p) (V4 b q) h = absurd (false≢true h)
hashed_alike (V6 a p) (V6 b q) h = let same = and_parts (a == b) (p == q) h in ap₂ (λ m n. fed.u128 m ++ fed.u16 n) (eqb-true a b same.0) (eqb-true p q same.1)
