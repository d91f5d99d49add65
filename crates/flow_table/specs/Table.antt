-- Not of the headline. What a flow table holds: a finite map from keys to values.
use Rattle.std.specs.Prelude.{◌≡◌, ◌==◌, ℕ, refl, List, map as each, Option, Some, if◌then◌else◌}
use Rattle.std.specs.Global.{Box}
use Rattle.std.specs.Coded.{Coded, code_by, coded×, coded_ℕ}
use Rattle.std.specs.FinMap as map
use Rattle.std.specs.declared.cmp.Ordering.{Ordering}
use Rattle.std.specs.Ordering.{ordering_then}
use Rattle.flow_table.specs.declared.endpoint.Endpoint.{Endpoint}
use Rattle.flow_table.specs.declared.endpoint.Endpoint.TheVariants.{V4, V6}
use Rattle.flow_table.specs.Endpoint.{version_of, addr_of, port_of, endpoint_cmp}
use Rattle.flow_table.specs.Key.{EndpointPair, same_key}

-- by the lower endpoint, and then by the higher one
abbrev pub key_cmp : EndpointPair → EndpointPair → Ordering
key_cmp a b = ordering_then (endpoint_cmp a.0 b.0) (endpoint_cmp a.1 b.1)

abbrev pub Flows : Type 0 → Type 0
Flows T = map.FinMap key_cmp T

-- what is kept for a key
abbrev pub found : {T : Type 0} → Flows T → EndpointPair → Option T
found flows key = map.get flows key

-- this is what is found for the key, and for any other key what was found before
abbrev pub FindsAt : {T : Type 0} → Flows T → Flows T → EndpointPair → Option T → Type 0
FindsAt old new key value = (other : EndpointPair) → found new other ≡ (if same_key key other then value else found old other)

-- the value of a key that was there is another one, and the rest stays
pub record Rewrites {T : Type 0} (old new : Flows T) (key : EndpointPair) (value : T) : Type 0 where
  pub flows : new ≡ map.insert old key value
  pub found : (other : EndpointPair) → found new other ≡ (if same_key key other then Some value else found old other)
  pub len : map.len new ≡ map.len old

-- the entries of a table, with what the boxes hold
abbrev pub unboxed : {T : Type 0} → List (EndpointPair × Box T) → List (EndpointPair × T)
unboxed es = each (λ e. (e.0, e.1.value)) es

-- an endpoint as numbers
abbrev pub numbers_of : Endpoint → ℕ × (ℕ × ℕ)
numbers_of endpoint = (version_of endpoint, (addr_of endpoint, port_of endpoint))

abbrev pub from_numbers : ℕ × (ℕ × ℕ) → Endpoint
from_numbers n = if n.0 == 4 then V4 n.1.0 n.1.1 else V6 n.1.0 n.1.1

pub from_numbers-numbers_of : (endpoint : Endpoint) → from_numbers (numbers_of endpoint) ≡ endpoint
from_numbers-numbers_of (V4 addr port) = refl
from_numbers-numbers_of (V6 addr port) = refl

abbrev pub coded_endpoint : Coded Endpoint
coded_endpoint = code_by (ℕ × (ℕ × ℕ)) (coded× coded_ℕ (coded× coded_ℕ coded_ℕ)) numbers_of from_numbers from_numbers-numbers_of

abbrev pub coded_pair : Coded EndpointPair
coded_pair = coded× coded_endpoint coded_endpoint
