-- An open connection that made a step is closed where it is over.
use Rattle.std.proofs.Common.{◌≡◌, ℕ, Bool, true, false, Option, Some, None, refl, sym, subst, arith, ◌∙◌}
use Rattle.std.specs.Prelude.{if◌then◌else◌, ◌&&◌, ◌≤◌, ◌-◌}
use Rattle.std.specs.FinMap as map
use Rattle.std.specs.FinMap.{len-remove}
use Rattle.flow_table.proofs.Keys.{keys_total}
use Rattle.flow_table.specs.Key.{EndpointPair, same_key}
use Rattle.flow_table.specs.Table.{Flows, found}
use Rattle.lane_core.specs.declared.connection.Connection.{Connection}

pub settled_at : (over same : Bool) (old mid : Option Connection) (after : Connection) → mid ≡ (if same then Some after else old)
    → (if over && same then None else mid) ≡ (if same then (if over then None else Some after) else old)
settled_at true true old mid after is = refl
settled_at true false old mid after is = is
settled_at false true old mid after is = is
settled_at false false old mid after is = is

-- what the table has then
pub left_settled : (over : Bool) (old mid new : Flows Connection) (key : EndpointPair) (after : Connection)
    → ((other : EndpointPair) → found mid other ≡ (if same_key key other then Some after else found old other))
    → ((other : EndpointPair) → found new other ≡ (if over && same_key key other then None else found mid other))
    → (other : EndpointPair) → found new other ≡ (if same_key key other then (if over then None else Some after) else found old other)
left_settled over old mid new key after stepped left other =
    left other ∙ settled_at over (same_key key other) (found old other) (found mid other) after (stepped other)

at_most : (b : Bool) (n : ℕ) → (if b then n - 1 else n) ≤ n
at_most true n = omega arith
at_most false n = omega arith

pub fewer : (m : Flows Connection) (key : EndpointPair) → map.len (map.remove m key) ≤ map.len m
fewer m key = subst (λ n. n ≤ map.len m) (sym (len-remove keys_total m key)) (at_most (map.contains_key m key) (map.len m))
