-- A lane stands for the same records over a store that keeps the trees of its open connections, and before its first packet for none.
use Rattle.std.proofs.Common.{◌≡◌, ℕ, Bool, Option, Some, None, List, [], refl, sym, subst}
use Rattle.flow_table.specs.Key.{EndpointPair}
use Rattle.flow_table.specs.Table.{Flows, found}
use Rattle.app_api.specs.declared.registration.Reg.{Reg}
use Rattle.shared_forest.specs.declared.store.Shared.{Shared}
use Rattle.shared_forest.specs.Lists.{TreeLists}
use Rattle.connection_core.specs.Standing.{IsFlow}
use Rattle.lane_core.specs.declared.connection.Connection.{Connection}
use Rattle.lane_core.specs.Records.{RecordSoFar}
use Rattle.lane_core.specs.Shown.{total}
use Rattle.lane_core.specs.Places.{place_by, place_of, IsSingle}
use Rattle.lane_core.specs.Kept.{IsOpen, IsOpenAt, AreKept}

module _ (keep : Bool) (registered : ℕ → ℕ → Option Reg) where
  -- no packet yet
  pub kept-empty : (content : Shared → TreeLists) (flows : Flows Connection) → ((key : EndpointPair) → found flows key ≡ None)
      → AreKept keep registered content flows [] (record { callbacks = 0; weight = 0 }) []
  unfolding place_by total IsSingle
  kept-empty content flows none = record {
    shown = refl;
    placed = λ key. subst (λ o. IsOpenAt registered content o (place_of key []) []) (sym (none key)) refl;
    single = λ key. tt;
    counted = refl;
    weighed = refl;
  }

  pub IsOpen-stored : (content content' : Shared → TreeLists) (conn : Connection) (past : RecordSoFar)
      → content' conn.flow.forest ≡ content conn.flow.forest → IsOpen registered content conn past → IsOpen registered content' conn past
  IsOpen-stored content content' conn past same is = record {
    sides = is.sides;
    version = is.version;
    last = is.last;
    heard = is.heard;
    kept = subst (λ t. IsFlow (registered conn.version) t conn.flow past.history) (sym same) is.kept;
  }

  pub IsOpenAt-stored : (content content' : Shared → TreeLists) (o : Option Connection) (place : Option ℕ) (pasts : List RecordSoFar)
      → ((conn : Connection) → o ≡ Some conn → content' conn.flow.forest ≡ content conn.flow.forest) → IsOpenAt registered content o place pasts → IsOpenAt registered content' o place pasts
  IsOpenAt-stored content content' None place pasts same none = none
  IsOpenAt-stored content content' (Some conn) place pasts same at = (at.0, λ d. IsOpen-stored content content' conn _ (same conn refl) (at.1 d))
