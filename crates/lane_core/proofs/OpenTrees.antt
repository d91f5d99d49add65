-- The open connection of a key stands at its place among the records so far, and its tree is that of its private list.
use Rattle.std.proofs.Common.{◌≡◌, ℕ, zero, suc, Bool, true, false, Option, Some, None, List, [], ◌∷◌, get_or, refl, sym, ap, subst, ◌∙◌}
use Rattle.std.specs.Prelude.{if◌then◌else◌}
use Rattle.flow_table.specs.Key.{EndpointPair}
use Rattle.shared_forest.specs.declared.store.Shared.{Shared}
use Rattle.shared_forest.specs.Lists.{TreeLists}
use Rattle.shared_forest.specs.Listing.{listing}
use Rattle.event_trees.specs.Private.{IsPrivate}
use Rattle.event_trees.specs.Canon.{canon}
use Rattle.event_trees.specs.Edit.{IsForestOf}
use Rattle.forest_versions.specs.Master.{Versions, defs_of}
use Rattle.connection_core.specs.InForce.{registered_at}
use Rattle.lane_core.specs.declared.connection.Connection.{Connection}
use Rattle.lane_core.specs.Records.{RecordSoFar, is_open_at, open_at}
use Rattle.lane_core.specs.Places.{further, place_by, place_of}
use Rattle.lane_core.specs.Kept.{IsOpen, IsOpenAt}
use Rattle.lane_core.specs.Trees.{IsTree}
use Rattle.lane_core.specs.Lane.{IsTreeFound}
use Rattle.lane_core.proofs.Places.{none_here}

-- the record at this place is the open connection of the key
record IsAt (key : EndpointPair) (pasts : List RecordSoFar) (i : ℕ) : Type 0 where
  pub past : RecordSoFar
  pub is_open : open_at key pasts ≡ Some past
  pub placed : (d : RecordSoFar) → get_or pasts i d ≡ past

is_at_here : (key : EndpointPair) (past : RecordSoFar) (pasts : List RecordSoFar) (b : Bool) (o : Option ℕ) (i : ℕ) → is_open_at key past ≡ b → ((k : ℕ) → o ≡ Some k → IsAt key pasts k)
    → (if b then Some 0 else further o) ≡ Some i → IsAt key (past ∷ pasts) i
unfolding open_at
is_at_here key past pasts true o zero is later e = record { past = past; is_open = rw is refl; placed = λ d. refl }
is_at_here key past pasts true o (suc i) is later e = absurd (cc)
is_at_here key past pasts false None i is later e = absurd (cc)
is_at_here key past pasts false (Some k) zero is later e = absurd (cc)
is_at_here key past pasts false (Some k) (suc i) is later e =
    let same : k ≡ i = cc in
    let rest = later i (ap Some same) in
    record { past = rest.past; is_open = rw is rest.is_open; placed = rest.placed }

is_at : (key : EndpointPair) (pasts : List RecordSoFar) (i : ℕ) → place_of key pasts ≡ Some i → IsAt key pasts i
unfolding place_by
is_at key [] i e = absurd (cc)
is_at key (past ∷ pasts) i e = is_at_here key past pasts (is_open_at key past) (place_of key pasts) i refl (is_at key pasts) e

pub none_is_open : (key : EndpointPair) (pasts : List RecordSoFar) → place_of key pasts ≡ None → open_at key pasts ≡ None
unfolding place_by open_at
none_is_open key [] none = refl
none_is_open key (past ∷ pasts) none =
    let here = none_here (is_open_at key past) (place_of key pasts) none in
    rw here.0 (none_is_open key pasts here.1)

module _ (m : Versions) (content : Shared → TreeLists) where
  pub none_is_found : (key : EndpointPair) (o : Option Connection) (pasts : List RecordSoFar) → o ≡ None → IsOpenAt (registered_at m) content o (place_of key pasts) pasts
      → IsTreeFound (defs_of m) (open_at key pasts) None
  none_is_found key None pasts none at = rw (none_is_open key pasts at) tt
  none_is_found key (Some conn) pasts none at = absurd (cc)

  tree_is : (conn : Connection) (past : RecordSoFar) → IsOpen (registered_at m) content conn past → IsTree m conn.version (content conn.flow.forest)
      → IsForestOf (defs_of m) past.history.active (listing (content conn.flow.forest))
  tree_is conn past is tree = record {
    private = subst (IsPrivate (defs_of m)) (sym is.kept.active) tree.private;
    listed = tree.listed ∙ ap (canon (defs_of m)) (sym is.kept.active);
  }

  pub tree_is_found : (key : EndpointPair) (conn : Connection) (pasts : List RecordSoFar) (tree : TreeLists) → tree ≡ content conn.flow.forest → IsTree m conn.version (content conn.flow.forest)
      → IsOpenAt (registered_at m) content (Some conn) (place_of key pasts) pasts → IsTreeFound (defs_of m) (open_at key pasts) (Some tree)
  tree_is_found key conn pasts tree same is at =
      let here = is_at key pasts conn.place at.0 in
      rw (here.is_open, same) (tree_is conn here.past (subst (IsOpen (registered_at m) content conn) (here.placed here.past) (at.1 here.past)) is)
