-- What holds of the records of a lane, as one open connection makes a step.
use Rattle.std.proofs.Common.{◌≡◌, ℕ, ◌+◌, ◌*◌, ◌≤◌, ◌<◌, Bool, Option, None, Some, List, refl, sym, ap, subst, ◌∙◌, arith}
use Rattle.std.specs.Prelude.{if◌then◌else◌}
use Rattle.std.specs.FinMap as map
use Rattle.std.specs.FinMap.{len-empty}
use Rattle.std.proofs.Props.{props}
use Rattle.flow_table.specs.Key.{EndpointPair, same_key}
use Rattle.flow_table.specs.Table.{key_cmp, Flows, found}
use Rattle.shared_forest.specs.declared.store.Shared.{Shared}
use Rattle.shared_forest.specs.declared.store.ForestView.{Ghosts}
use Rattle.shared_forest.specs.Lists.{TreeLists}
use Rattle.shared_forest.specs.Listing.{listing}
use Rattle.shared_forest.specs.Store.{Keeps}
use Rattle.event_trees.specs.Edit.{IsForestOf}
use Rattle.forest_versions.specs.Master.{Versions}
use Rattle.forest_versions.specs.State.{active}
use Rattle.connection_core.specs.declared.ledger.Counts.{Counts}
use Rattle.connection_core.specs.InForce.{registered_at}
use Rattle.lane_core.specs.declared.connection.Connection.{Connection}
use Rattle.lane_core.specs.declared.records.Records.{Records}
use Rattle.lane_core.specs.Trees.{IsTree, AllOpen}
use Rattle.lane_core.specs.Live.{IsLive, AreCounted, HasFirst}
use Rattle.lane_core.specs.Kept.{IsOpenAt, AreKept}
use Rattle.lane_core.specs.Places.{place_of}
use Rattle.lane_core.specs.Records.{RecordSoFar}
use Rattle.lane_core.specs.Packets.{KeepsSoFar, HasCome, Leaves}
use Rattle.lane_core.proofs.Tables.{all_stepped}

module _ {S : Type 0} (answered : S → Shared → Type 0) (content : S → Shared → TreeLists) (old new : S) (kept : Keeps answered content old new) (m : Versions) where
  pub first_kept : HasFirst (answered old) (content old) m → HasFirst (answered new) (content new) m
  first_kept first = record {
    answered = kept.still_answered m.forest first.answered;
    tree = subst (λ t. IsForestOf m.now.defs (active m.now) (listing t)) (sym (kept.same_content m.forest first.answered)) first.tree;
  }

  pub live_kept : (places packets packets' : ℕ) (conn : Connection) → packets ≤ packets' → IsLive (answered old) (content old) m places packets conn
      → IsLive (answered new) (content new) m places packets' conn
  live_kept places packets packets' conn more live = record {
    placed = live.placed;
    answered = kept.still_answered conn.flow.forest live.answered;
    tree = subst (IsTree m conn.version) (sym (kept.same_content conn.flow.forest live.answered)) live.tree;
    since = live.since;
    short = let short = live.short in omega (arith, short, more);
  }

  pub live_all_kept : (places packets : ℕ) (flows : Flows Connection) → AllOpen (IsLive (answered old) (content old) m places packets) flows
      → AllOpen (IsLive (answered new) (content new) m places packets) flows
  live_all_kept places packets flows live q x is = live_kept places packets packets x (omega arith) (live q x is)

  -- one makes a step, and the others stay
  pub live_stepped : (places packets packets' : ℕ) (flows flows' : Flows Connection) (key : EndpointPair) (conn after : Connection) → packets < packets'
      → ((other : EndpointPair) → found flows' other ≡ (if same_key key other then Some after else found flows other)) → found flows key ≡ Some conn
      → after.place ≡ conn.place → after.version ≡ conn.version → after.flow.count ≤ conn.flow.count + 1
      → answered new after.flow.forest → IsTree m after.version (content new after.flow.forest)
      → AllOpen (IsLive (answered old) (content old) m places packets) flows → AllOpen (IsLive (answered new) (content new) m places packets') flows'
  live_stepped places packets packets' flows flows' key conn after more left was place version count there tree live =
      let before = live key conn was in
      all_stepped (IsLive (answered old) (content old) m places packets) (IsLive (answered new) (content new) m places packets') flows flows' key after left
      (record {
        placed = subst (λ n. n < places) (sym place) before.placed;
        answered = there;
        tree = tree;
        since = subst (λ n. n ≤ m.version) (sym version) before.since;
        short = let short = before.short in omega (arith, short, count, more);
      })
      (λ q x is l. live_kept places packets packets' x (omega (arith, more)) l) live

-- the table is as it was, and so is all: what holds of the records has one proof
pub same_records : {F : Type 0} {store : Ghosts F} (r : Records F store) (flows : Flows Connection) → flows ≡ r.connections
    → (live : AllOpen (IsLive (store.answered r.forests) (store.content r.forests) r.master r.list.len r.next) flows)
    (counted : AreCounted r.ledger.counts r.list.len (map.len flows) r.dropped r.next) (first : HasFirst (store.answered r.forests) (store.content r.forests) r.master)
    → record r { connections = flows; live = live; counted = counted; first = first } ≡ r
same_records {F} {store} r flows same =
    let at : (live : AllOpen (IsLive (store.answered r.forests) (store.content r.forests) r.master r.list.len r.next) r.connections)
    (counted : AreCounted r.ledger.counts r.list.len (map.len r.connections) r.dropped r.next) (first : HasFirst (store.answered r.forests) (store.content r.forests) r.master)
    → record r { live = live; counted = counted; first = first } ≡ r =
    λ live counted first.
    let one : live ≡ r.live = all_live_prop r live r.live in
    let two : counted ≡ r.counted = counted_prop r counted r.counted in
    let three : first ≡ r.first = first_prop r first r.first in
    ap (λ l. record r { live = l; counted = counted; first = first }) one
    ∙ ap (λ l. record r { counted = l; first = first }) two
    ∙ ap (λ l. record r { first = l }) three in
    subst (λ (w : Flows Connection). (live : AllOpen (IsLive (store.answered r.forests) (store.content r.forests) r.master r.list.len r.next) w)
    (counted : AreCounted r.ledger.counts r.list.len (map.len w) r.dropped r.next) (first : HasFirst (store.answered r.forests) (store.content r.forests) r.master)
    → record r { connections = w; live = live; counted = counted; first = first } ≡ r) (sym same) at
  where
    all_live_prop : (r : Records F store) → IsProp (AllOpen (IsLive (store.answered r.forests) (store.content r.forests) r.master r.list.len r.next) r.connections)
    all_live_prop r = hlevel (props, store.answered_once r.forests)

    counted_prop : (r : Records F store) → IsProp (AreCounted r.ledger.counts r.list.len (map.len r.connections) r.dropped r.next)
    counted_prop r = hlevel props

    first_prop : (r : Records F store) → IsProp (HasFirst (store.answered r.forests) (store.content r.forests) r.master)
    first_prop r = hlevel (props, store.answered_once r.forests)

-- after the packet of a later number
pub live_later : (known : Shared → Type 0) (content : Shared → TreeLists) (m : Versions) (places packets packets' : ℕ) (flows : Flows Connection) → packets ≤ packets'
    → AllOpen (IsLive known content m places packets) flows → AllOpen (IsLive known content m places packets') flows
live_later known content m places packets packets' flows more live q x is =
    let l = live q x is in
    record { placed = l.placed; answered = l.answered; tree = l.tree; since = l.since; short = let short = l.short in omega (arith, short, more) }

-- among more records
pub live_among : (known : Shared → Type 0) (content : Shared → TreeLists) (m : Versions) (places places' packets : ℕ) (flows : Flows Connection) → places ≤ places'
    → AllOpen (IsLive known content m places packets) flows → AllOpen (IsLive known content m places' packets) flows
live_among known content m places places' packets flows more live q x is =
    let l = live q x is in
    record { placed = let low = l.placed in omega (arith, low, more); answered = l.answered; tree = l.tree; since = l.since; short = l.short }

-- the packet of this number has come, once idle connections have ended
pub has_come : {F : Type 0} {store : Ghosts F} (old mid : Records F store) (number : ℕ) → old.next ≤ number → mid.next ≡ number + 1 → mid.list.len ≡ old.list.len
    → mid.ledger.counts.callbacks + 255 * map.len mid.connections ≤ old.ledger.counts.callbacks + 255 * map.len old.connections
    → mid.ledger.counts.weight + 73440 * map.len mid.connections ≤ old.ledger.counts.weight + 73440 * map.len old.connections → HasCome number mid
has_come old mid number rising next places callbacks weight =
    let counted = old.counted in
    record {
      next = next;
      callbacks = omega (arith, counted.callbacks, rising, next, callbacks);
      weight = omega (arith, counted.weight, rising, next, weight);
      few = omega (arith, counted.few, rising, next, places);
    }

pub leaves_same : {F : Type 0} {store : Ghosts F} (r : Records F store) → Leaves r r
leaves_same r = record { places = refl; master = refl; forests = refl; dropped = refl; callbacks = omega arith; weight = omega arith }

pub leaves_on : {F : Type 0} {store : Ghosts F} (old mid new : Records F store) → Leaves old mid → Leaves mid new → Leaves old new
leaves_on old mid new one two = record {
  places = two.places ∙ one.places;
  master = two.master ∙ one.master;
  forests = two.forests ∙ one.forests;
  dropped = two.dropped ∙ one.dropped;
  callbacks = let a = one.callbacks in let b = two.callbacks in omega (arith, a, b);
  weight = let a = one.weight in let b = two.weight in omega (arith, a, b);
}

-- ---- a table without a connection

pub none_live : (known : Shared → Type 0) (content : Shared → TreeLists) (m : Versions) (places packets : ℕ) (flows : Flows Connection) → ((key : EndpointPair) → found flows key ≡ None)
    → AllOpen (IsLive known content m places packets) flows
none_live known content m places packets flows none key x is = absurd (let e = sym (none key) ∙ is in cc)

none_open : (flows : Flows Connection) → flows ≡ map.empty → map.len flows ≡ 0
none_open flows empty = ap map.len empty ∙ len-empty key_cmp Connection

-- and no record
pub none_counted : (counts : Counts) (places packets : ℕ) (flows : Flows Connection) → counts ≡ record { callbacks = 0; weight = 0 } → places ≡ 0 → flows ≡ map.empty → packets ≤ 1048576
    → AreCounted counts places (map.len flows) 0 packets
none_counted counts places packets flows zero none empty numbered =
    let len = none_open flows empty in
    let callbacks = ap (λ (n : Counts). n.callbacks) zero in
    let weight = ap (λ (n : Counts). n.weight) zero in
    record {
      callbacks = omega (arith, len, callbacks);
      weight = omega (arith, len, weight);
      few = omega (arith, none);
      few_dropped = omega arith;
      numbered = numbered;
    }

-- in place of another one
pub counted_without : (counts : Counts) (places dropped packets : ℕ) (flows : Flows Connection) (opened : ℕ) → flows ≡ map.empty → AreCounted counts places opened dropped packets
    → AreCounted counts places (map.len flows) dropped packets
counted_without counts places dropped packets flows opened empty counted =
    let len = none_open flows empty in record {
      callbacks = omega (arith, counted.callbacks, len);
      weight = omega (arith, counted.weight, len);
      few = counted.few;
      few_dropped = counted.few_dropped;
      numbered = counted.numbered;
    }

module _ {F : Type 0} {store : Ghosts F} (r : Records F store) (empty : r.list.len ≡ 0) where
  none_at : (key : EndpointPair) (o : Option Connection) (pasts : List RecordSoFar) → found r.connections key ≡ o
      → IsOpenAt (registered_at r.master) (store.content r.forests) o (place_of key pasts) pasts → place_of key pasts ≡ None
  none_at key None pasts is at = at
  none_at key (Some x) pasts is at = absurd (let low = (r.live key x is).placed in omega (arith, low, empty))

  -- before the first record it keeps the same
  pub kept_without : (flows : Flows Connection) → ((key : EndpointPair) → found flows key ≡ None) → (keep : Bool) (pasts : List RecordSoFar) → KeepsSoFar keep r pasts
      → AreKept keep (registered_at r.master) (store.content r.forests) flows r.list.items r.ledger.counts pasts
  kept_without flows none keep pasts stands = record {
    shown = stands.shown;
    placed = λ key. subst (λ o. IsOpenAt (registered_at r.master) (store.content r.forests) o (place_of key pasts) pasts) (sym (none key))
        (none_at key (found r.connections key) pasts refl (stands.placed key));
    single = stands.single;
    counted = stands.counted;
    weighed = stands.weighed;
  }
