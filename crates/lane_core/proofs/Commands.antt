-- What a command leaves of the open connections, which live under what was in force at their start.
use Rattle.std.proofs.Common.{◌≡◌, ℕ, ◌≤◌, Bool, Option, Some, None, List, refl, sym, ap, subst, ◌∙◌, arith, le_refl}
use Rattle.flow_table.specs.Key.{EndpointPair}
use Rattle.flow_table.specs.Table.{Flows, found}
use Rattle.app_api.specs.declared.registration.Reg.{Reg}
use Rattle.shared_forest.specs.declared.store.ForestView.{Ghosts}
use Rattle.shared_forest.specs.Lists.{TreeLists}
use Rattle.event_trees.specs.declared.defs.EventDef.{EventDef}
use Rattle.event_trees.specs.Later.{IsEarlier}
use Rattle.forest_versions.specs.State.{ControlState}
use Rattle.forest_versions.specs.Master.{Versions, Tells, defs_of}
use Rattle.connection_core.specs.declared.ledger.Counts.{Counts}
use Rattle.connection_core.specs.InForce.{registered_at}
use Rattle.connection_core.specs.Trees.{active_in, AnswersAs, IsForestIn}
use Rattle.lane_core.specs.declared.connection.Connection.{Connection}
use Rattle.lane_core.specs.declared.under_way.RecordUnderWay.{RecordUnderWay}
use Rattle.lane_core.specs.Records.{RecordSoFar}
use Rattle.lane_core.specs.Places.{place_of}
use Rattle.lane_core.specs.Kept.{IsOpenAt, AreKept}
use Rattle.lane_core.specs.Live.{IsLive, LeavesTrees}
use Rattle.lane_core.specs.Trees.{IsTree, AllOpen}

module _ (m after : Versions) (tells : (v : ℕ) → (s : ControlState) × Tells m v s) (present : Tells m m.version m.now)
    (later : (v : ℕ) (s : ControlState) → v ≤ m.version → Tells m v s → Tells after v s) (defs : List EventDef) (defs_are : defs ≡ defs_of after)
    (forests : (earlier : List EventDef) (at now : ℕ → Option Reg) (tree : TreeLists) → IsEarlier earlier defs → AnswersAs at now → IsForestIn earlier at tree → IsForestIn defs now tree)
    (lists : (earlier : List EventDef) (at now : ℕ → Option Reg) (tree : TreeLists) → AnswersAs at now → IsForestIn earlier at tree → active_in now tree ≡ active_in at tree) where
  looks : (v : ℕ) → v ≤ m.version → AnswersAs (registered_at m v) (registered_at after v)
  looks v low number few = let s = tells v in (later v s.0 low s.1).regs number few ∙ sym (s.1.regs number few)

  -- a tree of an earlier version is one still
  pub tree_on : (v : ℕ) (tree : TreeLists) → v ≤ m.version → IsTree m v tree → IsTree after v tree
  tree_on v tree low is =
      subst (λ ds. IsForestIn ds (registered_at after v) tree) defs_are
      (forests m.now.defs (registered_at m v) (registered_at after v) tree
      (subst (IsEarlier m.now.defs) (sym defs_are) (later m.version m.now (le_refl m.version) present).defs) (looks v low) is)

  pub list_on : (v : ℕ) (tree : TreeLists) → v ≤ m.version → IsTree m v tree → active_in (registered_at after v) tree ≡ active_in (registered_at m v) tree
  list_on v tree low is = lists m.now.defs (registered_at m v) (registered_at after v) tree (looks v low) is

module _ {F : Type 0} (store : Ghosts F) (m after : Versions) (old new : F) (leaves : LeavesTrees store m after old new) (places packets : ℕ) (flows : Flows Connection)
    (live : AllOpen (IsLive (store.answered old) (store.content old) m places packets) flows) where
  -- each open connection is called by its tree still
  pub live_on : AllOpen (IsLive (store.answered new) (store.content new) after places packets) flows
  live_on key x is =
      let l = live key x is in
      record {
        placed = l.placed;
        answered = leaves.kept.still_answered x.flow.forest l.answered;
        tree = subst (IsTree after x.version) (sym (leaves.kept.same_content x.flow.forest l.answered)) (leaves.trees x.version (store.content old x.flow.forest) l.since l.tree);
        since = let low = l.since in let more = leaves.later in omega (arith, low, more);
        short = l.short;
      }

  open_on : (key : EndpointPair) (o : Option Connection) (place : Option ℕ) (pasts : List RecordSoFar) → found flows key ≡ o
      → IsOpenAt (registered_at m) (store.content old) o place pasts → IsOpenAt (registered_at after) (store.content new) o place pasts
  open_on key None place pasts there none = none
  open_on key (Some x) place pasts there at =
      let l = live key x there in (
        at.0,
        λ d. let is = at.1 d in record {
          sides = is.sides;
          version = is.version;
          last = is.last;
          heard = is.heard;
          kept = record {
            socket = is.kept.socket;
            count = is.kept.count;
            active = is.kept.active
                ∙ sym (leaves.lists x.version (store.content old x.flow.forest) l.since l.tree)
                ∙ ap (active_in (registered_at after x.version)) (sym (leaves.kept.same_content x.flow.forest l.answered));
          };
        },
      )

  -- and the records are the same
  pub kept_on : (keep : Bool) (slots : List RecordUnderWay) (counts : Counts) (pasts : List RecordSoFar)
      → AreKept keep (registered_at m) (store.content old) flows slots counts pasts → AreKept keep (registered_at after) (store.content new) flows slots counts pasts
  kept_on keep slots counts pasts stands = record {
    shown = stands.shown;
    placed = λ key. open_on key (found flows key) (place_of key pasts) pasts refl (stands.placed key);
    single = stands.single;
    counted = stands.counted;
    weighed = stands.weighed;
  }
