-- Not of the headline. What the calls of a connection do, each said of what it finds and of what it leaves, with whatever is in force.
use Rattle.std.specs.Prelude.{◌≡◌, ◌+◌, ◌^◌, ◌<◌, ◌≤◌, ◌++◌, ℕ, Bool, Option, List, []}
use Rattle.app_api.specs.declared.registration.Reg.{Reg}
use Rattle.app_api.specs.App.{Meaning}
use Rattle.shared_forest.specs.declared.store.ForestView.{Ghosts as Store}
use Rattle.shared_forest.specs.declared.store.Shared.{Shared}
use Rattle.shared_forest.specs.Lists.{TreeLists}
use Rattle.shared_forest.specs.Store.{Keeps}
use Rattle.forest_versions.specs.State.{ControlState, active as first_active}
use Rattle.connection_core.specs.declared.flow.Flow.{Flow}
use Rattle.connection_core.specs.declared.flow.Step.{Step}
use Rattle.connection_core.specs.declared.in_force.InForce.{InForce}
use Rattle.connection_core.specs.declared.ledger.Counts.{Counts}
use Rattle.connection_core.specs.declared.ledger.Ledger.{Ledger}
use Rattle.connection_core.specs.declared.ledger.Notes.{Notes}
use Rattle.connection_core.specs.declared.terms.Terms.{Terms}
use Rattle.connection_core.specs.declared.arrival.Arrived.{Arrived}
use Rattle.connection_core.specs.declared.arrival.RaiseAt.{RaiseAt}
use Rattle.connection_core.specs.InForce.{registered, IsInForce, ForControl}
use Rattle.connection_core.specs.PacketUnderWay.{PacketUnderWay, called_at}
use Rattle.connection_core.specs.History.{History, sender_phase, receiver_phase, followed, verdict, drops_of, is_over}
use Rattle.connection_core.specs.Standing.{IsNoted, IsConnection, CallbackState, state_of, Steps, Alters, Costs, CostsUnder, Makes, IsAsFar, RiseBy, at_raise}
use Rattle.connection_core.specs.Trees.{list_in_force, IsForestInForce, InternsWithin}

-- ---- what callbacks run under

-- the application as what it answers, whether entries are kept, and what is in force
pub record Running : Type 0 where
  pub app : Meaning
  pub keep : Bool
  pub lent : InForce

abbrev pub running : {A X : Type 0} {g : _} → (A → Meaning) → Terms A X g → Running
running meaning terms = record { app = meaning terms.app.now; keep = terms.keep; lent = terms.in_force }

-- ---- what an arrived packet makes of a connection

-- its phase at its sender
abbrev pub phase_sending : Meaning → ControlState → Arrived → History → PacketUnderWay
phase_sending app s arrived h = sender_phase app s arrived.number arrived.from arrived.head.now arrived.scale h

-- its phase at its receiver
abbrev pub phase_receiving : Meaning → ControlState → Arrived → ℕ → PacketUnderWay → PacketUnderWay
phase_receiving app s arrived count c = receiver_phase app s arrived.number arrived.from arrived.head.now arrived.payload.now count c

-- all of it
abbrev pub followed_by : Meaning → ControlState → Arrived → History → History
followed_by app s arrived h = followed app s arrived.number arrived.from arrived.head.now arrived.scale arrived.payload.now h

-- ---- changes of the tree at a place in a store

module _ {S : Type 0} (store : Store S) (lent : InForce) where
  -- the store answered the tree of this place, and by it registrations are called
  pub record IsHeld (forests : S) (place : Shared) : Type 0 where
    pub answered : store.answered forests place
    pub forest : IsForestInForce lent (store.content forests place)

  -- that of its place after changes is held too, and what the store answered before stays
  pub record StaysHeld (old new : S) (place : Shared) : Type 0 where
    pub held : IsHeld new place
    pub kept : Keeps store.answered store.content old new

  -- this step makes one private list of another
  abbrev pub AltersTree : S → Shared → S → Shared → (ControlState → PacketUnderWay → PacketUnderWay) → Type 0
  AltersTree old forest new forest_after step = ForControl lent (λ s.
      Alters (list_in_force lent (store.content old forest)) (list_in_force lent (store.content new forest_after)) (store.interns old) (store.interns new) (step s))

  -- this step may have failed on its way
  abbrev pub CostsTree : S → Shared → S → (ControlState → PacketUnderWay → PacketUnderWay) → Type 0
  CostsTree old forest new step = ForControl lent (λ s.
      Costs (list_in_force lent (store.content old forest)) (store.interns old) (store.interns new) (step s))

-- ---- callbacks

-- there is room for more callbacks
pub record HasRoom (limit : ℕ) (counts : Counts) : Type 0 where
  pub callbacks : counts.callbacks < limit
  pub weight : counts.weight < limit

-- callbacks may be made over this tree: by it registrations are called, and there is room
pub record MayCall (lent : InForce) (limit : ℕ) (tree : TreeLists) (counts : Counts) : Type 0 where
  pub forest : IsForestInForce lent tree
  pub room : HasRoom limit counts

-- at most so many were made, and they left how far the streams have come
pub record CallsAtMost (most : ℕ) (old new : CallbackState) : Type 0 where
  pub rise : RiseBy most old.ledger.counts new.ledger.counts
  pub as_far : IsAsFar old.socket new.socket

-- what is noted is what this history has come to
abbrev pub IsNotedOf : Bool → Counts → History → Notes → Ledger → Type 0
IsNotedOf keep others h notes ledger = IsNoted keep others h.tally h.entries notes ledger.counts

-- All that a call of a connection finds or leaves: what is kept of it, its tree and the interns so far, what is noted of its
-- callbacks, and what these ask.
pub record FlowState : Type 0 where
  pub flow : Flow
  pub tree : TreeLists
  pub interns : Option ℕ
  pub notes : Notes
  pub ledger : Ledger

-- with a store of trees
abbrev pub state_in : {S : Type 0} → Store S → S → Flow → Notes → Ledger → FlowState
state_in store at flow notes ledger =
    record { flow = flow; tree = store.content at flow.forest; interns = store.interns at; notes = notes; ledger = ledger }

module _ (t : Running) where
  -- callbacks are this step of a packet under way, over this private list
  abbrev pub StepsInForce : List Reg → CallbackState → CallbackState → (Meaning → ControlState → PacketUnderWay → PacketUnderWay) → Type 0
  StepsInForce list old new step = ForControl t.lent (λ s.
      Steps t.keep list old.socket old.notes old.ledger new.socket new.notes new.ledger (step t.app s))

  -- they are those of this raise, over this tree
  abbrev pub CallsAt : TreeLists → RaiseAt → CallbackState → CallbackState → Type 0
  CallsAt tree raise_at old new = StepsInForce (list_in_force t.lent tree) old new (λ app s. at_raise (called_at app s) raise_at)

  -- what holds of a packet of no connection, of which nothing is noted yet, where the tree names the registrations that are on
  abbrev pub ForOrphan : TreeLists → Notes → Ledger → (Meaning → ControlState → Counts → Type 0) → Type 0
  ForOrphan tree notes ledger holds = (s : ControlState) (others : Counts) → IsInForce t.lent s
      → list_in_force t.lent tree ≡ first_active s
      → IsNoted t.keep others t.app.fresh [] notes ledger.counts → holds t.app s others

  -- what holds of a connection, whatever history this state stands for
  abbrev pub ForConnection : FlowState → (Meaning → ControlState → Counts → History → Type 0) → Type 0
  ForConnection state holds = (s : ControlState) (others : Counts) (h : History) → IsInForce t.lent s
      → IsConnection t.keep others (registered t.lent) state.tree state.flow state.notes state.ledger.counts h → holds t.app s others h

  -- a raise, or a phase, is this step of a packet under way, with the changes made that were asked
  pub record MakesInForce (old new : FlowState) (step : Meaning → ControlState → PacketUnderWay → PacketUnderWay) : Type 0 where
    pub makes : ForControl t.lent (λ s.
        Makes t.keep (list_in_force t.lent old.tree) old.flow.socket old.notes old.ledger old.interns
        (list_in_force t.lent new.tree) new.flow.socket new.notes new.ledger new.interns (step t.app s))
    pub asked : new.ledger.changes.items ≡ []

  -- it may have failed on its way
  abbrev pub CostsInForce : FlowState → Option ℕ → (Meaning → ControlState → PacketUnderWay → PacketUnderWay) → Type 0
  CostsInForce old interns_after step = ForControl t.lent (λ s.
      CostsUnder t.keep (list_in_force t.lent old.tree) (state_of old.flow.socket old.notes old.ledger) old.interns interns_after (step t.app s))

  -- A packet made its step: whatever history stood for the connection, the one after it does, with at most one intern for each
  -- alteration; and this is what the packet did.
  pub record StepsTo (arrived : Arrived) (old new : FlowState) (step : Step) : Type 0 where
    pub connection : ForConnection old (λ app s others h.
        IsConnection t.keep others (registered t.lent) new.tree new.flow new.notes new.ledger.counts (followed_by app s arrived h))
    pub interned : ForConnection old (λ app s others h. InternsWithin old.interns new.interns h.altered (followed_by app s arrived h).altered)
    pub over : ForConnection old (λ app s others h. step.over ≡ is_over (followed_by app s arrived h))
    pub verdict_is : ForConnection old (λ app s others h. step.verdict ≡ verdict app s arrived.number arrived.from arrived.head.now arrived.scale h)
    pub drops : ForConnection old (λ app s others h. (followed_by app s arrived h).drops ≡ h.drops ++ drops_of step.verdict arrived.number)

-- ---- what each call of a connection finds and leaves

-- a connection over a store, with what callbacks ask and their counts
pub record Holding (S : Type 0) : Type 0 where
  pub forests : S
  pub flow : Flow
  pub ledger : Ledger

abbrev pub holding : {S : Type 0} → S → Flow → Ledger → Holding S
holding forests flow ledger = record { forests = forests; flow = flow; ledger = ledger }

module _ {S : Type 0} (store : Store S) (lent : InForce) where
  -- its tree is held, and there is room for more callbacks
  pub record IsReady (limit : ℕ) (state : Holding S) : Type 0 where
    pub held : IsHeld store lent state.forests state.flow.forest
    pub room : HasRoom limit state.ledger.counts

  -- the same once a packet has been at its sender, with the changes made that were asked there
  pub record HasSent (state : Holding S) : Type 0 where
    pub ready : IsReady (2 ^ 61) state
    pub quiet : state.ledger.changes.items ≡ []
    pub count : state.flow.count < 2 ^ 30

  -- it went on, with at most so many callbacks and one packet more, and what the store answered before stays
  pub record Went (most : ℕ) (old new : Holding S) : Type 0 where
    pub held : IsHeld store lent new.forests new.flow.forest
    pub kept : Keeps store.answered store.content old.forests new.forests
    pub rise : RiseBy most old.ledger.counts new.ledger.counts
    pub count : new.flow.count ≤ old.flow.count + 1

  -- the same of its callbacks alone, which are of one packet
  pub record MadeCalls (most : ℕ) (old new : Holding S) : Type 0 where
    pub went : Went most old new
    pub count : new.flow.count ≡ old.flow.count
