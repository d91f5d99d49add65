-- Not of the headline. What is kept for a connection and noted of its callbacks, and which histories and packets under way it stands for.
use Rattle.std.specs.Prelude.{◌≡◌, ℕ, ◌+◌, ◌*◌, ◌≤◌, Bool, Option, None, List, [], ◌∷◌, ◌++◌, length, if◌then◌else◌}
use Rattle.tcp_emulation.specs.declared.segment.Side.{Side}
use Rattle.tcp_emulation.specs.declared.segment.Side.TheVariants.{Client, Server}
use Rattle.flow_socket.specs.Emulation.{Emulation}
use Rattle.flow_socket.specs.View.{SocketView, SocketStandsFor, next_at}
use Rattle.app_api.specs.declared.app.Call.{Call}
use Rattle.app_api.specs.declared.app.Tally.{Tally}
use Rattle.app_api.specs.declared.entry.Entry.{Entry}
use Rattle.app_api.specs.declared.entry.Seen.{Seen}
use Rattle.app_api.specs.declared.registration.PeekSpec.{PeekSpec}
use Rattle.app_api.specs.declared.registration.Reg.{Reg}
use Rattle.builtin_events.specs.declared.raise.Raise.{Raise}
use Rattle.builtin_events.specs.Source.{facts_of, raises_in}
use Rattle.shared_forest.specs.Lists.{TreeLists}
use Rattle.connection_core.specs.declared.ledger.Notes.{Notes}
use Rattle.connection_core.specs.declared.ledger.Counts.{Counts}
use Rattle.connection_core.specs.declared.ledger.Ledger.{Ledger}
use Rattle.connection_core.specs.declared.flow.Flow.{Flow}
use Rattle.connection_core.specs.declared.arrival.RaiseAt.{RaiseAt}
use Rattle.connection_core.specs.declared.arrival.Phase.{Phase}
use Rattle.connection_core.specs.PacketUnderWay.{PacketUnderWay, seen_by, after_seen, bytes_seen}
use Rattle.connection_core.specs.History.{History, weight_of}
use Rattle.connection_core.specs.Trees.{active_in, InternsWithin}

-- what is kept of a connection; its private list is what the tree of its registrations names
pub record IsFlow (at : ℕ → Option Reg) (tree : TreeLists) (flow : Flow) (h : History) : Type 0 where
  pub socket : SocketStandsFor flow.socket h.emulation
  pub count : flow.count ≡ h.count
  pub active : h.active ≡ active_in at tree

-- where entries are kept, or not; `others` are the counts of all other records
module _ (keep : Bool) (others : Counts) where
  -- what is noted of a record's callbacks
  pub record IsNoted (kept : Tally) (made : List Entry) (notes : Notes) (counts : Counts) : Type 0 where
    pub tally : notes.tally ≡ kept
    pub entries : notes.entries ≡ (if keep then made else [])
    pub callbacks : counts.callbacks ≡ others.callbacks + length made
    pub weight : counts.weight ≡ others.weight + weight_of made

  -- an open connection
  pub record IsConnection (at : ℕ → Option Reg) (tree : TreeLists) (flow : Flow) (notes : Notes) (counts : Counts) (h : History) : Type 0 where
    pub kept : IsFlow at tree flow h
    pub noted : IsNoted h.tally h.entries notes counts

  -- a packet under way, over this private list
  pub record IsUnder (list : List Reg) (socket : SocketView) (notes : Notes) (ledger : Ledger) (c : PacketUnderWay) : Type 0 where
    pub heard : SocketStandsFor socket c.emulation
    pub active : c.active ≡ list
    pub noted : IsNoted c.tally c.entries notes ledger.counts
    pub asked : ledger.changes.items ≡ c.asked
    pub drop : ledger.drop ≡ c.drop

-- what callbacks find or leave: the streams, what is noted of them, and what they ask
pub record CallbackState : Type 0 where
  pub socket : SocketView
  pub notes : Notes
  pub ledger : Ledger

abbrev pub state_of : SocketView → Notes → Ledger → CallbackState
state_of socket notes ledger = record { socket = socket; notes = notes; ledger = ledger }

-- a packet begins, for which nothing was asked yet
pub record IsBegun (old new : Ledger) : Type 0 where
  pub changes : new.changes.items ≡ []
  pub drop : new.drop ≡ None
  pub counts : new.counts ≡ old.counts

-- a ledger with the same content
pub record HasSame (old new : Ledger) : Type 0 where
  pub changes : new.changes.items ≡ old.changes.items
  pub drop : new.drop ≡ old.drop
  pub counts : new.counts ≡ old.counts

-- what stood for a packet under way stands for the one that this step makes of it
pub record Steps (keep : Bool) (list : List Reg) (socket : SocketView) (notes : Notes) (ledger : Ledger) (socket_after : SocketView)
    (notes_after : Notes) (ledger_after : Ledger) (step : PacketUnderWay → PacketUnderWay) : Type 0 where
  pub stands : (others : Counts) (c : PacketUnderWay) → IsUnder keep others list socket notes ledger c
      → IsUnder keep others list socket_after notes_after ledger_after (step c)

-- a step makes one private list of another, with at most one intern for each alteration
pub record Alters (list list_after : List Reg) (interns interns_after : Option ℕ) (step : PacketUnderWay → PacketUnderWay) : Type 0 where
  pub made : (c : PacketUnderWay) → c.active ≡ list → (step c).active ≡ list_after
  pub interned : (c : PacketUnderWay) → c.active ≡ list → InternsWithin interns interns_after c.altered (step c).altered

-- a step over this private list, which may have failed on its way, cost at most one intern for each alteration that it makes
pub record Costs (list : List Reg) (interns interns_after : Option ℕ) (step : PacketUnderWay → PacketUnderWay) : Type 0 where
  pub interned : (c : PacketUnderWay) → c.active ≡ list → InternsWithin interns interns_after c.altered (step c).altered

-- the same of a step of whatever a ledger stands for
pub record CostsUnder (keep : Bool) (list : List Reg) (state : CallbackState) (interns interns_after : Option ℕ) (step : PacketUnderWay → PacketUnderWay) : Type 0 where
  pub interned : (others : Counts) (c : PacketUnderWay) → IsUnder keep others list state.socket state.notes state.ledger c → InternsWithin interns interns_after c.altered (step c).altered

-- a packet has come to this, with at most one intern for each alteration since the list was altered so often
pub record Reached (keep : Bool) (others : Counts) (list : List Reg) (socket : SocketView) (notes : Notes) (ledger : Ledger)
    (interns interns_after : Option ℕ) (altered : ℕ) (c : PacketUnderWay) : Type 0 where
  pub under : IsUnder keep others list socket notes ledger c
  pub interned : InternsWithin interns interns_after altered c.altered

-- a raise, or a phase, makes one private list of another, and what stood for a packet under way stands for what it makes of it
pub record Makes (keep : Bool) (list : List Reg) (socket : SocketView) (notes : Notes) (ledger : Ledger) (interns : Option ℕ)
    (list_after : List Reg) (socket_after : SocketView) (notes_after : Notes) (ledger_after : Ledger) (interns_after : Option ℕ) (step : PacketUnderWay → PacketUnderWay) : Type 0 where
  pub stands : (others : Counts) (c : PacketUnderWay) → IsUnder keep others list socket notes ledger c
      → Reached keep others list_after socket_after notes_after ledger_after interns interns_after c.altered (step c)

-- a packet is done, and its connection has come to this history
pub record Stepped (keep : Bool) (others : Counts) (at : ℕ → Option Reg) (tree : TreeLists) (flow : Flow) (notes : Notes) (counts : Counts)
    (interns interns_after : Option ℕ) (altered : ℕ) (h : History) : Type 0 where
  pub stands : IsConnection keep others at tree flow notes counts h
  pub interned : InternsWithin interns interns_after altered h.altered

-- callbacks leave how far the streams have come
pub record IsAsFar (old new : SocketView) : Type 0 where
  pub client : next_at Client new ≡ next_at Client old
  pub server : next_at Server new ≡ next_at Server old
  pub rbuf : new.rbuf ≡ old.rbuf

-- counts rose by at most so many callbacks, each of at most 288
pub record RiseBy (n : ℕ) (old new : Counts) : Type 0 where
  pub callbacks : new.callbacks ≤ old.callbacks + n
  pub weight : new.weight ≤ old.weight + 288 * n

abbrev pub raise_of : RaiseAt → Raise
raise_of m = record { hook = m.hook; event = m.event; facts = facts_of m.source }

-- the call of a registration that saw so many bytes
abbrev pub call_with : RaiseAt → Reg → ℕ → Call
call_with m r got = record { reg = r.number; hook = m.hook; event = r.event; facts = facts_of m.source; got = got }

-- a step of the packet with this number, sent by this side, for one of its raises
abbrev pub at_raise : {T : Type 0} → (ℕ → Side → Raise → T) → RaiseAt → T
at_raise step m = step m.number m.from (raise_of m)

-- and for all raises of its phase
abbrev pub in_phase : {T : Type 0} → (ℕ → Side → List Raise → T) → Phase → T
in_phase step p = step p.number p.from (raises_in p.raising)

-- one more is kept, where anything is kept
abbrev pub kept_with : {T : Type 0} → Bool → List T → T → List T
kept_with keep kept x = if keep then kept ++ x ∷ [] else kept

-- ---- one look of a callback at the stream that this side sends

-- it saw what this peek sees
abbrev pub Sees : SocketView → Side → PeekSpec → Seen → Type 0
Sees socket from peek seen = (e : Emulation) → SocketStandsFor socket e → seen ≡ seen_by from peek e

-- it saw as many bytes as this peek sees
abbrev pub SeesSoMany : SocketView → Side → PeekSpec → ℕ → Type 0
SeesSoMany socket from peek got = (e : Emulation) → SocketStandsFor socket e → got ≡ bytes_seen (seen_by from peek e)

-- it moved the marks as this peek moves them, and nothing else
pub record PeeksOn (old : SocketView) (from : Side) (peek : PeekSpec) (new : SocketView) : Type 0 where
  pub marks : (e : Emulation) → SocketStandsFor old e → SocketStandsFor new (after_seen from peek e)
  pub as_far : IsAsFar old new
