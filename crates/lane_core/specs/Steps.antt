-- Only for proofs. What a packet does to an open connection and to its record under way, and what an orphan leaves in its own.
use Rattle.std.specs.Prelude.{◌≡◌, ℕ, Bool, Option, List, [], ◌++◌}
use Rattle.app_api.specs.App.{Meaning}
use Rattle.app_api.specs.declared.reaction.Verdict.{Verdict}
use Rattle.builtin_events.specs.declared.raise.Raise.{Raise}
use Rattle.shared_forest.specs.declared.store.ForestView.{Ghosts}
use Rattle.shared_forest.specs.Lists.{TreeLists}
use Rattle.report_text.specs.declared.record.RecordKind.TheVariants.{Conn}
use Rattle.forest_versions.specs.State.{ControlState}
use Rattle.forest_versions.specs.Master.{Versions, Tells}
use Rattle.connection_core.specs.InForce.{registered_at}
use Rattle.connection_core.specs.declared.flow.Step.{Step}
use Rattle.connection_core.specs.declared.ledger.Counts.{Counts}
use Rattle.connection_core.specs.History.{History, fresh, followed, verdict, orphan_history, orphan_verdict, drops_of, is_over}
use Rattle.connection_core.specs.Standing.{IsFlow, IsConnection, IsNoted}
use Rattle.connection_core.specs.Trees.{InternsWithin}
use Rattle.lane_core.specs.declared.connection.Connection.{Connection}
use Rattle.lane_core.specs.declared.terms.PacketTerms.{PacketTerms}
use Rattle.lane_core.specs.declared.under_way.RecordUnderWay.{RecordUnderWay}
use Rattle.lane_core.specs.Sight.{Segment, Moment}
use Rattle.lane_core.specs.End.{new_slot}
use Rattle.lane_core.specs.Records.{side_of}

-- what a packet comes under, with the application as what it answers
pub record Taking : Type 0 where
  pub app : Meaning
  pub keep : Bool
  pub number : ℕ
  pub moment : Moment

abbrev pub taking : {A X : Type 0} {g : _} → (A → Meaning) → PacketTerms A X g → Taking
taking meaning terms = record { app = meaning terms.app.now; keep = terms.keep; number = terms.number; moment = terms.moment }

-- a record under way, with the counts of all callbacks
pub record Page : Type 0 where
  pub slot : RecordUnderWay
  pub counts : Counts

-- how far a connection has come: what is kept of it, its record, the counts of all callbacks, its tree, and the store's interns
pub record Stage : Type 0 where
  pub conn : Connection
  pub slot : RecordUnderWay
  pub counts : Counts
  pub tree : TreeLists
  pub interns : Option ℕ

abbrev pub stage_in : {F : Type 0} → Ghosts F → F → Connection → RecordUnderWay → Counts → Stage
stage_in store forests conn slot counts = record { conn = conn; slot = slot; counts = counts; tree = store.content forests conn.flow.forest; interns = store.interns forests }

-- a history after one more packet of its connection
abbrev pub stepped : Taking → ControlState → Connection → Segment → History → History
stepped t control conn segment h = followed t.app control t.number (side_of conn.client segment) segment.head segment.scale segment.payload h

-- this holds of whatever history a connection stands for, under whatever the master tells of its version
abbrev pub ForHistory : Bool → Versions → Stage → (ControlState → Counts → History → Type 0) → Type 0
ForHistory keep m stage holds = (control : ControlState) → Tells m stage.conn.version control → (others : Counts) (h : History)
    → IsConnection keep others (registered_at m stage.conn.version) stage.tree stage.conn.flow stage.slot.notes stage.counts h → holds control others h

-- a record under way with other notes, and with what this verdict adds to its dropped packets
abbrev pub noted_in : RecordUnderWay → RecordUnderWay → Step → ℕ → RecordUnderWay
noted_in slot after step number = record slot { notes = after.notes; drops = slot.drops ++ drops_of step.verdict number }

-- an open connection and its record under way after one more packet
pub record IsStep (t : Taking) (m : Versions) (old new : Stage) (segment : Segment) (step : Step) : Type 0 where
  pub place : new.conn.place ≡ old.conn.place
  pub client : new.conn.client ≡ old.conn.client
  pub version : new.conn.version ≡ old.conn.version
  pub last : new.conn.last ≡ t.number
  pub heard : new.conn.moment ≡ t.moment
  pub noted : new.slot ≡ noted_in old.slot new.slot step t.number
  pub stands : ForHistory t.keep m old (λ control others h.
      IsConnection t.keep others (registered_at m old.conn.version) new.tree new.conn.flow new.slot.notes new.counts (stepped t control old.conn segment h))
  pub interned : ForHistory t.keep m old (λ control others h. InternsWithin old.interns new.interns h.altered (stepped t control old.conn segment h).altered)
  pub over : ForHistory t.keep m old (λ control others h. step.over ≡ is_over (stepped t control old.conn segment h))
  pub verdict_is : ForHistory t.keep m old (λ control others h.
      step.verdict ≡ verdict t.app control t.number (side_of old.conn.client segment) segment.head segment.scale h)
  pub drops : ForHistory t.keep m old (λ control others h. (stepped t control old.conn segment h).drops ≡ h.drops ++ drops_of step.verdict t.number)

-- a step that failed on its way, at so many interns, cost at most one for each alteration that it makes
abbrev pub FailsStep : Taking → Versions → Stage → Option ℕ → Segment → Type 0
FailsStep t m old interns segment = ForHistory t.keep m old (λ control others h. InternsWithin old.interns interns h.altered (stepped t control old.conn segment h).altered)

-- a connection's history after the segment that opens it
abbrev pub opened_by : Meaning → ControlState → ℕ → Segment → History
opened_by app control number segment =
    followed app control number (side_of segment.sender segment)
    segment.head segment.scale segment.payload (fresh app control)

-- A connection that a segment opened, after this segment: before it, it had this many callbacks and interns beside it, and was new.
pub record Opens (t : Taking) (m : Versions) (counts : Counts) (interns : Option ℕ) (new : Stage) (segment : Segment) (step : Step) : Type 0 where
  pub conn : Connection
  pub slot : RecordUnderWay
  pub tree : TreeLists
  pub slot_is : slot ≡ new_slot t.number (Conn segment.sender segment.receiver) m.version t.app.fresh
  pub client : conn.client ≡ segment.sender
  pub version : conn.version ≡ m.version
  pub fresh_flow : IsFlow (registered_at m conn.version) tree conn.flow (fresh t.app m.now)
  pub step_is : IsStep t m (record { conn = conn; slot = slot; counts = counts; tree = tree; interns = interns }) new segment step

-- a packet of no connection was called for in a record under way of no callback
pub record IsOrphanNoted (t : Taking) (control : ControlState) (old new : Page) (raises : List Raise) (answer : Verdict) : Type 0 where
  pub name : new.slot.name ≡ old.slot.name
  pub kind : new.slot.kind ≡ old.slot.kind
  pub version : new.slot.version ≡ old.slot.version
  pub drops : new.slot.drops ≡ old.slot.drops ++ drops_of answer t.number
  pub noted : (others : Counts) → IsNoted t.keep others t.app.fresh [] old.slot.notes old.counts
      → IsNoted t.keep others (orphan_history t.app control t.number raises).tally (orphan_history t.app control t.number raises).entries new.slot.notes new.counts
  pub passes : (others : Counts) → IsNoted t.keep others t.app.fresh [] old.slot.notes old.counts → answer ≡ orphan_verdict t.app control t.number raises
  pub dropped : (others : Counts) → IsNoted t.keep others t.app.fresh [] old.slot.notes old.counts
      → (orphan_history t.app control t.number raises).drops ≡ drops_of answer t.number
