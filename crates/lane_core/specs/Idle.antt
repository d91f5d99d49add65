-- Only for proofs. What idleness does to an open connection, to its record under way and to the table of open connections.
use Rattle.std.specs.Prelude.{◌≡◌, ℕ, Bool, true, false, ◌&&◌, Option, Some, None, if◌then◌else◌, ⊤}
use Rattle.native_filters.specs.declared.facts.Hook.TheVariants.{Rcv}
use Rattle.native_filters.specs.Facts.{no_facts}
use Rattle.flow_table.specs.Key.{EndpointPair, same_key}
use Rattle.flow_table.specs.Table.{Flows, found}
use Rattle.app_api.specs.App.{Meaning}
use Rattle.app_api.specs.Events.{TIMER}
use Rattle.builtin_events.specs.declared.raise.Raise.{Raise}
use Rattle.builtin_events.specs.Raises.{timer_raise}
use Rattle.report_text.specs.declared.record.RecordKind.{RecordKind}
use Rattle.report_text.specs.declared.record.RecordKind.TheVariants.{Conn, Orphan}
use Rattle.forest_versions.specs.State.{ControlState}
use Rattle.forest_versions.specs.Master.{Versions, Tells}
use Rattle.connection_core.specs.History.{History}
use Rattle.connection_core.specs.Silence.{silenced}
use Rattle.connection_core.specs.Standing.{IsNoted}
use Rattle.lane_core.specs.declared.connection.Connection.{Connection}
use Rattle.lane_core.specs.declared.under_way.RecordUnderWay.{RecordUnderWay}
use Rattle.lane_core.specs.Sight.{Moment}
use Rattle.lane_core.specs.Records.{is_past}
use Rattle.lane_core.specs.Steps.{Taking, Page, Stage, ForHistory}

-- what a record raises at its end by idleness, by its kind
abbrev pub raise_in : RecordKind → ℕ → Raise
raise_in (Conn client server) count = timer_raise client server count
raise_in (Orphan class) count = record { hook = Rcv; event = TIMER; facts = no_facts }

-- whether it was idle for longer than its limit, whatever the master tells of its version
abbrev pub IsIdle : Versions → Connection → Moment → Bool → Type 0
IsIdle m conn now idle = (control : ControlState) → Tells m conn.version control → is_past control.idle conn.moment now ≡ idle

-- nothing that is open for a key was idle for too long
abbrev pub IsHeard : Versions → Moment → Option Connection → Type 0
IsHeard m now None = ⊤
IsHeard m now (Some conn) = IsIdle m conn now false

-- nothing that is open for a key goes on: there is none, or it was idle for too long
abbrev pub IsGone : Versions → Moment → Option Connection → Type 0
IsGone m now None = ⊤
IsGone m now (Some conn) = IsIdle m conn now true

-- where this is true, the table has this for a key, and all else is as it was
abbrev pub IsPutWhere : Bool → Flows Connection → Flows Connection → EndpointPair → Option Connection → Type 0
IsPutWhere is old new key entry = (other : EndpointPair) → found new other ≡ (if is && same_key key other then entry else found old other)

-- a history after its end by idleness
abbrev pub idle_history : Meaning → ControlState → Connection → RecordUnderWay → History → History
idle_history app control conn slot h = silenced app control conn.last (raise_in slot.kind conn.flow.count) h

-- a connection ended by idleness, with its callbacks in its record under way
pub record IsEnded (t : Taking) (m : Versions) (old : Stage) (new : Page) : Type 0 where
  pub noted : new.slot ≡ record old.slot { notes = new.slot.notes }
  pub stands : ForHistory t.keep m old (λ control others h.
      IsNoted t.keep others (idle_history t.app control old.conn old.slot h).tally (idle_history t.app control old.conn old.slot h).entries new.slot.notes new.counts)
