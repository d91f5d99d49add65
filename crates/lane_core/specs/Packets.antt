-- Not of the headline. What a packet and a command do to the records of a lane.
use Rattle.std.specs.Prelude.{◌≡◌, ℕ, ◌+◌, ◌*◌, ◌<◌, ◌≤◌, Bool, false, Option, Some, None, List, [], if◌then◌else◌, slice_set, set, get_or, length, vec_len}
use Rattle.std.specs.FinMap as finite
use Rattle.packet_views.specs.declared.packet.Head.{Head}
use Rattle.packet_views.specs.declared.packet.Class.{Class}
use Rattle.flow_table.specs.Key.{EndpointPair, same_key}
use Rattle.flow_table.specs.Table.{found}
use Rattle.app_api.specs.declared.reaction.Verdict.{Verdict}
use Rattle.app_api.specs.declared.registration.Reg.{Reg}
use Rattle.shared_forest.specs.declared.store.ForestView.{Ghosts}
use Rattle.shared_forest.specs.Store.{Keeps, CountsAtMost}
use Rattle.forest_versions.specs.declared.command.Command.{Command}
use Rattle.forest_versions.specs.State.{ControlState}
use Rattle.forest_versions.specs.Master.{Tells, StandsFor}
use Rattle.connection_core.specs.InForce.{registered_at}
use Rattle.connection_core.specs.declared.flow.Step.{Step}
use Rattle.connection_core.specs.History.{drops_of}
use Rattle.connection_core.specs.Trees.{InternsWithin}
use Rattle.lane_core.specs.declared.connection.Connection.{Connection}
use Rattle.lane_core.specs.declared.records.Records.{Records}
use Rattle.lane_core.specs.declared.under_way.RecordUnderWay.{RecordUnderWay}
use Rattle.lane_core.specs.Sight.{Segment, Sight, key_of_segment}
use Rattle.lane_core.specs.Records.{RecordSoFar, VersionedPacket, ended_by_silence, placed, verdict_among, added, verdict_on}
use Rattle.lane_core.specs.Shown.{alterations, drop_count as drops_in}
use Rattle.lane_core.specs.Places.{place_of}
use Rattle.lane_core.specs.Live.{TakesCommand}
use Rattle.lane_core.specs.Idle.{IsIdle}
use Rattle.lane_core.specs.Steps.{Taking, stage_in, IsStep, FailsStep}
use Rattle.lane_core.specs.Kept.{AreKept, IsOrphan, arrived}

module _ {F : Type 0} {store : Ghosts F} where
  -- these are the records so far
  abbrev pub KeepsSoFar : Bool → Records F store → List RecordSoFar → Type 0
  KeepsSoFar keep r so_far = AreKept keep (registered_at r.master) (store.content r.forests) r.connections r.list.items r.ledger.counts so_far

  -- this holds of whatever control states the master tells, and of the records so far
  abbrev pub ForSoFar : Bool → Records F store → ((ℕ → ControlState) → List RecordSoFar → Type 0) → Type 0
  ForSoFar keep r holds = (control_at : ℕ → ControlState) (so_far : List RecordSoFar) → ((v : ℕ) → Tells r.master v (control_at v))
      → control_at r.master.version ≡ r.master.now → KeepsSoFar keep r so_far → holds control_at so_far

  -- ---- a segment of an open connection

  -- a packet of this number was taken under what was in force before, and counted nowhere yet
  pub record IsTaken (number : ℕ) (old new : Records F store) : Type 0 where
    pub master : new.master ≡ old.master
    pub dropped : new.dropped ≡ old.dropped
    pub next : new.next ≡ number + 1

  -- the open connection of a segment, which wasn't idle for too long, and its record
  pub record Takes (t : Taking) (r : Records F store) (segment : Segment) : Type 0 where
    pub conn : Connection
    pub slot : RecordUnderWay
    pub was : found r.connections (key_of_segment segment) ≡ Some conn
    pub heard : IsIdle r.master conn t.moment false
    pub slot_is : slot ≡ get_or r.list.items conn.place slot

  -- it made a step, and it was closed where it is over
  pub record Follows (t : Taking) (old new : Records F store) (segment : Segment) (step : Step) : Type 0 where
    pub by : Takes t old segment
    pub conn : Connection
    pub slot : RecordUnderWay
    pub step_is : IsStep t old.master (stage_in store old.forests by.conn by.slot old.ledger.counts) (stage_in store new.forests conn slot new.ledger.counts) segment step
    pub left : (other : EndpointPair) → found new.connections other
        ≡ (if same_key (key_of_segment segment) other then (if step.over then None else Some conn) else found old.connections other)
    pub noted : new.list.items ≡ slice_set old.list.items by.conn.place slot
    pub stored : Keeps store.answered store.content old.forests new.forests
    pub taken : IsTaken t.number old new

  -- it failed to make a step
  pub record Costs (t : Taking) (old new : Records F store) (segment : Segment) : Type 0 where
    pub by : Takes t old segment
    pub costs : FailsStep t old.master (stage_in store old.forests by.conn by.slot old.ledger.counts) (store.interns new.forests) segment
    pub taken : IsTaken t.number old new

  -- ---- a packet

  -- a packet made these records of the ones so far
  pub record Makes (t : Taking) (old new : Records F store) (verdict due : Verdict) (so_far after : List RecordSoFar) : Type 0 where
    pub stands : KeepsSoFar t.keep new after
    pub interned : InternsWithin (store.interns old.forests) (store.interns new.forests) (alterations so_far) (alterations after)
    pub verdict_is : verdict ≡ due
    pub dropped : drops_in after ≡ drops_in so_far + length (drops_of verdict t.number)

  abbrev pub packet_of : Taking → Records F store → Sight → VersionedPacket
  packet_of t r sight = arrived r.master.version t.number t.moment sight

  -- a packet was added to the records
  pub record Adds (t : Taking) (old new : Records F store) (sight : Sight) (verdict : Verdict) : Type 0 where
    pub made : ForSoFar t.keep old (λ control_at so_far. Makes t old new verdict (verdict_on t.app control_at (packet_of t old sight) so_far)
        so_far (added t.app control_at (packet_of t old sight) so_far))
    pub taken : IsTaken t.number old new

  -- a packet at which memory was refused: it cost at most one intern for each alteration of a private list that adding it makes
  pub record CostsToAdd (t : Taking) (old new : Records F store) (sight : Sight) : Type 0 where
    pub interned : ForSoFar t.keep old (λ control_at so_far. InternsWithin (store.interns old.forests) (store.interns new.forests)
        (alterations so_far) (alterations (added t.app control_at (packet_of t old sight) so_far)))
    pub taken : IsTaken t.number old new

  -- a packet was placed among records of which each had ended that was idle for too long
  pub record Places (t : Taking) (old new : Records F store) (sight : Sight) (verdict : Verdict) : Type 0 where
    pub made : ForSoFar t.keep old (λ control_at so_far. Makes t old new verdict (verdict_among t.app control_at (packet_of t old sight) so_far)
        so_far (placed t.app control_at (packet_of t old sight) so_far))
    pub taken : IsTaken t.number old new

  pub record CostsToPlace (t : Taking) (old new : Records F store) (sight : Sight) : Type 0 where
    pub interned : ForSoFar t.keep old (λ control_at so_far. InternsWithin (store.interns old.forests) (store.interns new.forests)
        (alterations so_far) (alterations (placed t.app control_at (packet_of t old sight) so_far)))
    pub taken : IsTaken t.number old new

  -- a packet of this class and with this head was placed, which belongs to no connection
  pub record PlacesOrphan (t : Taking) (old new : Records F store) (class : Class) (head : Option Head) (verdict : Verdict) : Type 0 where
    pub made : (sight : Sight) → ForSoFar t.keep old (λ control_at so_far. IsOrphan sight class head so_far
        → Makes t old new verdict (verdict_among t.app control_at (packet_of t old sight) so_far) so_far (placed t.app control_at (packet_of t old sight) so_far))

  -- a packet of this number may come: its number is above all before, and a capture may have it
  pub record MayCome (number : ℕ) (r : Records F store) : Type 0 where
    pub rising : r.next ≤ number
    pub bound : number < 1048576

  -- the packet of this number has come, and there is room for its record and its callbacks
  pub record HasCome (number : ℕ) (r : Records F store) : Type 0 where
    pub next : r.next ≡ number + 1
    pub callbacks : r.ledger.counts.callbacks + 255 * finite.len r.connections + 4335 ≤ 4335 * r.next
    pub weight : r.ledger.counts.weight + 73440 * finite.len r.connections + 1248480 ≤ 1248480 * r.next
    pub few : vec_len r.list < r.next

  -- a packet was added to the records, and it is counted where it was dropped
  pub record AddsCounted (t : Taking) (old new : Records F store) (sight : Sight) (verdict : Verdict) : Type 0 where
    pub made : ForSoFar t.keep old (λ control_at so_far. Makes t old new verdict (verdict_on t.app control_at (packet_of t old sight) so_far)
        so_far (added t.app control_at (packet_of t old sight) so_far))
    pub master : new.master ≡ old.master
    pub next : new.next ≡ t.number + 1
    pub dropped : new.dropped ≡ old.dropped + length (drops_of verdict 0)

  -- ---- ends by idleness

  -- no tree was changed and no record began, and what all callbacks may come to, those of ends to come included, didn't rise
  pub record Leaves (old new : Records F store) : Type 0 where
    pub places : vec_len new.list ≡ vec_len old.list
    pub master : new.master ≡ old.master
    pub forests : new.forests ≡ old.forests
    pub dropped : new.dropped ≡ old.dropped
    pub callbacks : new.ledger.counts.callbacks + 255 * finite.len new.connections ≤ old.ledger.counts.callbacks + 255 * finite.len old.connections
    pub weight : new.ledger.counts.weight + 73440 * finite.len new.connections ≤ old.ledger.counts.weight + 73440 * finite.len old.connections

  -- the open connection of a key ended, where there was one
  pub record Ends (t : Taking) (old new : Records F store) (key : EndpointPair) : Type 0 where
    pub ended : ForSoFar t.keep old (λ control_at so_far. (i : ℕ) (d : RecordSoFar) → place_of key so_far ≡ Some i
        → KeepsSoFar t.keep new (set so_far i (ended_by_silence t.app control_at (get_or so_far i d))))
    pub none : found old.connections key ≡ None → ForSoFar t.keep old (λ control_at so_far. KeepsSoFar t.keep new so_far)

  -- ---- other calls

  -- the same is in force over the same store after the same packets
  pub record StaysUnder (old new : Records F store) : Type 0 where
    pub master : new.master ≡ old.master
    pub forests : new.forests ≡ old.forests
    pub next : new.next ≡ old.next

  -- whatever records these are, the others are the same
  pub record AreAlike (old new : Records F store) : Type 0 where
    pub stands : (keep : Bool) (so_far : List RecordSoFar) → KeepsSoFar keep old so_far → KeepsSoFar keep new so_far
    pub dropped : new.dropped ≡ old.dropped
    pub under : StaysUnder old new

  -- no packet and no command yet, over a store that interned at most the presets' tree
  pub record Begins (forests : F) (presets : List Reg) (r : Records F store) : Type 0 where
    pub commands : StandsFor r.master presets []
    pub stands : (keep : Bool) → KeepsSoFar keep r []
    pub dropped : r.dropped ≡ 0
    pub next : r.next ≡ 0
    pub interned : CountsAtMost (store.interns forests) (store.interns r.forests)

  -- a command was given, and the records are the same
  pub record Gives (old new : Records F store) (c : Command) : Type 0 where
    pub taken : TakesCommand old.master new.master c
    pub stands : (keep : Bool) (so_far : List RecordSoFar) → KeepsSoFar keep old so_far → KeepsSoFar keep new so_far
    pub dropped : new.dropped ≡ old.dropped
    pub next : new.next ≡ old.next
