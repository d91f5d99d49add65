-- Only for proofs. What a run has come to after the frames of a capture, under a script.
use Rattle.std.specs.Prelude.{◌≡◌, ◌≢◌, ℕ, ◌<◌, ◌≤◌, Bool, true, false, not, ◌&&◌, List, [], ◌++◌, length, take, nat_lt, if◌then◌else◌, Option, None, Some, Result, Ok, Err, IfErr, IsErr, IsErrOf, IsOk, IsTrue}
use Rattle.std.specs.Io.KnownBytes.{Appends}
use Rattle.mos_bytes.specs.declared.source.Source.{Ghosts as Source}
use Rattle.mos_bytes.specs.declared.sink.Sink.{Ghosts as Sink}
use Rattle.mos_bytes.specs.declared.failed.Failed.{Failed}
use Rattle.mos_bytes.specs.Outside.{Reads, Writes}
use Rattle.app_api.specs.App.{Meaning}
use Rattle.pcap_source.specs.Captured.{Captured}
use Rattle.pcap_source.specs.Capture.{Frames, capture_of}
use Rattle.pcap_source.specs.Reading.{CaptureState, frames_at}
use Rattle.control_script.specs.declared.stamped.Stamped.{Stamped}
use Rattle.control_script.specs.Order.{commands_of}
use Rattle.control_script.specs.Versions.{ceil}
use Rattle.lane_core.specs.Sight.{Arrival, Moment, arrival_of, arrivals}
use Rattle.lane_core.specs.declared.errors.LaneError.{LaneError}
use Rattle.lane_core.specs.Records.{VersionedPacket, RecordSoFar, records, verdict_on}
use Rattle.lane_core.specs.Run.{LaneEvent, versioned_from, commands_of as given_in}
use Rattle.lane_core.specs.Shown.{weight}
use Rattle.lane_core.specs.Lane.{IsAfter}
use Rattle.lane_core.specs.declared.recorder.Recorder.{Ghosts as Recorder}
use Rattle.lane_worker.specs.Given.{IsUnder}
use Rattle.capture_replay.specs.declared.output.Output.{Output}
use Rattle.capture_replay.specs.declared.output.Output.TheVariants.{Report}
use Rattle.capture_replay.specs.declared.progress.Progress.{Progress}
use Rattle.capture_replay.specs.declared.refusal.ReplayError.{ReplayError}
use Rattle.capture_replay.specs.declared.refusal.ReplayError.TheVariants.{Heavy, ReadFault, WriteFault, NoMemory}
use Rattle.capture_replay.specs.Records.{control_at, packets_of}
use Rattle.run_outcome.specs.Forwarded.{bytes_under as left_by}
use Rattle.run_outcome.specs.Greatest.{greatest}
use Rattle.capture_replay.specs.Outcome.{is_forward, streamed}
use Rattle.capture_replay.specs.Runs.{AreUnrefused, IsIdle, MayRun, ReadsFile, RunsAlone}
use Rattle.capture_replay.specs.Typed.{ReportIsTyped}

-- the records while the capture goes on, where `given` gives packets their versions
abbrev pub records_so_far : Meaning → List Stamped → (List Captured → List VersionedPacket) → List Captured → List RecordSoFar
records_so_far app script given frames = records app (control_at app script) (given frames)

-- the packet of a number, under the commands up to its ceiling
abbrev pub packet_at : List Stamped → ℕ → Arrival → VersionedPacket
packet_at script number arrival = record { version = ceil script number; arrival = arrival }

-- the same of a captured record
abbrev pub packet_of : List Stamped → ℕ → Captured → VersionedPacket
packet_of script number frame = packet_at script number (arrival_of number frame)

-- a captured record has this time, this head and these captured bytes
pub record IsSeen (frame : Captured) (moment : Moment) (head bytes : List ℕ) : Type 0 where
  pub moment_is : moment ≡ record { seconds = frame.seconds; fraction = frame.fraction }
  pub head_is : head ≡ frame.head
  pub bytes_is : bytes ≡ frame.bytes

-- a lane stands for these packets, and for so many commands of the script
pub record Follows (script : List Stamped) (given : ℕ) (stands : List LaneEvent → Type 0) (ps : List VersionedPacket) : Type 0 where
  pub events : List LaneEvent
  pub stands_for : stands events
  pub commands : given_in events ≡ take given (commands_of script)
  pub packets : versioned_from 0 events ≡ ps

-- the records of these packets weigh more than a lane may keep
abbrev pub IsOver : Meaning → List Stamped → List VersionedPacket → Type 0
IsOver app script ps = 134217728 < weight (records app (control_at app script) ps)

-- whether the records of these frames weigh too much while the capture goes on
abbrev pub is_heavy_so_far : Meaning → List Stamped → Output → List Captured → Bool
is_heavy_so_far app script output frames =
    not (is_forward output) && nat_lt 134217728 (weight (records_so_far app script (packets_of script) frames))

-- a lane follows these frames, which aren't too heavy so far; or it failed, and they are
pub record IsRead (app : Meaning) (script : List Stamped) (output : Output) (given : ℕ) (failed : Option LaneError) (stands : List LaneEvent → Type 0) (frames : List Captured) : Type 0 where
  pub follows : failed ≡ None → Follows script given stands (packets_of script frames)
  pub light : failed ≡ None → is_heavy_so_far app script output frames ≡ false
  pub heavy : failed ≢ None → is_heavy_so_far app script output frames ≡ true

-- a lane has the same application, and keeps entries or not as before
pub record SameLane {L : Type 0} (g : Recorder L) (old new : L) : Type 0 where
  pub app : g.app new ≡ g.app old
  pub keeps : g.keeps new ≡ g.keeps old

-- the same of a lane
module _ {L : Type 0} (g : Recorder L) (script : List Stamped) where
  abbrev pub LaneFollows : L → List VersionedPacket → Type 0
  LaneFollows lane ps = Follows script (g.given lane) (g.stands lane) ps

  abbrev pub LaneHasRead : Output → L → List Captured → Type 0
  LaneHasRead output lane frames = IsRead (g.app lane) script output (g.given lane) (g.failed lane) (g.stands lane) frames

  -- it may take the packet of a number
  pub record LaneIsReady (lane : L) (number : ℕ) : Type 0 where
    pub under : IsUnder g (commands_of script) lane
    pub before : g.given lane ≤ ceil script number
    pub after : IsAfter (g.last lane) number

  -- and run under the script
  pub record MayTake (lane : L) (number : ℕ) : Type 0 where
    pub lawful : MayRun (g.app lane) script
    pub ready : LaneIsReady lane number

-- what one frame more adds to what is written while the capture is read
abbrev pub gained : Meaning → List Stamped → Output → List Captured → Captured → List ℕ
gained app script output frames frame =
    if is_forward output
    then left_by (verdict_on app (control_at app script) (packet_of script (length frames) frame) (records_so_far app script (packets_of script) frames)) frame
    else []

-- these frames, and then others
abbrev pub behind : List Captured → Frames → Frames
behind frames f = record { frames = frames ++ f.frames; ending = f.ending }

-- of these bytes some are left, and the frames so far and what is left are the capture
pub record Replaying (bytes : List ℕ) (left : Option (List ℕ)) (capture : CaptureState) (frames : List Captured) : Type 0 where
  pub rest : List ℕ
  pub told : left ≡ Some rest
  pub holds : capture_of bytes ≡ Ok (behind frames (frames_at capture rest))
  pub header : capture.header ≡ take 24 bytes

-- no packet has been read
abbrev pub at_start : Progress
at_start = record { packets = 0; greatest = None }

-- a run may read on: the capture is live, and the lane may take its next packet
pub record MayReadOn {L : Type 0} (g : Recorder L) (script : List Stamped) (output : Output) (lane : L) (capture : CaptureState) (so_far : Progress) : Type 0 where
  pub may : MayTake g script lane so_far.packets
  pub keeps : g.keeps lane ≡ not (is_forward output)
  pub live : IsTrue capture.is_live
  pub count : capture.count ≡ so_far.packets
  pub few : so_far.packets ≤ 1048576
  pub header : length capture.header ≡ 24

-- where packets aren't handed on, nothing is done to a sink
pub record HandsOn {O T : Type 0} (sink : Sink O) (output : Output) (old new : O) (result : Result T Failed) : Type 0 where
  pub silent : is_forward output ≡ false → IsOk result × (new ≡ old)
  pub to : Writes sink old new (IsErr result)

-- ---- a run that reads a capture

-- where it stands: its lane, its capture, how far it has come in it, what it writes to, and what bytes are left of the capture
pub record RunState (L O : Type 0) : Type 0 where
  pub lane : L
  pub capture : CaptureState
  pub so_far : Progress
  pub out : O
  pub left : Option (List ℕ)

abbrev pub run_at : {L O : Type 0} → L → CaptureState → Progress → O → Option (List ℕ) → RunState L O
run_at lane capture so_far out left = record { lane = lane; capture = capture; so_far = so_far; out = out; left = left }

module _ {L O : Type 0} (lanes : Recorder L) (sinks : Sink O) (script : List Stamped) (output : Output) where
  -- it has read these frames, so many, with this greatest moment
  pub record HasCome (a : RunState L O) (frames : List Captured) : Type 0 where
    pub counted : length frames ≡ a.so_far.packets
    pub latest : a.so_far.greatest ≡ greatest (arrivals 0 frames)
    pub read : LaneHasRead lanes script output a.lane frames

  -- it has written what they leave
  abbrev pub HasWritten : RunState L O → Option (List ℕ) → List Captured → Type 0
  HasWritten a before frames = Appends before (sinks.taken a.out) (streamed (lanes.app a.lane) script (packets_of script) output a.capture.header frames)

  -- where it had read these frames, it has read more
  pub record ReadsOn (a b : RunState L O) (frames all : List Captured) : Type 0 where
    pub come : HasCome b all
    pub written : (before : Option (List ℕ)) → HasWritten a before frames → HasWritten b before all
    pub replays : (bytes : List ℕ) → Replaying bytes a.left a.capture frames → Replaying bytes b.left b.capture all

  -- it went on, and may read on
  pub record GoesOn (a b : RunState L O) : Type 0 where
    pub may : MayReadOn lanes script output b.lane b.capture b.so_far
    pub rises : a.so_far.packets ≤ b.so_far.packets
    pub app : lanes.app b.lane ≡ lanes.app a.lane
    pub silent : is_forward output ≡ false → b.out ≡ a.out
    pub to : Writes sinks a.out b.out ⊥
    pub reads : (frames : List Captured) → HasCome a frames → (all : List Captured) × ReadsOn a b frames all

  -- it stopped: whatever frames it had read, it comes to this over the bytes of the capture
  abbrev pub StopsAt : RunState L O → O → ReplayError → Type 0
  StopsAt a new e = (before : Option (List ℕ)) (frames : List Captured) (bytes : List ℕ) → HasCome a frames → HasWritten a before frames → Replaying bytes a.left a.capture frames
      → RunsAlone (lanes.app a.lane) script output bytes before (sinks.taken new) (Err e)

  module _ {S : Type 0} (sources : Source S) where
    -- it went on, and its source told no fault
    pub record RunsOn (a b : RunState L O) (s t : S) : Type 0 where
      pub goes : GoesOn a b
      pub from : Reads sources s t ⊥

    -- it stopped for this reason, before its capture ended
    pub record BreaksOff (a : RunState L O) (new : O) (s t : S) (e : ReplayError) : Type 0 where
      pub stops : StopsAt a new e
      pub light : e ≢ Heavy
      pub silent : is_forward output ≡ false → (new ≡ a.out) × (e ≢ WriteFault)
      pub cut : e ≡ ReadFault → (frames : List Captured) (bytes : List ℕ) → HasCome a frames → Replaying bytes a.left a.capture frames → sources.left t ≡ Some [] → AreUnrefused bytes
      pub from : Reads sources s t (e ≡ ReadFault)
      pub to : Writes sinks a.out new (e ≡ WriteFault)

    -- it had read no frame, and ran over what was left
    pub record Replays (a : RunState L O) (new : O) (s t : S) (result : Result (List ℕ) ReplayError) : Type 0 where
      pub comes_to : (bytes : List ℕ) (before : Option (List ℕ)) → HasWritten a before [] → Replaying bytes a.left a.capture []
          → RunsAlone (lanes.app a.lane) script output bytes before (sinks.taken new) result
      pub typed : output ≡ Report → IsOk result → (bytes : List ℕ) → Replaying bytes a.left a.capture [] → ReportIsTyped (lanes.app a.lane) script (packets_of script) bytes
      pub read : IsOk result → (bytes : List ℕ) → Replaying bytes a.left a.capture [] → sources.left t ≡ Some []
      pub silent : is_forward output ≡ false → IfErr result (λ e. e ≢ WriteFault → e ≢ NoMemory → new ≡ a.out)
      pub reads : ReadsFile sources output (λ bytes. Replaying bytes a.left a.capture []) t (IsIdle a.out new result) result
      pub from : Reads sources s t (IsErrOf result ReadFault)
      pub to : Writes sinks a.out new (IsErrOf result WriteFault)
