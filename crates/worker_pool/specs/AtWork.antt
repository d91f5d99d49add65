-- Not of the headline. Workers and their inputs, from the start of the threads to their end.
use Rattle.std.specs.Prelude.{◌≡◌, ℕ, ◌≤◌, List, [], length, None, IsTrue}
use Rattle.pcap_source.specs.Captured.{Captured}
use Rattle.app_api.specs.App.{Meaning}
use Rattle.forest_versions.specs.declared.command.Command.{Command}
use Rattle.forest_versions.specs.Lawful.{are_lawful}
use Rattle.forest_versions.specs.State.{start}
use Rattle.control_script.specs.declared.stamped.Stamped.{Stamped}
use Rattle.control_script.specs.Order.{commands_of}
use Rattle.lane_rings.specs.declared.items.Packet.{Packet}
use Rattle.lane_rings.specs.declared.items.Batch.{Batch}
use Rattle.lane_rings.specs.declared.ring.RingTx.{RingTx}
use Rattle.lane_rings.specs.Ring.{sent, AreEnds}
use Rattle.lane_core.specs.declared.recorder.Recorder.{Ghosts}
use Rattle.lane_worker.specs.declared.worker.Worker.{Worker}
use Rattle.worker_pool.specs.declared.team.lane_input.LaneInput.{LaneInput}
use Rattle.lane_worker.specs.Worked.{IsReady}
use Rattle.worker_pool.specs.Inputs.{IsInput}
use Rattle.worker_pool.specs.Team.{IsTeam, HasServed, HaveServed}

module _ {L : Type 0} where
  -- a worker that may begin under this script, and the other end of its packet ring, into which nothing was sent
  pub record MayBegin (g : Ghosts L) (script : List Command) (worker : Worker L) (tx : RingTx Batch) : Type 0 where
    pub lawful : IsTrue (are_lawful (start (g.app worker.lane).presets) script)
    pub ready : g.failed worker.lane ≡ None → IsReady g script worker.lane worker.commands
    pub ends : AreEnds tx worker.packets
    pub unsent : sent tx ≡ []

  -- the input of a worker that began so, to which nothing was sent yet
  abbrev pub IsFresh : Ghosts L → List Command → Worker L → LaneInput L → Type 0
  IsFresh g script begin input = IsInput g script begin [] input

  -- an input at which some worker began, and to which some packets were sent
  pub record IsAtWork (g : Ghosts L) (script : List Command) (input : LaneInput L) : Type 0 where
    pub begin : Worker L
    pub packets : List Packet
    pub input_is : IsInput g script begin packets input

  -- the worker that came back from an input: whichever began there, and whatever was sent to it, that is served
  pub record IsBack (g : Ghosts L) (script : List Command) (input : LaneInput L) (worker : Worker L) : Type 0 where
    pub served : (begin : Worker L) (packets : List Packet) → IsInput g script begin packets input → HasServed g script begin packets worker

  -- a team that may run under this script
  pub record CanRun (g : Ghosts L) (script : List Stamped) (workers : List (Worker L)) (packets : List (RingTx Batch)) : Type 0 where
    pub app : Meaning
    pub team : IsTeam g app workers packets
    pub lawful : IsTrue (are_lawful (start app.presets) (commands_of script))

  -- a team may start: what its workers share and its feed are under the script
  pub record MayStart (g : Ghosts L) (script : List Stamped) (commands : List Command) (dealt_under : List Stamped) (workers : List (Worker L)) (packets : List (RingTx Batch)) : Type 0 where
    pub context : commands ≡ commands_of script
    pub feed : dealt_under ≡ script
    pub team : CanRun g script workers packets

  -- there is room for the inputs of so many workers and for these once they are back, and a flag for each
  pub record HasRoom (count : ℕ) (inputs : List (LaneInput L)) (room : ℕ) (back : List (Worker L)) (places : ℕ) (flags : ℕ) : Type 0 where
    pub no_inputs : inputs ≡ []
    pub room_for_inputs : count ≤ room
    pub none_back : back ≡ []
    pub room_for_workers : count ≤ places
    pub flag_each : flags ≡ count

  -- Workers that began so served the packets of some frames, of which this holds.
  pub record Served (g : Ghosts L) (script : List Stamped) (begins : List (Worker L)) (workers : List (Worker L)) (did : List Captured → Type 0) : Type 0 where
    pub frames : List Captured
    pub few : length frames ≤ 1048576
    pub served : HaveServed g script begins frames workers
    pub done : did frames
