-- Not of the headline. A lane that is given the commands of a script, one after another.
use Rattle.std.specs.Prelude.{◌≡◌, ◌≢◌, ◌+◌, Some, None, List, [], ◌++◌, length, map, take, drop, slice_get}
use mathlib.Core.List.{IsPrefix}
use Rattle.forest_versions.specs.declared.command.Command.{Command}
use Rattle.forest_versions.specs.State.{control}
use Rattle.lane_core.specs.declared.errors.LaneError.TheVariants.{Heavy}
use Rattle.lane_core.specs.declared.recorder.Recorder.{Ghosts}
use Rattle.lane_core.specs.Run.{LaneEvent, Gave}
use Rattle.lane_core.specs.Lane.{with_event}

module _ {L : Type 0} (g : Ghosts L) (script : List Command) where
  -- what the lane's first commands make is in force
  abbrev pub IsUnder : L → Type 0
  IsUnder lane = g.control lane ≡ control (g.app lane).presets (take (g.given lane) script)

  -- the lane took the script's next commands: those of `done` went well, and at that of `bad`, if there is one, it failed
  pub record TakesCommands (a b : L) : Type 0 where
    pub done : List Command
    pub bad : List Command
    pub next : IsPrefix (done ++ bad) (drop (g.given a) script)
    pub stands : (events : List LaneEvent) → g.stands a events → g.stands b (events ++ map Gave (done ++ bad))
    pub newest : g.last b ≡ g.last a
    pub app : g.app b ≡ g.app a
    pub keeps : g.keeps b ≡ g.keeps a
    pub good : g.failed b ≡ None → bad ≡ []
    pub version : g.failed b ≡ None → g.given b ≡ g.given a + length done
    pub one : g.failed b ≢ None → length bad ≡ 1
    pub light : g.failed b ≢ Some Heavy

  -- it took the next one, or failed at it
  pub record TakesNext (a b : L) : Type 0 where
    pub command : Command
    pub next : slice_get script (g.given a) ≡ Some command
    pub stands : (events : List LaneEvent) → g.stands a events → g.stands b (with_event (Gave command) events)
    pub newest : g.last b ≡ g.last a
    pub app : g.app b ≡ g.app a
    pub keeps : g.keeps b ≡ g.keeps a
    pub version : g.failed b ≡ None → g.given b ≡ g.given a + 1
    pub under : g.failed b ≡ None → IsUnder b
    pub light : g.failed b ≢ Some Heavy
