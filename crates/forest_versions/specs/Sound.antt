-- Not of the headline. What is true of whatever is in force after lawful commands.
use Rattle.std.specs.Prelude.{◌≤◌, IsTrue}
use Rattle.std.specs.List.{All}
use Rattle.app_api.specs.App.{are_rules}
use Rattle.app_api.specs.Reg.{peek_fits}
use Rattle.event_trees.specs.Defs.{AreDefs}
use Rattle.event_trees.specs.Private.{IsPrivate}
use Rattle.forest_versions.specs.State.{ControlState}

pub record IsSound (s : ControlState) : Type 0 where
  -- each event could be added after those before it
  pub defs : AreDefs s.defs
  -- numbers from 1 to 255, each once, of events that are there, in the order in which they are called
  pub private : IsPrivate s.defs s.regs
  -- each peek is in its range
  pub peeks : All (λ r. IsTrue (peek_fits r.peek)) s.regs
  -- the receive buffer is in its range
  pub low : 1 ≤ s.rbuf
  pub high : s.rbuf ≤ 1048576
  -- the rules stand by rising number, from 1 on
  pub rules : IsTrue (are_rules s.rules)
