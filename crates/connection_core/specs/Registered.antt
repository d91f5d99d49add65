-- Only for proofs. What holds of each registration.
use Rattle.std.specs.Prelude.{◌≤◌, IsTrue, List}
use Rattle.app_api.specs.declared.registration.Reg.{Reg}
use Rattle.app_api.specs.Reg.{peek_fits}
use Rattle.event_trees.specs.declared.defs.EventDef.{EventDef}
use Rattle.event_trees.specs.Defs.{is_event}

-- a number from 1 to 255, an event that is there, and a peek in its range
pub record IsRegistered (defs : List EventDef) (r : Reg) : Type 0 where
  pub low : 1 ≤ r.number
  pub high : r.number ≤ 255
  pub event : IsTrue (is_event defs r.event)
  pub peek : IsTrue (peek_fits r.peek)
