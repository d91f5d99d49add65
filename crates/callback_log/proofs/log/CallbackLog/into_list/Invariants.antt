use Rattle.std.proofs.Common.{◌≡◌, ◌++◌, drop}
use Rattle.std.specs.Vec.Iter.{into_iter_items}
use Rattle.callback_log.specs.Entries.{entries_of}
use Rattle.callback_log.proofs.log.CallbackLog.into_list.Given as goal

-- the entries so far, and those that are left
abbrev pub invariant-loop-note : goal.invariant-loop-note
invariant-loop-note l = l.items.items ++ entries_of (drop l.note-index l.note-items) (into_iter_items l.peeks) ≡ l.fn.self
