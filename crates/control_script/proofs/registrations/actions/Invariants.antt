use Rattle.std.proofs.Common.{◌≡◌}
use Rattle.forest_versions.specs.declared.command.Stamp.{Stamp}
use Rattle.control_script.specs.Grammar.{peeked_place, acting_place}
use Rattle.control_script.specs.Reader.{reads, left}
use Rattle.control_script.proofs.registrations.actions.Given as goal

abbrev pub invariant-actions : goal.invariant-actions
invariant-actions l = (st : Stamp) → reads l.fn.words (peeked_place st l.fn.own.reg) ≡ reads l.words (acting_place st l.next.reg)

abbrev pub decreases-actions : goal.decreases-actions
decreases-actions l = left l.words
