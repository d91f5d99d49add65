use Rattle.std.proofs.Common.{◌≡◌, true, take}
use Rattle.std.specs.List.{list_all}
use Rattle.report_text.specs.Tidy.{is_tidy_entry}
use Rattle.report_text.proofs.tidy.are_tidy_entries.Given as goal

abbrev pub invariant-loop-entry : goal.invariant-loop-entry
invariant-loop-entry l = list_all is_tidy_entry (take l.entry-index l.entries) ≡ true
