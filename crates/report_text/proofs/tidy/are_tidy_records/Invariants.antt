use Rattle.std.proofs.Common.{◌≡◌, true, take}
use Rattle.std.specs.List.{list_all}
use Rattle.report_text.specs.Tidy.{is_tidy_record}
use Rattle.report_text.proofs.tidy.are_tidy_records.Given as goal

abbrev pub invariant-loop-of : goal.invariant-loop-of
invariant-loop-of l = list_all is_tidy_record (take l.of-index l.records) ≡ true
