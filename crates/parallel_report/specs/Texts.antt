-- Only for proofs. The text of records that is made in pieces.
use Rattle.std.specs.Prelude.{◌≡◌, ◌≤◌, List, length, take, IsTrue}
use Rattle.std.specs.List.{list_all}
use Rattle.app_api.specs.App.{Meaning}
use Rattle.lane_core.specs.declared.under_way.RecordUnderWay.{RecordUnderWay}
use Rattle.lane_core.specs.KeptEnd.{shown_as}
use Rattle.report_text.specs.Ranges.{record_fits}
use Rattle.report_text.specs.Report.{records_text}
use Rattle.parallel_report.specs.declared.text.Made.{Made}

-- the text of the first of these records, of at most 1,048,576 bytes; their numbers and bytes have the ranges of their types
pub record IsMadeOf (app : Meaning) (records : List RecordUnderWay) (made : Made) : Type 0 where
  pub within : made.done ≤ length records
  pub text : made.text.items ≡ records_text (shown_as app (take made.done records))
  pub short : length made.text.items ≤ 1048576
  pub fit : IsTrue (list_all record_fits (shown_as app (take made.done records)))
