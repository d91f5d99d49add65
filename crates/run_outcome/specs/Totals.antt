-- What is counted over a run.
use Rattle.std.specs.Prelude.{ℕ, List, length}
use Rattle.report_text.specs.declared.record.Totals.{Totals}
use Rattle.lane_core.specs.Records.{RecordSoFar}
use Rattle.lane_core.specs.Shown.{total}

-- what is counted over so many packets
abbrev pub totals_of : List RecordSoFar → ℕ → ℕ → Totals
totals_of records packets rest = record {
  packets = packets;
  records = length records;
  callbacks = total (λ r. length r.history.entries) records;
  drops = total (λ r. length r.history.drops) records;
  tail = rest;
}
