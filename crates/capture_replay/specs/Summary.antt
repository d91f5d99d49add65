-- What is told of a run over a capture that was made for it.
use Rattle.std.specs.Prelude.{ℕ, ◌+◌, ◌*◌, List, ◌++◌, codes}
use Rattle.std.specs.Fmt.{decimal}
use Rattle.report_text.specs.declared.record.Totals.{Totals}
use Rattle.report_text.specs.Lines.{totals_line}

-- the line of what was made: of each connection ten packets in 1,064 bytes, behind a header of 24
abbrev pub made_line : ℕ → List ℕ
made_line n = codes "made " ++ (decimal n ++ (codes " packets " ++ (decimal (10 * n) ++ (codes " bytes " ++ (decimal (24 + 1064 * n) ++ codes "\n")))))

-- and the last line of the report
unfoldable pub summary_text : ℕ → Totals → List ℕ
summary_text n totals = made_line n ++ totals_line totals
