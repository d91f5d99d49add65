-- Only for proofs. A line that stands in an array.
use Rattle.std.specs.Prelude.{ℕ, List, take, drop}
use Rattle.report_text.specs.declared.short.ShortLine.{ShortLine}

-- the line
abbrev pub line_in : ShortLine → List ℕ
line_in s = drop s.start (take s.end s.bytes)

-- the packet's place with which it begins
abbrev pub index_in : ShortLine → ℕ
index_in s = s.index
