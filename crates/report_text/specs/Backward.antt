-- Only for proofs. A line that stands at the end of an array.
use Rattle.std.specs.Prelude.{ℕ, List, drop}
use Rattle.report_text.specs.declared.backward.BackwardLine.{BackwardLine}

-- the line
abbrev pub text_in : BackwardLine → List ℕ
text_in l = drop l.start l.bytes

-- how many bytes may be put before it
abbrev pub room_in : BackwardLine → ℕ
room_in l = l.start
