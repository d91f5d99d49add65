use Rattle.std.proofs.Common.{◌≡◌, ◌++◌, ◌-◌}
use Rattle.report_text.specs.ReadWords.{pieces_of}
use Rattle.report_text.proofs.read.parts.pieces_of.Given as goal

abbrev pub invariant-loop-turn : goal.invariant-loop-turn
invariant-loop-turn l = pieces_of l.most l.fn.text ≡ l.items.items ++ pieces_of (l.most - l._turn) l.rest
