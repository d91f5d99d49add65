use Rattle.std.proofs.Common.{◌≡◌, ◌++◌, string_bytes, drop, flat_map}
use Rattle.report_text.specs.Words.{piece_text}
use Rattle.report_text.proofs.words.push_pieces.Given as goal

-- the text so far and that of the pieces to come are the whole text
abbrev pub invariant-loop-at : goal.invariant-loop-at
invariant-loop-at l = string_bytes l.line ++ flat_map piece_text (drop l.at-index l.pieces) ≡ string_bytes l.initial.line ++ flat_map piece_text l.pieces
