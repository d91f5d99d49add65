use Rattle.std.proofs.Common.{◌≡◌, ◌≤◌, List, length}
use Rattle.filter_lang.specs.Grammar.{Side, Level, atom_place, behind_atom, alone}
use Rattle.filter_lang.specs.Lexer.{later}
use Rattle.filter_lang.specs.Parser.{reads}
use Rattle.filter_lang.specs.Shape.{SumIsWithin}
use Rattle.filter_lang.proofs.parser.sum.Given as goal

abbrev pub invariant-loop-lexer : goal.invariant-loop-lexer
invariant-loop-lexer l = record {
  same : (side : Side) (level : Level) (os : List Level) → reads l.fn.lexer (atom_place side alone level os) ≡ reads l.lexer (behind_atom side (record { first = l.first; rest = l.rest }) level os);
  within : SumIsWithin (record { first = l.first; rest = l.rest });
  left : length (later l.lexer) ≤ length (later l.fn.lexer);
}

abbrev pub decreases-loop-lexer : goal.decreases-loop-lexer
decreases-loop-lexer l = length (later l.lexer)
