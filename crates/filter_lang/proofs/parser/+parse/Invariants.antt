use Rattle.std.proofs.Common.{◌≡◌, ◌≤◌, ◌+◌, ◌-◌, ◌*◌, List, [], length}
use Rattle.filter_lang.specs.Grammar.{Level, unit_place, behind_unit, behind_conjs, opened, behind_conj}
use Rattle.filter_lang.specs.declared.token.Token.TheVariants.{Both, Either}
use Rattle.filter_lang.specs.Lexer.{later}
use Rattle.filter_lang.specs.Parser.{reads, takes}
use Rattle.filter_lang.specs.Shape.{Shape, shapes, AreWithin}
use Rattle.filter_lang.proofs.Chains.{shape_list}
use Rattle.filter_lang.proofs.parser.+parse.Given as goal

abbrev pub decreases-unit : goal.decreases-unit
decreases-unit l = 3 * (32 - l.depth)

abbrev pub decreases-conjunction : goal.decreases-conjunction
decreases-conjunction l = 3 * (32 - l.depth) + 1

abbrev pub decreases-expr : goal.decreases-expr
decreases-expr l = 3 * (32 - l.depth) + 2

abbrev pub invariant-conjunction-loop-lexer : goal.invariant-conjunction-loop-lexer
invariant-conjunction-loop-lexer l = record {
  same : (cs : List Shape) (os : List Level) → opened os ≡ l.depth → reads l.fn.lexer (unit_place (behind_conjs cs) os) ≡ reads l.lexer
      (behind_unit (record { conjs = cs; units = shape_list l.items.items; bangs = 0 }) os);
  within : AreWithin (shapes l.items.items);
  long : 1 ≤ length l.items.items;
  many : (l.lexer.token ≡ Both → ⊥) → 2 ≤ length l.items.items;
  left : length (later l.lexer) ≤ length (later l.fn.lexer);
}

abbrev pub decreases-conjunction-loop-lexer : goal.decreases-conjunction-loop-lexer
decreases-conjunction-loop-lexer l = length (later l.lexer)

abbrev pub invariant-expr-loop-lexer : goal.invariant-expr-loop-lexer
invariant-expr-loop-lexer l = record {
  same : (os : List Level) → opened os ≡ l.depth → reads l.fn.lexer (unit_place (behind_conjs []) os) ≡ takes l.lexer (behind_conj (shape_list l.items.items) os l.lexer.token);
  within : AreWithin (shapes l.items.items);
  long : 1 ≤ length l.items.items;
  many : (l.lexer.token ≡ Either → ⊥) → 2 ≤ length l.items.items;
  left : length (later l.lexer) ≤ length (later l.fn.lexer);
}

abbrev pub decreases-expr-loop-lexer : goal.decreases-expr-loop-lexer
decreases-expr-loop-lexer l = length (later l.lexer)
