use Rattle.std.proofs.Common.{length, ap, ◌∙◌, sym, subst, arith}
use Rattle.std.proofs.lemmas.List.{length_push}
use Rattle.filter_lang.specs.Grammar.{behind_conj, behind_unit}
use Rattle.filter_lang.specs.Parser.{reads, takes}
use Rattle.filter_lang.specs.Shape.{shapes, AllOf, AnyOf, IsWithin, AreWithin}
use Rattle.filter_lang.proofs.Chains.{shape_list, shape_list-push, within-push, two-shapes, chain_of-many, and_more, and_end, or_more, or_end, comparison_read}
use Rattle.filter_lang.proofs.Rows.{shape-And, shape-Or}
use Rattle.filter_lang.proofs.parser.+parse.Goals as goal

pub unit-returns-in_default : goal.unit-returns-in_default
unit-returns-in_default t c =
    let d = c.in_default in
    comparison_read c.args.depth c.args.lexer.now c.comparison.new.lexer c.comparison.result d.not-Bang d.not-Open d.not-TrueWord d.not-FalseWord d.not-NativeWord c.comparison.ensures

pub conjunction-loop-lexer-preserved : goal.conjunction-loop-lexer-preserved
conjunction-loop-lexer-preserved t c =
    let l = c.loop-lexer in
    let ts = l.items.items in
    let x = c.in_ok-next.next in
    let items = c.in_ok-push-2.ensures.items in
    let longer = ap length items ∙ length_push ts x in
    let here = ap length c.advance.ensures in
    let behind = c.in_ok-next.ensures.left in
    record {
      same = λ cs os e.
          l.invariant.same cs os e
          ∙ and_more l.lexer c.advance.new.self c.unit-in-Both-token.new.lexer c.args.depth (shape_list ts) x c.in-Both-token.is c.advance.ensures c.in_ok-next.ensures.ok cs os e
          ∙ ap (λ us. reads c.unit-in-Both-token.new.lexer (behind_unit (record { conjs = cs; units = us; bangs = 0 }) os)) (sym (ap shape_list items ∙ shape_list-push ts x));
      within = subst (λ us. AreWithin (shapes us)) (sym items) (within-push ts x l.invariant.within c.in_ok-next.ensures.ok.within);
      long = omega arith;
      many = λ _. omega (arith, l.invariant.long);
      left = omega (arith, l.invariant.left);
    }

pub conjunction-returns : goal.conjunction-returns
conjunction-returns t c =
    let l = c.loop-lexer in
    let ts = l.items.items in
    let whole = shape-And (record { items = l.items }) in
    let many = l.invariant.many c.in_default-token.not-Both in
    record {
      ok = record { same = λ cs os e. l.invariant.same cs os e ∙ and_end l.lexer (shape_list ts) _ c.in_default-token.not-Both (chain_of-many AllOf ts many ∙ sym whole) cs os; within = subst IsWithin (sym whole) (two-shapes ts many, l.invariant.within) };
      err = tt;
      left = l.invariant.left;
    }

pub expr-loop-lexer-preserved : goal.expr-loop-lexer-preserved
expr-loop-lexer-preserved t c =
    let l = c.loop-lexer in
    let ts = l.items.items in
    let x = c.in_ok-next.next in
    let items = c.in_ok-push-2.ensures.items in
    let longer = ap length items ∙ length_push ts x in
    let here = ap length c.advance.ensures in
    let behind = c.in_ok-next.ensures.left in
    let last = c.conjunction-in-Either-token.new.lexer in
    record {
      same = λ os e.
          l.invariant.same os e
          ∙ or_more l.lexer c.advance.new.self last c.args.depth (shape_list ts) x c.in-Either-token.is c.advance.ensures c.in_ok-next.ensures.ok os e
          ∙ ap (λ us. takes last (behind_conj us os last.token)) (sym (ap shape_list items ∙ shape_list-push ts x));
      within = subst (λ us. AreWithin (shapes us)) (sym items) (within-push ts x l.invariant.within c.in_ok-next.ensures.ok.within);
      long = omega arith;
      many = λ _. omega (arith, l.invariant.long);
      left = omega (arith, l.invariant.left);
    }

pub expr-returns : goal.expr-returns
expr-returns t c =
    let l = c.loop-lexer in
    let ts = l.items.items in
    let whole = shape-Or (record { items = l.items }) in
    let many = l.invariant.many c.in_default-token.not-Either in
    record {
      ok = record { same = λ os e. l.invariant.same os e ∙ or_end l.lexer (shape_list ts) _ c.in_default-token.not-Either (chain_of-many AnyOf ts many ∙ sym whole) os; within = subst IsWithin (sym whole) (two-shapes ts many, l.invariant.within) };
      err = tt;
      left = l.invariant.left;
    }
