use Rattle.std.proofs.Common.{◌≡◌, ◌+◌, [], ◌∷◌, ◌++◌, length, length-take-le, take, drop, ap, ◌∙◌, sym, subst, arith, rules, codes, OnOk}
use Rattle.std.specs.Prelude.{string_bytes}
use Rattle.std.proofs.lemmas.List.{take_more, drop_more}
use Rattle.filter_lang.specs.declared.term.Term.TheViews.{the_lemmas}
use Rattle.filter_lang.specs.Printed.{printed, wrap, is_chain, is_or, joined_text, separator_text, and_texts, or_texts}
use Rattle.filter_lang.specs.Shape.{shape, shapes, AreWithin}
use Rattle.filter_lang.proofs.Printing.{all_more, any_more}
use Rattle.filter_lang.proofs.Rows.{shape_of_and, shape_of_or, within_of_and, within_of_or}
use Rattle.filter_lang.proofs.printer.+write.Goals as goal

pub write_term-write_all-requires : goal.write_term-write_all-requires
write_term-write_all-requires t c =
    let within = subst (λ ts. AreWithin (shapes ts)) (sym c.deref-in-And.ensures.value) (within_of_and _ c.in-And.members c.in-And.is c.requires) in
    search (rules, the_lemmas)

pub write_term-write_any-requires : goal.write_term-write_any-requires
write_term-write_any-requires t c =
    let within = subst (λ ts. AreWithin (shapes ts)) (sym c.deref-in-Or.ensures.value) (within_of_or _ c.in-Or.members c.in-Or.is c.requires) in
    search (rules, the_lemmas)

pub write_term-returns-in-And : goal.write_term-returns-in-And
write_term-returns-in-And t c =
    let same = ap (λ ts. joined_text (codes " && ") (and_texts (shapes ts))) c.deref-in-And.ensures.value ∙ sym (ap printed (shape_of_and _ c.in-And.members c.in-And.is)) in
    subst (λ text. OnOk c.write_all.result (string_bytes c.write_all.new.out ≡ string_bytes c.args.out.now ++ text)) same c.write_all.ensures

pub write_term-returns-in-Or : goal.write_term-returns-in-Or
write_term-returns-in-Or t c =
    let same = ap (λ ts. joined_text (codes " || ") (or_texts (shapes ts))) c.deref-in-Or.ensures.value ∙ sym (ap printed (shape_of_or _ c.in-Or.members c.in-Or.is)) in
    subst (λ text. OnOk c.write_any.result (string_bytes c.write_any.new.out ≡ string_bytes c.args.out.now ++ text)) same c.write_any.ensures

pub write_all-loop-i-preserved : goal.write_all-loop-i-preserved
write_all-loop-i-preserved t c =
    let l = c.loop-i in
    let ts = c.args.terms.now in
    let x = c.index-terms-i.result in
    let old = string_bytes c.args.out.now in
    let front = take l.i ts in
    let here : take (l.i + 1) ts ≡ front ++ x ∷ [] = take_more ts l.i x c.loop-i-test.true ∙ ap (λ y. front ++ y ∷ []) (sym c.index-terms-i.is) in
    let rest : drop l.i ts ≡ x ∷ drop (l.i + 1) ts = drop_more ts l.i x c.loop-i-test.true ∙ ap (λ y. y ∷ drop (l.i + 1) ts) (sym c.index-terms-i.is) in
    let count : l.i ≡ length front = sym (length-take-le l.i ts (omega arith)) in
    record {
      text =
          c.in_ok-write_wrapped.ensures ∙ ap (λ b. string_bytes c.separate.new.out ++ wrap b (printed (shape x))) c.is_chain.ensures
          ∙ ap (λ b. b ++ wrap (is_chain (shape x)) (printed (shape x))) (c.in_ok-separate.ensures ∙ ap (λ b. b ++ separator_text l.i (codes " && ")) l.invariant.text
          ∙ ap (λ n. (old ++ joined_text (codes " && ") (and_texts (shapes front))) ++ separator_text n (codes " && ")) count)
          ∙ all_more old (codes " && ") front x ∙ ap (λ us. old ++ joined_text (codes " && ") (and_texts (shapes us))) (sym here);
      within = (subst (λ us. AreWithin (shapes us)) rest l.invariant.within).1;
    }

pub write_any-loop-i-preserved : goal.write_any-loop-i-preserved
write_any-loop-i-preserved t c =
    let l = c.loop-i in
    let ts = c.args.terms.now in
    let x = c.index-terms-i.result in
    let old = string_bytes c.args.out.now in
    let front = take l.i ts in
    let here : take (l.i + 1) ts ≡ front ++ x ∷ [] = take_more ts l.i x c.loop-i-test.true ∙ ap (λ y. front ++ y ∷ []) (sym c.index-terms-i.is) in
    let rest : drop l.i ts ≡ x ∷ drop (l.i + 1) ts = drop_more ts l.i x c.loop-i-test.true ∙ ap (λ y. y ∷ drop (l.i + 1) ts) (sym c.index-terms-i.is) in
    let count : l.i ≡ length front = sym (length-take-le l.i ts (omega arith)) in
    record {
      text =
          c.in_ok-write_wrapped.ensures ∙ ap (λ b. string_bytes c.separate.new.out ++ wrap b (printed (shape x))) c.is_or.ensures
          ∙ ap (λ b. b ++ wrap (is_or (shape x)) (printed (shape x))) (c.in_ok-separate.ensures ∙ ap (λ b. b ++ separator_text l.i (codes " || ")) l.invariant.text
          ∙ ap (λ n. (old ++ joined_text (codes " || ") (or_texts (shapes front))) ++ separator_text n (codes " || ")) count)
          ∙ any_more old (codes " || ") front x ∙ ap (λ us. old ++ joined_text (codes " || ") (or_texts (shapes us))) (sym here);
      within = (subst (λ us. AreWithin (shapes us)) rest l.invariant.within).1;
    }
