use Rattle.std.proofs.Common.{◌≡◌, ◌-◌, true, length, take, drop, sym, subst}
use Rattle.std.specs.List.{list_all}
use Rattle.control_script.specs.Lines.{is_text}
use Rattle.control_script.proofs.Texts.{from_offset, dropped, cut-word}
use Rattle.control_script.proofs.words.Words.at.Goals as goal

pub invariant_of-result : goal.invariant_of-result
invariant_of-result c =
    let text = c.args.text.now in
    let n = c.blanks.result in
    let m = c.word_len-len.result in
    let begun = take (length text - n) (drop n text) in
    record {
      text = subst (λ bs. list_all is_text bs ≡ true) (sym (from_offset begun m))
          (dropped is_text m begun (subst (λ bs. list_all is_text bs ≡ true) (sym (from_offset text n)) (dropped is_text n text c.requires.text)));
    }

pub returns-clause-ahead : goal.returns-clause-ahead
returns-clause-ahead c =
    let text = c.args.text.now in
    let n = c.blanks.result in
    let m = c.word_len-len.result in
    let begun = take (length text - n) (drop n text) in
    cut-word text begun (take (length begun - m) (drop m begun)) n m (from_offset text n) (from_offset begun m) c.blanks.ensures.value c.word_len-len.ensures.value
