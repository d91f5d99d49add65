use Rattle.std.proofs.Common.{◌≡◌, ◌+◌, ◌++◌, codes, take, ◌∙◌, arith, rules}
use Rattle.report_text.specs.ShortWords.{hook_word}
use Rattle.report_text.proofs.ShortLines.{hook_long, two_words, two_before}
use Rattle.report_text.proofs.short.put_words.Goals as goal

pub returns-clause-words : goal.returns-clause-words
returns-clause-words c =
    let one : c.copy_from_slice.new.self ≡ hook_word c.args.hook ++ codes "   " = c.copy_from_slice.ensures.after ∙ c.hook_word.ensures in
    let two : c.copy_from_slice-2.new.self ≡ take 16 c.args.name.now = search rules in
    two_words c.args.bytes.now (hook_word c.args.hook) c.args.name.now _ _ (c.args.len + 1) _ one two (omega arith)
    (hook_long c.args.hook) c.requires.long (omega arith) (omega arith) (omega arith)

pub returns-clause-before : goal.returns-clause-before
returns-clause-before c = two_before c.args.bytes.now c.copy_from_slice.new.self c.copy_from_slice-2.new.self (omega arith) (omega arith)
