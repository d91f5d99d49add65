use Rattle.std.proofs.Common.{append_assoc, rules}
use Rattle.report_text.proofs.backward.BackwardLine.put_octets.Goals as goal

pub returns-clause-text : goal.returns-clause-text
returns-clause-text c =
    rw (c.put_small-4.ensures.text, c.put_word-3.ensures.text, c.put_small-3.ensures.text, c.put_word-2.ensures.text, c.put_small-2.ensures.text, c.put_word.ensures.text, c.put_small.ensures.text, c.from.ensures, c.from-2.ensures, c.from-3.ensures, c.from-4.ensures)
    (search (rules, append_assoc))
