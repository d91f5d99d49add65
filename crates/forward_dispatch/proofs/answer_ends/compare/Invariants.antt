use Rattle.forward_dispatch.proofs.Comparing.{IsComparing}
use Rattle.forward_dispatch.proofs.answer_ends.compare.Given as goal

-- the rings of the first lanes were compared
abbrev pub invariant-loop-k : goal.invariant-loop-k
invariant-loop-k g l = IsComparing l.fn.workers.items l.fn.all_answers.items l.k l.workers.items l.all_answers.items
