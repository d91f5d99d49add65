use Rattle.std.proofs.Common.{◌≡◌, ◌∙◌, ◌+◌, ◌-◌, ◌++◌, ◌∷◌, [], append_assoc, append-nil, ap, sym, arith}
use Rattle.report_text.specs.ReadWords.{decimal_of, bytes_of, skip, pieces_of}
use Rattle.report_text.proofs.ReadLoops.{pieces_of-none, pieces_of-more, pieces_of-zero, none-left, some-left}
use Rattle.report_text.proofs.read.parts.pieces_of.Goals as goal

pub returns-then-is_empty : goal.returns-then-is_empty
returns-then-is_empty c =
    let rest = c.loop-turn.rest.now in
    let none = none-left rest (sym c.is_empty.ensures ∙ c.if-is_empty.true) in
    sym (c.loop-turn.invariant ∙ ap (λ x. c.loop-turn.items.items ++ x) (pieces_of-none (c.args.most - c.loop-turn._turn) rest none)
    ∙ append-nil c.loop-turn.items.items)

pub loop-turn-preserved : goal.loop-turn-preserved
loop-turn-preserved c =
    let rest = c.loop-turn.rest.now in
    let some = some-left rest (sym c.is_empty.ensures ∙ c.if-is_empty.false) in
    let more = pieces_of-more c.args.most c.loop-turn._turn rest c.loop-turn-test.true some in
    let joined = append_assoc c.loop-turn.items.items ((decimal_of rest, bytes_of (skip 1 rest)) ∷ []) (pieces_of (c.args.most - (c.loop-turn._turn + 1)) (skip 2 rest)) in
    let pushed = c.in_ok-push.ensures.items in
    let bytes = c.in_ok-bytes_of.ensures in
    cc

pub returns : goal.returns
returns c =
    let none : c.args.most - c.loop-turn._turn ≡ 0 = omega arith in
    sym (c.loop-turn.invariant
    ∙ ap (λ n. c.loop-turn.items.items ++ pieces_of n c.loop-turn.rest.now) none
    ∙ ap (λ x. c.loop-turn.items.items ++ x) (pieces_of-zero c.loop-turn.rest.now)
    ∙ append-nil c.loop-turn.items.items)
