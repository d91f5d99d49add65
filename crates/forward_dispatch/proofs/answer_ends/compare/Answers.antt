use Rattle.std.proofs.Common.{◌≡◌, ◌<◌, length, subst, ◌∙◌, arith}
use Rattle.forward_dispatch.proofs.Comparing.{IsComparing, one_compared, all_fronts}
use Rattle.forward_dispatch.proofs.answer_ends.compare.Goals as goal

pub loop-k-preserved : goal.loop-k-preserved
loop-k-preserved g c =
    let workers = c.args.workers.now.items in
    let all_answers = c.args.all_answers.items in
    let count_is : c.len-k-end.result ≡ length all_answers = c.len-k-end.ensures ∙ c.args.all_answers.ok.0 in
    let below : c.loop-k.k < length all_answers = (let t = c.loop-k-test.true in omega (arith, count_is, t)) in
    one_compared workers all_answers c.loop-k.k c.loop-k.workers.items c.loop-k.all_answers.items c.loop-k.invariant c.index_mut-in-loop-k.result.now c.index_mut.result.now below c.requires.beside
    c.index_mut-in-loop-k.ensures.value c.index_mut.ensures.value c.compare_one.new.answers c.compare_one.new.lane_answers c.compare_one.ensures.sent c.compare_one.ensures.front

pub returns-clause-fronts : goal.returns-clause-fronts
returns-clause-fronts g c =
    let workers = c.args.workers.now.items in
    let all_answers = c.args.all_answers.items in
    let count_is : c.len-k-end.result ≡ length all_answers = c.len-k-end.ensures ∙ c.args.all_answers.ok.0 in
    let e : c.loop-k.k ≡ length all_answers = (let past = c.loop-k-test.false in let within = c.loop-k.auto.k-end in omega (arith, count_is, past, within)) in
    all_fronts workers all_answers c.requires.beside c.loop-k.workers.items c.loop-k.all_answers.items
    (subst (λ k. IsComparing workers all_answers k c.loop-k.workers.items c.loop-k.all_answers.items) e c.loop-k.invariant)
