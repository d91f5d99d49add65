use Rattle.std.proofs.Common.{rules, arith, ◌≡◌, ◌+◌, ◌-◌, slice_index, ◌∙◌, sym, ap}
use Rattle.std.proofs.lemmas.Grind.{common_steps}
use Rattle.ip6_views.specs.Chain.{Only, chain}
use Rattle.ip6_views.proofs.Walk.{chain_at_tcp, chain_at_other, chain_at_ninth, chain_blocked, chain_passed}
use Rattle.ip6_views.proofs.chain.tcp_start.Goals as goal

pub returns-clause-found : goal.returns-clause-found
returns-clause-found c =
    let walk = c.loop-kind in
    sym walk.invariant.2 ∙ chain_at_tcp walk.left c.args.frame.now c.args.end walk.kind walk.at (omega arith)

pub returns-then-not-is_extension-clause-only : goal.returns-then-not-is_extension-clause-only
returns-then-not-is_extension-clause-only c =
    let walk = c.loop-kind in
    record {
      only = sym walk.invariant.2 ∙ chain_at_other walk.left c.args.frame.now c.args.end walk.kind walk.at (omega arith) (search rules);
      not_tcp = λ is. cc;
    }

pub returns-then-left-eq0-clause-only : goal.returns-then-left-eq0-clause-only
returns-then-left-eq0-clause-only c =
    let walk = c.loop-kind in
    record {
      only = sym walk.invariant.2 ∙ chain_at_ninth walk.left c.args.frame.now c.args.end walk.kind walk.at (omega arith) (search rules) (omega arith);
      not_tcp = λ is. cc;
    }

pub returns-in_err-len-clause-only : goal.returns-in_err-len-clause-only
returns-in_err-len-clause-only c =
    let walk = c.loop-kind in
    let found : chain 8 c.args.frame.now c.args.end c.args.first c.args.start ≡ Only c.in_err-len.field-0.0 =
    sym walk.invariant.2
    ∙ chain_blocked walk.left c.args.frame.now c.args.end walk.kind walk.at _ (omega arith) (search rules) (omega arith) c.in_err-len.ensures.blocked in
    search (rules, common_steps, found)

pub loop-kind-preserved : goal.loop-kind-preserved
loop-kind-preserved c =
    let walk = c.loop-kind in
    let passed = c.in_ok-len.ensures in (
      omega arith,
      omega arith,
      ap (λ len. chain (walk.left - 1) c.args.frame.now c.args.end (slice_index c.args.frame.now walk.at) (walk.at + len)) passed.len
          ∙ chain_passed walk.left c.args.frame.now c.args.end walk.kind walk.at (omega arith) (search rules) (omega arith) passed.passed
          ∙ walk.invariant.2,
    )
