use Rattle.std.proofs.Common.{◌≡◌, ◌∙◌, ◌+◌, drop, sym, subst, ap, arith, length-drop, Some}
use Rattle.std.specs.Prelude.{◌==◌}
use Rattle.std.specs.List.{position}
use Rattle.report_text.specs.Reports.{NoReportAt}
use Rattle.report_text.specs.ReadLines.{taken}
use Rattle.report_text.proofs.ReadFault.{Reached, rest-all, line-taken, newline-at, reached-more, exit-line, exit-part, exit-end, exit-whole, one-report}
use Rattle.report_text.proofs.read.read_report.Goals as goal

pub returns-in-None-clause-none : goal.returns-in-None-clause-none
returns-in-None-clause-none c offset same =
    let text = c.args.text.now in
    let at = c.loop-end.at in
    let all = rest-all text at in
    let cut = line-taken text at c.in-Some.end in
    let found : position (λ b. b == 10) (drop at text) ≡ Some c.in-Some.end = cc in
    let none = ap (taken c.loop-end.taker) (sym cut) ∙ sym c.in_ok-next.ensures ∙ c.in-None.is in
    let there : at ≡ offset = cc in
    subst (NoReportAt text) there (exit-line text at c.loop-end.taker c.in-Some.end c.loop-end.invariant.reached found none)

pub loop-end-preserved : goal.loop-end-preserved
loop-end-preserved c =
    let text = c.args.text.now in
    let at = c.loop-end.at in
    let end = c.in-Some.end in
    let all = rest-all text at in
    let cut = line-taken text at end in
    let found : position (λ b. b == 10) (drop at text) ≡ Some end = cc in
    let next = ap (taken c.loop-end.taker) (sym cut) ∙ sym c.in_ok-next.ensures ∙ c.in-Some-2.is in
    let here = newline-at (drop at text) end found in
    let behind : at + (end + 1) ≡ at + end + 1 = omega arith in
    record {
      reached = subst (λ n. Reached text n c.in-Some-2.next) behind (reached-more text at c.loop-end.taker end c.in-Some-2.next c.loop-end.invariant.reached found next);
      within = omega (arith, here.0, here.1, length-drop at text);
    }

pub returns-then-at-text-clause-none : goal.returns-then-at-text-clause-none
returns-then-at-text-clause-none c offset same =
    let text = c.args.text.now in
    let at = c.loop-end.at in
    let none = sym (ap (position (λ b. b == 10)) (rest-all text at)) ∙ sym c.newline_in.ensures.place ∙ c.in_default.is in
    let there : at ≡ offset = cc in
    subst (NoReportAt text) there (exit-part text at c.loop-end.taker c.loop-end.invariant.reached none c.if-at-text.true)

pub returns-in-Some-3-clause-report : goal.returns-in-Some-3-clause-report
returns-in-Some-3-clause-report c =
    let end = sym c.in_ok-whole.ensures ∙ c.in-Some-3.is in
    exit-whole c.args.text.now c.loop-end.at c.loop-end.taker c.in-Some-3.whole.0 c.in-Some-3.whole.1 c.loop-end.invariant.reached c.if-at-text.false end

pub returns-in-Some-3-clause-alone : goal.returns-in-Some-3-clause-alone
returns-in-Some-3-clause-alone c rs t report =
    let end = sym c.in_ok-whole.ensures ∙ c.in-Some-3.is in
    let whole = exit-whole c.args.text.now c.loop-end.at c.loop-end.taker c.in-Some-3.whole.0 c.in-Some-3.whole.1 c.loop-end.invariant.reached c.if-at-text.false end in
    one-report c.args.text.now c.in-Some-3.whole.0 rs c.in-Some-3.whole.1 t whole report

pub returns-clause-none : goal.returns-clause-none
returns-clause-none c offset same =
    let text = c.args.text.now in
    let at = c.loop-end.at in
    let none = sym (ap (position (λ b. b == 10)) (rest-all text at)) ∙ sym c.newline_in.ensures.place ∙ c.in_default.is in
    let open_end = sym c.in_ok-whole.ensures ∙ c.in-None-2.is in
    let there : at ≡ offset = cc in
    subst (NoReportAt text) there (exit-end text at c.loop-end.taker c.loop-end.invariant.reached none open_end)
