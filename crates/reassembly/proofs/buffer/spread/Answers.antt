use Rattle.std.proofs.Common.{◌≡◌, ◌∙◌, ap, arith}
use Rattle.reassembly.specs.declared.window.Window.{Window}
use Rattle.reassembly.specs.Waiting.{runs_of}
use Rattle.reassembly.proofs.InOrder.{spread_same}
use Rattle.reassembly.proofs.buffer.spread.Goals as goal

pub returns-clause-same : goal.returns-clause-same
returns-clause-same c =
    let before : c.deref_mut.result.now ≡ c.new.result = c.deref_mut.ensures.value ∙ c.in_ok-window.ensures.ok in
    let next : c.deref_mut-2.result.now.next ≡ c.len.result = ap (λ (w : Window). w.next) c.deref_mut-2.ensures.value in
    let begun = c.in_ok-begin.ensures in
    spread_same c.args.bytes.now _ (omega arith)
    (ap (λ (w : Window). runs_of w.runs) c.deref_mut-2.ensures.value ∙ ap (λ (w : Window). runs_of w.runs) before ∙ c.new.ensures.empty.2)
    (begun.base ∙ ap (λ (w : Window). w.bytes.base) c.deref_mut-2.ensures.value ∙ ap (λ (w : Window). w.bytes.base) before ∙ c.new.ensures.empty.0)
    begun.keyed begun.first begun.others
