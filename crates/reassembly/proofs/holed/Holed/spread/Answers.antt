use Rattle.std.proofs.Common.{◌≡◌, ◌∙◌, ap, ap₂, arith, List, [], ◌∷◌, length}
use Rattle.reassembly.specs.declared.runs.Run.{Run}
use Rattle.reassembly.specs.declared.window.Window.{Window}
use Rattle.reassembly.specs.Waiting.{runs_of}
use Rattle.reassembly.proofs.Holes.{spread_holed}
use Rattle.reassembly.proofs.holed.Holed.spread.Goals as goal

pub returns-clause-same : goal.returns-clause-same
returns-clause-same c =
    let h = c.args.self.now in
    let made : c.deref_mut.result.now ≡ c.new.result = c.deref_mut.ensures.value ∙ c.in_ok-window.ensures.ok in
    let begun = c.in_ok-begin-2.ensures in
    let end : c.len.result ≡ length h.bytes.items = omega arith in
    spread_holed h _
    (ap (λ (w : Window). w.next) c.deref_mut-3.ensures.value ∙ ap (λ (w : Window). w.next) c.deref_mut-2.ensures.value ∙ c.from.ensures)
    (ap (λ (w : Window). runs_of w.runs) c.deref_mut-3.ensures.value ∙ c.in_ok-begin.ensures.ok
    ∙ ap₂ {C = List Run} (λ start end. record { start = start; end = end } ∷ []) c.from-2.ensures end)
    (begun.base ∙ ap (λ (w : Window). w.bytes.base) c.deref_mut-3.ensures.value
    ∙ ap (λ (w : Window). w.bytes.base) c.deref_mut-2.ensures.value ∙ ap (λ (w : Window). w.bytes.base) made ∙ c.new.ensures.empty.0)
    begun.keyed begun.first begun.others
