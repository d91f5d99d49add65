use Rattle.std.proofs.Common.{◌≡◌, ℕ, ◌+◌, ◌-◌, ◌∙◌, leb, true, length, le-leb, subst, ap, sym, arith}
use Rattle.forest_versions.specs.Timeline.{Line, as_of}
use Rattle.forest_versions.proofs.Timelines.{as_of-none, as_of-last}
use Rattle.forest_versions.proofs.timeline.Timeline.at.Goals as goal

pub returns-then-count-eq0 : goal.returns-then-count-eq0
returns-then-count-eq0 g c =
    let line : Line g.row.T.Denot = record { first = c.self.inside.first; steps = c.self.inside.steps.items } in
    let count = c.len-count.ensures in
    let none = c.if-count-eq0.true in
    sym (as_of-none line c.args.version (omega arith)) ∙ ap (λ (l : Line g.row.T.Denot). as_of l c.args.version) c.self.view_is

pub returns-then-last-version : goal.returns-then-last-version
returns-then-last-version g c =
    let line : Line g.row.T.Denot = record { first = c.self.inside.first; steps = c.self.inside.steps.items } in
    let count = c.len-count.ensures in
    let ends : c.len-count.result - 1 + 1 ≡ length c.self.inside.steps.items = omega arith in
    let here = subst (λ (s : ℕ × g.row.T.Denot). leb s.0 c.args.version ≡ true) c.index-last.ensures (le-leb c.index-last.result.now.0 c.args.version c.if-last-version.true) in
    let read = as_of-last line c.args.version (c.len-count.result - 1) c.index-last.result.now ends here in
    ap (λ (s : ℕ × g.row.T.Denot). s.1) c.index-last.ensures ∙ (sym read ∙ ap (λ (l : Line g.row.T.Denot). as_of l c.args.version) c.self.view_is)
