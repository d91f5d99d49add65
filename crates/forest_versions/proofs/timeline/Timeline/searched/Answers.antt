use Rattle.std.proofs.Common.{◌≡◌, ℕ, ◌+◌, ◌-◌, ◌∙◌, leb, true, false, ap, sym, subst, rules, arith}
use Rattle.std.specs.List.Sorted.{IsPartitionPoint, IsNonDecreasingBy}
use Rattle.std.proofs.lemmas.List.Sorted.{IsPartitionPoint-from_clause, IsPartitionedBy-leb}
use Rattle.forest_versions.specs.Timeline.{Line, as_of}
use Rattle.forest_versions.proofs.Timelines.{as_of-first, as_of-later}
use Rattle.forest_versions.proofs.timeline.Timeline.searched.Goals as goal

pub returns-then-later-eq0 : goal.returns-then-later-eq0
returns-then-later-eq0 g c =
    let line : Line g.row.T.Denot = record { first = c.self.inside.first; steps = c.self.inside.steps.items } in
    let rises : IsNonDecreasingBy (λ (s : ℕ × g.row.T.Denot). s.0) c.deref.result.now = subst (IsNonDecreasingBy (λ (s : ℕ × g.row.T.Denot). s.0)) (sym c.deref.ensures.value) c.self.invariant in
    let point = IsPartitionPoint-from_clause (λ (s : ℕ × g.row.T.Denot). leb s.0 c.args.version) c.deref.result.now c.partition_point-later.result
    c.partition_point-later.ensures.partitioned (IsPartitionedBy-leb (λ (s : ℕ × g.row.T.Denot). s.0) c.deref.result.now c.args.version rises) (λ a r q k. search rules) in
    let found : IsPartitionPoint (λ (s : ℕ × g.row.T.Denot). leb s.0 c.args.version ≡ true) (λ s. leb s.0 c.args.version ≡ false) c.self.inside.steps.items 0 =
    subst (IsPartitionPoint (λ (s : ℕ × g.row.T.Denot). leb s.0 c.args.version ≡ true) (λ s. leb s.0 c.args.version ≡ false)
    c.self.inside.steps.items) c.if-later-eq0.true (rw c.deref.ensures.value at point) in
    sym (as_of-first line c.args.version found) ∙ ap (λ (l : Line g.row.T.Denot). as_of l c.args.version) c.self.view_is

pub returns-else-later-eq0 : goal.returns-else-later-eq0
returns-else-later-eq0 g c =
    let line : Line g.row.T.Denot = record { first = c.self.inside.first; steps = c.self.inside.steps.items } in
    let rises : IsNonDecreasingBy (λ (s : ℕ × g.row.T.Denot). s.0) c.deref.result.now = subst (IsNonDecreasingBy (λ (s : ℕ × g.row.T.Denot). s.0)) (sym c.deref.ensures.value) c.self.invariant in
    let point = IsPartitionPoint-from_clause (λ (s : ℕ × g.row.T.Denot). leb s.0 c.args.version) c.deref.result.now c.partition_point-later.result
    c.partition_point-later.ensures.partitioned (IsPartitionedBy-leb (λ (s : ℕ × g.row.T.Denot). s.0) c.deref.result.now c.args.version rises) (λ a r q k. search rules) in
    let more : c.partition_point-later.result ≡ c.partition_point-later.result - 1 + 1 = omega arith in
    let found : IsPartitionPoint (λ (s : ℕ × g.row.T.Denot). leb s.0 c.args.version ≡ true) (λ s. leb s.0 c.args.version ≡ false) c.self.inside.steps.items (c.partition_point-later.result - 1 + 1) =
    subst (IsPartitionPoint (λ (s : ℕ × g.row.T.Denot). leb s.0 c.args.version ≡ true) (λ s. leb s.0 c.args.version ≡ false) c.self.inside.steps.items) more (rw c.deref.ensures.value at point) in
    let read = as_of-later line c.args.version (c.partition_point-later.result - 1) c.index.result.now (omega arith) found in
    ap (λ (s : ℕ × g.row.T.Denot). s.1) c.index.ensures ∙ (sym read ∙ ap (λ (l : Line g.row.T.Denot). as_of l c.args.version) c.self.view_is)
