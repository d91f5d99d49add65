use Rattle.std.proofs.Common.{ap, sym, subst, ◌≡◌, ◌∙◌, ◌++◌, [], ◌∷◌, ℕ, List}
use Rattle.event_trees.specs.declared.defs.Row.{Row}
use Rattle.event_trees.specs.Defs.{IsAddable, found, path}
use Rattle.event_trees.proofs.Rows.{rows-push_at, defs_of-push}
use Rattle.event_trees.proofs.Paths.{found-push}
use Rattle.event_trees.specs.Rows.{defs_of}
use Rattle.event_trees.specs.Private.{IsPrivate}
use Rattle.event_trees.proofs.Places.{places-push}
use Rattle.event_trees.proofs.Later.{stays-push, private-stays}
use Rattle.event_trees.specs.declared.defs.EventDef.{EventDef}
use Rattle.event_trees.proofs.defs.Defs.add.Goals as goal

pub invariant_of-self-2 : goal.invariant_of-self-2
invariant_of-self-2 c =
    let row : Row = record { def = c.args.d; path = c.with-path.result } in
    let addable : IsAddable c.args.self.now c.args.d = record { low = c.requires.low; high = c.requires.high; absent = c.requires.absent; parent = c.requires.parent; depth = c.requires.depth } in (
      rw c.in_ok-push.ensures.items (rows-push_at c.self.inside.rows.items c.args.self.now row c.self.view_is c.self.invariant.0 addable
          (c.with-path.ensures ∙ ap (λ (p : List ℕ). p ++ c.args.d.number ∷ []) c.path_of.ensures.path)),
      rw c.in_ok-push.ensures.items (places-push c.self.inside.rows.items c.args.self.now row c.self.inside.places c.count-place.result c.self.view_is
          c.self.invariant.1 c.count-place.ensures c.requires.high c.requires.absent),
    )

pub returns-clause-map : goal.returns-clause-map
returns-clause-map c =
    let new : defs_of c.push.new.self.items ≡ c.args.self.now ++ c.args.d ∷ [] =
    ap defs_of c.in_ok-push.ensures.items ∙ (defs_of-push c.self.inside.rows.items (record { def = c.args.d; path = c.with-path.result })
    ∙ ap (λ (l : List EventDef). l ++ c.args.d ∷ []) c.self.view_is) in
    λ event. ap (λ (l : List EventDef). found l event) new ∙ found-push c.args.self.now c.args.d event c.requires.absent

pub returns-clause-paths : goal.returns-clause-paths
returns-clause-paths c =
    let new : defs_of c.push.new.self.items ≡ c.args.self.now ++ c.args.d ∷ [] =
    ap defs_of c.in_ok-push.ensures.items ∙ (defs_of-push c.self.inside.rows.items (record { def = c.args.d; path = c.with-path.result })
    ∙ ap (λ (l : List EventDef). l ++ c.args.d ∷ []) c.self.view_is) in
    let addable : IsAddable c.args.self.now c.args.d = record { low = c.requires.low; high = c.requires.high; absent = c.requires.absent; parent = c.requires.parent; depth = c.requires.depth } in
    λ event h. ap (λ (l : List EventDef). path l event) new ∙ (stays-push c.args.self.now c.args.d addable).paths event h

pub returns-clause-private : goal.returns-clause-private
returns-clause-private c =
    let new : defs_of c.push.new.self.items ≡ c.args.self.now ++ c.args.d ∷ [] =
    ap defs_of c.in_ok-push.ensures.items ∙ (defs_of-push c.self.inside.rows.items (record { def = c.args.d; path = c.with-path.result })
    ∙ ap (λ (l : List EventDef). l ++ c.args.d ∷ []) c.self.view_is) in
    let addable : IsAddable c.args.self.now c.args.d = record { low = c.requires.low; high = c.requires.high; absent = c.requires.absent; parent = c.requires.parent; depth = c.requires.depth } in
    λ list p. subst (λ (l : List EventDef). IsPrivate l list) (sym new) (private-stays c.args.self.now (c.args.self.now ++ c.args.d ∷ []) (stays-push c.args.self.now c.args.d addable) list p)
