use Rattle.std.proofs.Common.{◌≡◌, ◌∙◌, true, List, sym, ap, subst}
use Rattle.shared_forest.specs.Listing.{Shown, listing}
use Rattle.event_trees.specs.declared.defs.EventDef.{EventDef}
use Rattle.event_trees.specs.Private.{edited}
use Rattle.event_trees.specs.Edit.{IsForestOf}
use Rattle.forest_versions.specs.State.{ControlState, active}
use Rattle.forest_versions.proofs.Forests.{forest-off, forest-on, undone, absent-active}
use Rattle.forest_versions.proofs.trees.register.Goals as goal

pub returns-then-not-r-clause-held : goal.returns-then-not-r-clause-held
returns-then-not-r-clause-held g c = record {
  answered = c.requires.held.answered;
  forest = forest-off c.args.control.now c.register.new.self c.args.r.now (listing (g.F.ForestView.content c.args.f.now c.args.forest.now))
      c.in_ok-register.ensures.ok c.sound.ensures.private c.if-not-r.true c.requires.held.forest;
}

pub edit-requires-clause-forest : goal.edit-requires-clause-forest
edit-requires-clause-forest g c =
    let s : ControlState = c.args.control.now in
    let defs : c.defs.result.now ≡ s.defs = c.defs.ensures ∙ ap (λ (t : ControlState). t.defs) c.in_ok-register.ensures.ok in (
      active s,
      subst (λ (d : List EventDef). IsForestOf d (active s) (listing (g.F.ForestView.content c.args.f.now c.args.forest.now))) (sym defs)
          c.requires.held.forest,
      absent-active s c.args.r.now c.requires.fits.absent,
    )

pub returns-in-Ok-clause-held : goal.returns-in-Ok-clause-held
returns-in-Ok-clause-held g c =
    let s : ControlState = c.args.control.now in
    let shown : List Shown = listing (g.F.ForestView.content c.edit.new.f c.in-Ok.edited) in
    let defs : c.defs.result.now ≡ s.defs = c.defs.ensures ∙ ap (λ (t : ControlState). t.defs) c.in_ok-register.ensures.ok in
    let old : IsForestOf c.defs.result.now (active s) (listing (g.F.ForestView.content c.args.f.now c.args.forest.now)) = subst
    (λ (d : List EventDef). IsForestOf d (active s) (listing (g.F.ForestView.content c.args.f.now c.args.forest.now))) (sym defs) c.requires.held.forest in
    let new : IsForestOf c.defs.result.now (edited c.defs.result.now (active s) c.args.r.now true) shown = c.in-Ok.ensures.listing (active s) old
    (absent-active s c.args.r.now c.requires.fits.absent) in
    record {
      answered = c.in-Ok.ensures.answered;
      forest = forest-on s c.register.new.self c.args.r.now shown c.in_ok-register.ensures.ok c.sound.ensures.private c.if-not-r.false
          (subst (λ (d : List EventDef). IsForestOf d (edited d (active s) c.args.r.now true) shown) defs new);
    }

pub returns-in-Err-clause-made : goal.returns-in-Err-clause-made
returns-in-Err-clause-made g c = record {
  ok = tt;
  err = undone c.args.control.now c.register.new.self c.withdraw.new.self c.args.r.now c.in_ok-register.ensures.ok c.withdraw.ensures c.requires.fits.absent;
}

pub returns-in-Err-clause-held : goal.returns-in-Err-clause-held
returns-in-Err-clause-held g c =
    let back : c.withdraw.new.self ≡ c.args.control.now = undone c.args.control.now c.register.new.self c.withdraw.new.self c.args.r.now
    c.in_ok-register.ensures.ok c.withdraw.ensures c.requires.fits.absent in
    record {
      answered = subst (λ f. g.F.ForestView.answered f c.args.forest.now) (sym c.in-Err.ensures.stored.err) c.requires.held.answered;
      forest = subst (λ (t : ControlState). IsForestOf t.defs (active t) (listing (g.F.ForestView.content c.edit.new.f c.args.forest.now))) (sym back)
          (subst (λ f. IsForestOf c.args.control.now.defs (active c.args.control.now) (listing (g.F.ForestView.content f c.args.forest.now)))
          (sym c.in-Err.ensures.stored.err) c.requires.held.forest);
    }
