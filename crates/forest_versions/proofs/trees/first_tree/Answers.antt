use Rattle.std.proofs.Common.{◌≡◌, ◌∙◌, List, ap, sym, subst}
use Rattle.std.specs.List.{filter}
use Rattle.app_api.specs.declared.registration.Reg.{Reg}
use Rattle.event_trees.specs.declared.defs.EventDef.{EventDef}
use Rattle.event_trees.specs.Private.{IsPrivate}
use Rattle.event_trees.specs.Canon.{canon}
use Rattle.shared_forest.specs.Listing.{listing}
use Rattle.forest_versions.specs.Changes.{HoldsTree}
use Rattle.forest_versions.specs.State.{active}
use Rattle.forest_versions.proofs.Results.{ok-both}
use Rattle.forest_versions.proofs.Regs.{private-filter}
use Rattle.forest_versions.proofs.trees.first_tree.Goals as goal

pub build-requires : goal.build-requires
build-requires g c =
    let list : c.in_ok-list.list ≡ filter (λ (r : Reg). r.on) c.args.control.now.regs = c.in_ok-list.ensures ∙ ap (filter (λ (r : Reg). r.on)) c.regs.ensures in
    let private : IsPrivate c.args.control.now.defs (filter (λ (r : Reg). r.on) c.args.control.now.regs) = private-filter c.args.control.now.defs
    (λ (r : Reg). r.on) c.args.control.now.regs c.sound.ensures.private in
    subst (λ (d : List EventDef). IsPrivate d c.in_ok-list.list) (sym c.defs.ensures) (subst (IsPrivate c.args.control.now.defs) (sym list) private)

pub returns-clause-held : goal.returns-clause-held
returns-clause-held g c =
    let list : c.in_ok-list.list ≡ active c.args.control.now = c.in_ok-list.ensures ∙ ap (filter (λ (r : Reg). r.on)) c.regs.ensures in
    let made : canon c.defs.result.now c.in_ok-list.list ≡ canon c.args.control.now.defs (active c.args.control.now) = ap
    (λ (d : List EventDef). canon d c.in_ok-list.list) c.defs.ensures ∙ ap (canon c.args.control.now.defs) list in
    ok-both (λ s. g.F.ForestView.answered c.build.new.f s) (λ s. listing (g.F.ForestView.content c.build.new.f s) ≡ canon c.defs.result.now c.in_ok-list.list)
    (λ s. HoldsTree g.F.ForestView c.build.new.f c.args.control.now s) c.build.result
    (λ s answered h. record {
      answered = answered;
      forest = record { private = private-filter c.args.control.now.defs (λ (r : Reg). r.on) c.args.control.now.regs c.sound.ensures.private; listed = h ∙ made };
    }) c.build.ensures.answered c.build.ensures.listing
