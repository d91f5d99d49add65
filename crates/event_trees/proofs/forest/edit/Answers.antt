use Rattle.std.proofs.Common.{◌≡◌, ◌∙◌, List, ap, sym, subst}
use Rattle.app_api.specs.declared.registration.Reg.{Reg}
use Rattle.shared_forest.specs.Lists.{TreeLists}
use Rattle.shared_forest.specs.Listing.{Shown, listing}
use Rattle.event_trees.specs.Private.{IsPrivate, edited}
use Rattle.event_trees.specs.Canon.{Placed, canon_of, canon, placed}
use Rattle.event_trees.specs.Build.{seen}
use Rattle.event_trees.specs.ReadOff.{read_off, AreShort}
use Rattle.std.specs.List.Sorted.{IsStrictlySortedBy}
use Rattle.event_trees.specs.Edit.{IsForestOf, placed_cmp, switched}
use Rattle.std.specs.Prelude.{◌≤◌, ◌==◌, eqb, true, length, map}
use Rattle.std.specs.List.{IsDistinct, list_any}
use Rattle.event_trees.proofs.EditLaw.{edit-short, edit-canon, edit-list, edit-order, edit-few, old-order, old-few, old-distinct, old-there, if_ok}
use Rattle.event_trees.proofs.Switches.{private-edited}
use Rattle.event_trees.proofs.forest.edit.Goals as goal

abbrev Shown_list : Type 0
Shown_list = List Shown

pub tree_switched-requires-clause-listed : goal.tree_switched-requires-clause-listed
tree_switched-requires-clause-listed g c = record {
  short = subst (λ (t : TreeLists). AreShort (listing t)) (sym c.tree_of.ensures)
      (edit-short c.args.defs.now c.requires.forest.0 (listing (g.F.ForestView.content c.args.f.now c.args.tree.now)) c.place-placed.ensures.defs c.requires.forest.1);
  canon = subst (λ (t : TreeLists). listing t ≡ canon_of (read_off (listing t))) (sym c.tree_of.ensures)
      (edit-canon c.args.defs.now c.requires.forest.0 (listing (g.F.ForestView.content c.args.f.now c.args.tree.now)) c.requires.forest.1);
  order = subst (λ (t : TreeLists). IsStrictlySortedBy placed_cmp (read_off (listing t))) (sym c.tree_of.ensures)
      (old-order c.args.defs.now c.requires.forest.0 (listing (g.F.ForestView.content c.args.f.now c.args.tree.now)) c.requires.forest.1);
  distinct = subst (λ (t : TreeLists). IsDistinct eqb (map (λ r. r.slot.number) (read_off (listing t)))) (sym c.tree_of.ensures)
      (old-distinct c.args.defs.now c.requires.forest.0 (listing (g.F.ForestView.content c.args.f.now c.args.tree.now)) c.requires.forest.1);
  few = subst (λ (t : TreeLists). length (read_off (listing t)) ≤ 255) (sym c.tree_of.ensures)
      (old-few c.args.defs.now c.requires.forest.0 (listing (g.F.ForestView.content c.args.f.now c.args.tree.now)) c.requires.forest.1);
}

pub tree_switched-requires-clause-new_order : goal.tree_switched-requires-clause-new_order
tree_switched-requires-clause-new_order g c =
    let shown : Shown_list = listing (g.F.ForestView.content c.args.f.now c.args.tree.now) in
    let list : List Reg = c.requires.forest.0 in
    let private : IsPrivate c.args.defs.now (edited c.args.defs.now list c.args.reg.now c.args.on) = private-edited c.args.defs.now c.args.reg.now
    c.args.on list c.requires.forest.1.private c.requires.forest.2 c.requires.low c.requires.high c.requires.event in
    subst (λ (t : TreeLists). IsStrictlySortedBy placed_cmp (switched (seen c.place-placed.result) c.args.on (read_off (listing t)))) (sym c.tree_of.ensures)
    (edit-order c.args.defs.now (edited c.args.defs.now list c.args.reg.now c.args.on)
    (switched (seen c.place-placed.result) c.args.on (read_off shown)) private
    (edit-list c.args.defs.now list shown c.args.reg.now c.args.on (seen c.place-placed.result) c.requires.forest.1 c.place-placed.ensures.placed))

pub tree_switched-requires-clause-new_few : goal.tree_switched-requires-clause-new_few
tree_switched-requires-clause-new_few g c =
    let shown : Shown_list = listing (g.F.ForestView.content c.args.f.now c.args.tree.now) in
    let list : List Reg = c.requires.forest.0 in
    let private : IsPrivate c.args.defs.now (edited c.args.defs.now list c.args.reg.now c.args.on) = private-edited c.args.defs.now c.args.reg.now
    c.args.on list c.requires.forest.1.private c.requires.forest.2 c.requires.low c.requires.high c.requires.event in
    subst (λ (t : TreeLists). length (switched (seen c.place-placed.result) c.args.on (read_off (listing t))) ≤ 255) (sym c.tree_of.ensures)
    (edit-few c.args.defs.now (edited c.args.defs.now list c.args.reg.now c.args.on)
    (switched (seen c.place-placed.result) c.args.on (read_off shown)) private
    (edit-list c.args.defs.now list shown c.args.reg.now c.args.on (seen c.place-placed.result) c.requires.forest.1 c.place-placed.ensures.placed))

pub tree_switched-requires-clause-there : goal.tree_switched-requires-clause-there
tree_switched-requires-clause-there g c = λ off.
    subst (λ (t : TreeLists). list_any (λ r. r.slot.number == c.place-placed.result.slot.number) (read_off (listing t)) ≡ true)
    (sym c.tree_of.ensures) (old-there c.args.defs.now c.requires.forest.0 (listing (g.F.ForestView.content c.args.f.now c.args.tree.now))
    c.args.reg.now c.args.on c.place-placed.result.slot.number c.requires.forest.1 c.requires.forest.2 (ap (λ (x : Placed). x.slot.number) c.place-placed.ensures.placed) off)

pub returns-clause-listing : goal.returns-clause-listing
returns-clause-listing g c = λ list forest switch.
    let shown : Shown_list = listing (g.F.ForestView.content c.args.f.now c.args.tree.now) in
    let private : IsPrivate c.args.defs.now (edited c.args.defs.now list c.args.reg.now c.args.on) = private-edited c.args.defs.now c.args.reg.now
    c.args.on list forest.private switch c.requires.low c.requires.high c.requires.event in
    let same : switched (seen c.place-placed.result) c.args.on (read_off shown) ≡ placed c.args.defs.now
    (edited c.args.defs.now list c.args.reg.now c.args.on) = edit-list c.args.defs.now list shown c.args.reg.now c.args.on
    (seen c.place-placed.result) forest c.place-placed.ensures.placed in
    let made : listing c.in_ok-new.new ≡ canon c.args.defs.now (edited c.args.defs.now list c.args.reg.now c.args.on) =
    c.in_ok-new.ensures ∙ (ap (λ (t : TreeLists). canon_of (switched (seen c.place-placed.result) c.args.on (read_off (listing t)))) c.tree_of.ensures ∙ ap canon_of same) in
    if_ok c.intern.result (λ s. g.F.ForestView.content c.intern.new.self s ≡ c.in_ok-new.new)
    (λ s. IsForestOf c.args.defs.now (edited c.args.defs.now list c.args.reg.now c.args.on)
    (listing (g.F.ForestView.content c.intern.new.self s))) c.intern.ensures.content (λ s is. record { private = private; listed = ap listing is ∙ made })
