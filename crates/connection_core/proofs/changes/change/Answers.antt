use Rattle.std.proofs.Common.{◌≡◌, Some, map, sym, ap, subst, ◌∙◌, arith}
use Rattle.std.specs.Option.{option_copied}
use Rattle.app_api.specs.Reg.{reg_of}
use Rattle.shared_forest.specs.Listing.{listing}
use Rattle.shared_forest.specs.Lists.{TreeLists}
use Rattle.event_trees.specs.Canon.{slot_of}
use Rattle.event_trees.specs.Edit.{IsForestOf}
use Rattle.event_trees.specs.Later.{IsEarlier}
use Rattle.connection_core.specs.InForce.{registered, defs_at}
use Rattle.connection_core.specs.Trees.{active_in, IsTreeOf, IsForestIn}
use Rattle.connection_core.proofs.Earlier.{events_known, known_in, private_earlier, event_found}
use Rattle.connection_core.proofs.Changing.{alters_none, alters_so, alters_edit, switchable_by, so_by, edited_names, edited_forest}
use Rattle.connection_core.proofs.changes.change.Goals as goal

pub returns-in_default-clause-made : goal.returns-in_default-clause-made
returns-in_default-clause-made g c = λ s force.
    alters_none s c.args.change (active_in (registered c.args.in_force.now) (g.F.ForestView.content c.args.forests.now c.args.forest.now)) (g.F.ForestView.interns c.args.forests.now)
    (sym (force.regs c.args.change.reg (omega arith)) ∙ sym c.reg_at.ensures.reg ∙ ap option_copied c.in_default.is)

pub returns-then-is_so-clause-made : goal.returns-then-is_so-clause-made
returns-then-is_so-clause-made g c = λ s force.
    let at = registered c.args.in_force.now in
    let tree = c.tree_of-tree.result.now in
    let list = active_in at (g.F.ForestView.content c.args.forests.now c.args.forest.now) in
    let forest : IsForestOf (defs_at c.args.in_force.now) list (listing tree) =
    subst (λ (t : TreeLists). IsForestOf (defs_at c.args.in_force.now) list (listing t)) (sym c.tree_of-tree.ensures)
    (record { private = c.requires.held.forest.private; listed = c.requires.held.forest.listed }) in
    let r = c.in-Some.reg.now in
    alters_so s c.args.change r list (g.F.ForestView.interns c.args.forests.now)
    (sym (force.regs c.args.change.reg (omega arith)) ∙ sym c.reg_at.ensures.reg ∙ ap option_copied c.in-Some.is)
    (so_by at c.args.change.reg r list c.args.change.on c.is_so.result tree.slots c.in-Some.ensures.number
    (c.slots_in_order.ensures.slots (defs_at c.args.in_force.now) list forest) c.is_so.ensures ∙ c.if-is_so.true)

pub edit-requires-clause-forest : goal.edit-requires-clause-forest
edit-requires-clause-forest g c =
    let at = registered c.args.in_force.now in
    let tree = c.tree_of-tree.result.now in
    let content = g.F.ForestView.content c.args.forests.now c.args.forest.now in
    let list = active_in at content in
    let there : IsTreeOf c.defs-defs.result.now at list content = subst (λ d. IsTreeOf d at list content) (sym c.defs-defs.ensures) c.requires.held.forest in
    let forest : IsForestOf c.defs-defs.result.now list (listing content) = record { private = there.private; listed = there.listed } in
    let shown : IsForestOf c.defs-defs.result.now list (listing tree) = subst (λ (t : TreeLists). IsForestOf c.defs-defs.result.now list (listing t)) (sym c.tree_of-tree.ensures) forest in
    let r = c.in-Some.reg.now in
    let here : at r.number ≡ Some r = ap at c.in-Some.ensures.number ∙ sym c.reg_at.ensures.reg ∙ ap option_copied c.in-Some.is in
    let so = so_by at c.args.change.reg r list c.args.change.on c.is_so.result tree.slots c.in-Some.ensures.number
    (c.slots_in_order.ensures.slots c.defs-defs.result.now list shown) c.is_so.ensures ∙ c.if-is_so.false in
    (list, forest, switchable_by at r list c.args.change.on here there.known so)

pub returns-clause-stays : goal.returns-clause-stays
returns-clause-stays g c =
    let at = registered c.args.in_force.now in
    let tree = c.tree_of-tree.result.now in
    let content = g.F.ForestView.content c.args.forests.now c.args.forest.now in
    let list = active_in at content in
    let there : IsTreeOf c.defs-defs.result.now at list content = subst (λ d. IsTreeOf d at list content) (sym c.defs-defs.ensures) c.requires.held.forest in
    let forest : IsForestOf c.defs-defs.result.now list (listing content) = record { private = there.private; listed = there.listed } in
    let shown : IsForestOf c.defs-defs.result.now list (listing tree) = subst (λ (t : TreeLists). IsForestOf c.defs-defs.result.now list (listing t)) (sym c.tree_of-tree.ensures) forest in
    let r = c.in-Some.reg.now in
    let here : at r.number ≡ Some r = ap at c.in-Some.ensures.number ∙ sym c.reg_at.ensures.reg ∙ ap option_copied c.in-Some.is in
    let so = so_by at c.args.change.reg r list c.args.change.on c.is_so.result tree.slots c.in-Some.ensures.number
    (c.slots_in_order.ensures.slots c.defs-defs.result.now list shown) c.is_so.ensures ∙ c.if-is_so.false in
    let after = c.in_ok-edited.ensures.listing list forest (switchable_by at r list c.args.change.on here there.known so) in
    let new = g.F.ForestView.content c.edit.new.f c.in_ok-edited.edited in
    let same : c.tree_of.result.now ≡ new = c.tree_of.ensures in
    record {
      held = record {
        answered = c.in_ok-edited.ensures.answered;
        forest = subst (λ d. IsForestIn d at new) c.defs-defs.ensures
            (edited_forest c.defs-defs.result.now at r list c.args.change.on new here there.known
            (λ d l f. subst (λ (t : TreeLists). t.slots ≡ map slot_of l) same (c.slots_in_order-2.ensures.slots d l (subst (λ (t : TreeLists). IsForestOf d l (listing t)) (sym same) f))) after);
      };
      kept = c.edit.ensures.stored.kept;
    }

pub returns-clause-made : goal.returns-clause-made
returns-clause-made g c = λ s force.
    let at = registered c.args.in_force.now in
    let tree = c.tree_of-tree.result.now in
    let content = g.F.ForestView.content c.args.forests.now c.args.forest.now in
    let list = active_in at content in
    let there : IsTreeOf c.defs-defs.result.now at list content = subst (λ d. IsTreeOf d at list content) (sym c.defs-defs.ensures) c.requires.held.forest in
    let forest : IsForestOf c.defs-defs.result.now list (listing content) = record { private = there.private; listed = there.listed } in
    let shown : IsForestOf c.defs-defs.result.now list (listing tree) = subst (λ (t : TreeLists). IsForestOf c.defs-defs.result.now list (listing t)) (sym c.tree_of-tree.ensures) forest in
    let r = c.in-Some.reg.now in
    let here : at r.number ≡ Some r = ap at c.in-Some.ensures.number ∙ sym c.reg_at.ensures.reg ∙ ap option_copied c.in-Some.is in
    let so = so_by at c.args.change.reg r list c.args.change.on c.is_so.result tree.slots c.in-Some.ensures.number
    (c.slots_in_order.ensures.slots c.defs-defs.result.now list shown) c.is_so.ensures ∙ c.if-is_so.false in
    let after = c.in_ok-edited.ensures.listing list forest (switchable_by at r list c.args.change.on here there.known so) in
    let new = g.F.ForestView.content c.edit.new.f c.in_ok-edited.edited in
    let same : c.tree_of.result.now ≡ new = c.tree_of.ensures in
    let names = edited_names c.defs-defs.result.now at r list c.args.change.on new here there.known
    (λ d l f. subst (λ (t : TreeLists). t.slots ≡ map slot_of l) same (c.slots_in_order-2.ensures.slots d l (subst (λ (t : TreeLists). IsForestOf d l (listing t)) (sym same) f))) after in
    let later = c.later_events_change_nothing.ensures in
    let earlier : IsEarlier s.defs c.defs-defs.result.now = subst (IsEarlier s.defs) (sym c.defs-defs.ensures) force.defs in
    let found : reg_of s.regs c.args.change.reg ≡ Some r = sym (force.regs c.args.change.reg (omega arith)) ∙ sym c.reg_at.ensures.reg ∙ ap option_copied c.in-Some.is in
    let known = known_in at s.regs list force.regs there.private.numbers there.known in
    let private = private_earlier s.defs c.defs-defs.result.now list (λ event is. later.paths s.defs event earlier is) (events_known s.defs s.regs list force.sound.private known) there.private in
    alters_edit s c.args.change r list (active_in at new) (g.F.ForestView.interns c.args.forests.now) (g.F.ForestView.interns c.edit.new.f)
    found so
    (names ∙ later.edited s.defs list earlier private r c.args.change.on (event_found s.defs s.regs c.args.change.reg r force.sound.private found))
    c.edit.ensures.stored.counted
