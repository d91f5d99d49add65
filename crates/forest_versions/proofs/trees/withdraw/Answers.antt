use Rattle.std.proofs.Common.{◌≡◌, ℕ, ◌≤◌, List, sym, subst}
use Rattle.std.specs.Prelude.{IsTrue, Some}
use Rattle.std.proofs.lemmas.List.Elements.{recursion_from_All}
use Rattle.app_api.specs.declared.registration.Reg.{Reg}
use Rattle.app_api.specs.Reg.{reg_of}
use Rattle.shared_forest.specs.Listing.{Shown, listing}
use Rattle.event_trees.specs.declared.defs.EventDef.{EventDef}
use Rattle.event_trees.specs.Defs.{is_event}
use Rattle.event_trees.specs.Private.{without}
use Rattle.event_trees.specs.Edit.{IsForestOf}
use Rattle.forest_versions.specs.State.{ControlState, active}
use Rattle.forest_versions.proofs.Regs.{found-holds, on-contained}
use Rattle.forest_versions.proofs.Forests.{forest-absent, forest-without}
use Rattle.forest_versions.proofs.trees.withdraw.Goals as goal

pub edit-requires-clause-low : goal.edit-requires-clause-low
edit-requires-clause-low g c =
    let there : reg_of c.args.control.now.regs c.args.number ≡ Some c.in-Some.reg = subst (λ (l : List Reg). reg_of l c.args.number ≡ Some c.in-Some.reg) c.regs.ensures c.in-Some.ensures.there in
    (found-holds (λ (q : Reg). (1 ≤ q.number) × (q.number ≤ 255)) c.args.control.now.regs c.args.number c.in-Some.reg
    (recursion_from_All _ c.args.control.now.regs c.sound.ensures.private.numbers) there).0.0

pub edit-requires-clause-event : goal.edit-requires-clause-event
edit-requires-clause-event g c =
    let there : reg_of c.args.control.now.regs c.args.number ≡ Some c.in-Some.reg = subst (λ (l : List Reg). reg_of l c.args.number ≡ Some c.in-Some.reg) c.regs.ensures c.in-Some.ensures.there in
    subst (λ (d : List EventDef). IsTrue (is_event d c.in-Some.reg.event)) (sym c.defs.ensures)
    (found-holds (λ (q : Reg). IsTrue (is_event c.args.control.now.defs q.event)) c.args.control.now.regs c.args.number c.in-Some.reg
    (recursion_from_All _ c.args.control.now.regs c.sound.ensures.private.events) there).0

pub edit-requires-clause-forest : goal.edit-requires-clause-forest
edit-requires-clause-forest g c =
    let s : ControlState = c.args.control.now in
    let there : reg_of s.regs c.args.number ≡ Some c.in-Some.reg = subst (λ (l : List Reg). reg_of l c.args.number ≡ Some c.in-Some.reg) c.regs.ensures c.in-Some.ensures.there in (
      active s,
      subst (λ (d : List EventDef). IsForestOf d (active s) (listing (g.F.ForestView.content c.args.f.now c.args.forest.now)))
          (sym c.defs.ensures) c.requires.held.forest,
      on-contained s.regs c.args.number c.in-Some.reg there c.in-Some.ensures.on,
    )

pub returns-in-None-clause-held : goal.returns-in-None-clause-held
returns-in-None-clause-held g c = record {
  answered = c.requires.held.answered;
  forest = forest-absent c.args.control.now c.withdraw.new.self c.args.number (listing (g.F.ForestView.content c.args.f.now c.args.forest.now))
      c.withdraw.ensures c.sound.ensures.private (λ r found. c.in-None.ensures.off r
      (subst (λ (l : List Reg). reg_of l c.args.number ≡ Some r) (sym c.regs.ensures) found)) c.requires.held.forest;
}

pub returns-in_ok-edited-in-Some-clause-held : goal.returns-in_ok-edited-in-Some-clause-held
returns-in_ok-edited-in-Some-clause-held g c =
    let s : ControlState = c.args.control.now in
    let shown : List Shown = listing (g.F.ForestView.content c.edit.new.f c.in_ok-edited-in-Some.edited) in
    let there : reg_of s.regs c.args.number ≡ Some c.in-Some.reg = subst (λ (l : List Reg). reg_of l c.args.number ≡ Some c.in-Some.reg) c.regs.ensures c.in-Some.ensures.there in
    let number : c.in-Some.reg.number ≡ c.args.number = (found-holds (λ (q : Reg). IsTrue (is_event s.defs q.event)) s.regs c.args.number
    c.in-Some.reg (recursion_from_All _ s.regs c.sound.ensures.private.events) there).1 in
    let old : IsForestOf c.defs.result.now (active s) (listing (g.F.ForestView.content c.args.f.now c.args.forest.now)) = subst
    (λ (d : List EventDef). IsForestOf d (active s) (listing (g.F.ForestView.content c.args.f.now c.args.forest.now))) (sym c.defs.ensures) c.requires.held.forest in
    let new : IsForestOf c.defs.result.now (without c.in-Some.reg.number (active s)) shown = c.in_ok-edited-in-Some.ensures.listing (active s) old
    (on-contained s.regs c.args.number c.in-Some.reg there c.in-Some.ensures.on) in
    record {
      answered = c.in_ok-edited-in-Some.ensures.answered;
      forest = forest-without s c.withdraw-in-Some.new.self c.args.number shown c.withdraw-in-Some.ensures
          (subst (λ (d : List EventDef). IsForestOf d (without c.args.number (active s)) shown) c.defs.ensures
          (subst (λ (n : ℕ). IsForestOf c.defs.result.now (without n (active s)) shown) number new));
    }
