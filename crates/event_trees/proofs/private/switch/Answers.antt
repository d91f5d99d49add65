use Rattle.std.proofs.Common.{◌∙◌, ◌≡◌, ◌≤◌, Bool, cond, eqb, List, length, sym, ap, subst, arith, rules}
use Rattle.std.specs.Prelude.{not}
use Rattle.std.proofs.lemmas.Fn.{filter_same}
use Rattle.app_api.specs.declared.registration.Reg.{Reg}
use Rattle.event_trees.specs.Private.{IsPrivate, put_reg, without, edited}
use Rattle.event_trees.proofs.Switches.{private-edited}
use Rattle.event_trees.proofs.Sorted.{private-few}
use Rattle.event_trees.proofs.private.switch.Goals as goal

pub returns-in_ok-insert-clause-private : goal.returns-in_ok-insert-clause-private
returns-in_ok-insert-clause-private c =
    let made : c.insert.new.self.items ≡ edited c.args.defs.now c.args.active.now c.args.reg.now c.args.on = search rules in
    subst (IsPrivate c.args.defs.now) (sym made) (private-edited c.args.defs.now c.args.reg.now c.args.on c.args.active.now c.requires.private
    c.requires.switchable c.requires.low (omega arith) c.requires.event)

pub returns-else-on-clause-ok : goal.returns-else-on-clause-ok
returns-else-on-clause-ok c =
    let old : List Reg = c.args.active.now in
    let kept = filter_same _ (λ (r : Reg). not (eqb r.number c.args.reg.now.number)) _ (λ x b f' k. search rules) _ _ c.retain.ensures.filtered in
    kept ∙ (ap (without c.args.reg.now.number) c.active.view_is ∙ ap (λ (b : Bool). cond b (put_reg c.args.defs.now c.args.reg.now old) (without c.args.reg.now.number old)) (sym c.if-on.false))

pub returns-else-on-clause-private : goal.returns-else-on-clause-private
returns-else-on-clause-private c =
    subst (IsPrivate c.args.defs.now) (sym (returns-else-on-clause-ok c))
    (private-edited c.args.defs.now c.args.reg.now c.args.on c.args.active.now c.requires.private c.requires.switchable c.requires.low (omega arith) c.requires.event)

pub returns-in_err-insert-clause-few : goal.returns-in_err-insert-clause-few
returns-in_err-insert-clause-few c =
    let same : c.insert.new.self.items ≡ c.args.active.now = search rules in
    subst (λ (l : List Reg). length l ≤ 255) (sym same) (private-few c.args.defs.now c.args.active.now c.requires.private)

pub returns-in_ok-insert-clause-few : goal.returns-in_ok-insert-clause-few
returns-in_ok-insert-clause-few c = private-few c.args.defs.now c.insert.new.self.items (returns-in_ok-insert-clause-private c)

pub returns-else-on-clause-few : goal.returns-else-on-clause-few
returns-else-on-clause-few c = private-few c.args.defs.now c.retain.new.self.items (returns-else-on-clause-private c)
