use Rattle.std.proofs.Common.{Bool, true, false, is_some, ◌≡◌, refl, sym, ap, ap₂, ◌&&◌, ◌∙◌}
use Rattle.flow_table.specs.Key.{key_between}
use Rattle.flow_table.specs.Pair.{is_ipv4}
use Rattle.flow_table.proofs.Numbers.{in_order, in_reverse, kind_of_both}
use Rattle.flow_table.proofs.pair.Pair.between.Goals as goal

never_with : (a : Bool) → (a && false) ≡ false
never_with true = refl
never_with false = refl

pub returns-in_err-one-clause-ipv4 : goal.returns-in_err-one-clause-ipv4
returns-in_err-one-clause-ipv4 c = ap is_some c.from_residual.ensures ∙ sym (kind_of_both c.args.a.now c.args.b.now ∙ ap (λ (x : Bool). x && is_ipv4 c.args.b.now) (sym c.in_err-one.ensures.ipv4))

pub returns-in_err-other-clause-ipv4 : goal.returns-in_err-other-clause-ipv4
returns-in_err-other-clause-ipv4 c = ap is_some c.from_residual-in_err-other.ensures ∙ sym (kind_of_both c.args.a.now c.args.b.now ∙ ap (λ (x : Bool). is_ipv4 c.args.a.now && x) (sym c.in_err-other.ensures.ipv4) ∙ never_with (is_ipv4 c.args.a.now))

pub returns-then-one-other-clause-ipv4 : goal.returns-then-one-other-clause-ipv4
returns-then-one-other-clause-ipv4 c = ap₂ (λ (x y : Bool). x && y) c.in_ok-one.ensures.ipv4 c.in_ok-other.ensures.ipv4 ∙ sym (kind_of_both c.args.a.now c.args.b.now)

pub returns-then-one-other-clause-pair : goal.returns-then-one-other-clause-pair
returns-then-one-other-clause-pair c = in_order c.in_ok-one.one c.in_ok-other.other c.if-one-other.true ∙ ap₂ key_between c.in_ok-one.ensures.number c.in_ok-other.ensures.number

pub returns-else-one-other-clause-ipv4 : goal.returns-else-one-other-clause-ipv4
returns-else-one-other-clause-ipv4 c = ap₂ (λ (x y : Bool). x && y) c.in_ok-one.ensures.ipv4 c.in_ok-other.ensures.ipv4 ∙ sym (kind_of_both c.args.a.now c.args.b.now)

pub returns-else-one-other-clause-pair : goal.returns-else-one-other-clause-pair
returns-else-one-other-clause-pair c = in_reverse c.in_ok-one.one c.in_ok-other.other c.if-one-other.false ∙ ap₂ key_between c.in_ok-one.ensures.number c.in_ok-other.ensures.number
