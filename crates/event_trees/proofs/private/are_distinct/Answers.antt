use Rattle.std.proofs.Common.{◌≡◌, ℕ, ◌+◌, ◌-◌, ◌∙◌, Bool, List, eqb, length, take, drop, sym, ap, arith, refl}
use Rattle.std.specs.List.{list_any}
use Rattle.std.proofs.lemmas.List.{take_all, length-drop}
use Rattle.app_api.specs.declared.registration.Reg.{Reg}
use Rattle.event_trees.specs.Private.{numbers_of}
use Rattle.event_trees.proofs.Privates.{distinct-on, distinct-off, distinct-end}
use Rattle.event_trees.proofs.private.are_distinct.Goals as goal

-- the slice after a registration
rest : (list : List Reg) (i n : ℕ) (b : Bool) → b ≡ list_any (eqb n) (numbers_of (take (length list - (i + 1)) (drop (i + 1) list))) → list_any (eqb n) (numbers_of (drop (i + 1) list)) ≡ b
rest list i n b is =
    ap (λ (l : List Reg). list_any (eqb n) (numbers_of l)) (sym (take_all (length list - (i + 1)) (drop (i + 1) list) (omega (arith, length-drop (i + 1) list)))) ∙ sym is

pub returns-then-has_number : goal.returns-then-has_number
returns-then-has_number c = (
  λ e. cc,
  λ h. absurd (distinct-off c.args.list.now c.loop-i.i c.index-list-i.result c.loop-i-test.true
      (rest c.args.list.now c.loop-i.i _ c.has_number.result c.has_number.ensures ∙ c.if-has_number.true) (c.loop-i.invariant.1 h)),
)

pub loop-i-preserved : goal.loop-i-preserved
loop-i-preserved c =
    let on = distinct-on c.args.list.now c.loop-i.i c.index-list-i.result c.loop-i-test.true (rest c.args.list.now c.loop-i.i _ c.has_number.result c.has_number.ensures ∙ c.if-has_number.false) in (
      λ h. c.loop-i.invariant.0 (on.0 h),
      λ h. on.1 (c.loop-i.invariant.1 h),
    )

pub returns : goal.returns
returns c = (λ e. c.loop-i.invariant.0 (distinct-end c.args.list.now c.loop-i.i (omega arith)), λ h. refl)
