use Rattle.std.proofs.Common.{◌≡◌, ◌∙◌, ◌≤◌, Bool, eqb, List, sym, subst}
use Rattle.std.specs.Prelude.{◌↔◌, IsTrue}
use Rattle.std.specs.List.{All, IsDistinct}
use Rattle.std.specs.List.Sorted.{IsStrictlySortedBy}
use Rattle.std.proofs.lemmas.Bool.{false≢true}
use Rattle.app_api.specs.declared.registration.Reg.{Reg}
use Rattle.event_trees.specs.declared.defs.EventDef.{EventDef}
use Rattle.event_trees.specs.Defs.{is_event}
use Rattle.event_trees.specs.Private.{reg_cmp, numbers_of, IsPrivate}
use Rattle.event_trees.proofs.Sorted.{private-few}
use Rattle.event_trees.proofs.private.is_private.Goals.{then-have_numbers, else-have_numbers, then-have_events, else-have_events}
use Rattle.event_trees.proofs.private.is_private.Goals as goal

whole : (defs : List EventDef) (list active : List Reg) (last : Bool) → list ≡ active → All (λ r. (1 ≤ r.number) × (r.number ≤ 255)) list
    → All (λ r. IsTrue (is_event defs r.event)) list → IsDistinct eqb (numbers_of list) → (IsTrue last ↔ IsStrictlySortedBy (reg_cmp defs) list)
    → IsTrue last ↔ IsPrivate defs active
whole defs list active last same numbers events distinct sorted = (
  λ e. subst (IsPrivate defs) same (record { numbers = numbers; events = events; distinct = distinct; sorted = sorted.0 e }),
  λ p. sorted.1 (subst (IsStrictlySortedBy (reg_cmp defs)) (sym same) p.sorted),
)

pub returns-then-are_distinct-clause-is : goal.returns-then-are_distinct-clause-is
returns-then-are_distinct-clause-is c = elim c.if-have_events.branch [
  | then-have_events v ↦ elim c.if-have_numbers.branch [
    | then-have_numbers w ↦ whole c.args.defs.now c.as_slice-list.result.now c.args.active.now c.rise.result c.as_slice-list.ensures
        (c.have_numbers.ensures.0 w.if-have_numbers.true) (w.have_events.ensures.0 (sym w.value-is ∙ v.if-have_events.true))
        (v.are_distinct.ensures.0 (sym v.value-is ∙ c.if-are_distinct.true)) c.rise.ensures
    | else-have_numbers w ↦ absurd (false≢true (sym w.if-have_numbers.false ∙ (sym w.value-is ∙ v.if-have_events.true)))
  ]
  | else-have_events v ↦ absurd (false≢true (sym v.if-have_events.false ∙ (sym v.value-is ∙ c.if-are_distinct.true)))
]

pub returns-then-are_distinct-clause-few : goal.returns-then-are_distinct-clause-few
returns-then-are_distinct-clause-few c = λ e. private-few c.args.defs.now c.args.active.now ((returns-then-are_distinct-clause-is c).0 e)
