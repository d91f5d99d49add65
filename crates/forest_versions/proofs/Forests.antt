-- The trees of control states: with one registration more or less, the list of those that are on is the edited one.
use Rattle.std.proofs.Common.{◌≡◌, ℕ, Bool, true, false, cond, List, sym, ap, subst, ◌∙◌}
use Rattle.std.specs.Prelude.{◌≢◌, IsTrue, Option, Some, None}
use Rattle.std.specs.List.{All}
use Rattle.std.proofs.lemmas.Bool.{or_cases, or_left, or_right}
use Rattle.std.proofs.Common.{⊎_elim, ◌++◌}
use Rattle.std.specs.Prelude.{is_some, ◌==◌}
use Rattle.std.specs.Option.{option_or}
use Rattle.std.proofs.lemmas.List.Folds.{find-append}
use Rattle.std.proofs.lemmas.List.Elements.{All-from_recursion, All-filter}
use Rattle.app_api.specs.declared.registration.Reg.{Reg}
use Rattle.app_api.specs.Reg.{reg_of}
use Rattle.shared_forest.specs.Listing.{Shown}
use Rattle.event_trees.specs.declared.defs.EventDef.{EventDef}
use Rattle.event_trees.specs.Defs.{found, is_event, is_root}
use Rattle.event_trees.specs.Later.{IsEarlier}
use Rattle.event_trees.specs.Private.{IsPrivate, put_reg, without, edited}
use Rattle.event_trees.specs.Edit.{IsForestOf}
use Rattle.forest_versions.specs.State.{ControlState, active}
use Rattle.forest_versions.proofs.Regs.{unlike, without-put, active-put, active-without, active-without_none}

abbrev IsTreeOf : ControlState → List Shown → Type 0
IsTreeOf s shown = IsForestOf s.defs (active s) shown

abbrev with_put : ControlState → Reg → ControlState
with_put s r = record s { regs = put_reg s.defs r s.regs }

abbrev less : ControlState → ℕ → ControlState
less s number = record s { regs = without number s.regs }

pub forest-off : (s t : ControlState) (r : Reg) (shown : List Shown) → t ≡ with_put s r → IsPrivate s.defs s.regs → r.on ≡ false → IsTreeOf s shown → IsTreeOf t shown
forest-off s t r shown is private off h =
    let list : active (with_put s r) ≡ active s = active-put s.defs r s.regs private.sorted ∙ ap (λ (b : Bool). cond b (put_reg s.defs r (active s)) (active s)) off in
    subst (λ (u : ControlState). IsTreeOf u shown) (sym is) (subst (λ (l : List Reg). IsForestOf s.defs l shown) (sym list) h)

pub forest-on : (s t : ControlState) (r : Reg) (shown : List Shown) → t ≡ with_put s r → IsPrivate s.defs s.regs → r.on ≡ true
    → IsForestOf s.defs (edited s.defs (active s) r true) shown → IsTreeOf t shown
forest-on s t r shown is private on h =
    let list : active (with_put s r) ≡ put_reg s.defs r (active s) = active-put s.defs r s.regs private.sorted ∙ ap (λ (b : Bool). cond b (put_reg s.defs r (active s)) (active s)) on in
    subst (λ (u : ControlState). IsTreeOf u shown) (sym is) (subst (λ (l : List Reg). IsForestOf s.defs l shown) (sym list) h)

pub forest-without : (s t : ControlState) (number : ℕ) (shown : List Shown) → t ≡ less s number → IsForestOf s.defs (without number (active s)) shown → IsTreeOf t shown
forest-without s t number shown is h =
    subst (λ (u : ControlState). IsTreeOf u shown) (sym is) (subst (λ (l : List Reg). IsForestOf s.defs l shown) (sym (active-without number s.regs)) h)

pub forest-absent : (s t : ControlState) (number : ℕ) (shown : List Shown) → t ≡ less s number → IsPrivate s.defs s.regs
    → ((r : Reg) → reg_of s.regs number ≡ Some r → r.on ≡ false) → IsTreeOf s shown → IsTreeOf t shown
forest-absent s t number shown is private off h =
    subst (λ (u : ControlState). IsTreeOf u shown) (sym is) (subst (λ (l : List Reg). IsForestOf s.defs l shown) (sym (active-without_none number s.regs off private.distinct)) h)

-- a registration that was added and taken out again
pub undone : (s t u : ControlState) (r : Reg) → t ≡ with_put s r → u ≡ less t r.number → reg_of s.regs r.number ≡ None → u ≡ s
undone s t u r added removed absent =
    removed ∙ (ap (λ (x : ControlState). less x r.number) added ∙ ap (λ (l : List Reg). record s { regs = l }) (without-put s.defs r s.regs (unlike s.regs r.number absent)))

-- a number that isn't there isn't on
pub absent-active : (s : ControlState) (r : Reg) → reg_of s.regs r.number ≡ None → All (λ q. q.number ≢ r.number) (active s)
absent-active s r absent = All-filter (λ (q : Reg). q.on) (λ (q : Reg). q.number ≢ r.number) s.regs (All-from_recursion (λ (q : Reg). q.number ≢ r.number) s.regs (unlike s.regs r.number absent))

some-or : (a b : Option EventDef) → is_some a ≡ true → is_some (option_or a b) ≡ true
some-or None b h = cc
some-or (Some d) b h = h

-- an event that is there stays there
pub event-later : (earlier defs : List EventDef) (event : ℕ) → IsEarlier earlier defs → IsTrue (is_event earlier event) → IsTrue (is_event defs event)
event-later earlier defs event more there =
    subst (λ (l : List EventDef). IsTrue (is_event l event)) more.1 (⊎_elim
    (λ r. or_left (is_root event) (is_some (found (earlier ++ more.0) event)) r)
    (λ f. or_right (is_root event) (is_some (found (earlier ++ more.0) event))
    (ap is_some (find-append (λ (d : EventDef). d.number == event) earlier more.0) ∙ some-or (found earlier event) (found more.0 event) f))
    (or_cases (is_root event) (is_some (found earlier event)) there))
