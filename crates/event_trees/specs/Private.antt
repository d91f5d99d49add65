-- A connection's private list: the registrations that are on, in the order in which they are called.
use Rattle.std.specs.Prelude.{ℕ, ◌≤◌, ◌==◌, IsTrue, eqb, not, if◌then◌else◌, Bool, List, [], ◌∷◌, map}
use Rattle.std.specs.List.{All, IsDistinct, filter}
use Rattle.std.specs.List.Sorted.{IsStrictlySortedBy}
use Rattle.std.specs.Cmp.Lexicographic.{slice_cmp}
use Rattle.std.specs.Ordering.{nat_cmp, on, then_cmp, is_lt}
use Rattle.std.specs.declared.cmp.Ordering.{Ordering}
use Rattle.app_api.specs.declared.registration.Reg.{Reg}
use Rattle.event_trees.specs.declared.defs.EventDef.{EventDef}
use Rattle.event_trees.specs.Defs.{is_event, path}

-- by the first event that differs; a prefix comes first
abbrev pub path_cmp : List ℕ → List ℕ → Ordering
path_cmp = slice_cmp nat_cmp

-- by path, and then by number
abbrev pub reg_cmp : List EventDef → Reg → Reg → Ordering
reg_cmp defs = then_cmp (on (λ r. path defs r.event) path_cmp) (on (λ r. r.number) nat_cmp)

abbrev pub numbers_of : List Reg → List ℕ
numbers_of list = map (λ r. r.number) list

-- each number once, by path and then by number
pub record IsPrivate (defs : List EventDef) (list : List Reg) : Type 0 where
  pub numbers : All (λ r. (1 ≤ r.number) × (r.number ≤ 255)) list
  pub events : All (λ r. IsTrue (is_event defs r.event)) list
  pub distinct : IsDistinct eqb (numbers_of list)
  pub sorted : IsStrictlySortedBy (reg_cmp defs) list

-- the list with one registration more, at its place
abbrev pub put_reg : List EventDef → Reg → List Reg → List Reg
put_reg defs r [] = r ∷ []
put_reg defs r (s ∷ list) = if is_lt (reg_cmp defs r s) then r ∷ s ∷ list else s ∷ put_reg defs r list

abbrev pub without : ℕ → List Reg → List Reg
without number list = filter (λ r. not (r.number == number)) list

-- the list after a registration is switched on or off
abbrev pub edited : List EventDef → List Reg → Reg → Bool → List Reg
edited defs list r on = if on then put_reg defs r list else without r.number list
