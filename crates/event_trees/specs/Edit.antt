-- Not of the headline. Switching one registration of a private list on or off.
use Rattle.std.specs.Prelude.{◌≡◌, ◌≢◌, ℕ, Bool, true, false, not, ◌==◌, if◌then◌else◌, List, [], ◌∷◌}
use Rattle.std.specs.List.{All, Contains, filter, list_any}
use Rattle.std.specs.Ordering.{nat_cmp, on, then_cmp, is_lt}
use Rattle.std.specs.declared.cmp.Ordering.{Ordering}
use Rattle.app_api.specs.declared.registration.Reg.{Reg}
use Rattle.shared_forest.specs.Lists.{TreeLists}
use Rattle.shared_forest.specs.Listing.{Shown, listing}
use Rattle.event_trees.specs.declared.defs.EventDef.{EventDef}
use Rattle.event_trees.specs.Private.{IsPrivate, path_cmp}
use Rattle.event_trees.specs.Canon.{Placed, canon}

-- the listing is that of this private list
pub record IsForestOf (defs : List EventDef) (list : List Reg) (shown : List Shown) : Type 0 where
  pub private : IsPrivate defs list
  pub listed : shown ≡ canon defs list

-- the tree is that of this private list
abbrev pub IsTreeOf : List EventDef → List Reg → TreeLists → Type 0
IsTreeOf defs list tree = IsForestOf defs list (listing tree)

-- its number is absent before it is switched on, and it is there before it is switched off
abbrev pub IsSwitchable : List Reg → Reg → Bool → Type 0
IsSwitchable list r true = All (λ s. s.number ≢ r.number) list
IsSwitchable list r false = Contains list r

-- by path, and then by number
abbrev pub placed_cmp : Placed → Placed → Ordering
placed_cmp = then_cmp (on (λ r. r.path) path_cmp) (on (λ r. r.slot.number) nat_cmp)

-- one registration more, at its place
abbrev pub put_placed : Placed → List Placed → List Placed
put_placed r [] = r ∷ []
put_placed r (s ∷ list) = if is_lt (placed_cmp r s) then r ∷ s ∷ list else s ∷ put_placed r list

abbrev pub without_placed : ℕ → List Placed → List Placed
without_placed number list = filter (λ r. not (r.slot.number == number)) list

-- whether one of the registrations has a number
abbrev pub has_placed : ℕ → List Placed → Bool
has_placed number list = list_any (λ r. r.slot.number == number) list

-- the registrations after one of them is switched on or off
abbrev pub switched : Placed → Bool → List Placed → List Placed
switched r on list = if on then put_placed r list else without_placed r.slot.number list
