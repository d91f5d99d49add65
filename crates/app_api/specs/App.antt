-- What an application is: plain functions of its tally, the call and the rules, and what each keeps.
use Rattle.std.specs.Prelude.{◌≡◌, ℕ, ◌≤◌, ◌&&◌, ◌||◌, ◌==◌, Bool, List, length, map, nat_le, nat_lt, IsTrue, Option, Some, None}
use Rattle.std.specs.Borrow.{Bor}
use Rattle.std.specs.List.{list_all}
use Rattle.native_filters.specs.declared.facts.Hook.{Hook}
use Rattle.app_api.specs.declared.app.Call.{Call}
use Rattle.app_api.specs.declared.app.Tally.{Tally}
use Rattle.app_api.specs.declared.reaction.Reaction.{Reaction}
use Rattle.app_api.specs.declared.registration.Reg.{Reg}
use Rattle.app_api.specs.declared.rule.Rule.{Rule}
use Rattle.native_filters.specs.Hook.{is_hook}
use Rattle.native_filters.specs.declared.facts.Hook.TheVariants.{Rcv}
use Rattle.app_api.specs.Numbers.{rise_from}
use Rattle.app_api.specs.Reg.{are_presets}
use Rattle.app_api.specs.Reaction.{asks_nothing}

-- what an application answers
pub record Meaning : Type 0 where
  -- its presets, by number
  pub presets : List Reg
  -- the tally that a connection starts with
  pub fresh : Tally
  -- a callback under these rules gives the next tally, and asks something
  pub react : Tally → Call → List Rule → Tally × Reaction
  -- the fields of a tally in order, each with its name and value
  pub fields : Tally → List (List ℕ × ℕ)

-- whether a byte is one of a to z, a digit or `_`
abbrev pub is_name_byte : ℕ → Bool
is_name_byte b = nat_le 97 b && nat_le b 122 || nat_le 48 b && nat_le b 57 || b == 95

-- whether a field may have the name: one such byte or more
abbrev pub is_field_name : List ℕ → Bool
is_field_name name = nat_lt 0 (length name) && list_all is_name_byte name

-- whether rules stand by rising number, from 1 on
abbrev pub are_rules : List Rule → Bool
are_rules rules = rise_from 1 (map (λ r. r.number) rules)

-- what every application keeps
pub record IsLawful (app : Meaning) : Type 0 where
  pub presets : IsTrue (are_presets app.presets)
  pub by_number : IsTrue (rise_from 1 (map (λ r. r.number) app.presets))
  pub names : (t : Tally) → IsTrue (list_all (λ f. is_field_name f.0) (app.fields t))
  pub few : (t : Tally) → length (app.fields t) ≤ 256
  pub no_drop : (t : Tally) (call : Call) (rules : List Rule) → IsTrue (is_hook call.hook Rcv) → (app.react t call rules).1.drop ≡ None

-- at a hook a callback changes nothing that is kept, and asks nothing
abbrev pub RestsAt : Meaning → Hook → Type 0
RestsAt app hook = (t : Tally) (call : Call) (rules : List Rule) → call.hook ≡ hook → app.react t call rules ≡ (t, asks_nothing)

-- a field as plain data
abbrev pub field_shown : Option (Bor (List ℕ) × ℕ) → Option (List ℕ × ℕ)
field_shown None = None
field_shown (Some f) = Some (f.0.now, f.1)
