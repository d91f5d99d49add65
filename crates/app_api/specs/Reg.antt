-- Registrations: which of them an application may have as presets, and how one is found by its number.
use Rattle.std.specs.Prelude.{ℕ, ◌^◌, ◌&&◌, ◌==◌, not, Bool, true, false, List, [], map, Option, nat_le, nat_lt}
use Rattle.std.specs.List.{list_all, find}
use Rattle.native_filters.specs.declared.facts.Hook.{Hook}
use Rattle.native_filters.specs.declared.facts.Hook.TheVariants.{Rcv}
use Rattle.app_api.specs.declared.registration.PeekSpec.{PeekSpec}
use Rattle.app_api.specs.declared.registration.PeekSpec.TheVariants.{Nothing, Next, At}
use Rattle.app_api.specs.declared.registration.Reg.{Reg}
use Rattle.native_filters.specs.Hook.{is_hook}
use Rattle.app_api.specs.Events.{allows_hook}
use Rattle.app_api.specs.Numbers.{all_differ}

-- whether a length is 1 to 256, and an offset is below 2^40
abbrev pub peek_fits : PeekSpec → Bool
peek_fits Nothing = true
peek_fits (Next len) = nat_le 1 len && nat_le len 256
peek_fits (At off len) = nat_lt off (2 ^ 40) && nat_le 1 len && nat_le len 256

-- a preset without a peek
abbrev pub preset_reg : ℕ → ℕ → Hook → Bool → Reg
preset_reg number event hook on = record {
  number = number;
  event = event;
  hook = hook;
  on = on;
  peek = Nothing;
  action = record { drop = false; changes = [] };
}

-- whether an application may have the registration as a preset
abbrev pub is_preset : Reg → Bool
is_preset r =
    nat_le 1 r.number && nat_le r.number 15 && allows_hook r.event r.hook && peek_fits r.peek
    && not (is_hook r.hook Rcv && r.action.drop)

-- whether an application may have the registrations as its presets
abbrev pub are_presets : List Reg → Bool
are_presets regs = list_all is_preset regs && all_differ (map (λ r. r.number) regs)

-- the registration of a number
abbrev pub reg_of : List Reg → ℕ → Option Reg
reg_of regs number = find (λ r. r.number == number) regs
