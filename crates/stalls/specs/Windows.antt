-- Where downloads stand still: the presets, what a call changes and asks, and the fields.
use Rattle.std.specs.Prelude.{◌≡◌, ℕ, Bool, true, false, not, ◌&&◌, ◌==◌, if◌then◌else◌, [], ◌∷◌, None, bit_and, refl, codes}
use Rattle.std.proofs.Common.{lit≤}
use Rattle.native_filters.specs.declared.facts.Facts.{Facts}
use Rattle.native_filters.specs.declared.facts.Hook.TheVariants.{Snd, Rcv}
use Rattle.native_filters.specs.Native.{has_bits}
use Rattle.app_api.specs.declared.app.Call.{Call}
use Rattle.app_api.specs.declared.app.Tally.{Tally}
use Rattle.app_api.specs.declared.reaction.Reaction.{Reaction}
use Rattle.app_api.specs.App.{Meaning, IsLawful}
use Rattle.app_api.specs.Events.{PKT_IN, ERROR, allows_hook}
use Rattle.app_api.specs.Reaction.{asks_nothing}
use Rattle.app_api.specs.Reg.{preset_reg}
use Rattle.app_api.specs.Tally.{zeros}
use Rattle.app_traffic.specs.Counting.{plus_if, is_call}

abbrev pub has_rst : Facts → Bool
has_rst f = has_bits f.flags 4

-- whose packet it is: 1 the client's, 2 the server's
abbrev pub side_of : ℕ → ℕ
side_of dir = if dir == 0 then 1 else 2

-- a packet that advertises a window of zero, and one by which the window opens again that was closed last
abbrev pub closes : Facts → Bool
closes f = not (has_rst f) && f.win == 0

abbrev pub opens : Tally → Facts → Bool
opens t f = not (has_rst f) && (not (f.win == 0) && t.t4 == side_of f.dir)

-- the call for such a packet, from this side
abbrev pub is_closed_by : ℕ → Call → Bool
is_closed_by side call = is_call Snd 1 call && (closes call.facts && side_of call.facts.dir == side)

-- whose window is closed after a packet was sent: 0 nobody's
abbrev pub closed_after : Tally → Facts → ℕ
closed_after t f = if closes f then side_of f.dir else if opens t f then 0 else t.t4

-- a reaction that switches the count of packets that arrive while a window is closed
abbrev pub switches : Bool → Reaction
switches on = record { drop = None; changes = record { reg = 2; on = on } ∷ [] }

abbrev pub asked_by : Tally → Facts → Reaction
asked_by t f = if closes f then switches true else if opens t f then switches false else asks_nothing

-- the tally after a call: windows of zero of each side, packets that arrived meanwhile, and packets with bytes past the window
abbrev pub noted : Tally → Call → Tally
noted t call = record t {
  t0 = plus_if (is_closed_by 1 call) t.t0 1;
  t1 = plus_if (is_closed_by 2 call) t.t1 1;
  t2 = plus_if (is_call Rcv 2 call) t.t2 1;
  t3 = plus_if (is_call Rcv 3 call) t.t3 (bit_and call.facts.fault 1);
  t4 = if is_call Snd 1 call then closed_after t call.facts else t.t4;
}

abbrev pub asked : Tally → Call → Reaction
asked t call = if is_call Snd 1 call then asked_by t call.facts else asks_nothing

unfoldable pub stalls : Meaning
stalls = record {
  presets = preset_reg 1 PKT_IN Snd true ∷ preset_reg 2 PKT_IN Rcv false ∷ preset_reg 3 ERROR Rcv true ∷ [];
  fresh = zeros;
  react = λ t call rules. (noted t call, asked t call);
  fields = λ t.
      (codes "client_closed", t.t0)
      ∷ (codes "server_closed", t.t1)
      ∷ (codes "while_closed", t.t2)
      ∷ (codes "past_window", t.t3)
      ∷ [];
}

no_drop-by : (one two three : Bool) → (if one then if two then switches true else if three then switches false else asks_nothing else asks_nothing).drop ≡ None
no_drop-by true true three = refl
no_drop-by true false true = refl
no_drop-by true false false = refl
no_drop-by false two three = refl

pub stalls-lawful : IsLawful stalls
unfolding stalls allows_hook
stalls-lawful = record {
  presets = refl;
  by_number = refl;
  names = λ t. refl;
  few = λ t. lit≤ tt;
  no_drop = λ t call rules rcv. no_drop-by (is_call Snd 1 call) (closes call.facts) (opens t call.facts);
}
