-- Retransmissions: which presets it has, what a call changes and asks, and how its fields are named.
use Rattle.std.specs.Prelude.{◌≡◌, ℕ, Bool, true, false, if◌then◌else◌, List, [], ◌∷◌, None, refl, codes}
use Rattle.std.proofs.Common.{lit≤}
use Rattle.native_filters.specs.declared.facts.Hook.TheVariants.{Rcv}
use Rattle.app_api.specs.declared.app.Call.{Call}
use Rattle.app_api.specs.declared.app.Tally.{Tally}
use Rattle.app_api.specs.declared.reaction.Reaction.{Reaction}
use Rattle.app_api.specs.declared.registration.Reg.{Reg}
use Rattle.app_api.specs.App.{Meaning, IsLawful}
use Rattle.app_api.specs.Events.{REXMIT, PKT_IN, allows_hook}
use Rattle.app_api.specs.Reaction.{asks_nothing}
use Rattle.app_api.specs.Reg.{preset_reg}
use Rattle.app_api.specs.Tally.{zeros}
use Rattle.app_traffic.specs.Counting.{plus_if, is_call}

abbrev pub rexmit_presets : List Reg
rexmit_presets = preset_reg 1 REXMIT Rcv true ∷ preset_reg 2 PKT_IN Rcv false ∷ []

-- the tally after a call: packets that brought bytes again, these bytes, those that differ, and the packets
-- that arrived since
abbrev pub recounted : Tally → Call → Tally
recounted t call = record t {
  t0 = plus_if (is_call Rcv 1 call) t.t0 1;
  t1 = plus_if (is_call Rcv 1 call) t.t1 call.facts.rexlen;
  t2 = plus_if (is_call Rcv 1 call) t.t2 call.facts.rexdiff;
  t3 = plus_if (is_call Rcv 2 call) t.t3 1;
}

-- a reaction that asks to switch a registration on
abbrev pub switches_on : ℕ → Reaction
switches_on number = record { drop = None; changes = record { reg = number; on = true } ∷ [] }

-- each retransmission switches the count of later packets on
abbrev pub rexmit_asked : Call → Reaction
rexmit_asked call = if is_call Rcv 1 call then switches_on 2 else asks_nothing

-- retransmissions as an application
unfoldable pub rexmit : Meaning
rexmit = record {
  presets = rexmit_presets;
  fresh = zeros;
  react = λ t call rules. (recounted t call, rexmit_asked call);
  fields = λ t.
      (codes "rex_pkts", t.t0)
      ∷ (codes "rex_bytes", t.t1)
      ∷ (codes "rex_diff", t.t2)
      ∷ (codes "later_pkts", t.t3)
      ∷ [];
}

asked-no_drop : (call : Call) → (rexmit_asked call).drop ≡ None
asked-no_drop call = by (is_call Rcv 1 call)
  where
    by : (b : Bool) → (if b then switches_on 2 else asks_nothing).drop ≡ None
    by true = refl
    by false = refl

pub rexmit-lawful : IsLawful rexmit
unfolding rexmit allows_hook
rexmit-lawful = record {
  presets = refl;
  by_number = refl;
  names = λ t. refl;
  few = λ t. lit≤ tt;
  no_drop = λ t call rules rcv. asked-no_drop call;
}
