-- Accounting: which presets it has, what a call changes, and how its fields are named.
use Rattle.std.specs.Prelude.{Bool, true, ◌||◌, List, [], ◌∷◌, refl, codes}
use Rattle.std.proofs.Common.{lit≤}
use Rattle.native_filters.specs.declared.facts.Hook.TheVariants.{Snd, Rcv}
use Rattle.app_api.specs.declared.app.Call.{Call}
use Rattle.app_api.specs.declared.app.Tally.{Tally}
use Rattle.app_api.specs.declared.registration.Reg.{Reg}
use Rattle.app_api.specs.App.{Meaning, IsLawful}
use Rattle.app_api.specs.Events.{PKT_IN, NEW_DATA, STATE, END, allows_hook}
use Rattle.app_api.specs.Reaction.{asks_nothing}
use Rattle.app_api.specs.Reg.{preset_reg}
use Rattle.app_api.specs.Tally.{zeros}
use Rattle.app_traffic.specs.Counting.{plus_if, set_if, is_call_of}

abbrev pub acct_presets : List Reg
acct_presets =
    preset_reg 1 PKT_IN Snd true
    ∷ preset_reg 2 NEW_DATA Rcv true
    ∷ preset_reg 3 STATE Snd true
    ∷ preset_reg 4 STATE Rcv true
    ∷ preset_reg 5 END Rcv true
    ∷ []

-- whether the client's state changed, or the server's
abbrev pub is_client_step : Call → Bool
is_client_step call = is_call_of Snd 3 0 call || is_call_of Rcv 4 1 call

abbrev pub is_server_step : Call → Bool
is_server_step call = is_call_of Snd 3 1 call || is_call_of Rcv 4 0 call

-- nothing is counted yet; the client is CLOSED, 0, and the server is LISTEN, 1
abbrev pub acct_fresh : Tally
acct_fresh = record zeros { t7 = 1 }

-- the tally after a call: packets and bytes at their sender, where the stream stands after its next position
-- rose, and the states. The client is the sender of what goes up, and the receiver of what goes down.
abbrev pub accounted : Tally → Call → Tally
accounted t call = record {
  t0 = plus_if (is_call_of Snd 1 0 call) t.t0 1;
  t1 = plus_if (is_call_of Snd 1 0 call) t.t1 call.facts.len;
  t2 = set_if (is_call_of Rcv 2 0 call) t.t2 call.facts.next;
  t3 = plus_if (is_call_of Snd 1 1 call) t.t3 1;
  t4 = plus_if (is_call_of Snd 1 1 call) t.t4 call.facts.len;
  t5 = set_if (is_call_of Rcv 2 1 call) t.t5 call.facts.next;
  t6 = set_if (is_client_step call) t.t6 call.facts.new;
  t7 = set_if (is_server_step call) t.t7 call.facts.new;
}

-- accounting as an application
unfoldable pub acct : Meaning
acct = record {
  presets = acct_presets;
  fresh = acct_fresh;
  react = λ t call rules. (accounted t call, asks_nothing);
  fields = λ t.
      (codes "up_pkts", t.t0)
      ∷ (codes "up_bytes", t.t1)
      ∷ (codes "up_new", t.t2)
      ∷ (codes "down_pkts", t.t3)
      ∷ (codes "down_bytes", t.t4)
      ∷ (codes "down_new", t.t5)
      ∷ (codes "client_state", t.t6)
      ∷ (codes "server_state", t.t7)
      ∷ [];
}

pub acct-lawful : IsLawful acct
unfolding acct allows_hook
acct-lawful = record {
  presets = refl;
  by_number = refl;
  names = λ t. refl;
  few = λ t. lit≤ tt;
  no_drop = λ t call rules rcv. refl;
}
