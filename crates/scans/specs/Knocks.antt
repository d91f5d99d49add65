-- Who knocks where nobody answers: the presets, what a call changes, and the fields.
use Rattle.std.specs.Prelude.{ℕ, ◌≤◌, Bool, true, false, ◌&&◌, ◌||◌, ◌==◌, if◌then◌else◌, List, [], ◌∷◌, length, refl, codes, IsTrue}
use Rattle.std.specs.List.{list_all}
use Rattle.std.proofs.Common.{lit≤}
use Rattle.native_filters.specs.declared.facts.Facts.{Facts}
use Rattle.native_filters.specs.declared.facts.Hook.TheVariants.{Snd, Rcv}
use Rattle.native_filters.specs.Native.{has_bits, native}
use Rattle.app_api.specs.declared.app.Call.{Call}
use Rattle.app_api.specs.declared.app.Tally.{Tally}
use Rattle.app_api.specs.App.{Meaning, IsLawful, is_field_name}
use Rattle.app_api.specs.Events.{PKT_IN, STATE, allows_hook}
use Rattle.app_api.specs.Reaction.{asks_nothing}
use Rattle.app_api.specs.Reg.{preset_reg}
use Rattle.app_api.specs.Tally.{zeros}
use Rattle.app_traffic.specs.Counting.{plus_if, set_if, is_call_of}

abbrev pub has_rst : Facts → Bool
has_rst f = has_bits f.flags 4

-- a SYN without ACK of the client
abbrev pub is_knock : Call → Bool
is_knock call = is_call_of Snd 1 0 call && native 0 call.facts

-- any packet of the server, and one by which it refuses
abbrev pub is_answer : Call → Bool
is_answer call = is_call_of Snd 1 1 call

abbrev pub is_refusal : Call → Bool
is_refusal call = is_answer call && has_rst call.facts

-- the server came to ESTABLISHED, which is 4: as the sender of what goes down, or as the receiver of what goes up
abbrev pub is_opened : Call → Bool
is_opened call = (is_call_of Snd 2 1 call || is_call_of Rcv 3 0 call) && call.facts.new == 4

-- the tally after a call: SYNs, and whether the server answered, refused, and came to ESTABLISHED
abbrev pub counted : Tally → Call → Tally
counted t call = record t {
  t0 = plus_if (is_knock call) t.t0 1;
  t1 = set_if (is_answer call) t.t1 1;
  t2 = set_if (is_refusal call) t.t2 1;
  t3 = set_if (is_opened call) t.t3 1;
}

-- the fields of a connection whose server nobody got to
abbrev pub shown_where : Bool → Tally → List (List ℕ × ℕ)
shown_where true t = (codes "syns", t.t0) ∷ (codes "refused", t.t2) ∷ (codes "silent", if t.t1 == 0 then 1 else 0) ∷ []
shown_where false t = []

abbrev pub fields : Tally → List (List ℕ × ℕ)
fields t = shown_where (t.t3 == 0) t

unfoldable pub knocks : Meaning
knocks = record {
  presets = preset_reg 1 PKT_IN Snd true ∷ preset_reg 2 STATE Snd true ∷ preset_reg 3 STATE Rcv true ∷ [];
  fresh = zeros;
  react = λ t call rules. (counted t call, asks_nothing);
  fields = fields;
}

names-of : (holds : Bool) (t : Tally) → IsTrue (list_all (λ f. is_field_name f.0) (shown_where holds t))
names-of true t = refl
names-of false t = refl

few-of : (holds : Bool) (t : Tally) → length (shown_where holds t) ≤ 256
few-of true t = lit≤ tt
few-of false t = lit≤ tt

pub knocks-lawful : IsLawful knocks
unfolding knocks allows_hook
knocks-lawful = record {
  presets = refl;
  by_number = refl;
  names = λ t. names-of (t.t3 == 0) t;
  few = λ t. few-of (t.t3 == 0) t;
  no_drop = λ t call rules rcv. refl;
}
