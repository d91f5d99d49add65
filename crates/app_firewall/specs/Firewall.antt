-- The firewall: which presets it has, what a call changes and asks, and how its fields are named.
use Rattle.std.specs.Prelude.{◌≡◌, ℕ, ◌+◌, ◌%◌, ◌^◌, ◌&&◌, ◌==◌, not, Bool, if◌then◌else◌, [], ◌∷◌, Some, None, IsTrue, refl, codes}
use Rattle.std.proofs.Common.{lit≤, ap}
use Rattle.std.proofs.lemmas.Bool.{false≢true}
use Rattle.native_filters.specs.declared.facts.Hook.TheVariants.{Snd, Rcv}
use Rattle.app_api.specs.declared.app.Call.{Call}
use Rattle.app_api.specs.declared.app.Tally.{Tally}
use Rattle.app_api.specs.declared.reaction.Reaction.{Reaction}
use Rattle.app_api.specs.declared.reaction.Reason.TheVariants as reason
use Rattle.app_api.specs.App.{Meaning, IsLawful, RestsAt}
use Rattle.native_filters.specs.Hook.{is_hook}
use Rattle.app_api.specs.Events.{allows_hook}
use Rattle.app_api.specs.Log.{log}
use Rattle.app_api.specs.Reaction.{asks_nothing}
use Rattle.app_api.specs.Tally.{zeros}
use Rattle.app_firewall.specs.Decision.{decision}

-- whether a call tells of a packet of a connection, at its sender
abbrev pub is_packet : Call → Bool
is_packet call = is_hook call.hook Snd && call.reg == 1

-- whether it tells of a packet that belongs to no connection, and isn't of class other, 1
abbrev pub is_refused_orphan : Call → Bool
is_refused_orphan call = is_hook call.hook Snd && (call.reg == 3) && not (call.facts.class == 1)

-- a reaction that asks to drop the packet, by a rule of this number
abbrev pub drops_by : ℕ → Reaction
drops_by number = record { drop = Some (reason.Rule number); changes = [] }

-- the tally after a decision: packets that passed, packets that were dropped, and the rule's number
abbrev pub counted : Tally → Bool × ℕ → Tally
counted t decided = record t {
  t0 = (t.t0 + (if decided.0 then 1 else 0)) % 2 ^ 64;
  t1 = (t.t1 + (if decided.0 then 0 else 1)) % 2 ^ 64;
  t2 = decided.1;
}

-- what a decision asks
abbrev pub carried_out : Bool × ℕ → Reaction
carried_out decided = if decided.0 then asks_nothing else drops_by decided.1

-- the tally after a call, under what the rules decide on its packet
abbrev pub judged : Tally → Call → Bool × ℕ → Tally
judged t call decided = if is_packet call then counted t decided else t

-- what a call asks, under what the rules decide on its packet
abbrev pub firewall_asked : Call → Bool × ℕ → Reaction
firewall_asked call decided =
    if is_packet call then carried_out decided else
    if is_refused_orphan call then drops_by 0 else
    asks_nothing

-- the tally and what is asked
abbrev pub reaction_to : Tally → Call → Bool × ℕ → Tally × Reaction
reaction_to t call decided = (judged t call decided, firewall_asked call decided)

-- the firewall as an application: it sees what the log application sees
unfoldable pub firewall : Meaning
firewall = record {
  presets = log.presets;
  fresh = zeros;
  react = λ t call rules. reaction_to t call (decision rules call.facts);
  fields = λ t. (codes "passed", t.t0) ∷ (codes "dropped", t.t1) ∷ (codes "rule", t.t2) ∷ [];
}

asked-no_drop : (call : Call) (decided : Bool × ℕ) → IsTrue (is_hook call.hook Rcv) → (firewall_asked call decided).drop ≡ None
asked-no_drop call decided rcv =
    elim call.hook as (λ h. IsTrue (is_hook h Rcv) → (firewall_asked (record call { hook = h }) decided).drop ≡ None) [
      | Snd ↦ λ rcv. absurd (false≢true rcv)
      | Rcv ↦ λ _. refl
    ] rcv

pub firewall-lawful : IsLawful firewall
unfolding firewall log allows_hook
firewall-lawful = record {
  presets = refl;
  by_number = refl;
  names = λ t. refl;
  few = λ t. lit≤ tt;
  no_drop = λ t call rules rcv. asked-no_drop call (decision rules call.facts) rcv;
}

rests-at : (t : Tally) (call : Call) (decided : Bool × ℕ) → IsTrue (is_hook call.hook Rcv) → reaction_to t call decided ≡ (t, asks_nothing)
rests-at t call decided rcv =
    elim call.hook as (λ h. IsTrue (is_hook h Rcv) → reaction_to t (record call { hook = h }) decided ≡ (t, asks_nothing)) [
      | Snd ↦ λ rcv. absurd (false≢true rcv)
      | Rcv ↦ λ _. refl
    ] rcv

pub firewall-rests : RestsAt firewall Rcv
unfolding firewall
firewall-rests = λ t call rules at. rests-at t call (decision rules call.facts) (ap (λ h. is_hook h Rcv) at)
