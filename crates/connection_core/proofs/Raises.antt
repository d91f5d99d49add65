-- Several raises over one list, one after the other: those of a packet of no connection.
use Rattle.std.proofs.Common.{◌≡◌, ℕ, ◌+◌, ◌<◌, Bool, List, [], ◌∷◌, ◌++◌, length, map, take, get_or, refl, sym, ap, subst, ◌∙◌}
use Rattle.std.proofs.lemmas.List.{take_more, map-append}
use Rattle.tcp_emulation.specs.declared.segment.Side.{Side}
use Rattle.flow_socket.specs.View.{SocketView}
use Rattle.app_api.specs.declared.registration.Reg.{Reg}
use Rattle.app_api.specs.App.{Meaning}
use Rattle.builtin_events.specs.declared.raise.Raise.{Raise}
use Rattle.forest_versions.specs.State.{ControlState}
use Rattle.connection_core.specs.declared.ledger.Notes.{Notes}
use Rattle.connection_core.specs.declared.ledger.Ledger.{Ledger}
use Rattle.connection_core.specs.PacketUnderWay.{PacketUnderWay, called_at, raised}
use Rattle.connection_core.specs.Standing.{IsUnder, Steps}

raised-append : (app : Meaning) (s : ControlState) (number : ℕ) (from : Side) (xs ys : List Raise) (c : PacketUnderWay)
    → raised app s number from (xs ++ ys) c ≡ raised app s number from ys (raised app s number from xs c)
unfolding raised
raised-append app s number from [] ys c = refl
raised-append app s number from (x ∷ xs) ys c = raised-append app s number from xs ys (called_at app s number from x c)

raised-one : (app : Meaning) (s : ControlState) (number : ℕ) (from : Side) (x : Raise) (c : PacketUnderWay)
    → raised app s number from (x ∷ []) c ≡ called_at app s number from x c
unfolding raised
raised-one app s number from x c = refl

pub raised_none : (app : Meaning) (s : ControlState) (keep : Bool) (list : List Reg) (number : ℕ) (from : Side) (socket : SocketView) (notes : Notes) (ledger : Ledger)
    → Steps keep list socket notes ledger socket notes ledger (raised app s number from [])
unfolding raised
raised_none app s keep list number from socket notes ledger = record { stands = λ others c u. u }

-- one raise more
pub raised_more : (app : Meaning) (s : ControlState) (keep : Bool) (list : List Reg) (number : ℕ) (from : Side) (at : ℕ → Raise) (events : List ℕ) (i event : ℕ)
    (socket socket_now socket_after : SocketView) (notes notes_now notes_after : Notes) (ledger ledger_now ledger_after : Ledger)
    → i < length events → event ≡ get_or events i 0
    → Steps keep list socket notes ledger socket_now notes_now ledger_now (raised app s number from (map at (take i events)))
    → Steps keep list socket_now notes_now ledger_now socket_after notes_after ledger_after (called_at app s number from (at event))
    → Steps keep list socket notes ledger socket_after notes_after ledger_after (raised app s number from (map at (take (i + 1) events)))
raised_more app s keep list number from at events i event socket socket_now socket_after notes notes_now notes_after ledger ledger_now ledger_after within here so_far step =
    let more : take (i + 1) events ≡ take i events ++ event ∷ [] = take_more events i 0 within ∙ ap (λ e. take i events ++ e ∷ []) (sym here) in
    let all : map at (take (i + 1) events) ≡ map at (take i events) ++ at event ∷ [] = ap (map at) more ∙ map-append at (take i events) (event ∷ []) in record {
      stands = λ others c u.
          let same : called_at app s number from (at event) (raised app s number from (map at (take i events)) c) ≡ raised app s number from (map at (take (i + 1) events)) c =
          sym (raised-append app s number from (map at (take i events)) (at event ∷ []) c ∙ raised-one app s number from (at event) (raised app s number from (map at (take i events)) c))
          ∙ ap (λ l. raised app s number from l c) (sym all) in
          subst (λ w. IsUnder keep others list socket_after notes_after ledger_after w) same (step.stands others (raised app s number from (map at (take i events)) c) (so_far.stands others c u));
    }

-- a raise at its packet
pub raise_as : (app : Meaning) (s : ControlState) (keep : Bool) (list : List Reg) (number n : ℕ) (from side : Side) (raise x : Raise)
    (socket socket_after : SocketView) (notes notes_after : Notes) (ledger ledger_after : Ledger)
    → n ≡ number → side ≡ from → x ≡ raise
    → Steps keep list socket notes ledger socket_after notes_after ledger_after (called_at app s n side x)
    → Steps keep list socket notes ledger socket_after notes_after ledger_after (called_at app s number from raise)
raise_as app s keep list number n from side raise x socket socket_after notes notes_after ledger ledger_after num who is step =
    subst (λ m. Steps keep list socket notes ledger socket_after notes_after ledger_after (called_at app s m from raise)) num
    (subst (λ w. Steps keep list socket notes ledger socket_after notes_after ledger_after (called_at app s n w raise)) who
    (subst (λ r. Steps keep list socket notes ledger socket_after notes_after ledger_after (called_at app s n side r)) is step))
