-- The rule that matches anywhere.
use Rattle.std.proofs.Common.{◌≡◌, ℕ, ◌^◌, ◌<◌, ◌&&◌, Bool, true, false, cond, eqb, ltb, leb, [], ◌∷◌, Some, None, refl, ap, arith}
use Rattle.std.proofs.lemmas.Bool.{and_parts, and_from, ltb-true, le-leb}
use Rattle.native_filters.specs.declared.facts.Facts.{Facts}
use Rattle.app_api.specs.declared.app.Call.{Call}
use Rattle.app_api.specs.declared.app.Tally.{Tally}
use Rattle.app_api.specs.declared.reaction.Reaction.{Reaction}
use Rattle.app_api.specs.Reaction.{asks_nothing}
use Rattle.app_firewall.specs.Decision.{decided_by, decision, is_in, matches}
use Rattle.app_firewall.specs.Firewall.{is_packet, is_refused_orphan, firewall_asked}
use Rattle.app_firewall.specs.Laws.{allow_any, has_tcp_ports}

-- the rule matches where the server's port is as wide as it should be
anywhere : (client server port : ℕ) → port < 2 ^ 16 → (is_in client 0 0 && is_in server 0 0 && leb 0 port && leb port 65535) ≡ true
anywhere client server port wide =
    and_from (is_in client 0 0 && is_in server 0 0 && leb 0 port) (leb port 65535)
    (and_from (is_in client 0 0 && is_in server 0 0) (leb 0 port) refl (le-leb 0 port (omega arith)))
    (le-leb port 65535 (omega arith))

pub allowed : (number : ℕ) (facts : Facts) → has_tcp_ports facts ≡ true → decision (allow_any number ∷ []) facts ≡ (true, number)
allowed number facts wide =
    let ports = and_parts (ltb facts.sport (2 ^ 16)) (ltb facts.dport (2 ^ 16)) wide in
    let holds : matches facts (allow_any number) ≡ true =
    elim (eqb facts.dir 0) as (λ b. (is_in (cond b facts.src facts.dst) 0 0 && is_in (cond b facts.dst facts.src) 0 0
    && leb 0 (cond b facts.dport facts.sport) && leb (cond b facts.dport facts.sport) 65535) ≡ true) [
      | true ↦ anywhere facts.src facts.dst facts.dport (ltb-true facts.dport (2 ^ 16) ports.1)
      | false ↦ anywhere facts.dst facts.src facts.sport (ltb-true facts.sport (2 ^ 16) ports.0)
    ] in
    ap (λ b. decided_by (cond b (Some (allow_any number)) None)) holds

-- what is allowed asks no drop, but for an orphan's
pub passes : (t : Tally) (call : Call) (decided : Bool × ℕ) → decided.0 ≡ true → is_refused_orphan call ≡ false
    → (firewall_asked call decided).drop ≡ None
passes t call decided allow orphan =
    rw allow (rw orphan (elim (is_packet call) as (λ b. (cond {A = Reaction} b asks_nothing asks_nothing).drop ≡ None) [ true ↦ refl | false ↦ refl ]))
