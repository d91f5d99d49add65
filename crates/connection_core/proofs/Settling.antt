-- A raise with its changes, and the raises of a phase, one after the other.
use Rattle.std.proofs.Common.{◌≡◌, ℕ, ◌+◌, ◌<◌, ◌≤◌, Bool, true, false, cond, Some, None, Option, List, [], ◌∷◌, ◌++◌, length, map, take, drop, get_or, refl, sym, ap, subst, ◌∙◌, arith}
use Rattle.std.proofs.lemmas.List.{take_more, take-append-drop, map-append}
use Rattle.tcp_emulation.specs.declared.segment.Side.{Side}
use Rattle.flow_socket.specs.View.{SocketView, SocketStandsFor}
use Rattle.app_api.specs.declared.changes.Change1.{Change1}
use Rattle.app_api.specs.declared.registration.Reg.{Reg}
use Rattle.app_api.specs.App.{Meaning}
use Rattle.app_api.specs.Reg.{reg_of}
use Rattle.builtin_events.specs.declared.raise.Raise.{Raise}
use Rattle.event_trees.specs.Private.{edited}
use Rattle.event_trees.specs.Fires.{fires}
use Rattle.forest_versions.specs.State.{ControlState}
use Rattle.connection_core.specs.declared.ledger.Notes.{Notes}
use Rattle.connection_core.specs.declared.ledger.Counts.{Counts}
use Rattle.connection_core.specs.declared.ledger.Ledger.{Ledger}
use Rattle.connection_core.specs.PacketUnderWay.{PacketUnderWay, is_on, is_so, altered_to, called, called_all, called_at, switched, changed, changed_all, settled, raise_done, phase}
use Rattle.connection_core.specs.Trees.{InternsWithin}
use Rattle.connection_core.specs.Standing.{IsNoted, IsUnder, state_of, HasSame, Steps, Alters, Costs, CostsUnder, Reached, Makes}
use Rattle.connection_core.proofs.Changing.{within-same, within-on, within-up, changed_all_rises}

-- ---- what callbacks and changes leave alone

-- changes leave all but the private list
pub record SameBut (c d : PacketUnderWay) : Type 0 where
  pub emulation : d.emulation ≡ c.emulation
  pub tally : d.tally ≡ c.tally
  pub entries : d.entries ≡ c.entries
  pub drop : d.drop ≡ c.drop

same : (c : PacketUnderWay) → SameBut c c
same c = record { emulation = refl; tally = refl; entries = refl; drop = refl }

same-altered : (c : PacketUnderWay) (active : List Reg) → SameBut c (altered_to active c)
same-altered c active = record { emulation = refl; tally = refl; entries = refl; drop = refl }

same-switched : (s : ControlState) (o : Option Reg) (on : Bool) (c : PacketUnderWay) → SameBut c (switched s o on c)
same-switched s None on c = same c
same-switched s (Some r) on c =
    elim (is_so (is_on r.number c.active) on) as (λ b. SameBut c (cond b c (altered_to (edited s.defs c.active r on) c))) [
      | true ↦ same c
      | false ↦ same-altered c (edited s.defs c.active r on)
    ]

same-changed : (s : ControlState) (change : Change1) (c : PacketUnderWay) → SameBut c (changed s change c)
unfolding changed
same-changed s change c = same-switched s (reg_of s.regs change.reg) change.on c

same-on : (c d e : PacketUnderWay) → SameBut c d → SameBut d e → SameBut c e
same-on c d e p q = record {
  emulation = q.emulation ∙ p.emulation;
  tally = q.tally ∙ p.tally;
  entries = q.entries ∙ p.entries;
  drop = q.drop ∙ p.drop;
}

pub same-changed_all : (s : ControlState) (changes : List Change1) (c : PacketUnderWay) → SameBut c (changed_all s changes c)
same-changed_all s [] c = same c
same-changed_all s (change ∷ changes) c =
    same-on c (changed s change c) (changed_all s changes (changed s change c)) (same-changed s change c) (same-changed_all s changes (changed s change c))

altered-called : (app : Meaning) (s : ControlState) (number : ℕ) (from : Side) (raise : Raise) (c : PacketUnderWay) (r : Reg) → (called app s number from raise c r).altered ≡ c.altered
unfolding called
altered-called app s number from raise c r = refl

altered-called_all : (app : Meaning) (s : ControlState) (number : ℕ) (from : Side) (raise : Raise) (c : PacketUnderWay) (list : List Reg)
    → (called_all app s number from raise c list).altered ≡ c.altered
altered-called_all app s number from raise c [] = refl
altered-called_all app s number from raise c (r ∷ list) =
    altered-called_all app s number from raise (called app s number from raise c r) list ∙ altered-called app s number from raise c r

altered-called_at : (app : Meaning) (s : ControlState) (number : ℕ) (from : Side) (raise : Raise) (c : PacketUnderWay) → (called_at app s number from raise c).altered ≡ c.altered
unfolding called_at
altered-called_at app s number from raise c = altered-called_all app s number from raise c (fires s.defs raise.facts raise.hook raise.event c.active)

-- ---- a raise

-- a ledger with the same content stands for the same
pub under_room : (keep : Bool) (others : Counts) (list : List Reg) (socket : SocketView) (notes : Notes) (ledger roomy : Ledger) (c : PacketUnderWay)
    → HasSame ledger roomy → IsUnder keep others list socket notes ledger c → IsUnder keep others list socket notes roomy c
under_room keep others list socket notes ledger roomy c same u = record {
  heard = u.heard;
  active = u.active;
  noted = subst (λ n. IsNoted keep others c.tally c.entries notes n) (sym same.counts) u.noted;
  asked = same.changes ∙ u.asked;
  drop = same.drop ∙ u.drop;
}

settled_under : (s : ControlState) (keep : Bool) (others : Counts) (list after : List Reg) (i j : Option ℕ) (socket : SocketView) (notes : Notes) (ledger emptied : Ledger) (c : PacketUnderWay)
    → IsUnder keep others list socket notes ledger c → Alters list after i j (changed_all s ledger.changes.items)
    → emptied.changes.items ≡ [] → emptied.drop ≡ ledger.drop → emptied.counts ≡ ledger.counts
    → Reached keep others after socket notes emptied i j c.altered (settled s c)
unfolding settled
settled_under s keep others list after i j socket notes ledger emptied c u alters none drop counts =
    let all = same-changed_all s c.asked c in
    let asked : Alters list after i j (changed_all s c.asked) = subst (λ l. Alters list after i j (changed_all s l)) u.asked alters in
    let noted : IsNoted keep others c.tally c.entries notes emptied.counts = subst (λ n. IsNoted keep others c.tally c.entries notes n) (sym counts) u.noted in record {
      under = record {
        heard = subst (λ e. SocketStandsFor socket e) (sym all.emulation) u.heard;
        active = asked.made c u.active;
        noted = subst (λ t. IsNoted keep others t (changed_all s c.asked c).entries notes emptied.counts) (sym all.tally)
            (subst (λ l. IsNoted keep others c.tally l notes emptied.counts) (sym all.entries) noted);
        asked = none;
        drop = drop ∙ u.drop ∙ sym all.drop;
      };
      interned = asked.interned c u.active;
    }

pub raise_made : (app : Meaning) (s : ControlState) (keep : Bool) (list after : List Reg) (i j : Option ℕ) (number : ℕ) (from : Side) (raise : Raise)
    (socket socket_after : SocketView) (notes notes_after : Notes) (ledger called_for emptied : Ledger)
    → Steps keep list socket notes ledger socket_after notes_after called_for (called_at app s number from raise)
    → Alters list after i j (changed_all s called_for.changes.items)
    → emptied.changes.items ≡ [] → emptied.drop ≡ called_for.drop → emptied.counts ≡ called_for.counts
    → Makes keep list socket notes ledger i after socket_after notes_after emptied j (raise_done app s number from raise)
unfolding raise_done
raise_made app s keep list after i j number from raise socket socket_after notes notes_after ledger called_for emptied steps alters none drop_after counts_after = record {
  stands = λ others c u.
      let made = called_at app s number from raise c in
      let under = steps.stands others c u in
      let reached = settled_under s keep others list after i j socket_after notes_after called_for emptied made under alters none drop_after counts_after in
      subst (λ n. Reached keep others after socket_after notes_after emptied i j n (settled s made)) (altered-called_at app s number from raise c) reached;
}

-- one whose callbacks asked no change
pub raise_made_unasked : (app : Meaning) (s : ControlState) (keep : Bool) (list : List Reg) (i : Option ℕ) (number : ℕ) (from : Side) (raise : Raise)
    (socket socket_after : SocketView) (notes notes_after : Notes) (ledger ledger_after : Ledger)
    → Steps keep list socket notes ledger socket_after notes_after ledger_after (called_at app s number from raise)
    → ledger_after.changes.items ≡ []
    → Makes keep list socket notes ledger i list socket_after notes_after ledger_after i (raise_done app s number from raise)
raise_made_unasked app s keep list i number from raise socket socket_after notes notes_after ledger ledger_after steps none =
    let nothing : Alters list list i i (changed_all s []) = record { made = λ c is. is; interned = λ c is. within-same i c.altered } in
    raise_made app s keep list list i i number from raise socket socket_after notes notes_after ledger ledger_after ledger_after steps
    (subst (λ l. Alters list list i i (changed_all s l)) (sym none) nothing) none refl refl

raise_rises : (app : Meaning) (s : ControlState) (number : ℕ) (from : Side) (raise : Raise) (c : PacketUnderWay) → c.altered ≤ (raise_done app s number from raise c).altered
unfolding raise_done settled
raise_rises app s number from raise c =
    let made = called_at app s number from raise c in
    subst (λ n. n ≤ (changed_all s made.asked made).altered) (altered-called_at app s number from raise c) (changed_all_rises s made.asked made)

-- a raise that failed before its changes
pub raise_costs_none : (app : Meaning) (s : ControlState) (keep : Bool) (list : List Reg) (i : Option ℕ) (number : ℕ) (from : Side) (raise : Raise)
    (socket : SocketView) (notes : Notes) (ledger : Ledger)
    → CostsUnder keep list (state_of socket notes ledger) i i (raise_done app s number from raise)
raise_costs_none app s keep list i number from raise socket notes ledger = record {
  interned = λ others c u. within-up i i c.altered c.altered (raise_done app s number from raise c).altered (raise_rises app s number from raise c) (within-same i c.altered);
}

-- one that failed among them
pub raise_costs : (app : Meaning) (s : ControlState) (keep : Bool) (list : List Reg) (i j : Option ℕ) (number : ℕ) (from : Side) (raise : Raise)
    (socket socket_after : SocketView) (notes notes_after : Notes) (ledger called_for : Ledger)
    → Steps keep list socket notes ledger socket_after notes_after called_for (called_at app s number from raise)
    → Costs list i j (changed_all s called_for.changes.items)
    → CostsUnder keep list (state_of socket notes ledger) i j (raise_done app s number from raise)
unfolding raise_done settled
raise_costs app s keep list i j number from raise socket socket_after notes notes_after ledger called_for steps costs = record {
  interned = λ others c u.
      let made = called_at app s number from raise c in
      let under = steps.stands others c u in
      let asked : InternsWithin i j made.altered (changed_all s made.asked made).altered =
      subst (λ l. InternsWithin i j made.altered (changed_all s l made).altered) under.asked (costs.interned made under.active) in
      subst (λ n. InternsWithin i j n (changed_all s made.asked made).altered) (altered-called_at app s number from raise c) asked;
}

-- a raise at its packet, whatever is known of it
pub raise_as : (P : (PacketUnderWay → PacketUnderWay) → Type 0) (app : Meaning) (s : ControlState) (number n : ℕ) (from side : Side) (raise x : Raise)
    → n ≡ number → side ≡ from → x ≡ raise → P (raise_done app s n side x) → P (raise_done app s number from raise)
raise_as P app s number n from side raise x num who is made =
    subst (λ m. P (raise_done app s m from raise)) num (subst (λ w. P (raise_done app s n w raise)) who (subst (λ r. P (raise_done app s n side r)) is made))

-- ---- the raises of a phase

pub phase-append : (app : Meaning) (s : ControlState) (number : ℕ) (from : Side) (xs ys : List Raise) (c : PacketUnderWay)
    → phase app s number from (xs ++ ys) c ≡ phase app s number from ys (phase app s number from xs c)
unfolding phase
phase-append app s number from [] ys c = refl
phase-append app s number from (x ∷ xs) ys c = phase-append app s number from xs ys (raise_done app s number from x c)

-- one raise more
pub phase-more : (app : Meaning) (s : ControlState) (number : ℕ) (from : Side) (raises : List Raise) (raise : Raise) (c : PacketUnderWay)
    → phase app s number from (raises ++ raise ∷ []) c ≡ raise_done app s number from raise (phase app s number from raises c)
unfolding phase
phase-more app s number from [] raise c = refl
phase-more app s number from (x ∷ xs) raise c = phase-more app s number from xs raise (raise_done app s number from x c)

pub phase_rises : (app : Meaning) (s : ControlState) (number : ℕ) (from : Side) (raises : List Raise) (c : PacketUnderWay) → c.altered ≤ (phase app s number from raises c).altered
unfolding phase
phase_rises app s number from [] c = omega arith
phase_rises app s number from (raise ∷ raises) c =
    let one = raise_rises app s number from raise c in
    let others = phase_rises app s number from raises (raise_done app s number from raise c) in omega (arith, one, others)

pub phase_begun : (app : Meaning) (s : ControlState) (keep : Bool) (list : List Reg) (i : Option ℕ) (number : ℕ) (from : Side) (socket : SocketView) (notes : Notes) (ledger : Ledger)
    → Makes keep list socket notes ledger i list socket notes ledger i (phase app s number from [])
unfolding phase
phase_begun app s keep list i number from socket notes ledger = record { stands = λ others c u. record { under = u; interned = within-same i c.altered } }

front_more : (at : ℕ → Raise) (events : List ℕ) (n : ℕ) → n < length events → map at (take (n + 1) events) ≡ map at (take n events) ++ at (get_or events n 0) ∷ []
front_more at events n within = ap (map at) (take_more events n 0 within) ∙ map-append at (take n events) (get_or events n 0 ∷ [])

-- the raise of the next event after those made so far
pub phase_on : (app : Meaning) (s : ControlState) (keep : Bool) (number : ℕ) (from : Side) (at : ℕ → Raise) (events : List ℕ) (n : ℕ)
    (list list_now list_after : List Reg) (socket socket_now socket_after : SocketView) (notes notes_now notes_after : Notes) (ledger ledger_now ledger_after : Ledger) (i j k : Option ℕ)
    → n < length events
    → Makes keep list socket notes ledger i list_now socket_now notes_now ledger_now j (phase app s number from (map at (take n events)))
    → Makes keep list_now socket_now notes_now ledger_now j list_after socket_after notes_after ledger_after k (raise_done app s number from (at (get_or events n 0)))
    → Makes keep list socket notes ledger i list_after socket_after notes_after ledger_after k (phase app s number from (map at (take (n + 1) events)))
phase_on app s keep number from at events n list list_now list_after socket socket_now socket_after notes notes_now notes_after ledger ledger_now ledger_after i j k within so_far one = record {
  stands = λ others c u.
      let front = map at (take n events) in
      let raise = at (get_or events n 0) in
      let before = phase app s number from front c in
      let reached = so_far.stands others c u in
      let next = one.stands others before reached.under in
      let same : raise_done app s number from raise before ≡ phase app s number from (map at (take (n + 1) events)) c =
      sym (ap (λ l. phase app s number from l c) (front_more at events n within) ∙ phase-more app s number from front raise c) in
      subst (λ (w : PacketUnderWay). Reached keep others list_after socket_after notes_after ledger_after i k c.altered w) same
      (record { under = next.under; interned = within-on i j k c.altered before.altered (raise_done app s number from raise before).altered reached.interned next.interned });
}

-- where a raise failed, and those after it weren't made
pub phase_failed : (app : Meaning) (s : ControlState) (keep : Bool) (number : ℕ) (from : Side) (at : ℕ → Raise) (events : List ℕ) (n : ℕ)
    (list list_now : List Reg) (socket socket_now : SocketView) (notes notes_now : Notes) (ledger ledger_now : Ledger) (i j k : Option ℕ)
    → n < length events
    → Makes keep list socket notes ledger i list_now socket_now notes_now ledger_now j (phase app s number from (map at (take n events)))
    → CostsUnder keep list_now (state_of socket_now notes_now ledger_now) j k (raise_done app s number from (at (get_or events n 0)))
    → CostsUnder keep list (state_of socket notes ledger) i k (phase app s number from (map at events))
phase_failed app s keep number from at events n list list_now socket socket_now notes notes_now ledger ledger_now i j k within so_far one = record {
  interned = λ others c u.
      let front = map at (take n events) in
      let raise = at (get_or events n 0) in
      let before = phase app s number from front c in
      let failed = raise_done app s number from raise before in
      let left = map at (drop (n + 1) events) in
      let reached = so_far.stands others c u in
      let up = within-on i j k c.altered before.altered failed.altered reached.interned (one.interned others before reached.under) in
      let all : map at events ≡ map at (take (n + 1) events) ++ left =
      ap (map at) (sym (take-append-drop (n + 1) events)) ∙ map-append at (take (n + 1) events) (drop (n + 1) events) in
      let same : phase app s number from (map at events) c ≡ phase app s number from left failed =
      ap (λ l. phase app s number from l c) all ∙ phase-append app s number from (map at (take (n + 1) events)) left c
      ∙ ap (phase app s number from left) (ap (λ l. phase app s number from l c) (front_more at events n within) ∙ phase-more app s number from front raise c) in
      subst (λ (w : PacketUnderWay). InternsWithin i k c.altered w.altered) (sym same)
      (within-up i k c.altered failed.altered (phase app s number from left failed).altered (phase_rises app s number from left failed) up);
}
