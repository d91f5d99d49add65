-- The callbacks of a raise are those that fire.
use Rattle.std.proofs.Common.{◌≡◌, ℕ, List, [], ◌∷◌, ◌++◌, map, sym, ap, ◌∙◌, append_assoc, append-nil}
use Rattle.std.proofs.lemmas.List.{map-append}
use Rattle.std.proofs.lemmas.List.Kept.{IsStrictlySortedBy-filter}
use Rattle.tcp_emulation.specs.declared.segment.Side.{Side}
use Rattle.app_api.specs.declared.registration.Reg.{Reg}
use Rattle.app_api.specs.App.{Meaning}
use Rattle.builtin_events.specs.declared.raise.Raise.{Raise}
use Rattle.event_trees.specs.Private.{reg_cmp}
use Rattle.event_trees.specs.Fires.{fires, is_called}
use Rattle.forest_versions.specs.State.{ControlState}
use Rattle.connection_core.specs.PacketUnderWay.{PacketUnderWay, called, called_all, called_at, settled, raise_done}
use Rattle.connection_core.specs.Laws.{Callback, callbacks_in, callback_of, callbacks_at, CallsWhatFires}
use Rattle.connection_core.proofs.Settling.{same-changed_all, phase-more}

abbrev callback_at : ℕ → Raise → Reg → Callback
callback_at number raise r = record { index = number; hook = raise.hook; event = r.event; reg = r.number }

called-one : (app : Meaning) (s : ControlState) (number : ℕ) (from : Side) (raise : Raise) (c : PacketUnderWay) (r : Reg)
    → callbacks_in (called app s number from raise c r).entries ≡ callbacks_in c.entries ++ callback_at number raise r ∷ []
unfolding called
called-one app s number from raise c r = map-append callback_of c.entries _

called-list : (app : Meaning) (s : ControlState) (number : ℕ) (from : Side) (raise : Raise) (c : PacketUnderWay) (list : List Reg)
    → callbacks_in (called_all app s number from raise c list).entries ≡ callbacks_in c.entries ++ map (callback_at number raise) list
called-list app s number from raise c [] = sym (append-nil (callbacks_in c.entries))
called-list app s number from raise c (r ∷ list) =
    called-list app s number from raise (called app s number from raise c r) list
    ∙ ap (λ l. l ++ map (callback_at number raise) list) (called-one app s number from raise c r)
    ∙ append_assoc (callbacks_in c.entries) (callback_at number raise r ∷ []) (map (callback_at number raise) list)

called-raise : (app : Meaning) (s : ControlState) (number : ℕ) (from : Side) (raise : Raise) (c : PacketUnderWay)
    → callbacks_in (called_at app s number from raise c).entries ≡ callbacks_in c.entries ++ callbacks_at number s.defs c.active raise
unfolding called_at
called-raise app s number from raise c = called-list app s number from raise c (fires s.defs raise.facts raise.hook raise.event c.active)

called-done : (app : Meaning) (s : ControlState) (number : ℕ) (from : Side) (raise : Raise) (c : PacketUnderWay)
    → callbacks_in (raise_done app s number from raise c).entries ≡ callbacks_in c.entries ++ callbacks_at number s.defs c.active raise
unfolding raise_done settled
called-done app s number from raise c =
    let d = called_at app s number from raise c in
    ap callbacks_in (same-changed_all s d.asked d).entries ∙ called-raise app s number from raise c

pub calls_what_fires : CallsWhatFires
calls_what_fires = record {
  raise_calls = called-done;
  raise_by_raise = phase-more;
  in_order = λ defs list facts hook event private. IsStrictlySortedBy-filter (reg_cmp defs) (is_called defs facts hook event) list private.sorted;
}
