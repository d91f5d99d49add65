-- The log application: it sees every packet, and asks nothing.
use Rattle.std.specs.Prelude.{true, [], ◌∷◌, refl}
use Rattle.std.proofs.Common.{lit≤}
use Rattle.native_filters.specs.declared.facts.Hook.{Hook}
use Rattle.native_filters.specs.declared.facts.Hook.TheVariants.{Snd, Rcv}
use Rattle.app_api.specs.App.{Meaning, IsLawful, RestsAt}
use Rattle.app_api.specs.Events.{PKT_IN, ORPHAN, allows_hook}
use Rattle.app_api.specs.Reg.{preset_reg}
use Rattle.app_api.specs.Reaction.{asks_nothing}
use Rattle.app_api.specs.Tally.{zeros}

-- the application that only logs: it sees every packet at both sides and every orphan, and asks nothing
unfoldable pub log : Meaning
log = record {
  presets = preset_reg 1 PKT_IN Snd true ∷ preset_reg 2 PKT_IN Rcv true ∷ preset_reg 3 ORPHAN Snd true ∷ [];
  fresh = zeros;
  react = λ t call rules. (t, asks_nothing);
  fields = λ t. [];
}

pub log-lawful : IsLawful log
unfolding log allows_hook
log-lawful = record {
  presets = refl;
  by_number = refl;
  names = λ t. refl;
  few = λ t. lit≤ tt;
  no_drop = λ t call rules rcv. refl;
}

pub log-rests : (hook : Hook) → RestsAt log hook
unfolding log
log-rests hook = λ t call rules at. refl
