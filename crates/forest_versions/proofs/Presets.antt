-- Presets, each put at its place among those before it.
use Rattle.std.proofs.lemmas.List.{drop_more}
use Rattle.std.proofs.lemmas.List.Elements.{All-nil}
use Rattle.std.proofs.Common.{◌≡◌, ℕ, ◌+◌, ◌<◌, length, get_or, ap, subst, ◌≤◌, Bool, true, false, eqb, leb, List, [], ◌∷◌, drop, refl, sym, ◌∙◌}
use Rattle.std.specs.Prelude.{◌≢◌, ◌==◌, ◌&&◌, ◌||◌, IsTrue, not, is_some}
use Rattle.std.specs.List.{All, AllByRecursion, fold, list_all, list_any}
use Rattle.std.proofs.lemmas.Bool.{and_parts, or_left, eqb-false, leb-true}
use Rattle.native_filters.specs.declared.facts.Hook.{Hook}
use Rattle.app_api.specs.declared.registration.Reg.{Reg}
use Rattle.app_api.specs.Numbers.{all_differ}
use Rattle.app_api.specs.Reg.{is_preset, are_presets, peek_fits}
use Rattle.native_filters.specs.Hook.{is_hook}
use Rattle.native_filters.specs.declared.facts.Hook.TheVariants.{Rcv}
use Rattle.app_api.specs.Events.{allows_hook}
use Rattle.app_api.specs.EventLaws.{allowed-built_in}
use Rattle.event_trees.specs.declared.defs.EventDef.{EventDef}
use Rattle.event_trees.specs.Defs.{is_event, is_root, found}
use Rattle.event_trees.specs.Private.{IsPrivate, numbers_of, put_reg}
use Rattle.forest_versions.specs.State.{presets_in}
use Rattle.forest_versions.proofs.Regs.{all-put, All-put, private-none}

-- presets that are still to be put to these registrations
pub record ArePuttable (regs presets : List Reg) : Type 0 where
  pub fit : list_all is_preset presets ≡ true
  pub differ : all_differ (numbers_of presets) ≡ true
  pub apart : AllByRecursion (λ r. AllByRecursion (λ s. s.number ≢ r.number) regs) presets

none-apart : (presets : List Reg) → AllByRecursion (λ r. AllByRecursion (λ (s : Reg). s.number ≢ r.number) []) presets
none-apart [] = tt
none-apart (r ∷ presets) = (tt, none-apart presets)

pub puttable-first : (presets : List Reg) → IsTrue (are_presets presets) → ArePuttable [] presets
puttable-first presets lawful =
    let parts = and_parts (list_all is_preset presets) (all_differ (numbers_of presets)) lawful in
    record { fit = parts.0; differ = parts.1; apart = none-apart presets }

-- a number that stands nowhere in a list
absent-in : (n : ℕ) (ns : List ℕ) → list_any (λ m. m == n) ns ≡ false → AllByRecursion (λ m. n ≢ m) ns
absent-in n [] h = tt
absent-in n (m ∷ ns) h =
    elim (eqb m n) as (λ b. eqb m n ≡ b → (b || list_any (λ k. k == n) ns) ≡ false → AllByRecursion (λ k. n ≢ k) (m ∷ ns)) [
      | true ↦ λ e h. cc
      | false ↦ λ e h. (λ same. eqb-false m n e (sym same), absent-in n ns h)
    ] refl h

still-apart : (defs : List EventDef) (regs : List Reg) (r : Reg) (presets : List Reg) → AllByRecursion (λ m. r.number ≢ m) (numbers_of presets)
    → AllByRecursion (λ q. AllByRecursion (λ s. s.number ≢ q.number) regs) presets → AllByRecursion (λ q. AllByRecursion (λ s. s.number ≢ q.number) (put_reg defs r regs)) presets
still-apart defs regs r [] other apart = tt
still-apart defs regs r (q ∷ presets) other apart =
    (all-put (λ (s : Reg). s.number ≢ q.number) defs r regs apart.0 other.0, still-apart defs regs r presets other.1 apart.1)

not-true : (b : Bool) → not b ≡ true → b ≡ false
not-true true e = cc
not-true false e = refl

pub puttable-next : (defs : List EventDef) (regs : List Reg) (r : Reg) (presets : List Reg) → ArePuttable regs (r ∷ presets) → ArePuttable (put_reg defs r regs) presets
puttable-next defs regs r presets h =
    let fit = and_parts (is_preset r) (list_all is_preset presets) h.fit in
    let differ = and_parts (not (list_any (λ m. m == r.number) (numbers_of presets))) (all_differ (numbers_of presets)) h.differ in
    record {
      fit = fit.1;
      differ = differ.1;
      apart = still-apart defs regs r presets
          (absent-in r.number (numbers_of presets) (not-true (list_any (λ m. m == r.number) (numbers_of presets)) differ.0)) h.apart.1;
    }

-- what a preset is known to be
pub record IsFit (r : Reg) : Type 0 where
  pub low : 1 ≤ r.number
  pub hook : allows_hook r.event r.hook ≡ true
  pub peek : IsTrue (peek_fits r.peek)

pub preset-fits : (regs : List Reg) (r : Reg) (presets : List Reg) → ArePuttable regs (r ∷ presets) → IsFit r
preset-fits regs r presets h =
    let range : Bool = leb 1 r.number && leb r.number 15 in
    let is = and_parts (is_preset r) (list_all is_preset presets) h.fit in
    let four = and_parts (range && allows_hook r.event r.hook && peek_fits r.peek) (not (is_hook r.hook Rcv && r.action.drop)) is.0 in
    let three = and_parts (range && allows_hook r.event r.hook) (peek_fits r.peek) four.0 in
    let two = and_parts range (allows_hook r.event r.hook) three.0 in
    let one = and_parts (leb 1 r.number) (leb r.number 15) two.0 in
    record { low = leb-true 1 r.number one.0; hook = two.1; peek = three.1 }

-- a hook is only allowed at a built-in event
pub allowed-root : (event : ℕ) (hook : Hook) → allows_hook event hook ≡ true → is_root event ≡ true
allowed-root event hook h = allowed-built_in event hook h

-- a built-in event is there, whatever is defined
pub root-there : (defs : List EventDef) (event : ℕ) → is_root event ≡ true → IsTrue (is_event defs event)
root-there defs event h = or_left (is_root event) (is_some (found defs event)) h

-- presets of which so many are placed
pub record Placing (defs : List EventDef) (presets regs : List Reg) (count : ℕ) : Type 0 where
  pub listed : presets_in presets ≡ fold (λ list r. put_reg [] r list) regs (drop count presets)
  pub puttable : ArePuttable regs (drop count presets)
  pub private : IsPrivate defs regs
  pub peeks : All (λ r. IsTrue (peek_fits r.peek)) regs

here : (presets : List Reg) (i : ℕ) (r : Reg) → i < length presets → r ≡ get_or presets i r → drop i presets ≡ r ∷ drop (i + 1) presets
here presets i r within is = drop_more presets i r within ∙ ap (λ (q : Reg). q ∷ drop (i + 1) presets) (sym is)

pub placing-fits : (defs : List EventDef) (presets regs : List Reg) (i : ℕ) (r : Reg) → Placing defs presets regs i → i < length presets → r ≡ get_or presets i r → IsFit r
placing-fits defs presets regs i r h within is = preset-fits regs r (drop (i + 1) presets) (subst (ArePuttable regs) (here presets i r within is) h.puttable)

pub placing-first : (defs : List EventDef) (presets : List Reg) → IsTrue (are_presets presets) → Placing defs presets [] 0
placing-first defs presets lawful = record { listed = refl; puttable = puttable-first presets lawful; private = private-none defs; peeks = All-nil (λ (r : Reg). IsTrue (peek_fits r.peek)) }

pub placing-next : (defs : List EventDef) (presets regs : List Reg) (i : ℕ) (r : Reg) → defs ≡ [] → Placing defs presets regs i → i < length presets
    → r ≡ get_or presets i r → IsPrivate defs (put_reg defs r regs) → Placing defs presets (put_reg defs r regs) (i + 1)
placing-next defs presets regs i r none h within is private =
    let rest : drop i presets ≡ r ∷ drop (i + 1) presets = here presets i r within is in
    let fits = placing-fits defs presets regs i r h within is in
    record {
      listed = h.listed ∙ (ap (fold (λ list q. put_reg [] q list) regs) rest ∙ ap (λ (d : List EventDef). fold (λ list q. put_reg [] q list) (put_reg d r regs) (drop (i + 1) presets)) (sym none));
      puttable = puttable-next defs regs r (drop (i + 1) presets) (subst (ArePuttable regs) rest h.puttable);
      private = private;
      peeks = All-put (λ (q : Reg). IsTrue (peek_fits q.peek)) defs r regs h.peeks fits.peek;
    }
