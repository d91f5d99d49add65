-- Who hears an event of the tree of a private list: those of the list that have the hook and stand under it. Where that is one, a
-- raise calls that one, and where it is none, none.
use Rattle.std.proofs.Common.{◌≡◌, ℕ, Bool, true, false, cond, eqb, ◌&&◌, ◌||◌, List, [], ◌∷◌, ◌++◌, None, Option, refl, sym, ap, subst, ◌∙◌}
use Rattle.std.specs.Prelude.{IsTrue}
use Rattle.std.proofs.lemmas.Bool.{eqb-true}
use Rattle.native_filters.specs.declared.facts.Facts.{Facts}
use Rattle.native_filters.specs.declared.facts.Hook.{Hook}
use Rattle.native_filters.specs.declared.facts.Hook.TheVariants.{Snd, Rcv}
use Rattle.shared_forest.specs.declared.node.Slot.{Slot}
use Rattle.app_api.specs.declared.hearers.Hearers.{Hearers}
use Rattle.app_api.specs.declared.hearers.Hearers.TheVariants.{Nobody, One, More}
use Rattle.app_api.specs.Hearers.{joined, deep, is_any}
use Rattle.app_api.specs.HearerLaws.{joined-assoc, deep-joined, if-joined, if-nobody, any-joined}
use Rattle.native_filters.specs.Hook.{is_hook}
use Rattle.shared_forest.specs.Listing.{Shown}
use Rattle.shared_forest.specs.Heard.{with_hook, on_path, hearers_of, is_heard}
use Rattle.app_api.specs.declared.registration.Reg.{Reg}
use Rattle.event_trees.specs.declared.defs.EventDef.{EventDef}
use Rattle.event_trees.specs.Defs.{found, is_root, path, AreDefs}
use Rattle.event_trees.specs.Private.{numbers_of}
use Rattle.event_trees.specs.Canon.{Placed, placed, canon}
use Rattle.event_trees.specs.Edit.{IsForestOf}
use Rattle.event_trees.specs.Fires.{filter_means, filters_mean, begins_with, is_called, fires, hears}
use Rattle.event_trees.specs.ReadOff.{all_at, read_off}
use Rattle.event_trees.proofs.Sorted.{rises}
use Rattle.event_trees.proofs.Whole.{whole}
use Rattle.event_trees.proofs.Paths.{knows}
use Rattle.event_trees.proofs.Firing.{root-unfound}

-- ---- from the listing to the list

on_path-nobody : (event : ℕ) (p : List ℕ) → on_path event p Nobody ≡ Nobody
on_path-nobody event [] = refl
on_path-nobody event (e ∷ []) = if-nobody (eqb e event)
on_path-nobody event (e ∷ f ∷ fs) = if-nobody (eqb e event)

on_path-joined : (event : ℕ) (p : List ℕ) (a b : Hearers) → on_path event p (joined a b) ≡ joined (on_path event p a) (on_path event p b)
on_path-joined event [] a b = refl
on_path-joined event (e ∷ []) a b = if-joined (eqb e event) a b
on_path-joined event (e ∷ f ∷ fs) a b = ap (λ (h : Hearers). cond (eqb e event) h Nobody) (deep-joined a b) ∙ if-joined (eqb e event) (deep a) (deep b)

-- one registration at the end of a path
abbrev alone : Hook → ℕ → List ℕ → Hook → ℕ → Hearers
alone hook event p own number = on_path event p (cond (is_hook own hook) (One number) Nobody)

abbrev heard_placed : Hook → ℕ → List Placed → Hearers
heard_placed hook event [] = Nobody
heard_placed hook event (r ∷ rs) = joined (alone hook event r.path r.slot.hook r.slot.number) (heard_placed hook event rs)

placed-append : (hook : Hook) (event : ℕ) (xs ys : List Placed) → heard_placed hook event (xs ++ ys) ≡ joined (heard_placed hook event xs) (heard_placed hook event ys)
placed-append hook event [] ys = refl
placed-append hook event (x ∷ xs) ys =
    ap (λ (h : Hearers). joined (alone hook event x.path x.slot.hook x.slot.number) h) (placed-append hook event xs ys)
    ∙ sym (joined-assoc (alone hook event x.path x.slot.hook x.slot.number) (heard_placed hook event xs) (heard_placed hook event ys))

heard-at : (hook : Hook) (event : ℕ) (p : List ℕ) (slots : List Slot) → on_path event p (with_hook hook slots) ≡ heard_placed hook event (all_at p slots)
heard-at hook event p [] = on_path-nobody event p
heard-at hook event p (s ∷ slots) =
    on_path-joined event p (cond (is_hook s.hook hook) (One s.number) Nobody) (with_hook hook slots)
    ∙ ap (λ (h : Hearers). joined (alone hook event p s.hook s.number) h) (heard-at hook event p slots)

heard-read_off : (hook : Hook) (event : ℕ) (shown : List Shown) → hearers_of hook event shown ≡ heard_placed hook event (read_off shown)
heard-read_off hook event [] = refl
heard-read_off hook event (s ∷ ss) =
    ap (λ (h : Hearers). joined h (hearers_of hook event ss)) (heard-at hook event s.path s.slots) ∙
    (ap (λ (h : Hearers). joined (heard_placed hook event (all_at s.path s.slots)) h) (heard-read_off hook event ss) ∙
    sym (placed-append hook event (all_at s.path s.slots) (read_off ss)))

hearers-forest : (defs : List EventDef) (list : List Reg) (hook : Hook) (event : ℕ) (shown : List Shown) → IsForestOf defs list shown
    → hearers_of hook event shown ≡ heard_placed hook event (placed defs list)
hearers-forest defs list hook event shown forest =
    ap (hearers_of hook event) forest.listed ∙ (heard-read_off hook event (canon defs list) ∙
    ap (heard_placed hook event) (whole (placed defs list) (rises defs list forest.private.sorted)))

-- ---- whether there is any

any-alone : (hook : Hook) (event : ℕ) (p : List ℕ) (own : Hook) (number : ℕ) → is_any (alone hook event p own number) ≡ (is_hook own hook && begins_with event p)
any-alone hook event p own number =
    elim (is_hook own hook) as (λ b. is_any (on_path event p (cond b (One number) Nobody)) ≡ (b && begins_with event p)) [
      | true ↦ there p
      | false ↦ ap is_any (on_path-nobody event p)
    ]
  where
    tested : (b : Bool) (h : Hearers) → is_any h ≡ true → is_any (cond b h Nobody) ≡ b
    tested true h is = is
    tested false h is = refl

    there : (p : List ℕ) → is_any (on_path event p (One number)) ≡ begins_with event p
    there [] = refl
    there (e ∷ []) = tested (eqb e event) (One number) refl
    there (e ∷ f ∷ fs) = tested (eqb e event) More refl

any-placed : (defs : List EventDef) (hook : Hook) (event : ℕ) (list : List Reg) → is_any (heard_placed hook event (placed defs list)) ≡ hears defs hook event list
any-placed defs hook event [] = refl
any-placed defs hook event (r ∷ list) =
    any-joined (alone hook event (path defs r.event) r.hook r.number) (heard_placed hook event (placed defs list))
    ∙ (ap (λ (b : Bool). b || is_any (heard_placed hook event (placed defs list))) (any-alone hook event (path defs r.event) r.hook r.number)
    ∙ ap (λ (b : Bool). (is_hook r.hook hook && begins_with event (path defs r.event)) || b) (any-placed defs hook event list))

pub heard-forest : (defs : List EventDef) (list : List Reg) (hook : Hook) (event : ℕ) (shown : List Shown) → IsForestOf defs list shown
    → is_heard hook event shown ≡ hears defs hook event list
heard-forest defs list hook event shown forest =
    ap is_any (hearers-forest defs list hook event shown forest) ∙ any-placed defs hook event list

-- ---- from the list to what is called

joined-none : (a b : Hearers) → joined a b ≡ Nobody → (a ≡ Nobody) × (b ≡ Nobody)
joined-none Nobody b is = (refl, is)
joined-none (One n) Nobody is = cc
joined-none (One n) (One m) is = cc
joined-none (One n) More is = cc
joined-none More b is = cc

-- one is either the first or among the rest
joined-one : (P : Type 0) (a b : Hearers) (n : ℕ) → joined a b ≡ One n → (a ≡ One n → b ≡ Nobody → P) → (a ≡ Nobody → b ≡ One n → P) → P
joined-one P Nobody b n is first later = later refl is
joined-one P (One m) Nobody n is first later = first is refl
joined-one P (One m) (One k) n is first later = cc
joined-one P (One m) More n is first later = cc
joined-one P More b n is first later = cc

-- the hook and the root of a registration that nobody hears differ from these
silent : (hook : Hook) (event : ℕ) (p : List ℕ) (own : Hook) (number : ℕ) (f : Bool) → alone hook event p own number ≡ Nobody
    → (is_hook own hook && (begins_with event p && f)) ≡ false
silent Snd event p Rcv number f is = refl
silent Rcv event p Snd number f is = refl
silent Snd event p Snd number f is = unheard event p number f is
  where
    unheard : (event : ℕ) (p : List ℕ) (number : ℕ) (f : Bool) → on_path event p (One number) ≡ Nobody → (begins_with event p && f) ≡ false
    unheard event [] number f is = refl
    unheard event (e ∷ []) number f is = elim (eqb e event) as (λ b. cond b (One number) Nobody ≡ Nobody → (b && f) ≡ false) [ true ↦ λ h. cc | false ↦ λ h. refl ] is
    unheard event (e ∷ g ∷ gs) number f is = elim (eqb e event) as (λ b. cond b More Nobody ≡ Nobody → (b && f) ≡ false) [ true ↦ λ h. cc | false ↦ λ h. refl ] is
silent Rcv event p Rcv number f is = unheard event p number f is
  where
    unheard : (event : ℕ) (p : List ℕ) (number : ℕ) (f : Bool) → on_path event p (One number) ≡ Nobody → (begins_with event p && f) ≡ false
    unheard event [] number f is = refl
    unheard event (e ∷ []) number f is = elim (eqb e event) as (λ b. cond b (One number) Nobody ≡ Nobody → (b && f) ≡ false) [ true ↦ λ h. cc | false ↦ λ h. refl ] is
    unheard event (e ∷ g ∷ gs) number f is = elim (eqb e event) as (λ b. cond b More Nobody ≡ Nobody → (b && f) ≡ false) [ true ↦ λ h. cc | false ↦ λ h. refl ] is

-- one that is heard alone stands at the root
pub record IsAt (hook : Hook) (event : ℕ) (p : List ℕ) (own : Hook) (number n : ℕ) : Type 0 where
  pub hooked : is_hook own hook ≡ true
  pub root : eqb event event ≡ true
  pub there : p ≡ event ∷ []
  pub named : number ≡ n

at-one : (event : ℕ) (p : List ℕ) (number n : ℕ) → on_path event p (One number) ≡ One n → (eqb event event ≡ true) × (p ≡ event ∷ []) × (number ≡ n)
at-one event [] number n is = cc
at-one event (e ∷ []) number n is =
    elim (eqb e event) as (λ b. eqb e event ≡ b → cond b (One number) Nobody ≡ One n → (eqb event event ≡ true) × (e ∷ [] ≡ event ∷ []) × (number ≡ n)) [
      | true ↦ λ t h. let same : e ≡ event = eqb-true e event t in (subst (λ (k : ℕ). eqb k event ≡ true) same t, ap (λ (k : ℕ). k ∷ []) same, cc)
      | false ↦ λ t h. cc
    ] refl is
at-one event (e ∷ g ∷ gs) number n is = elim (eqb e event) as (λ b. cond b More Nobody ≡ One n → (eqb event event ≡ true) × (e ∷ g ∷ gs ≡ event ∷ []) × (number ≡ n)) [ true ↦ λ h. cc | false ↦ λ h. cc ] is

is-at : (hook : Hook) (event : ℕ) (p : List ℕ) (own : Hook) (number n : ℕ) → alone hook event p own number ≡ One n → IsAt hook event p own number n
is-at Snd event p Rcv number n is = let none : Nobody ≡ One n = sym (on_path-nobody event p) ∙ is in cc
is-at Rcv event p Snd number n is = let none : Nobody ≡ One n = sym (on_path-nobody event p) ∙ is in cc
is-at Snd event p Snd number n is = let at = at-one event p number n is in record { hooked = refl; root = at.0; there = at.1; named = at.2 }
is-at Rcv event p Rcv number n is = let at = at-one event p number n is in record { hooked = refl; root = at.0; there = at.1; named = at.2 }

none-called : (defs : List EventDef) (facts : Facts) (hook : Hook) (event : ℕ) (list : List Reg) → heard_placed hook event (placed defs list) ≡ Nobody
    → fires defs facts hook event list ≡ []
none-called defs facts hook event [] is = refl
none-called defs facts hook event (r ∷ list) is =
    let p : List ℕ = path defs r.event in
    let both = joined-none (alone hook event p r.hook r.number) (heard_placed hook event (placed defs list)) is in
    let not_called : is_called defs facts hook event r ≡ false = silent hook event p r.hook r.number (filters_mean defs facts p) both.0 in
    ap (λ (b : Bool). cond b (r ∷ fires defs facts hook event list) (fires defs facts hook event list)) not_called ∙
    none-called defs facts hook event list both.1

one-called : (defs : List EventDef) (facts : Facts) (hook : Hook) (event n : ℕ) (list : List Reg) → found defs event ≡ None
    → heard_placed hook event (placed defs list) ≡ One n → numbers_of (fires defs facts hook event list) ≡ n ∷ []
one-called defs facts hook event n [] none is = cc
one-called defs facts hook event n (r ∷ list) none is =
    let p : List ℕ = path defs r.event in
    let rest : List Reg = fires defs facts hook event list in
    joined-one (numbers_of (cond (is_called defs facts hook event r) (r ∷ rest) rest) ≡ n ∷ [])
    (alone hook event p r.hook r.number) (heard_placed hook event (placed defs list)) n is
    (λ here after.
    let at = is-at hook event p r.hook r.number n here in
    let asked : filters_mean defs facts (event ∷ []) ≡ true = ap (λ (o : Option EventDef). filter_means o facts && true) none in
    let passed : filters_mean defs facts p ≡ true = ap (filters_mean defs facts) at.there ∙ asked in
    let begun : begins_with event p ≡ true = ap (begins_with event) at.there ∙ at.root in
    let called : is_called defs facts hook event r ≡ true =
    ap (λ (b : Bool). b && (begins_with event p && filters_mean defs facts p)) at.hooked ∙ (ap (λ (b : Bool). b && filters_mean defs facts p) begun ∙ passed) in
    let alone_there : rest ≡ [] = none-called defs facts hook event list after in
    ap (λ (b : Bool). numbers_of (cond b (r ∷ rest) rest)) called ∙ (ap (λ (l : List Reg). r.number ∷ numbers_of l) alone_there ∙ ap (λ (k : ℕ). k ∷ []) at.named))
    (λ here after.
    let not_called : is_called defs facts hook event r ≡ false = silent hook event p r.hook r.number (filters_mean defs facts p) here in
    ap (λ (b : Bool). numbers_of (cond b (r ∷ rest) rest)) not_called ∙ one-called defs facts hook event n list none after)

pub one_hearer : (defs : List EventDef) (list : List Reg) (hook : Hook) (event n : ℕ) (shown : List Shown) → IsForestOf defs list shown → AreDefs defs → IsTrue (is_root event)
    → hearers_of hook event shown ≡ One n → (facts : Facts) → numbers_of (fires defs facts hook event list) ≡ n ∷ []
one_hearer defs list hook event n shown forest are root is facts =
    one-called defs facts hook event n list (root-unfound defs event (knows defs are) root) (sym (hearers-forest defs list hook event shown forest) ∙ is)

pub no_hearer : (defs : List EventDef) (list : List Reg) (hook : Hook) (event : ℕ) (shown : List Shown) → IsForestOf defs list shown
    → hearers_of hook event shown ≡ Nobody → (facts : Facts) → fires defs facts hook event list ≡ []
no_hearer defs list hook event shown forest is facts =
    none-called defs facts hook event list (sym (hearers-forest defs list hook event shown forest) ∙ is)

none-any : (h : Hearers) → is_any h ≡ false → h ≡ Nobody
none-any Nobody is = refl
none-any (One n) is = cc
none-any More is = cc

pub unheard-fires : (defs : List EventDef) (list : List Reg) (hook : Hook) (event : ℕ) (shown : List Shown) → IsForestOf defs list shown
    → is_heard hook event shown ≡ false → (facts : Facts) → fires defs facts hook event list ≡ []
unheard-fires defs list hook event shown forest is =
    no_hearer defs list hook event shown forest (none-any (hearers_of hook event shown) is)
