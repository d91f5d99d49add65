-- What is written is read: the parts of a line.
use Rattle.std.proofs.Common.{◌≡◌, ℕ, zero, suc, ◌+◌, ◌-◌, ◌%◌, ◌^◌, ◌<◌, ◌≤◌, ◌==◌, ◌&&◌, Bool, true, false, not, List, [], ◌∷◌, ◌++◌, length, drop, Option, Some, None, refl, ap, subst, ◌∙◌, arith, inl, inr}
use Rattle.std.specs.Prelude.{nat_le, nat_lt, slice_get, slice_index, is_some}
use Rattle.std.specs.Char.{digit_value}
use Rattle.std.specs.Fmt.{decimal}
use Rattle.std.specs.Option.{unwrap_or}
use Rattle.std.specs.Str.Parse.{AllDigits}
use Rattle.std.proofs.lemmas.Fmt.{decimal_is_IsNumeral}
use Rattle.std.proofs.lemmas.Bool.{cases_lt, and_parts, not-true, eqb-true}
use Rattle.std.proofs.lemmas.Bool.Decides.{nat_tests}
use Rattle.native_filters.specs.declared.facts.Hook.{Hook}
use Rattle.native_filters.specs.declared.facts.Hook.TheVariants.{Snd, Rcv}
use Rattle.packet_views.specs.declared.packet.Class.{Class}
use Rattle.packet_views.specs.declared.packet.Class.TheVariants.{Tcp, Other, Fragment, Cut, Bad}
use Rattle.app_api.specs.Events.{START}
use Rattle.app_api.specs.Names.{event_names, event_name, event_named}
use Rattle.report_text.specs.Words.{class_text, hook_text, event_text}
use Rattle.report_text.specs.Tidy.{is_event}
use Rattle.report_text.specs.ReadWords.{after_word, skip, decimal_of, class_of, hook_of, event_of}
use Rattle.report_text.proofs.ReadNumbers.{plain, marked, after-word, first-word, plain-decimal, decimal_of-decimal}

-- one word more is behind
pub skip-on : (n : ℕ) (line w t : List ℕ) → skip n line ≡ w ++ t → plain w ≡ true → marked t ≡ true → skip (suc n) line ≡ drop 1 t
unfolding skip
skip-on n line w t at p m = ap after_word at ∙ after-word w t p m

pub skip-zero : (t : List ℕ) → skip 0 t ≡ t
unfolding skip
skip-zero t = refl

pub class-read : (c : Class) (t : List ℕ) → class_of (class_text c ++ t) ≡ c
class-read Tcp t = refl
class-read Other t = refl
class-read Fragment t = refl
class-read Cut t = refl
class-read Bad t = refl

pub plain-class : (c : Class) → plain (class_text c) ≡ true
plain-class Tcp = refl
plain-class Other = refl
plain-class Fragment = refl
plain-class Cut = refl
plain-class Bad = refl

pub hook-read : (h : Hook) (t : List ℕ) → hook_of (hook_text h ++ t) ≡ h
hook-read Snd t = refl
hook-read Rcv t = refl

pub plain-hook : (h : Hook) → plain (hook_text h) ≡ true
plain-hook Snd = refl
plain-hook Rcv = refl

-- numbers, kept in fewer bits
pub small-read : (n k : ℕ) (t : List ℕ) → n < 2 ^ k → k ≤ 32 → n < 2 ^ 64 → marked t ≡ true → decimal_of (decimal n ++ t) % 2 ^ k ≡ n
small-read n k t small few h m = rw (decimal_of-decimal n t h m) (grind arith)

digit-below : (c : ℕ) → digit_value c < 10 → nat_lt c 97 ≡ true
digit-below c h = grind (arith, nat_tests)

digits-below : (ds t : List ℕ) → 0 < length ds → AllDigits 10 ds → nat_lt (slice_index (ds ++ t) 0) 97 ≡ true
digits-below [] t some all = absurd (omega arith)
digits-below (c ∷ ds) t some all = digit-below c all.0

-- an event is read, and its text has no mark
pub record EventRead (n : ℕ) (t : List ℕ) : Type 0 where
  pub read : event_of (event_text n ++ t) ≡ n
  pub is_plain : plain (event_text n) ≡ true

event-numbered : (n : ℕ) (t : List ℕ) → n < 256 → marked t ≡ true → EventRead n t
unfolding event_text
event-numbered n t user m =
    let wide : n < 2 ^ 64 = omega arith in
    let below : nat_le 256 n ≡ false = grind (arith, nat_tests) in
    let text : unwrap_or (event_name n) (decimal n) ≡ decimal n = rw below refl in
    let is = decimal_is_IsNumeral n wide in
    let low = digits-below (decimal n) t is.0.0 is.0.1 in
    let value = decimal_of-decimal n t wide m in
    record {
      read = rw text (rw (low, value) (omega arith));
      is_plain = rw text (plain-decimal n wide);
    }

event-named : (n : ℕ) (w t : List ℕ) → event_text n ≡ w → plain w ≡ true → nat_lt (slice_index (w ++ t) 0) 97 ≡ false
    → unwrap_or (event_named w) 0 ≡ n → marked t ≡ true → EventRead n t
event-named n w t is p letter found m = record {
  read = rw is (rw letter (ap (λ x. unwrap_or (event_named x) 0) (first-word w t p m) ∙ found));
  is_plain = rw is p;
}

-- a name begins with a letter, and is read as this number
abbrev is_told : ℕ → List ℕ → Bool
is_told n name = plain name && (not (nat_lt (slice_index name 0) 97) && (nat_lt 0 (length name) && unwrap_or (event_named name) 0 == n))

-- so are all names, from a number on
abbrev are_told : ℕ → List (List ℕ) → Bool
are_told n [] = true
are_told n (name ∷ names) = is_told n name && are_told (suc n) names

told-at : (n i : ℕ) (names : List (List ℕ)) (name : List ℕ) → are_told n names ≡ true → slice_get names i ≡ Some name → is_told (n + i) name ≡ true
told-at n i [] name all at = cc
told-at n zero (first ∷ names) name all at =
    let told = (and_parts (is_told n first) (are_told (suc n) names) all).0 in
    let same : first ≡ name = cc in
    let here : n + 0 ≡ n = omega arith in
    rw here (subst (λ w. is_told n w ≡ true) same told)
told-at n (suc i) (first ∷ names) name all at =
    let further = told-at (suc n) i names name (and_parts (is_told n first) (are_told (suc n) names) all).1 at in
    let here : n + suc i ≡ suc n + i = omega arith in
    rw here further

first-stays : (w t : List ℕ) → nat_lt 0 (length w) ≡ true → slice_index (w ++ t) 0 ≡ slice_index w 0
first-stays [] t some = cc
first-stays (c ∷ cs) t some = refl

event-told : (n : ℕ) (w t : List ℕ) → event_text n ≡ w → is_told n w ≡ true → marked t ≡ true → EventRead n t
event-told n w t is told m =
    let parts = and_parts (plain w) _ told in
    let more = and_parts (not (nat_lt (slice_index w 0) 97)) _ parts.1 in
    let last = and_parts (nat_lt 0 (length w)) _ more.1 in
    let letter : nat_lt (slice_index (w ++ t) 0) 97 ≡ false = rw (first-stays w t last.0) (not-true _ more.0) in
    event-named n w t is parts.0 letter (eqb-true _ _ last.1) m

event-built : (n : ℕ) (t : List ℕ) (name : Option (List ℕ)) → START ≤ n → slice_get event_names (n - START) ≡ name → is_some name ≡ true → marked t ≡ true → EventRead n t
unfolding event_text
event-built n t None up at some m = cc
event-built n t (Some name) up at some m =
    let built : nat_le START n ≡ true = grind (arith, nat_tests) in
    let text : event_text n ≡ name = rw (built, at) refl in
    let number : START + (n - START) ≡ n = omega (arith, up) in
    event-told n name t text (rw number at (told-at START (n - START) event_names name refl at)) m

pub event-read : (n : ℕ) (t : List ℕ) → is_event n ≡ true → marked t ≡ true → EventRead n t
event-read n t h m =
    elim (cases_lt n START) [
      | inl user ↦ event-numbered n t user m
      | inr up ↦
          let past : nat_le n 255 ≡ false = grind (arith, nat_tests) in
          let one : nat_le 1 n ≡ true = grind (arith, nat_tests) in
          let built : nat_le START n ≡ true = grind (arith, nat_tests) in
          event-built n t (slice_get event_names (n - START)) up refl (rw (one, past, built) at h) m
    ]
