-- The floors and ceilings of a script are those of its stamps.
use Rattle.std.proofs.Common.{◌≡◌, ◌≤◌, ℕ, zero, suc, Bool, true, false, List, [], ◌∷◌, length, refl, ap, ◌∙◌, map, arith, ⊎_elim}
use Rattle.std.specs.Prelude.{if◌then◌else◌, not, nat_lt}
use Rattle.std.specs.List.{All, list_all}
use Rattle.std.proofs.lemmas.Bool.{cases_lt, lt-ltb, and_parts}
use Rattle.std.proofs.lemmas.List.Elements.{All-nil, All-cons}
use Rattle.forest_versions.specs.declared.command.Stamp.{Stamp}
use Rattle.forest_versions.specs.declared.command.Stamp.TheVariants.{At, Live}
use Rattle.control_script.specs.declared.stamped.Stamped.{Stamped}
use Rattle.control_script.specs.Order.{is_later, are_in_order}
use Rattle.control_script.specs.Versions.{is_forced as is_forced_in, is_barred as is_barred_in, behind_one as behind_one_in, floor as floor_in, ceil as ceil_in, is_live as is_live_in}
use Rattle.run_outcome.specs.Rising.{NeverFalls}
use Rattle.lane_composition.specs.Stamps.{is_forced, is_barred, behind_one, floor, ceil, named_packets, is_live}
use Rattle.lane_composition.proofs.Stamps.{floor_within, ceil_rises, floor_is_ceil}

abbrev pub stamps_of : List Stamped → List Stamp
stamps_of script = map (λ s. s.stamp) script

forced_same : (n : ℕ) (s : Stamp) → is_forced_in n s ≡ is_forced n s
forced_same n (At k) = refl
forced_same n Live = refl

barred_same : (n : ℕ) (s : Stamp) → is_barred_in n s ≡ is_barred n s
barred_same n (At k) = refl
barred_same n Live = refl

behind_same : (b : Bool) (place : ℕ) → behind_one_in b place ≡ behind_one b place
behind_same true zero = refl
behind_same false zero = refl
behind_same b (suc place) = refl

pub floor_same : (script : List Stamped) (n : ℕ) → floor_in script n ≡ floor (stamps_of script) n
unfolding floor
floor_same [] n = refl
floor_same (s ∷ script) n =
    behind_same (is_forced_in n s.stamp) (floor_in script n)
    ∙ ap (λ b. behind_one b (floor_in script n)) (forced_same n s.stamp) ∙ ap (behind_one (is_forced n s.stamp)) (floor_same script n)

pub ceil_same : (script : List Stamped) (n : ℕ) → ceil_in script n ≡ ceil (stamps_of script) n
unfolding ceil
ceil_same [] n = refl
ceil_same (s ∷ script) n =
    ap (λ b. if b then 0 else suc (ceil_in script n)) (barred_same n s.stamp) ∙ ap (λ m. if is_barred n s.stamp then 0 else suc m) (ceil_same script n)

not_before : (k n : ℕ) → not (nat_lt n k) ≡ true → k ≤ n
not_before k n is = ⊎_elim (λ lt. absurd (let before = lt-ltb n k lt in let e = ap not before in cc)) (λ le. le) (cases_lt n k)

-- none behind `at k` names an earlier packet
later_here : (k : ℕ) (stamp : Stamp) (stamps : List Stamp) → not (is_later (At k) stamp) ≡ true → All (λ n. k ≤ n) (named_packets stamps) → All (λ n. k ≤ n) (named_packets (stamp ∷ stamps))
later_here k (At n) stamps here all = All-cons (λ n. k ≤ n) n (named_packets stamps) (not_before k n here) all
later_here k Live stamps here all = all

none_earlier : (k : ℕ) (script : List Stamped) → list_all (λ t. not (is_later (At k) t.stamp)) script ≡ true → All (λ n. k ≤ n) (named_packets (stamps_of script))
none_earlier k [] all = All-nil (λ n. k ≤ n)
none_earlier k (t ∷ script) all =
    let parts = and_parts (not (is_later (At k) t.stamp)) (list_all (λ t. not (is_later (At k) t.stamp)) script) all in
    later_here k t.stamp (stamps_of script) parts.0 (none_earlier k script parts.1)

falls_here : (stamp : Stamp) (script : List Stamped) → list_all (λ t. not (is_later stamp t.stamp)) script ≡ true → NeverFalls (named_packets (stamps_of script))
    → NeverFalls (named_packets (stamp ∷ stamps_of script))
unfolding NeverFalls
falls_here (At k) script all rest = (none_earlier k script all, rest)
falls_here Live script all rest = rest

nothing_falls : NeverFalls []
unfolding NeverFalls
nothing_falls = tt

pub in_order : (script : List Stamped) → are_in_order script ≡ true → NeverFalls (named_packets (stamps_of script))
in_order [] is = nothing_falls
in_order (s ∷ script) is =
    let parts = and_parts (list_all (λ t. not (is_later s.stamp t.stamp)) script) (are_in_order script) is in
    falls_here s.stamp script parts.0 (in_order script parts.1)

-- ---- what follows for scripts

pub within : (script : List Stamped) (n : ℕ) → are_in_order script ≡ true → floor_in script n ≤ ceil_in script n
within script n ordered =
    let low = floor_same script n in let high = ceil_same script n in
    let le = floor_within (stamps_of script) n (in_order script ordered) in omega arith

pub rises : (script : List Stamped) (n m : ℕ) → n ≤ m → ceil_in script n ≤ ceil_in script m
rises script n m le =
    let one = ceil_same script n in let two = ceil_same script m in
    let more = ceil_rises (stamps_of script) n m le in omega arith

live_same : (s : Stamp) → not (is_live_in s) ≡ true → is_live s ≡ false
live_same (At k) is = refl
live_same Live is = absurd (cc)

none_live : (script : List Stamped) → list_all (λ s. not (is_live_in s.stamp)) script ≡ true → All (λ s. is_live s ≡ false) (stamps_of script)
none_live [] all = All-nil (λ s. is_live s ≡ false)
none_live (s ∷ script) all =
    let parts = and_parts (not (is_live_in s.stamp)) (list_all (λ s. not (is_live_in s.stamp)) script) all in
    All-cons (λ s. is_live s ≡ false) s.stamp (stamps_of script) (live_same s.stamp parts.0) (none_live script parts.1)

pub equal : (script : List Stamped) (n : ℕ) → are_in_order script ≡ true → list_all (λ s. not (is_live_in s.stamp)) script ≡ true → floor_in script n ≡ ceil_in script n
equal script n ordered none =
    let low = floor_same script n in let high = ceil_same script n in
    let same = floor_is_ceil (stamps_of script) n (in_order script ordered) (none_live script none) in omega arith

count_here : (b : Bool) (m n : ℕ) → m ≤ n → (if b then 0 else suc m) ≤ suc n
count_here true m n le = omega arith
count_here false m n le = omega arith

pub count : (script : List Stamped) (n : ℕ) → ceil_in script n ≤ length script
count [] n = omega arith
count (s ∷ script) n = count_here (is_barred_in n s.stamp) (ceil_in script n) (length script) (count script n)
