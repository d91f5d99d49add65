-- Floors and ceilings by stamps.
use Rattle.std.proofs.Common.{◌≡◌, ◌<◌, ◌≤◌, ℕ, zero, suc, Bool, true, false, List, [], ◌∷◌, refl, sym, ap, ◌∙◌, arith, ⊎_elim}
use Rattle.std.specs.Prelude.{if◌then◌else◌}
use Rattle.std.specs.List.{All}
use Rattle.std.proofs.lemmas.Bool.{cases_lt, le-leb, lt-leb, lt-ltb, le-ltb}
use Rattle.std.proofs.lemmas.List.Elements.{All-cons, All-head, All-tail, All-weaker}
use Rattle.forest_versions.specs.declared.command.Stamp.{Stamp}
use Rattle.forest_versions.specs.declared.command.Stamp.TheVariants.{At, Live}
use Rattle.run_outcome.specs.Rising.{NeverFalls}
use Rattle.lane_composition.specs.Stamps.{behind_one, floor, ceil, named_packets, is_live}

-- where all stamps name later packets, none is forced
none_forced : (n : ℕ) (stamps : List Stamp) → All (λ k. n < k) (named_packets stamps) → floor stamps n ≡ 0
unfolding floor
none_forced n [] later = refl
none_forced n (At k ∷ stamps) later =
    let isnt = lt-leb k n (All-head (λ j. n < j) k (named_packets stamps) later) in
    let none = none_forced n stamps (All-tail (λ j. n < j) k (named_packets stamps) later) in
    ap (λ b. behind_one b (floor stamps n)) isnt ∙ ap (behind_one false) none
none_forced n (Live ∷ stamps) later = ap (behind_one false) (none_forced n stamps later)

forced_more : (f : ℕ) → behind_one true f ≡ suc f
forced_more zero = refl
forced_more (suc f) = refl

behind_at_most : (b : Bool) (f : ℕ) → behind_one b f ≤ suc f
behind_at_most true zero = omega arith
behind_at_most false zero = omega arith
behind_at_most b (suc f) = omega arith

-- a stamp that names a later packet
floor_before : (n k : ℕ) (stamps : List Stamp) → n < k → All (λ j. k ≤ j) (named_packets stamps) → floor (At k ∷ stamps) n ≡ 0
unfolding floor
floor_before n k stamps lt later =
    none_forced n (At k ∷ stamps) (All-cons (λ j. n < j) k (named_packets stamps) lt (All-weaker (λ j. k ≤ j) (λ j. n < j) (λ j le. omega arith) (named_packets stamps) later))

ceil_before : (n k : ℕ) (stamps : List Stamp) → n < k → ceil (At k ∷ stamps) n ≡ 0
unfolding ceil
ceil_before n k stamps lt = let is = lt-ltb n k lt in ap (λ b. if b then 0 else suc (ceil stamps n)) is

floor_from : (n k : ℕ) (stamps : List Stamp) → k ≤ n → floor (At k ∷ stamps) n ≡ suc (floor stamps n)
unfolding floor
floor_from n k stamps le = let is = le-leb k n le in ap (λ b. behind_one b (floor stamps n)) is ∙ forced_more (floor stamps n)

ceil_from : (n k : ℕ) (stamps : List Stamp) → k ≤ n → ceil (At k ∷ stamps) n ≡ suc (ceil stamps n)
unfolding ceil
ceil_from n k stamps le = let isnt = le-ltb n k le in ap (λ b. if b then 0 else suc (ceil stamps n)) isnt

ceil_live : (n : ℕ) (stamps : List Stamp) → ceil (Live ∷ stamps) n ≡ suc (ceil stamps n)
unfolding ceil
ceil_live n stamps = refl

floor_live : (n : ℕ) (stamps : List Stamp) → floor (Live ∷ stamps) n ≤ suc (floor stamps n)
unfolding floor
floor_live n stamps = behind_at_most false (floor stamps n)

none_within : (n : ℕ) → floor [] n ≤ ceil [] n
unfolding floor ceil
none_within n = omega arith

no_ceil : (n m : ℕ) → ceil [] n ≤ ceil [] m
unfolding ceil
no_ceil n m = omega arith

both_none : (n : ℕ) → floor [] n ≡ ceil [] n
unfolding floor ceil
both_none n = refl

pub floor_within : (stamps : List Stamp) (n : ℕ) → NeverFalls (named_packets stamps) → floor stamps n ≤ ceil stamps n
unfolding NeverFalls
floor_within [] n along = none_within n
floor_within (At k ∷ stamps) n along = ⊎_elim
    (λ lt. let f = floor_before n k stamps lt along.0 in omega arith)
    (λ le. let f = floor_from n k stamps le in let c = ceil_from n k stamps le in let rest = floor_within stamps n along.1 in omega arith) (cases_lt n k)
floor_within (Live ∷ stamps) n along = let f = floor_live n stamps in let c = ceil_live n stamps in let rest = floor_within stamps n along in omega arith

pub ceil_rises : (stamps : List Stamp) (n m : ℕ) → n ≤ m → ceil stamps n ≤ ceil stamps m
ceil_rises [] n m le = no_ceil n m
ceil_rises (At k ∷ stamps) n m le = ⊎_elim
    (λ lt. let c = ceil_before n k stamps lt in omega arith)
    (λ ge. let c = ceil_from n k stamps ge in let d = ceil_from m k stamps (omega arith) in let rest = ceil_rises stamps n m le in omega arith) (cases_lt n k)
ceil_rises (Live ∷ stamps) n m le = let c = ceil_live n stamps in let d = ceil_live m stamps in let rest = ceil_rises stamps n m le in omega arith

-- where no command is live
pub floor_is_ceil : (stamps : List Stamp) (n : ℕ) → NeverFalls (named_packets stamps) → All (λ s. is_live s ≡ false) stamps → floor stamps n ≡ ceil stamps n
unfolding NeverFalls
floor_is_ceil [] n along none = both_none n
floor_is_ceil (At k ∷ stamps) n along none = ⊎_elim
    (λ lt. floor_before n k stamps lt along.0 ∙ sym (ceil_before n k stamps lt))
    (λ le. floor_from n k stamps le ∙ ap suc (floor_is_ceil stamps n along.1 (All-tail (λ s. is_live s ≡ false) (At k) stamps none)) ∙ sym (ceil_from n k stamps le)) (cases_lt n k)
floor_is_ceil (Live ∷ stamps) n along none = absurd (let live = All-head (λ s. is_live s ≡ false) Live stamps none in cc)
