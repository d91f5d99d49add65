-- What lanes are told, one place after the other.
use Rattle.std.proofs.Common.{◌≡◌, ◌+◌, ◌<◌, ◌≤◌, ℕ, zero, suc, List, [], ◌∷◌, ◌++◌, length, get_or, set, sym, ap, subst, ◌∙◌, append_assoc, append-nil, arith, ⊎_elim}
use Rattle.std.specs.List.{AllZip, range_with_len}
use Rattle.std.proofs.lemmas.List.{get_or-set_same, get_or-set_other}
use Rattle.std.proofs.lemmas.Bool.{cases_lt}
use Rattle.lane_rings.specs.declared.ring.RingTx.{RingTx}
use Rattle.lane_rings.specs.Ring.{sent}
use Rattle.worker_pool.specs.Telling.{Tells, HasTold}

range-last : (a n : ℕ) → range_with_len a (n + 1) ≡ range_with_len a n ++ (a + n) ∷ []
range-last a zero = ap (λ (k : ℕ). k ∷ []) (let same : a ≡ a + 0 = omega arith in same)
range-last a (suc n) =
    let next : (a + 1) + n ≡ a + suc n = omega arith in
    let count : suc n + 1 ≡ suc (n + 1) = omega arith in
    ap (range_with_len a) count ∙ ap (λ (l : List ℕ). a ∷ l) (range-last (a + 1) n ∙ ap (λ (k : ℕ). range_with_len (a + 1) n ++ k ∷ []) next)

told_nothing : (a : RingTx ℕ) → HasTold 0 a a
told_nothing a = record { sent_are = λ room. sym (append-nil (sent a)); room = omega arith }

told_more : (n : ℕ) (a b c : RingTx ℕ) → HasTold n a b → Tells n b c → HasTold (n + 1) a c
told_more n a b c before now =
    let less = before.room in
    let left = now.room in
    let number : n ≡ 0 + n = omega arith in
    record {
      sent_are = λ room. now.sent_is (omega (arith, room, less)) ∙ ap (λ (l : List ℕ). l ++ n ∷ []) (before.sent_are (omega (arith, room)))
          ∙ append_assoc (sent a) (range_with_len 0 n) (n ∷ []) ∙ ap (λ (l : List ℕ). sent a ++ l) (ap (λ (k : ℕ). range_with_len 0 n ++ k ∷ []) number ∙ sym (range-last 0 n));
      room = omega (arith, less, left);
    }

-- nothing was told
pub all_told_nothing : (rings : List (RingTx ℕ)) → AllZip (HasTold 0) rings rings
all_told_nothing [] = tt
all_told_nothing (a ∷ xs) = (told_nothing a, all_told_nothing xs)

-- one place more was told
pub all_told_more : (n : ℕ) (first before now : List (RingTx ℕ)) → AllZip (HasTold n) first before → AllZip (Tells n) before now → AllZip (HasTold (n + 1)) first now
all_told_more n [] [] [] told tells = tt
all_told_more n [] [] (c ∷ zs) told tells = absurd tells
all_told_more n [] (b ∷ ys) zs told tells = absurd told
all_told_more n (a ∷ xs) [] zs told tells = absurd told
all_told_more n (a ∷ xs) (b ∷ ys) [] told tells = absurd tells
all_told_more n (a ∷ xs) (b ∷ ys) (c ∷ zs) told tells = (told_more n a b c told.0 tells.0, all_told_more n xs ys zs told.1 tells.1)

-- what holds at each index holds of the items of two lists
pub zip_from : {X : Type 0} (R : X → X → Type 0) (xs ys : List X) → length ys ≡ length xs → ((k : ℕ) (d : X) → k < length xs → R (get_or xs k d) (get_or ys k d)) → AllZip R xs ys
zip_from R [] [] same each = tt
zip_from R [] (y ∷ ys) same each = absurd (omega (arith, same))
zip_from R (x ∷ xs) [] same each = absurd (omega (arith, same))
zip_from R (x ∷ xs) (y ∷ ys) same each =
    (each zero x (omega arith), zip_from R xs ys (omega (arith, same)) (λ k d below. each (suc k) d (omega (arith, below))))

-- the rings before one were told a place, and those from there on are as they were
pub record ToldBefore (place index : ℕ) (rings now : List (RingTx ℕ)) : Type 0 where
  pub told : (k : ℕ) (d : RingTx ℕ) → k < index → Tells place (get_or rings k d) (get_or now k d)
  pub left : (k : ℕ) (d : RingTx ℕ) → index ≤ k → get_or now k d ≡ get_or rings k d

-- one ring more was told
pub told_at : (place index : ℕ) (rings now : List (RingTx ℕ)) (b : RingTx ℕ) → index < length now → ToldBefore place index rings now
    → ((d : RingTx ℕ) → Tells place (get_or now index d) b) → ToldBefore place (index + 1) rings (set now index b)
told_at place index rings now b below before tells = record {
  told = λ k d lt.
      ⊎_elim
      (λ earlier. subst (Tells place (get_or rings k d)) (sym (get_or-set_other now index k b d (λ is. absurd (omega (arith, is, earlier))))) (before.told k d earlier))
      (λ past.
      let here : index ≡ k = omega (arith, past, lt) in
      subst (λ j. Tells place (get_or rings j d) (get_or (set now index b) j d)) here
      (subst (λ a. Tells place a (get_or (set now index b) index d)) (before.left index d (omega arith))
      (subst (Tells place (get_or now index d)) (sym (get_or-set_same now index b d below)) (tells d))))
      (cases_lt k index);
  left = λ k d past. get_or-set_other now index k b d (λ is. absurd (omega (arith, is, past))) ∙ before.left k d (omega (arith, past));
}
