-- Shares and what was forwarded, from the list of the packets' answers.
use Rattle.std.proofs.Common.{◌≡◌, ◌+◌, ◌≤◌, ℕ, zero, suc, Bool, true, false, refl, sym, ap, ◌∙◌, List, [], ◌∷◌, ◌++◌, length, get_or, take, map, arith, ⊎_elim}
use Rattle.std.specs.Prelude.{if◌then◌else◌, ◌==◌, filter}
use Rattle.std.specs.List.{flat_map}
use Rattle.std.proofs.lemmas.List.{map-append, take_more, flat_map_more}
use Rattle.std.proofs.lemmas.Bool.{cases_eq, eq-eqb, ne_eqb}
use Rattle.lane_rings.specs.declared.items.Answer.{Answer}
use Rattle.lane_composition.specs.Share.{share}
use Rattle.lane_composition.specs.Forwarded.{bytes_out, forwarded}
use Rattle.lane_composition.proofs.Sharing.{share-own, share-other}

kept_by : {P : Type 0} (b : Bool) (x : P) (xs more ys : List P) → ys ≡ xs ++ more → (if b then x ∷ ys else ys) ≡ (if b then x ∷ xs else xs) ++ more
kept_by true x xs more ys e = ap (λ y. x ∷ y) e
kept_by false x xs more ys e = e

module _ {P : Type 0} (of : P → ℕ) (l : ℕ) where
  kept_last : (xs : List P) (p : P) → of p ≡ l → filter (λ q. of q == l) (xs ++ p ∷ []) ≡ filter (λ q. of q == l) xs ++ p ∷ []
  kept_last [] p own = let e = eq-eqb (of p) l own in rw e refl
  kept_last (x ∷ xs) p own = kept_by (of x == l) x (filter (λ q. of q == l) xs) (p ∷ []) (filter (λ q. of q == l) (xs ++ p ∷ [])) (kept_last xs p own)

  dropped_last : (xs : List P) (p : P) → (of p ≡ l → ⊥) → filter (λ q. of q == l) (xs ++ p ∷ []) ≡ filter (λ q. of q == l) xs
  dropped_last [] p other = let e = ne_eqb (of p) l other in rw e refl
  dropped_last (x ∷ xs) p other = ap (λ y. if of x == l then x ∷ y else y) (dropped_last xs p other)

  -- the packets of a lane, from their numbers, are those of the list that go to it
  pub listed_share : (ps : List P) (d : P) (n : ℕ) → n ≤ length ps → map (λ i. get_or ps i d) (share (λ i. of (get_or ps i d)) l n) ≡ filter (λ p. of p == l) (take n ps)
  unfolding share
  listed_share ps d zero le = refl
  listed_share ps d (suc n) le =
      let read = λ (i : ℕ). get_or ps i d in
      let lane = λ (i : ℕ). of (get_or ps i d) in
      let before = listed_share ps d n (omega arith) in
      let more : take (suc n) ps ≡ take n ps ++ get_or ps n d ∷ [] = ap (λ k. take k ps) (let e : suc n ≡ n + 1 = omega arith in e) ∙ take_more ps n d le in
      ⊎_elim
      (λ own. ap (map read) (share-own lane l n own) ∙ map-append read (share lane l n) (n ∷ []) ∙ ap (λ x. x ++ get_or ps n d ∷ []) before
      ∙ sym (kept_last (take n ps) (get_or ps n d) own) ∙ ap (filter (λ p. of p == l)) (sym more))
      (λ other. ap (map read) (share-other lane l n other) ∙ before ∙ sym (dropped_last (take n ps) (get_or ps n d) other) ∙ ap (filter (λ p. of p == l)) (sym more))
      (cases_eq (lane n) l)

-- the bytes of the first packets, from their numbers, are those of the list of their answers
pub listed_forwarded : (answers : List Answer) (d : Answer) (n : ℕ) → n ≤ length answers → forwarded (λ i. get_or answers i d) n ≡ flat_map bytes_out (take n answers)
unfolding forwarded
listed_forwarded answers d zero le = refl
listed_forwarded answers d (suc n) le =
    let more : take (suc n) answers ≡ take n answers ++ get_or answers n d ∷ [] = ap (λ k. take k answers) (let e : suc n ≡ n + 1 = omega arith in e) ∙ take_more answers n d le in
    ap (λ x. x ++ bytes_out (get_or answers n d)) (listed_forwarded answers d n (omega arith))
    ∙ flat_map_more bytes_out [] (take n answers) (get_or answers n d) ∙ ap (flat_map bytes_out) (sym more)
