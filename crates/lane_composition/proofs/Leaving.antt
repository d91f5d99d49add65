-- Packets that leave by the answers of their lanes.
use Rattle.std.proofs.Common.{◌≡◌, ◌+◌, ◌-◌, ◌<◌, ◌≤◌, ℕ, zero, suc, refl, sym, ap, ◌∙◌, subst, Option, List, [], ◌∷◌, ◌++◌, length, take, map, arith, ⊎_elim, append_assoc, append-nil}
use Rattle.std.specs.Io.KnownBytes.{Appends}
use Rattle.std.proofs.KnownBytes.{Appends-nil, Appends-trans}
use Rattle.std.proofs.lemmas.List.{length_push, length-map, map-append, take_at}
use Rattle.std.proofs.lemmas.Bool.{cases_eq}
use mathlib.Core.List.{IsPrefix}
use Rattle.mos_bytes.specs.Writes.{AppendsFront}
use Rattle.lane_rings.specs.declared.items.Answer.{Answer}
use Rattle.lane_composition.specs.Share.{share}
use Rattle.lane_composition.specs.Forwarded.{bytes_out, forwarded}
use Rattle.lane_composition.specs.Forward.{AreOf, HaveLeft, HasLeft}
use Rattle.lane_composition.proofs.Sharing.{own_more, others_same, share-front, share_same}

-- two lists that are equal with one more behind each
without_last : (xs ys : List Answer) (x y : Answer) → length xs ≡ length ys → xs ++ x ∷ [] ≡ ys ++ y ∷ [] → (xs ≡ ys) × (x ≡ y)
without_last [] [] x y long e = (refl, cc)
without_last [] (b ∷ ys) x y long e = absurd (cc)
without_last (a ∷ xs) [] x y long e = absurd (cc)
without_last (a ∷ xs) (b ∷ ys) x y long e =
    let head : a ≡ b = cc in
    let tail : xs ++ x ∷ [] ≡ ys ++ y ∷ [] = cc in
    let same = without_last xs ys x y (omega (arith, long)) tail in
    (ap (λ z. z ∷ xs) head ∙ ap (λ zs. b ∷ zs) same.0, same.1)

-- ---- what packets leave

forwarded-none : (answer : ℕ → Answer) → forwarded answer 0 ≡ []
unfolding forwarded
forwarded-none answer = refl

forwarded-more : (answer : ℕ → Answer) (n : ℕ) → forwarded answer (n + 1) ≡ forwarded answer n ++ bytes_out (answer n)
unfolding forwarded
forwarded-more answer n = let e : n + 1 ≡ suc n = omega arith in ap (forwarded answer) e

forwarded-grows : (answer : ℕ → Answer) (n k : ℕ) → IsPrefix (forwarded answer n) (forwarded answer (k + n))
forwarded-grows answer n zero = ([], append-nil (forwarded answer n) ∙ ap (forwarded answer) (let e : n ≡ 0 + n = omega arith in e))
forwarded-grows answer n (suc k) =
    let before = forwarded-grows answer n k in
    let e : k + n + 1 ≡ suc k + n = omega arith in (
      before.0 ++ bytes_out (answer (k + n)),
      sym (append_assoc (forwarded answer n) before.0 (bytes_out (answer (k + n)))) ∙ ap (λ x. x ++ bytes_out (answer (k + n))) before.1 ∙ sym (forwarded-more answer (k + n))
          ∙ ap (forwarded answer) e,
    )

forwarded-front : (answer : ℕ → Answer) (n m : ℕ) → n ≤ m → IsPrefix (forwarded answer n) (forwarded answer m)
forwarded-front answer n m le = let e : m - n + n ≡ m = omega arith in subst (λ x. IsPrefix (forwarded answer n) (forwarded answer x)) e (forwarded-grows answer n (m - n))

-- ---- before, and with one packet more

pub none_left : (lane : ℕ → ℕ) (given : ℕ → List Answer) (out : Option (List ℕ)) → ((l : ℕ) → given l ≡ []) → HaveLeft lane 0 given out out
unfolding share
none_left lane given out none = record {
  counted = λ l. ap length (none l);
  written = λ answer of. subst (Appends out out) (sym (forwarded-none answer)) (Appends-nil out);
}

pub some_left : (lane : ℕ → ℕ) (n m : ℕ) (given : ℕ → List Answer) (old new : Option (List ℕ)) → n ≤ m → HaveLeft lane n given old new → HasLeft lane m given old new
some_left lane n m given old new le l = record {
  left = n;
  within = le;
  counted = l.counted;
  front = λ answer of. record { front = forwarded answer n; rest = []; added = l.written answer of; whole = sym (append-nil (forwarded answer n)) };
}

module _ (lane : ℕ → ℕ) (n : ℕ) (given after : ℕ → List Answer) (a : Answer) (old mid new : Option (List ℕ)) (l : HaveLeft lane n given old mid) (here : after (lane n) ≡ given (lane n) ++ a ∷ [])
    (others : (k : ℕ) → (k ≡ lane n → ⊥) → after k ≡ given k) where
  counted_after : (k : ℕ) → length (after k) ≡ length (share lane k (n + 1))
  counted_after k = ⊎_elim
      (λ same. subst (λ j. length (after j) ≡ length (share lane j (n + 1))) (sym same)
      (ap length here ∙ length_push (given (lane n)) a ∙ ap (λ m. m + 1) (l.counted (lane n)) ∙ sym (length_push (share lane (lane n) n) n) ∙ ap length (sym (own_more lane n))))
      (λ other. ap length (others k other) ∙ l.counted k ∙ ap length (sym (others_same lane n k other)))
      (cases_eq k (lane n))

  module _ (answer : ℕ → Answer) (of : AreOf lane answer (n + 1) after) where
    both : (given (lane n) ≡ map answer (share lane (lane n) n)) × (a ≡ answer n)
    both =
        without_last (given (lane n)) (map answer (share lane (lane n) n)) a (answer n)
        (l.counted (lane n) ∙ sym (length-map (share lane (lane n) n) answer))
        (sym here ∙ of (lane n) ∙ ap (map answer) (own_more lane n) ∙ map-append answer (share lane (lane n) n) (n ∷ []))

    of_before : AreOf lane answer n given
    of_before k = ⊎_elim
        (λ same. subst (λ j. given j ≡ map answer (share lane j n)) (sym same) both.0)
        (λ other. sym (others k other) ∙ of k ∙ ap (map answer) (others_same lane n k other))
        (cases_eq k (lane n))

    bytes_are : forwarded answer (n + 1) ≡ forwarded answer n ++ bytes_out a
    bytes_are = forwarded-more answer n ∙ ap (λ x. forwarded answer n ++ bytes_out x) (sym both.1)

  pub next_left : Appends mid new (bytes_out a) → HaveLeft lane (n + 1) after old new
  next_left more = record {
    counted = counted_after;
    written = λ answer of. subst (Appends old new) (sym (bytes_are answer of))
        (Appends-trans old mid new (forwarded answer n) (bytes_out a) (l.written answer (of_before answer of)) more);
  }

  pub next_cut : (m : ℕ) → n < m → AppendsFront mid new (bytes_out a) → HasLeft lane m after old new
  next_cut m lt cut = record {
    left = n + 1;
    within = omega (arith, lt);
    counted = counted_after;
    front = λ answer of. record {
      front = forwarded answer n ++ cut.front;
      rest = cut.rest;
      added = Appends-trans old mid new (forwarded answer n) cut.front (l.written answer (of_before answer of)) cut.added;
      whole = bytes_are answer of ∙ ap (λ b. forwarded answer n ++ b) cut.whole ∙ sym (append_assoc (forwarded answer n) cut.front cut.rest);
    };
  }

-- ---- other lanes behind

pub left_same : (lane other : ℕ → ℕ) (n : ℕ) (given : ℕ → List Answer) (old new : Option (List ℕ)) → ((i : ℕ) → i < n → other i ≡ lane i) → HaveLeft lane n given old new
    → HaveLeft other n given old new
left_same lane other n given old new agree l = record {
  counted = λ k. l.counted k ∙ ap length (sym (share_same lane other n agree k));
  written = λ answer of. l.written answer (λ k. of k ∙ ap (map answer) (share_same lane other n agree k));
}

-- ---- under the right answers

module _ (lane : ℕ → ℕ) (answer : ℕ → Answer) (m : ℕ) (given : ℕ → List Answer) (right : (l : ℕ) → IsPrefix (given l) (map answer (share lane l m))) where
  of_first : (n : ℕ) → n ≤ m → ((l : ℕ) → length (given l) ≡ length (share lane l n)) → AreOf lane answer n given
  of_first n le counted l =
      let p = right l in
      let more = share-front lane l n m le in
      sym (take_at (given l) p.0 (length (given l)) refl)
      ∙ ap (take (length (given l))) (p.1 ∙ ap (map answer) more.1 ∙ map-append answer (share lane l n) more.0)
      ∙ take_at (map answer (share lane l n)) (map answer more.0) (length (given l)) (length-map (share lane l n) answer ∙ sym (counted l))

  pub right_front : (n : ℕ) (old new : Option (List ℕ)) → n ≤ m → HasLeft lane n given old new → AppendsFront old new (forwarded answer m)
  right_front n old new le l =
      let within = l.within in
      let below : l.left ≤ m = omega (arith, within, le) in
      let f = l.front answer (of_first l.left below l.counted) in
      let more = forwarded-front answer l.left m below in
      record {
        front = f.front;
        rest = f.rest ++ more.0;
        added = f.added;
        whole = sym more.1 ∙ ap (λ b. b ++ more.0) f.whole ∙ append_assoc f.front f.rest more.0;
      }

  pub right_all : (old new : Option (List ℕ)) → HaveLeft lane m given old new → Appends old new (forwarded answer m)
  right_all old new l = l.written answer (of_first m (omega arith) l.counted)
