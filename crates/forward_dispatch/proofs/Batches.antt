-- Answers that are given out, batch by batch.
use Rattle.std.proofs.Common.{◌≡◌, ◌+◌, ◌-◌, ℕ, zero, suc, Some, List, [], ◌∷◌, ◌++◌, length, take, drop, sym, ap, ◌∙◌, append_assoc, arith}
use Rattle.std.specs.Prelude.{slice_get}
use Rattle.std.proofs.lemmas.List.{length-append, take_at}
use Rattle.lane_rings.specs.declared.items.Answer.{Answer}
use Rattle.lane_rings.specs.declared.items.AnswerBatch.{AnswerBatch}
use Rattle.lane_rings.specs.Answers.{answers_of}
use Rattle.forward_dispatch.specs.Rest.{rest_of, before_rest}

-- whatever stands before the rest is what was given out
pub given_is : (all given rest : List Answer) → given ++ rest ≡ all → before_rest all rest ≡ given
given_is all given rest e =
    let long = sym (length-append given rest) ∙ ap length e in
    ap (take (length all - length rest)) (sym e) ∙ take_at given rest (length all - length rest) (omega (arith, long))

-- the next of a list, and those behind it
pub next_of : (xs : List Answer) (n : ℕ) (x : Answer) → slice_get xs n ≡ Some x → drop n xs ≡ x ∷ drop (n + 1) xs
next_of [] n x at = absurd (cc)
next_of (y ∷ xs) zero x at = let same : y ≡ x = cc in ap (λ z. z ∷ xs) same
next_of (y ∷ xs) (suc n) x at =
    let e : suc (n + 1) ≡ suc n + 1 = omega arith in
    next_of xs n x at ∙ ap (λ k. x ∷ drop k (y ∷ xs)) e

-- one more is given out
module _ (all : List Answer) (batch : AnswerBatch) (at : ℕ) (x : Answer) (whole : before_rest all (rest_of batch at) ++ rest_of batch at ≡ all) (next : slice_get (answers_of batch) at ≡ Some x) where
  one_before : (before_rest all (rest_of batch at) ++ x ∷ []) ++ rest_of batch (at + 1) ≡ all
  one_before =
      append_assoc (before_rest all (rest_of batch at)) (x ∷ []) (rest_of batch (at + 1))
      ∙ ap (λ l. before_rest all (rest_of batch at) ++ l) (sym (next_of (answers_of batch) at x next)) ∙ whole

  pub one_given : before_rest all (rest_of batch (at + 1)) ≡ before_rest all (rest_of batch at) ++ x ∷ []
  one_given = given_is all (before_rest all (rest_of batch at) ++ x ∷ []) (rest_of batch (at + 1)) one_before

  pub still_whole : before_rest all (rest_of batch (at + 1)) ++ rest_of batch (at + 1) ≡ all
  still_whole = ap (λ l. l ++ rest_of batch (at + 1)) one_given ∙ one_before
