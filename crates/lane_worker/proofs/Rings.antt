-- Ends of rings, over several calls.
use Rattle.std.proofs.Common.{◌≡◌, ◌+◌, ◌≤◌, Option, Some, None, List, [], ◌++◌, length, refl, sym, ap, subst, ◌∙◌, append_assoc, arith}
use Rattle.std.proofs.lemmas.List.{append-nil, length-append}
use mathlib.Core.List.{IsPrefix}
use Rattle.lane_rings.specs.declared.items.Answer.{Answer}
use Rattle.lane_rings.specs.declared.items.AnswerBatch.{AnswerBatch}
use Rattle.lane_rings.specs.declared.ring.RingTx.{RingTx}
use Rattle.lane_rings.specs.declared.ring.RingRx.{RingRx}
use Rattle.lane_rings.specs.Answers.{answers_in}
use Rattle.lane_rings.specs.Ring.{sent, taken, known, SameTx, SameRx}
use Rattle.lane_worker.specs.Worked.{Takes, Sends, SameAnswers}
use Rattle.lane_worker.proofs.Fronts.{IsPrefix-refl, IsPrefix-trans, IsPrefix-after}

module _ {T : Type 0} where
  pub SameRx-refl : (a : RingRx T) → SameRx a a
  SameRx-refl a = ((refl, refl, refl, refl), refl)

  pub SameRx-trans : (a b c : RingRx T) → SameRx a b → SameRx b c → SameRx a c
  SameRx-trans a b c p q = ((q.0.0 ∙ p.0.0, q.0.1 ∙ p.0.1, q.0.2 ∙ p.0.2, q.0.3 ∙ p.0.3), q.1 ∙ p.1)

  pub SameTx-refl : (a : RingTx T) → SameTx a a
  SameTx-refl a = ((refl, refl, refl, refl), refl)

  pub SameTx-trans : (a b c : RingTx T) → SameTx a b → SameTx b c → SameTx a c
  SameTx-trans a b c p q = ((q.0.0 ∙ p.0.0, q.0.1 ∙ p.0.1, q.0.2 ∙ p.0.2, q.0.3 ∙ p.0.3), q.1 ∙ p.1)

  pub takes_none : (a : RingRx T) → Takes a a []
  takes_none a = record { ring = SameRx-refl a; gone = sym (append-nil (taken a)); order = IsPrefix-refl (known a) }

  pub takes_then : (a b c : RingRx T) (xs ys : List T) → Takes a b xs → Takes b c ys → Takes a c (xs ++ ys)
  takes_then a b c xs ys p q = record {
    ring = SameRx-trans a b c p.ring q.ring;
    gone = q.gone ∙ ap (λ l. l ++ ys) p.gone ∙ append_assoc (taken a) xs ys;
    order = subst (IsPrefix (known a)) (sym (append_assoc xs ys (known c)))
        (IsPrefix-trans (known a) (xs ++ known b) (xs ++ (ys ++ known c)) p.order (IsPrefix-after xs (known b) (ys ++ known c) q.order));
  }

  -- no place that was known is lost
  pub known_kept : (a b : RingRx T) (xs : List T) → Takes a b xs → length (known a) ≤ length xs + length (known b)
  known_kept a b xs p =
      let whole : length (known a) + length p.order.0 ≡ length xs + length (known b) =
      sym (length-append (known a) p.order.0) ∙ ap length p.order.1 ∙ length-append xs (known b) in
      omega (arith, whole)

  pub taken_more : (a b : RingRx T) (xs : List T) → Takes a b xs → length (taken b) ≡ length (taken a) + length xs
  taken_more a b xs p = ap length p.gone ∙ length-append (taken a) xs

pub SameAnswers-refl : (a : Option (RingTx AnswerBatch)) → SameAnswers a a
SameAnswers-refl None = tt
SameAnswers-refl (Some a) = SameTx-refl a

pub SameAnswers-trans : (a b c : Option (RingTx AnswerBatch)) → SameAnswers a b → SameAnswers b c → SameAnswers a c
SameAnswers-trans None None None p q = tt
SameAnswers-trans None None (Some c) p q = absurd q
SameAnswers-trans None (Some b) c p q = absurd p
SameAnswers-trans (Some a) None c p q = absurd p
SameAnswers-trans (Some a) (Some b) None p q = absurd q
SameAnswers-trans (Some a) (Some b) (Some c) p q = SameTx-trans a b c p q

pub sends_none : (a : Option (RingTx AnswerBatch)) → Sends a a []
sends_none None = tt
sends_none (Some a) = (SameTx-refl a, sym (append-nil (answers_in (sent a))))

pub sends_then : (a b c : Option (RingTx AnswerBatch)) (xs ys : List Answer) → Sends a b xs → Sends b c ys → Sends a c (xs ++ ys)
sends_then None None None xs ys p q = tt
sends_then None None (Some c) xs ys p q = absurd q
sends_then None (Some b) c xs ys p q = absurd p
sends_then (Some a) None c xs ys p q = absurd p
sends_then (Some a) (Some b) None xs ys p q = absurd q
sends_then (Some a) (Some b) (Some c) xs ys p q =
    (SameTx-trans a b c p.0 q.0, q.1 ∙ ap (λ l. l ++ ys) p.1 ∙ append_assoc (answers_in (sent a)) xs ys)

pub sends_same : (a b : Option (RingTx AnswerBatch)) (xs : List Answer) → Sends a b xs → SameAnswers a b
sends_same None None xs p = tt
sends_same None (Some b) xs p = p
sends_same (Some a) None xs p = p
sends_same (Some a) (Some b) xs p = p.0
