-- Both ends of a packet ring, side by side.
use Rattle.std.proofs.Common.{◌≡◌, List, [], ◌∷◌, ◌++◌, length, refl, sym, ap, ◌∙◌}
use Rattle.std.proofs.lemmas.List.{append-nil}
use mathlib.Core.List.{IsPrefix}
use Rattle.lane_rings.specs.declared.ring.RingTx.{RingTx}
use Rattle.lane_rings.specs.declared.ring.RingRx.{RingRx}
use Rattle.lane_rings.specs.Ring.{sent, taken, known, AreEnds, SameTx, SameRx}
use Rattle.lane_worker.specs.Worked.{Takes}

module _ {T : Type 0} where
  pub ends_after : (tx tx2 : RingTx T) (rx rx2 : RingRx T) → AreEnds tx rx → SameTx tx tx2 → SameRx rx rx2 → AreEnds tx2 rx2
  ends_after tx tx2 rx rx2 e p q = (
    q.0.0 ∙ e.0 ∙ sym p.0.0,
    q.0.1 ∙ e.1 ∙ sym p.0.1,
    q.0.2 ∙ e.2 ∙ sym p.0.2,
    q.0.3 ∙ e.3 ∙ sym p.0.3,
  )

  -- a look takes nothing
  pub looked : (a b : RingRx T) → SameRx a b → taken b ≡ taken a → IsPrefix (known a) (known b) → Takes a b []
  looked a b ring same more = record { ring = ring; gone = same ∙ sym (append-nil (taken a)); order = more }

  pub none_left : (xs : List T) → length xs ≡ 0 → xs ≡ []
  none_left [] none = refl
  none_left (x ∷ xs) none = absurd (cc)

  -- where nothing is left, all was taken
  pub all_taken : (tx : RingTx T) (rx : RingRx T) → taken rx ++ known rx ≡ sent tx → length (known rx) ≡ 0 → taken rx ≡ sent tx
  all_taken tx rx all none = sym (append-nil (taken rx)) ∙ ap (λ l. taken rx ++ l) (sym (none_left (known rx) none)) ∙ all
